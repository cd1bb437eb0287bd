-- Sums of terms at an assignment: of none, of one more, of lists that follow each other.
use Rattle.std.proofs.Common.{ℕ, ◌≡◌, ◌≢◌, length, arith, ◌⊎◌, inl, inr, List, [], ◌∷◌, ◌++◌, map, ap, refl, ◌∙◌}
use Rattle.std.proofs.lemmas.List.{map-append}
use Rattle.zim_rational.specs.Rational.{Rational, zero, plus, times, total, same}
use Rattle.zim_rational.proofs.Whole.{same_Decides}
use Rattle.std.proofs.lemmas.Bool.{cases_Bool, both_ways}
use Rattle.zim_rational.proofs.Sums.{total_append}
use Rattle.zim_linear.specs.Forms.{Term, AreColumns, ColumnNumbers, sum_at}

pub sum_at_none : (x : ColumnNumbers) → sum_at x [] ≡ zero
unfolding sum_at total
sum_at_none x = refl

pub sum_at_more : (x : ColumnNumbers) (t : Term) (ts : List Term) → sum_at x (t ∷ ts) ≡ plus (times t.1 (x t.0)) (sum_at x ts)
unfolding sum_at total
sum_at_more x t ts = refl

pub sum_at_append : (x : ColumnNumbers) (ss ts : List Term) → sum_at x (ss ++ ts) ≡ plus (sum_at x ss) (sum_at x ts)
unfolding sum_at
sum_at_append x ss ts =
    ap total (map-append (λ (t : Term). times t.1 (x t.0)) ss ts) ∙ total_append (map (λ (t : Term). times t.1 (x t.0)) ss) (map (λ (t : Term). times t.1 (x t.0)) ts)

-- two numbers are one or not
pub same_or_other : (a b : Rational) → (a ≡ b) ⊎ (a ≢ b)
same_or_other a b =
    elim (cases_Bool (same a b)) [
      | inl t ↦ inl ((same_Decides a b).0 t)
      | inr f ↦ inr (λ e. both_ways (same a b) f ((same_Decides a b).1 e))
    ]

pub none_from_length : (ts : List Term) → length ts ≡ 0 → ts ≡ []
none_from_length [] e = refl
none_from_length (t ∷ ts) e = absurd (omega arith)

pub columns_append : (n : ℕ) (ss ts : List Term) → AreColumns n ss → AreColumns n ts → AreColumns n (ss ++ ts)
columns_append n [] ts p q = q
columns_append n (s ∷ ss) ts p q = (p.0, p.1, columns_append n ss ts p.2 q)
