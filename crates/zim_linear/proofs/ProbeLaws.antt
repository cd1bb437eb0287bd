-- What terms come to at one column alone, and at none.
use Rattle.std.proofs.Common.{ℕ, suc, ◌≡◌, ◌≢◌, ◌<◌, ◌≤◌, Bool, true, false, cond, nat_eq, List, [], ◌∷◌, IsTrue, arith, refl, ap, ap₂, ◌∙◌}
use Rattle.std.proofs.lemmas.Bool.{eqb-true, eq-eqb}
use Rattle.zim_rational.specs.Rational.{Rational, zero, one, plus, minus, times}
use Rattle.zim_rational.proofs.Ring.{zero_plus, plus_zero, plus_comm, plus_minus, times_one, times_zero}
use Rattle.zim_linear.specs.Forms.{Term, ColumnNumbers, AreTermsFrom, sum_at}
use Rattle.zim_linear.proofs.FormLaws.{sum_at_none, sum_at_more}

-- 1 at one column and 0 at the others
unfoldable pub only : ℕ → ColumnNumbers
only j i = cond (nat_eq i j) one zero

-- 0 at all columns
unfoldable pub nowhere : ColumnNumbers
nowhere i = zero

only_there : (j : ℕ) → only j j ≡ one
unfolding only
only_there j = ap (λ (b : Bool). cond b one zero) (eq-eqb j j refl)

zero_by_test : (b : Bool) → ¬ IsTrue b → cond b one zero ≡ zero
zero_by_test true other = absurd (other refl)
zero_by_test false other = refl

only_elsewhere : (i j : ℕ) → i ≢ j → only j i ≡ zero
unfolding only
only_elsewhere i j other = zero_by_test (nat_eq i j) (λ same. other (eqb-true i j same))

pub sum_nowhere : (ts : List Term) → sum_at nowhere ts ≡ zero
unfolding nowhere
sum_nowhere [] = sum_at_none nowhere
sum_nowhere (t ∷ ts) =
    sum_at_more nowhere t ts ∙ ap₂ plus (times_zero t.1) (sum_nowhere ts) ∙ zero_plus zero

-- a column below all of the terms is in none of them
pub sum_below : (j n : ℕ) (ts : List Term) → j < n → AreTermsFrom n ts → sum_at (only j) ts ≡ zero
sum_below j n [] below terms = sum_at_none (only j)
sum_below j n (t ∷ ts) below terms =
    let first : n ≤ t.0 = terms.0 in
    sum_at_more (only j) t ts ∙ ap₂ plus (ap (times t.1) (only_elsewhere t.0 j (λ e. omega arith)) ∙ times_zero t.1) (sum_below j (suc t.0) ts (omega arith) terms.2) ∙ zero_plus zero

-- a first term's coefficient is the number at its column alone
pub sum_first : (n : ℕ) (t : Term) (ts : List Term) → AreTermsFrom n (t ∷ ts) → sum_at (only t.0) (t ∷ ts) ≡ t.1
sum_first n t ts terms =
    sum_at_more (only t.0) t ts ∙ ap₂ plus (ap (times t.1) (only_there t.0) ∙ times_one t.1) (sum_below t.0 (suc t.0) ts (omega arith) terms.2) ∙ plus_zero t.1

-- what the other terms come to
pub sum_rest : (x : ColumnNumbers) (t : Term) (ts : List Term) → minus (sum_at x (t ∷ ts)) (times t.1 (x t.0)) ≡ sum_at x ts
sum_rest x t ts =
    ap (λ (n : Rational). minus n (times t.1 (x t.0))) (sum_at_more x t ts ∙ plus_comm (times t.1 (x t.0)) (sum_at x ts)) ∙ plus_minus (sum_at x ts) (times t.1 (x t.0))
