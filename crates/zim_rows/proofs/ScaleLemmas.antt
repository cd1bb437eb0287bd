-- Numbers times a factor: sums, what rows ask for and what holds of terms stay, so a scaled row says the same.
use Rattle.std.proofs.Common.{ℕ, suc, pos, ◌≡◌, ◌≢◌, ◌<◌, ◌↔◌, List, [], ◌∷◌, arith, refl, ap, ap₂, sym, ◌∙◌, subst}
use Rattle.std.proofs.lemmas.Int.{ints}
use Rattle.zim_rational.specs.Rational.{Rational, zero, whole, plus, times, IsAtMost, IsBelow}
use Rattle.zim_rational.proofs.Ring.{times_comm, zero_times, plus_times}
use Rattle.zim_rational.proofs.Order.{times_at_most, at_most_times, below_at_most, below_different, different_below}
use Rattle.zim_rational.proofs.Whole.{whole_below, times_cancel}
use Rattle.zim_rational.proofs.Parts.{whole_different}
use Rattle.zim_linear.specs.Forms.{Term, ColumnNumbers, sum_at, AreTermsFrom, AreColumns}
use Rattle.zim_linear.proofs.FormLaws.{sum_at_none, sum_at_more}
use Rattle.zim_linear.proofs.ScaleLaws.{scaled_times}
use Rattle.zim_rows.specs.declared.rows.RowKind.{RowKind}
use Rattle.zim_rows.specs.declared.rows.RowKind.TheVariants.{One, Range}
use Rattle.zim_rows.specs.declared.rows.Sense.TheVariants.{AtLeast, AtMost, Equal}
use Rattle.zim_rows.specs.Points.{KeepsKind}
use Rattle.zim_rows.specs.Factors.{times_factor}
use Rattle.zim_rows.specs.Scaled.{scaled_term, scaled_terms, scaled_kind}

pub scaled_is : (k : ℕ) (q : Rational) → times_factor k q ≡ times q (whole (pos k))
unfolding times_factor
scaled_is k q = refl

-- ---- one number

whole_above : (k : ℕ) → 0 < k → IsBelow zero (whole (pos k))
unfolding zero
whole_above k some = (whole_below (pos 0) (pos k)).1 (omega (arith, ints))

whole_some : (k : ℕ) → 0 < k → whole (pos k) ≢ zero
whole_some k some = whole_different (pos k) some

-- the order of two numbers is that of their multiples
pub scaled_at_most : (k : ℕ) (a b : Rational) → 0 < k → IsAtMost (times_factor k a) (times_factor k b) ↔ IsAtMost a b
unfolding times_factor
scaled_at_most k a b some =
    let w : Rational = whole (pos k) in (
      λ h. at_most_times w a b (whole_above k some) (subst (λ (n : Rational). IsAtMost (times w a) n) (times_comm b w) (subst (λ (n : Rational). IsAtMost n (times b w)) (times_comm a w) h)),
      λ h. subst (λ (n : Rational). IsAtMost (times a w) n) (times_comm w b) (subst (λ (n : Rational). IsAtMost n (times w b)) (times_comm w a) (times_at_most w a b (below_at_most zero w (whole_above k some)) h)),
    )

-- two numbers are one where their multiples are
pub scaled_same : (k : ℕ) (a b : Rational) → 0 < k → (times_factor k a ≡ times_factor k b) ↔ (a ≡ b)
unfolding times_factor
scaled_same k a b some = (λ e. times_cancel a b (whole (pos k)) (whole_some k some) e, λ e. ap (times_factor k) e)

pub scaled_zero : (k : ℕ) → times_factor k zero ≡ zero
unfolding times_factor
scaled_zero k = zero_times (whole (pos k))

-- a multiple of a number that isn't 0 isn't 0
pub scaled_some : (k : ℕ) (q : Rational) → 0 < k → q ≢ zero → times_factor k q ≢ zero
scaled_some k q some other e = other ((scaled_same k q zero some).0 (e ∙ sym (scaled_zero k)))

pub scaled_below : (k : ℕ) (a b : Rational) → 0 < k → IsBelow a b → IsBelow (times_factor k a) (times_factor k b)
scaled_below k a b some h =
    different_below
    (times_factor k a)
    (times_factor k b)
    ((scaled_at_most k a b some).1 (below_at_most a b h))
    (λ e. below_different a b h ((scaled_same k a b some).0 e))

-- ---- terms

-- the sum of multiples is the multiple of the sum
pub sum_scaled : (x : ColumnNumbers) (k : ℕ) (ts : List Term) → sum_at x (scaled_terms k ts) ≡ times_factor k (sum_at x ts)
unfolding times_factor
sum_scaled x k [] = sum_at_none x ∙ sym (ap (times_factor k) (sum_at_none x) ∙ scaled_zero k)
sum_scaled x k (t ∷ ts) =
    sum_at_more x (scaled_term k t) (scaled_terms k ts)
    ∙ ap₂ plus (scaled_times t.1 (whole (pos k)) (x t.0)) (sum_scaled x k ts)
    ∙ sym (plus_times (times t.1 (x t.0)) (sum_at x ts) (whole (pos k)))
    ∙ ap (times_factor k) (sym (sum_at_more x t ts))

pub terms_scaled : (k n : ℕ) (ts : List Term) → 0 < k → AreTermsFrom n ts → AreTermsFrom n (scaled_terms k ts)
terms_scaled k n [] some h = tt
terms_scaled k n (t ∷ ts) some h = (h.0, scaled_some k t.1 some h.1, terms_scaled k (suc t.0) ts some h.2)

pub columns_scaled : (k n : ℕ) (ts : List Term) → AreColumns n ts → AreColumns n (scaled_terms k ts)
columns_scaled k n [] h = tt
columns_scaled k n (t ∷ ts) h = (h.0, h.1, columns_scaled k n ts h.2)

-- ---- what a row asks for

pub kept_scaled : (k : ℕ) (kind : RowKind) (sum : Rational) → 0 < k → KeepsKind (scaled_kind k kind) (times_factor k sum) ↔ KeepsKind kind sum
kept_scaled k (One AtLeast right) sum some = scaled_at_most k right sum some
kept_scaled k (One AtMost right) sum some = scaled_at_most k sum right some
kept_scaled k (One Equal right) sum some = scaled_same k sum right some
kept_scaled k (Range low high) sum some = (
  λ h. ((scaled_at_most k low sum some).0 h.0, (scaled_at_most k sum high some).0 h.1),
  λ h. ((scaled_at_most k low sum some).1 h.0, (scaled_at_most k sum high some).1 h.1),
)
