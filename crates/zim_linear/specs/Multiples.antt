-- Multiples of forms, by their number at every assignment, and when no coefficient is past.
use Rattle.std.specs.Prelude.{ℕ, ◌≡◌, ◌≢◌, List, [], ◌∷◌, ◌++◌, IsTrue, Result, Ok, Err}
use Rattle.zim_fraction.specs.Limit.{is_number}
use Rattle.zim_rational.specs.Rational.{Rational, zero, times}
use Rattle.zim_linear.specs.Forms.{Term, LinearForm, ColumnNumbers, AreTerms, AreColumns, sum_at, number_at}
use Rattle.zim_linear.specs.declared.faults.LinFault.{LinFault}
use Rattle.zim_linear.specs.declared.faults.LinFault.TheVariants.{Past, Memory}

-- each coefficient times q is within the limit
abbrev pub HaveProductsWithin : List Term → Rational → Type 0
HaveProductsWithin [] q = Unit {0}
HaveProductsWithin (t ∷ ts) q = IsTrue (is_number (times t.1 q)) × HaveProductsWithin ts q

-- the term of a coefficient's product stands at the end of the list, or no term where the product is 0
pub record PushesProduct (old : List Term) (t : Term) (q : Rational) (new : List Term) : Type 0 where
  pub within : IsTrue (is_number (times t.1 q))
  pub pushed : times t.1 q ≢ zero → new ≡ old ++ (t.0, times t.1 q) ∷ []
  pub dropped : times t.1 q ≡ zero → new ≡ old

-- the product of a coefficient was put at the end, or it is past, or memory was refused
abbrev pub ProductAnswer : List Term → Term → Rational → List Term → Result Unit LinFault → Type 0
ProductAnswer old t q new (Ok _) = PushesProduct old t q new
ProductAnswer old t q new (Err Past) = ¬ IsTrue (is_number (times t.1 q))
ProductAnswer old t q new (Err Memory) = Unit {0}

-- terms in order that are, at every assignment, a list of terms times q, whose products are all within the limit
pub record IsScaled (xs : List Term) (q : Rational) (made : List Term) : Type 0 where
  pub number : (x : ColumnNumbers) → sum_at x made ≡ times (sum_at x xs) q
  pub terms : AreTerms made
  pub columns : (n : ℕ) → AreColumns n xs → AreColumns n made
  pub within : HaveProductsWithin xs q

-- the list of terms times q, past exactly where a product is past
abbrev pub ScaledAnswer : {V : Type 0} → (V → List Term) → List Term → Rational → Result V LinFault → Type 0
ScaledAnswer view xs q (Ok made) = IsScaled xs q (view made)
ScaledAnswer view xs q (Err Past) = ¬ HaveProductsWithin xs q
ScaledAnswer view xs q (Err Memory) = Unit {0}

-- no product of q with a coefficient or the constant is past
abbrev pub IsMultipleWithin : LinearForm → Rational → Type 0
IsMultipleWithin a q = HaveProductsWithin a.terms q × IsTrue (is_number (times a.constant q))

-- at every assignment the number is that of a times q; the terms are in order, and no column is new
pub record IsMultipleOf (a : LinearForm) (q : Rational) (form : LinearForm) : Type 0 where
  pub number : (x : ColumnNumbers) → number_at x form ≡ times (number_at x a) q
  pub terms : AreTerms form.terms
  pub columns : (n : ℕ) → AreColumns n a.terms → AreColumns n form.terms
