-- Sums and differences of forms, by their number at every assignment, and when no coefficient is past.
use Rattle.std.specs.Prelude.{ℕ, ◌≡◌, ◌≢◌, List, [], ◌∷◌, ◌++◌, map, IsTrue, Result, Ok, Err}
use Rattle.zim_fraction.specs.Limit.{is_sum_within}
use Rattle.zim_rational.specs.Rational.{zero, plus, minus, negate}
use Rattle.zim_linear.specs.Forms.{Term, LinearForm, ColumnNumbers, AreTerms, AreColumns, sum_at, number_at}
use Rattle.zim_linear.specs.declared.faults.LinFault.{LinFault}
use Rattle.zim_linear.specs.declared.faults.LinFault.TheVariants.{Past, Memory}

-- the coefficients of this term's column in the list have sums with the term's coefficient within the limit
abbrev pub HasSumWithin : Term → List Term → Type 0
HasSumWithin s [] = Unit {0}
HasSumWithin s (t ∷ ts) = (s.0 ≡ t.0 → IsTrue (is_sum_within s.1 t.1)) × HasSumWithin s ts

-- where a column stands in both lists, the sum of its coefficients is within the limit
abbrev pub HaveSumsWithin : List Term → List Term → Type 0
HaveSumsWithin [] ts = Unit {0}
HaveSumsWithin (s ∷ ss) ts = HasSumWithin s ts × HaveSumsWithin ss ts

-- the term of two coefficients' sum stands at the end of the list, or no term where the sum is 0
pub record PushesSum (old : List Term) (s t : Term) (new : List Term) : Type 0 where
  pub within : IsTrue (is_sum_within s.1 t.1)
  pub pushed : plus s.1 t.1 ≢ zero → new ≡ old ++ (s.0, plus s.1 t.1) ∷ []
  pub dropped : plus s.1 t.1 ≡ zero → new ≡ old

-- the sum of two coefficients was put at the end, or it is past, or memory was refused
abbrev pub PushAnswer : List Term → Term → Term → List Term → Result Unit LinFault → Type 0
PushAnswer old s t new (Ok _) = PushesSum old s t new
PushAnswer old s t new (Err Past) = ¬ IsTrue (is_sum_within s.1 t.1)
PushAnswer old s t new (Err Memory) = Unit {0}

-- terms in order that are, at every assignment, the sum of two lists of terms, whose columns all have sums of their coefficients
pub record IsMerged (xs ys made : List Term) : Type 0 where
  pub number : (x : ColumnNumbers) → sum_at x made ≡ plus (sum_at x xs) (sum_at x ys)
  pub terms : AreTerms made
  pub columns : (n : ℕ) → AreColumns n xs → AreColumns n ys → AreColumns n made
  pub within : HaveSumsWithin xs ys

-- the list of terms that is, at every assignment, the sum of two lists, past exactly where a column has no sum of its coefficients
abbrev pub TermsAnswer : {V : Type 0} → (V → List Term) → List Term → List Term → Result V LinFault → Type 0
TermsAnswer view xs ys (Ok made) = IsMerged xs ys (view made)
TermsAnswer view xs ys (Err Past) = ¬ HaveSumsWithin xs ys
TermsAnswer view xs ys (Err Memory) = Unit {0}

-- no sum of two coefficients or of the constants is past
abbrev pub IsSumWithin : LinearForm → LinearForm → Type 0
IsSumWithin a b = HaveSumsWithin a.terms b.terms × IsTrue (is_sum_within a.constant b.constant)

-- at every assignment the number is the sum of the numbers of a and b; the terms are in order, and no column is new
pub record IsSumOf (a b form : LinearForm) : Type 0 where
  pub number : (x : ColumnNumbers) → number_at x form ≡ plus (number_at x a) (number_at x b)
  pub terms : AreTerms form.terms
  pub columns : (n : ℕ) → AreColumns n a.terms → AreColumns n b.terms → AreColumns n form.terms

-- the form is the sum of what it was and of `more`, or it is as before: where the sum is past, or memory was refused
abbrev pub AddedAnswer : LinearForm → LinearForm → LinearForm → Result Unit LinFault → Type 0
AddedAnswer old more new (Ok _) = IsSumWithin old more × IsSumOf old more new
AddedAnswer old more new (Err Past) = (¬ IsSumWithin old more) × (new ≡ old)
AddedAnswer old more new (Err Memory) = new ≡ old

-- the coefficients with their signs turned
abbrev pub negated_terms : List Term → List Term
negated_terms terms = map (λ (t : Term). (t.0, negate t.1)) terms

-- the form with all its signs turned
abbrev pub negated_form : LinearForm → LinearForm
negated_form a = record { terms = negated_terms a.terms; constant = negate a.constant }

-- no sum of a coefficient or the constant of a with the negated one of b is past
abbrev pub IsDifferenceWithin : LinearForm → LinearForm → Type 0
IsDifferenceWithin a b = IsSumWithin a (negated_form b)

-- at every assignment the number is that of a less that of b; the terms are in order, and no column is new
pub record IsDifferenceOf (a b form : LinearForm) : Type 0 where
  pub number : (x : ColumnNumbers) → number_at x form ≡ minus (number_at x a) (number_at x b)
  pub terms : AreTerms form.terms
  pub columns : (n : ℕ) → AreColumns n a.terms → AreColumns n b.terms → AreColumns n form.terms
