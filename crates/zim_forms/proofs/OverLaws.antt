-- Forms by operators over n columns: they are in order, and their columns are those of their operands.
use Rattle.std.proofs.Common.{ℕ, ◌<◌, ◌≤◌, List, [], ◌∷◌, map, arith}
use Rattle.zim_rational.specs.Rational.{Rational, times}
use Rattle.zim_rational.proofs.Whole.{one_different}
use Rattle.zim_linear.specs.Forms.{Term, LinearForm, AreTerms, AreColumns}
use Rattle.zim_linear.specs.Sums.{negated_terms, negated_form}
use Rattle.zim_linear.proofs.NegationLaws.{negated_from}
use Rattle.zim_forms.specs.Algebra.{◌⊕◌, ◌⊖◌, ◌⊙◌, known, the}
use Rattle.zim_forms.proofs.OrderLaws.{with_terms_ordered, with_terms_over}

-- a form in order whose columns are from 1 to n
pub record IsOver (n : ℕ) (f : LinearForm) : Type 0 where
  pub ordered : AreTerms f.terms
  pub columns : AreColumns n f.terms

columns_negated : (n : ℕ) (ts : List Term) → AreColumns n ts → AreColumns n (negated_terms ts)
columns_negated n [] h = tt
columns_negated n (t ∷ ts) h = (h.0, h.1, columns_negated n ts h.2)

columns_scaled : (n : ℕ) (q : Rational) (ts : List Term) → AreColumns n ts → AreColumns n (map (λ (t : Term). (t.0, times t.1 q)) ts)
columns_scaled n q [] h = tt
columns_scaled n q (t ∷ ts) h = (h.0, h.1, columns_scaled n q ts h.2)

columns_more : (m n : ℕ) (ts : List Term) → m ≤ n → AreColumns m ts → AreColumns n ts
columns_more m n [] le h = tt
columns_more m n (t ∷ ts) le h = let few : t.0 ≤ m = h.1 in (h.0, omega arith, columns_more m n ts le h.2)

pub over_sum : (n : ℕ) (a b : LinearForm) → IsOver n a → IsOver n b → IsOver n (a ⊕ b)
over_sum n a b f g = record {
  ordered = with_terms_ordered a.terms b.terms f.ordered;
  columns = with_terms_over n a.terms b.terms f.columns g.columns;
}

pub over_negated : (n : ℕ) (a : LinearForm) → IsOver n a → IsOver n (negated_form a)
over_negated n a f = record {
  ordered = negated_from 0 a.terms f.ordered;
  columns = columns_negated n a.terms f.columns;
}

pub over_difference : (n : ℕ) (a b : LinearForm) → IsOver n a → IsOver n b → IsOver n (a ⊖ b)
over_difference n a b f g = over_sum n a (negated_form b) f (over_negated n b g)

pub over_multiple : (n : ℕ) (q : Rational) (a : LinearForm) → IsOver n a → IsOver n (q ⊙ a)
over_multiple n q a f = record {
  ordered = with_terms_ordered [] (map (λ (t : Term). (t.0, times t.1 q)) a.terms) tt;
  columns = with_terms_over n [] (map (λ (t : Term). (t.0, times t.1 q)) a.terms) tt (columns_scaled n q a.terms f.columns);
}

pub over_the : (n j : ℕ) → 0 < j → j ≤ n → IsOver n (the j)
over_the n j some few = record { ordered = (omega arith, one_different, tt); columns = (some, few, tt) }

pub over_known : (n : ℕ) (q : Rational) → IsOver n (known q)
over_known n q = record { ordered = tt; columns = tt }

-- over more columns
pub over_more : (m n : ℕ) (a : LinearForm) → m ≤ n → IsOver m a → IsOver n a
over_more m n a le f = record { ordered = f.ordered; columns = columns_more m n a.terms le f.columns }
