-- Forms with their signs turned: they are in order, and their number is the negated one.
use Rattle.std.proofs.Common.{ℕ, suc, ◌≡◌, ◌≢◌, List, [], ◌∷◌, Result, Ok, Err, ap, ap₂, ◌∙◌, sym, subst}
use Rattle.zim_rational.specs.Rational.{Rational, zero, plus, negate, times, total}
use Rattle.zim_rational.proofs.Ring.{negate_times, negate_negate, negate_zero, negate_plus, minus_is}
use Rattle.zim_linear.specs.Forms.{Term, LinearForm, ColumnNumbers, sum_at, number_at, AreTermsFrom, AreColumns}
use Rattle.zim_linear.specs.Answers.{FormAnswer}
use Rattle.zim_linear.specs.Sums.{IsSumWithin, IsSumOf, IsDifferenceWithin, IsDifferenceOf, negated_terms, negated_form}
use Rattle.zim_linear.specs.declared.faults.LinFault.{LinFault}
use Rattle.zim_linear.specs.declared.faults.LinFault.TheVariants.{Past, Memory}

some_negated : (q : Rational) → q ≢ zero → negate q ≢ zero
some_negated q some e = some (sym (negate_negate q) ∙ ap negate e ∙ negate_zero)

pub negated_from : (n : ℕ) (ts : List Term) → AreTermsFrom n ts → AreTermsFrom n (negated_terms ts)
negated_from n [] terms = tt
negated_from n (t ∷ ts) terms = (terms.0, some_negated t.1 terms.1, negated_from (suc t.0) ts terms.2)

negated_columns : (n : ℕ) (ts : List Term) → AreColumns n ts → AreColumns n (negated_terms ts)
negated_columns n [] p = tt
negated_columns n (t ∷ ts) p = (p.0, p.1, negated_columns n ts p.2)

sum_at_negated : (x : ColumnNumbers) (ts : List Term) → sum_at x (negated_terms ts) ≡ negate (sum_at x ts)
unfolding sum_at total
sum_at_negated x [] = sym negate_zero
sum_at_negated x (t ∷ ts) =
    ap₂ plus (negate_times t.1 (x t.0)) (sum_at_negated x ts) ∙ sym (negate_plus (times t.1 (x t.0)) (sum_at x ts))

pub number_negated : (x : ColumnNumbers) (b : LinearForm) → number_at x (negated_form b) ≡ negate (number_at x b)
unfolding number_at
number_negated x b =
    ap (λ n. plus n (negate b.constant)) (sum_at_negated x b.terms) ∙ sym (negate_plus (sum_at x b.terms) b.constant)

-- what the sum with the negated form answers is what the difference answers
pub difference_answer : (a b turned : LinearForm) (r : Result LinearForm LinFault) → turned ≡ negated_form b → FormAnswer (IsSumWithin a turned) (IsSumOf a turned) r → FormAnswer (IsDifferenceWithin a b) (IsDifferenceOf a b) r
difference_answer a b turned (Ok form) e answer = (
  subst (IsSumWithin a) e answer.0,
  record {
    number =
        λ x.
        answer.1.number x ∙ ap (plus (number_at x a)) (ap (number_at x) e ∙ number_negated x b) ∙ sym (minus_is (number_at x a) (number_at x b));
    terms = answer.1.terms;
    columns =
        λ n p q.
        answer.1.columns n p (subst (λ (f : LinearForm). AreColumns n f.terms) (sym e) (negated_columns n b.terms q));
  },
)
difference_answer a b turned (Err Past) e answer =
    λ within. answer (subst (IsSumWithin a) (sym e) within)
difference_answer a b turned (Err Memory) e answer = tt
