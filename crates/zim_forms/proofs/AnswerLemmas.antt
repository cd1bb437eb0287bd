-- What the calls on forms answer, by the operators.
use Rattle.std.proofs.Common.{ℕ, ◌≡◌, List, [], ◌∷◌, Option, Result, Ok, Err, inl, inr, refl, ap, sym, ◌∙◌}
use Rattle.zim_rational.specs.Rational.{Rational, plus}
use Rattle.zim_rational.proofs.Ring.{minus_is}
use Rattle.zim_fraction.specs.declared.fault.Past.{Past}
use Rattle.zim_linear.specs.Forms.{Term, LinearForm, AreTerms, AreColumns, number_at}
use Rattle.zim_linear.specs.Answers.{FormAnswer}
use Rattle.zim_linear.specs.Sums.{IsSumWithin, IsSumOf, AddedAnswer, IsDifferenceWithin, IsDifferenceOf, negated_terms, negated_form}
use Rattle.zim_linear.specs.Multiples.{IsMultipleWithin, IsMultipleOf}
use Rattle.zim_linear.specs.Ends.{EndsAnswer}
use Rattle.zim_linear.specs.declared.faults.LinFault.{LinFault}
use Rattle.zim_linear.specs.declared.faults.LinFault.TheVariants.{Past as PastForm, Memory}
use Rattle.zim_linear.specs.declared.sides.Sides.{Sides}
use Rattle.zim_linear.proofs.NegationLaws.{number_negated}
use Rattle.zim_answer.specs.Answer.{◌>>=◌}
use Rattle.zim_answer.specs.Gives.{Gives}
use Rattle.zim_linear.specs.Ends.{least_answer, greatest_answer}
use Rattle.zim_forms.specs.Algebra.{form_sum, form_times, form_cause, GivesForm}
use Rattle.zim_forms.specs.FormEnds.{both_ends}
use Rattle.zim_forms.proofs.WithinLaws.{sum_gave, sum_past}
use Rattle.zim_forms.proofs.MultipleLaws.{times_gave, times_past}

pub gives_sum : (a b : LinearForm) (r : Result LinearForm LinFault) → AreTerms a.terms → FormAnswer (IsSumWithin a b) (IsSumOf a b) r → GivesForm (form_sum a b) r
gives_sum a b (Ok form) ordered answer = sum_gave a b form ordered answer.0 answer.1
gives_sum a b (Err PastForm) ordered answer = sum_past a b answer
gives_sum a b (Err Memory) ordered answer = tt

pub gives_added : (a b new : LinearForm) (r : Result Unit LinFault) → AreTerms a.terms → AddedAnswer a b new r → Gives {V = Unit} (λ _. new) form_cause (form_sum a b) r
gives_added a b new (Ok _) ordered answer = sum_gave a b new ordered answer.0 answer.1
gives_added a b new (Err PastForm) ordered answer = sum_past a b answer.0
gives_added a b new (Err Memory) ordered answer = tt

turned_columns : (n : ℕ) (ts : List Term) → AreColumns n (negated_terms ts) → AreColumns n ts
turned_columns n [] h = tt
turned_columns n (t ∷ ts) h = (h.0, h.1, turned_columns n ts h.2)

pub gives_difference : (a b : LinearForm) (r : Result LinearForm LinFault) → AreTerms a.terms → FormAnswer (IsDifferenceWithin a b) (IsDifferenceOf a b) r → GivesForm (form_sum a (negated_form b)) r
gives_difference a b (Ok form) ordered answer =
    sum_gave a (negated_form b) form ordered answer.0 (record {
      number =
          λ x. answer.1.number x ∙ minus_is (number_at x a) (number_at x b) ∙ ap (plus (number_at x a)) (sym (number_negated x b));
      terms = answer.1.terms;
      columns = λ n p q. answer.1.columns n p (turned_columns n b.terms q);
    })
gives_difference a b (Err PastForm) ordered answer = sum_past a (negated_form b) answer
gives_difference a b (Err Memory) ordered answer = tt

pub gives_multiple : (a : LinearForm) (q : Rational) (r : Result LinearForm LinFault) → FormAnswer (IsMultipleWithin a q) (IsMultipleOf a q) r → GivesForm (form_times a q) r
gives_multiple a q (Ok form) answer = times_gave a q form answer.0 answer.1
gives_multiple a q (Err PastForm) answer = times_past a q answer
gives_multiple a q (Err Memory) answer = tt

abbrev sides_of : Result (Option Rational) Past → Result (Option Rational) Past → Result Sides Past
sides_of r s = r >>= λ low. s >>= λ high. Ok (record { low = low; high = high })

second_failed : (r s : Result (Option Rational) Past) (p : Past) → s ≡ Err p → sides_of r s ≡ Err p
second_failed (Ok low) s p h = ap (sides_of (Ok low)) h
second_failed (Err q) s p h = refl

ends_failed : (sides : List Sides) (terms : List Term) (p : Past) → EndsAnswer sides terms (Err p) → both_ends sides terms ≡ Err p
ends_failed sides terms p (inl low) = ap (λ (o : Result (Option Rational) Past). sides_of o (greatest_answer sides terms)) low
ends_failed sides terms p (inr high) = second_failed (least_answer sides terms) (greatest_answer sides terms) p high

pub ends_are : (sides : List Sides) (terms : List Term) (r : Result Sides Past) → EndsAnswer sides terms r → r ≡ both_ends sides terms
ends_are sides terms (Ok ends) answer = rw (answer.0, answer.1) refl
ends_are sides terms (Err p) answer = sym (ends_failed sides terms p answer)
