-- Sums of forms, from the sums of their terms and of their constants.
use Rattle.std.proofs.Common.{◌≡◌, IsTrue, Ok, Err, subst, subst₂, ap₂, sym, ◌∙◌, arith}
use Rattle.zim_rational.specs.Rational.{Rational, plus}
use Rattle.zim_rational.proofs.Fraction.{fractions, common4}
use Rattle.zim_linear.specs.Forms.{Term, LinearForm, sum_at, number_at, form_of}
use Rattle.zim_linear.specs.Sums.{IsMerged, IsSumOf, IsSumWithin}
use Rattle.zim_fraction.specs.Limit.{is_sum_within}
use Rattle.zim_fraction.specs.Answers.{sum_answer}
use Rattle.zim_fraction.specs.declared.fault.Past.{Past}
use Rattle.zim_linear.proofs.AnswerLaws.{sum_ok, sum_past}
use Rattle.std.specs.Prelude.{List}

regrouped : (a b c d : Rational) → plus (plus a b) (plus c d) ≡ plus (plus a c) (plus b d)
regrouped =
    common4
    (λ a b c d. plus (plus a b) (plus c d) ≡ plus (plus a c) (plus b d))
    (λ x y u v s t e f d some. simp fractions (omega arith))

pub added : (a b : LinearForm) (made : List Term) (q : Rational) → IsMerged a.terms b.terms made → q ≡ plus a.constant b.constant → IsSumOf a b (form_of made q)
unfolding number_at
added a b made q m e = record {
  number =
      λ x.
      ap₂ plus (m.number x) e ∙ regrouped (sum_at x a.terms) (sum_at x b.terms) a.constant b.constant;
  terms = m.terms;
  columns = m.columns;
}

-- the sum of two forms, as the calls for their parts give it
pub added_answer : (a b form : LinearForm) (xs ys made : List Term) (p q r : Rational) → IsMerged xs ys made → xs ≡ a.terms → ys ≡ b.terms → Ok r ≡ sum_answer p q → r ≡ plus p q → p ≡ a.constant → q ≡ b.constant → form ≡ form_of made r → IsSumWithin a b × IsSumOf a b form
added_answer a b form xs ys made p q r m e f ok is g h there =
    let merged : IsMerged a.terms b.terms made = subst₂ (λ (ts us : List Term). IsMerged ts us made) e f m in
    let within : IsTrue (is_sum_within a.constant b.constant) =
    subst₂ (λ (m n : Rational). IsTrue (is_sum_within m n)) g h (sum_ok p q r ok) in
    ((merged.within, within), subst (IsSumOf a b) (sym there) (added a b made r merged (is ∙ ap₂ plus g h)))

-- where the constants have no sum, the forms have none
pub past_constants : (a b : LinearForm) (p q : Rational) (o : Past) → Err o ≡ sum_answer p q → p ≡ a.constant → q ≡ b.constant → ¬ IsSumWithin a b
past_constants a b p q o past g h within =
    sum_past p q o past (subst₂ (λ (m n : Rational). IsTrue (is_sum_within m n)) (sym g) (sym h) within.1)
