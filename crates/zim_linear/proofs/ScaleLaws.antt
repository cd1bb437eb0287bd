-- A list of terms times a number: the terms made so far and the rest, from the start to the end.
use Rattle.std.proofs.Common.{ℕ, suc, ◌≡◌, ◌≢◌, ◌≤◌, ◌↔◌, inl, inr, List, [], ◌∷◌, ◌++◌, IsTrue, Ok, Err, ap, ap₂, ◌∙◌, sym, subst, arith}
use Rattle.zim_fraction.specs.Limit.{is_number}
use Rattle.zim_fraction.specs.Answers.{product_answer}
use Rattle.zim_fraction.specs.declared.fault.Past.{Past}
use Rattle.zim_rational.specs.Rational.{Rational, zero, plus, times}
use Rattle.zim_rational.proofs.Ring.{zero_plus, plus_zero, plus_assoc, plus_times, times_assoc, times_comm, zero_times}
use Rattle.zim_linear.specs.Forms.{Term, LinearForm, ColumnNumbers, sum_at, number_at, form_of, AreTermsFrom, AreTerms, AreColumns}
use Rattle.zim_linear.specs.Multiples.{HaveProductsWithin, PushesProduct, IsScaled, IsMultipleWithin, IsMultipleOf}
use Rattle.zim_linear.proofs.FormLaws.{columns_append, same_or_other, sum_at_none, sum_at_more}
use Rattle.zim_linear.proofs.AnswerLaws.{product_ok, product_past}
use Rattle.zim_linear.proofs.MergeLemmas.{one_more, joined, lower_from, append_none}

-- some terms of a list are scaled, and a rest is left
pub record IsScaling (xs : List Term) (q : Rational) (made rest : List Term) : Type 0 where
  pub number : (x : ColumnNumbers) → plus (sum_at x made) (times (sum_at x rest) q) ≡ times (sum_at x xs) q
  pub bound : ℕ
  pub joins : (more : List Term) → AreTermsFrom bound more → AreTerms (made ++ more)
  pub rest_terms : AreTermsFrom bound rest
  pub columns : (n : ℕ) → AreColumns n xs → AreColumns n made × AreColumns n rest
  pub within : HaveProductsWithin rest q ↔ HaveProductsWithin xs q

pub scale_start : (xs : List Term) (q : Rational) → AreTerms xs → IsScaling xs q [] xs
scale_start xs q terms = record {
  number = λ x. ap (λ n. plus n (times (sum_at x xs) q)) (sum_at_none x) ∙ zero_plus (times (sum_at x xs) q);
  bound = 0;
  joins = λ more after. after;
  rest_terms = terms;
  columns = λ n p. (tt, p);
  within = (λ h. h, λ h. h);
}

-- a coefficient times q, at an assignment
pub scaled_times : (c q v : Rational) → times (times c q) v ≡ times (times c v) q
scaled_times c q v = times_assoc c q v ∙ ap (times c) (times_comm q v) ∙ sym (times_assoc c v q)

-- the rest's first term, taken to the made ones
scaled_more : (x : ColumnNumbers) (q : Rational) (t : Term) (rest : List Term) → plus (times (times t.1 q) (x t.0)) (times (sum_at x rest) q) ≡ times (sum_at x (t ∷ rest)) q
scaled_more x q t rest =
    ap (λ n. plus n (times (sum_at x rest) q)) (scaled_times t.1 q (x t.0)) ∙ sym (plus_times (times t.1 (x t.0)) (sum_at x rest) q) ∙ ap (λ n. times n q) (sym (sum_at_more x t rest))

scale_push : (xs : List Term) (q : Rational) (made rest : List Term) (t : Term) → IsScaling xs q made (t ∷ rest) → IsTrue (is_number (times t.1 q)) → times t.1 q ≢ zero → IsScaling xs q (made ++ (t.0, times t.1 q) ∷ []) rest
scale_push xs q made rest t m within some = record {
  number =
      λ x.
      ap (λ n. plus n (times (sum_at x rest) q)) (one_more x made (t.0, times t.1 q)) ∙ plus_assoc (sum_at x made) (plus (times (times t.1 q) (x t.0)) zero) (times (sum_at x rest) q) ∙ ap (plus (sum_at x made)) (ap (λ n. plus n (times (sum_at x rest) q)) (plus_zero (times (times t.1 q) (x t.0))) ∙ scaled_more x q t rest) ∙ m.number x;
  bound = suc t.0;
  joins = joined made m.bound (t.0, times t.1 q) m.joins m.rest_terms.0 some;
  rest_terms = m.rest_terms.2;
  columns = λ n p. let all = m.columns n p in (columns_append n made ((t.0, times t.1 q) ∷ []) all.0 (all.1.0, all.1.1, tt), all.1.2);
  within = (λ h. m.within.0 (within, h), λ h. (m.within.1 h).1);
}

scale_drop : (xs : List Term) (q : Rational) (made rest : List Term) (t : Term) → IsScaling xs q made (t ∷ rest) → IsTrue (is_number (times t.1 q)) → times t.1 q ≡ zero → IsScaling xs q made rest
scale_drop xs q made rest t m within none =
    let first : m.bound ≤ t.0 = m.rest_terms.0 in
    record {
      number =
          λ x.
          ap (plus (sum_at x made)) (sym (zero_plus (times (sum_at x rest) q)) ∙ ap (λ n. plus n (times (sum_at x rest) q)) (sym (zero_times (x t.0)) ∙ ap (λ n. times n (x t.0)) (sym none)) ∙ scaled_more x q t rest) ∙ m.number x;
      bound = m.bound;
      joins = m.joins;
      rest_terms = lower_from m.bound (suc t.0) rest (omega arith) m.rest_terms.2;
      columns = λ n p. let all = m.columns n p in (all.0, all.1.2);
      within = (λ h. m.within.0 (within, h), λ h. (m.within.1 h).1);
    }

-- a step that takes a term
pub scale_step : (xs : List Term) (q : Rational) (made new r rest : List Term) (t : Term) → IsScaling xs q made r → r ≡ t ∷ rest → PushesProduct made t q new → IsScaling xs q new rest
scale_step xs q made new r rest t n e pushes =
    let m : IsScaling xs q made (t ∷ rest) = subst (IsScaling xs q made) e n in
    elim (same_or_other (times t.1 q) zero) [
      | inl none ↦
          subst
          (λ (ts : List Term). IsScaling xs q ts rest)
          (sym (pushes.dropped none))
          (scale_drop xs q made rest t m pushes.within none)
      | inr some ↦
          subst
          (λ (ts : List Term). IsScaling xs q ts rest)
          (sym (pushes.pushed some))
          (scale_push xs q made rest t m pushes.within some)
    ]

-- a step at which there is no product
pub scale_past : (xs : List Term) (q : Rational) (made r rest : List Term) (t : Term) → IsScaling xs q made r → r ≡ t ∷ rest → ¬ IsTrue (is_number (times t.1 q)) → ¬ HaveProductsWithin xs q
scale_past xs q made r rest t n e past h =
    let m : IsScaling xs q made (t ∷ rest) = subst (IsScaling xs q made) e n in past ((m.within.1 h).0)

pub scale_end : (xs : List Term) (q : Rational) (made r : List Term) → IsScaling xs q made r → r ≡ [] → IsScaled xs q made
scale_end xs q made r n e =
    let m : IsScaling xs q made [] = subst (IsScaling xs q made) e n in
    record {
      number = λ x. sym (plus_zero (sum_at x made)) ∙ ap (plus (sum_at x made)) (sym (zero_times q) ∙ ap (λ n. times n q) (sym (sum_at_none x))) ∙ m.number x;
      terms = subst AreTerms (append_none made) (m.joins [] tt);
      columns = λ n p. (m.columns n p).0;
      within = m.within.0 tt;
    }

-- the multiple of a form, as the calls for its parts give it
pub scaled_answer : (a form : LinearForm) (xs made : List Term) (p q r : Rational) → IsScaled xs q made → xs ≡ a.terms → Ok r ≡ product_answer p q → r ≡ times p q → p ≡ a.constant → form ≡ form_of made r → IsMultipleWithin a q × IsMultipleOf a q form
unfolding number_at
scaled_answer a form xs made p q r n e ok is g there =
    let m : IsScaled a.terms q made = subst (λ (ts : List Term). IsScaled ts q made) e n in
    let within : IsTrue (is_number (times a.constant q)) =
    subst (λ (c : Rational). IsTrue (is_number (times c q))) g (product_ok p q r ok) in (
      (m.within, within),
      record {
        number = λ x. ap (λ (f : LinearForm). plus (sum_at x f.terms) f.constant) there ∙ ap₂ plus (m.number x) (is ∙ ap (λ c. times c q) g) ∙ sym (plus_times (sum_at x a.terms) a.constant q);
        terms = subst (λ (f : LinearForm). AreTerms f.terms) (sym there) m.terms;
        columns = λ k p. subst (λ (f : LinearForm). AreColumns k f.terms) (sym there) (m.columns k p);
      },
    )

pub scaled_past : (a : LinearForm) (p q : Rational) (o : Past) → Err o ≡ product_answer p q → p ≡ a.constant → ¬ IsMultipleWithin a q
scaled_past a p q o past g within =
    product_past p q o past (subst (λ (c : Rational). IsTrue (is_number (times c q))) (sym g) within.1)
