-- Terms whose columns all stand after those of others: the two lists, one after the other, are their sum.
use Rattle.std.proofs.Common.{ℕ, zero, suc, ◌≡◌, ◌<◌, ◌≤◌, ◌-◌, List, [], ◌∷◌, ◌++◌, length, Some, Ok, arith, subst, sym, ap, ap₂, ◌∙◌}
use Rattle.std.specs.Prelude.{slice_get}
use Rattle.zim_fraction.specs.Answers.{sum_answer}
use Rattle.zim_rational.specs.Rational.{Rational, plus}
use Rattle.zim_linear.specs.Forms.{Term, LinearForm, form_of, AreTermsFrom, AreTerms}
use Rattle.zim_linear.specs.Sums.{HaveSumsWithin, IsMerged, IsSumWithin, IsSumOf}
use Rattle.zim_linear.proofs.FormLaws.{columns_append, sum_at_append}
use Rattle.zim_linear.proofs.MergeLemmas.{no_column, lower_from}
use Rattle.zim_linear.proofs.SumLemmas.{added_answer}

-- terms from behind the last one, which stands at k, may follow
after_last : (n : ℕ) (xs ys : List Term) (s : Term) (k : ℕ) → AreTermsFrom n xs → length xs ≡ suc k → slice_get xs k ≡ Some s → AreTermsFrom (suc s.0) ys → AreTermsFrom n (xs ++ ys)
after_last n [] ys s k terms size last after = absurd (omega arith)
after_last n (x ∷ []) ys s zero terms size last after =
    let same : x ≡ s = cc in (terms.0, terms.1, subst (λ (t : Term). AreTermsFrom (suc t.0) ys) (sym same) after)
after_last n (x ∷ []) ys s (suc k) terms size last after = absurd (omega arith)
after_last n (x ∷ (y ∷ xs)) ys s zero terms size last after = absurd (omega arith)
after_last n (x ∷ (y ∷ xs)) ys s (suc k) terms size last after =
    let rest : length (y ∷ xs) ≡ suc k = omega arith in
    (terms.0, terms.1, after_last (suc x.0) (y ∷ xs) ys s k terms.2 rest last after)

size_of : (xs : List Term) (s : Term) → slice_get xs (length xs - 1) ≡ Some s → length xs ≡ suc (length xs - 1)
size_of [] s last = absurd (cc)
size_of (x ∷ xs) s last = omega arith

-- the first term of a list tells from where its columns are
from_first : (n : ℕ) (ys : List Term) (s t : Term) → AreTermsFrom n ys → slice_get ys 0 ≡ Some t → s.0 < t.0 → AreTermsFrom (suc s.0) ys
from_first n [] s t terms first above = tt
from_first n (y ∷ ys) s t terms first above =
    let same : y ≡ t = cc in
    let there : s.0 < y.0 = subst (λ (u : Term). s.0 < u.0) (sym same) above in
    (omega arith, terms.1, terms.2)

pub follows : (xs ys : List Term) (s t : Term) → AreTerms xs → AreTerms ys → Some s ≡ slice_get xs (length xs - 1) → Some t ≡ slice_get ys 0 → s.0 < t.0 → AreTerms (xs ++ ys)
follows xs ys s t left right last first above =
    after_last 0 xs ys s (length xs - 1) left (size_of xs s (sym last)) (sym last) (from_first 0 ys s t right (sym first) above)

behind : (n : ℕ) (xs ys : List Term) → AreTermsFrom n (xs ++ ys) → AreTermsFrom n ys
behind n [] ys terms = terms
behind n (x ∷ xs) ys terms =
    let first : n ≤ x.0 = terms.0 in
    lower_from n (suc x.0) ys (omega arith) (behind (suc x.0) xs ys terms.2)

apart : (n : ℕ) (xs ys : List Term) → AreTermsFrom n (xs ++ ys) → HaveSumsWithin xs ys
apart n [] ys terms = tt
apart n (x ∷ xs) ys terms =
    (no_column x ys (suc x.0) (omega arith) (behind (suc x.0) xs ys terms.2), apart (suc x.0) xs ys terms.2)

-- lists in order, one after the other, are their sum
pub appended : (xs ys : List Term) → AreTerms (xs ++ ys) → IsMerged xs ys (xs ++ ys)
appended xs ys terms = record {
  number = λ x. sum_at_append x xs ys;
  terms = terms;
  columns = λ n p q. columns_append n xs ys p q;
  within = apart 0 xs ys terms;
}

-- the sum of two forms of which the second's terms follow those of the first, as the calls for their parts give it
pub appended_answer : (a b form : LinearForm) (xs ys zs : List Term) (p q r : Rational) → AreTerms (xs ++ ys) → xs ≡ a.terms → ys ≡ b.terms → zs ≡ b.terms → Ok r ≡ sum_answer p q → r ≡ plus p q → p ≡ a.constant → q ≡ b.constant → form ≡ form_of (a.terms ++ zs) r → IsSumWithin a b × IsSumOf a b form
appended_answer a b form xs ys zs p q r terms e f h ok is g i made =
    added_answer a b form xs ys (xs ++ ys) p q r (appended xs ys terms) e f ok is g i (made ∙ ap (λ (ts : List Term). form_of ts r) (ap₂ (λ (ts us : List Term). ts ++ us) (sym e) (h ∙ sym f)))
