-- A merge of two lists of terms: the terms made so far and the two rests, from the start to the end.
use Rattle.std.proofs.Common.{ℕ, suc, ◌≡◌, ◌≢◌, ◌≤◌, ◌<◌, ◌↔◌, List, [], ◌∷◌, ◌++◌, IsTrue, ap, ap₂, refl, ◌∙◌, sym, subst, subst₂, arith, append_assoc, inl, inr}
use Rattle.zim_fraction.specs.Limit.{is_sum_within}
use Rattle.zim_rational.specs.Rational.{Rational, zero, plus, times}
use Rattle.zim_rational.proofs.Ring.{zero_plus, plus_zero, plus_assoc, plus_left_comm, plus_times, zero_times}
use Rattle.zim_linear.specs.Forms.{Term, ColumnNumbers, sum_at, AreTermsFrom, AreTerms, AreColumns}
use Rattle.zim_linear.specs.Sums.{HasSumWithin, HaveSumsWithin, IsMerged, PushesSum}
use Rattle.zim_linear.proofs.FormLaws.{columns_append, same_or_other, sum_at_none, sum_at_more, sum_at_append}

-- of two lists, some terms are merged, and two rests are left
pub record IsMerging (xs ys made left right : List Term) : Type 0 where
  pub number : (x : ColumnNumbers) → plus (sum_at x made) (plus (sum_at x left) (sum_at x right)) ≡ plus (sum_at x xs) (sum_at x ys)
  pub bound : ℕ
  pub joins : (rest : List Term) → AreTermsFrom bound rest → AreTerms (made ++ rest)
  pub left_terms : AreTermsFrom bound left
  pub right_terms : AreTermsFrom bound right
  pub columns : (n : ℕ) → AreColumns n xs → AreColumns n ys → AreColumns n made × AreColumns n left × AreColumns n right
  pub within : HaveSumsWithin left right ↔ HaveSumsWithin xs ys

pub start : (xs ys : List Term) → AreTerms xs → AreTerms ys → IsMerging xs ys [] xs ys
start xs ys p q = record {
  number = λ x. ap (λ n. plus n (plus (sum_at x xs) (sum_at x ys))) (sum_at_none x) ∙ zero_plus (plus (sum_at x xs) (sum_at x ys));
  bound = 0;
  joins = λ rest terms. terms;
  left_terms = p;
  right_terms = q;
  columns = λ n p q. (tt, p, q);
  within = (λ h. h, λ h. h);
}

-- ---- columns that stand in one list alone

-- a term below all of a list has no column there
pub no_column : (s : Term) (ts : List Term) (n : ℕ) → s.0 < n → AreTermsFrom n ts → HasSumWithin s ts
no_column s [] n below terms = tt
no_column s (t ∷ ts) n below terms =
    (λ e. let first : n ≤ t.0 = terms.0 in absurd (omega arith), no_column s ts (suc t.0) (let first : n ≤ t.0 = terms.0 in omega arith) terms.2)

-- a term below all of the first list may be left out of the second
pub without_right : (ss : List Term) (t : Term) (ts : List Term) (n : ℕ) → t.0 < n → AreTermsFrom n ss → HaveSumsWithin ss ts ↔ HaveSumsWithin ss (t ∷ ts)
without_right [] t ts n below terms = (λ h. tt, λ h. tt)
without_right (s ∷ ss) t ts n below terms =
    let first : n ≤ s.0 = terms.0 in
    let rest = without_right ss t ts (suc s.0) (omega arith) terms.2 in
    (λ h. ((λ e. absurd (omega arith), h.0), rest.0 h.1), λ h. (h.0.1, rest.1 h.1))

-- ---- one step

moved_left : (a s l r : Rational) → plus (plus a (plus s zero)) (plus l r) ≡ plus a (plus (plus s l) r)
moved_left a s l r =
    ap (λ n. plus (plus a n) (plus l r)) (plus_zero s) ∙ plus_assoc a s (plus l r) ∙ ap (plus a) (sym (plus_assoc s l r))

moved_right : (a s l r : Rational) → plus (plus a (plus s zero)) (plus l r) ≡ plus a (plus l (plus s r))
moved_right a s l r =
    ap (λ n. plus (plus a n) (plus l r)) (plus_zero s) ∙ plus_assoc a s (plus l r) ∙ ap (plus a) (plus_left_comm s l r)

moved_both : (a s t l r : Rational) → plus (plus a (plus (plus s t) zero)) (plus l r) ≡ plus a (plus (plus s l) (plus t r))
moved_both a s t l r =
    ap (λ n. plus (plus a n) (plus l r)) (plus_zero (plus s t)) ∙ plus_assoc a (plus s t) (plus l r) ∙ ap (plus a) (plus_assoc s t (plus l r) ∙ ap (plus s) (plus_left_comm t l r) ∙ sym (plus_assoc s l (plus t r)))

pub one_more : (x : ColumnNumbers) (made : List Term) (t : Term) → sum_at x (made ++ t ∷ []) ≡ plus (sum_at x made) (plus (times t.1 (x t.0)) zero)
one_more x made t =
    sum_at_append x made (t ∷ []) ∙ ap (plus (sum_at x made)) (sum_at_more x t [] ∙ ap (plus (times t.1 (x t.0))) (sum_at_none x))

-- a term at the end of the made ones, with a coefficient that is not 0
pub joined : (made : List Term) (n : ℕ) (t : Term) → ((rest : List Term) → AreTermsFrom n rest → AreTerms (made ++ rest)) → n ≤ t.0 → t.1 ≢ zero → (rest : List Term) → AreTermsFrom (suc t.0) rest → AreTerms ((made ++ t ∷ []) ++ rest)
joined made n t joins first some rest terms =
    subst AreTerms (sym (append_assoc made (t ∷ []) rest)) (joins (t ∷ rest) (first, some, terms))

-- what is from a number up is from each lower number up
pub lower_from : (m n : ℕ) (ts : List Term) → m ≤ n → AreTermsFrom n ts → AreTermsFrom m ts
lower_from m n [] le terms = tt
lower_from m n (t ∷ ts) le terms =
    let first : n ≤ t.0 = terms.0 in (let low : m ≤ t.0 = omega arith in low, terms.1, terms.2)

-- the first list's column is the lower one
pub take_left : (xs ys made left right : List Term) (s t : Term) → IsMerging xs ys made (s ∷ left) (t ∷ right) → s.0 < t.0 → IsMerging xs ys (made ++ s ∷ []) left (t ∷ right)
take_left xs ys made left right s t m below = record {
  number =
      λ x.
      ap (λ n. plus n (plus (sum_at x left) (sum_at x (t ∷ right)))) (one_more x made s) ∙ moved_left (sum_at x made) (times s.1 (x s.0)) (sum_at x left) (sum_at x (t ∷ right)) ∙ ap (λ n. plus (sum_at x made) (plus n (sum_at x (t ∷ right)))) (sym (sum_at_more x s left)) ∙ m.number x;
  bound = suc s.0;
  joins = joined made m.bound s m.joins m.left_terms.0 m.left_terms.1;
  left_terms = m.left_terms.2;
  right_terms = (let first : suc s.0 ≤ t.0 = omega arith in first, m.right_terms.1, m.right_terms.2);
  columns = λ n p q. let all = m.columns n p q in (columns_append n made (s ∷ []) all.0 (all.1.0, all.1.1, tt), all.1.2, all.2);
  within =
      (λ h. m.within.0 (no_column s (t ∷ right) t.0 below (let first : t.0 ≤ t.0 = omega arith in first, m.right_terms.1, m.right_terms.2), h), λ h. (m.within.1 h).1);
}

-- the second list's column is the lower one
pub take_right : (xs ys made left right : List Term) (s t : Term) → IsMerging xs ys made (s ∷ left) (t ∷ right) → t.0 < s.0 → IsMerging xs ys (made ++ t ∷ []) (s ∷ left) right
take_right xs ys made left right s t m below =
    let rest = without_right (s ∷ left) t right s.0 below (let first : s.0 ≤ s.0 = omega arith in first, m.left_terms.1, m.left_terms.2) in
    record {
      number =
          λ x.
          ap (λ n. plus n (plus (sum_at x (s ∷ left)) (sum_at x right))) (one_more x made t) ∙ moved_right (sum_at x made) (times t.1 (x t.0)) (sum_at x (s ∷ left)) (sum_at x right) ∙ ap (λ n. plus (sum_at x made) (plus (sum_at x (s ∷ left)) n)) (sym (sum_at_more x t right)) ∙ m.number x;
      bound = suc t.0;
      joins = joined made m.bound t m.joins m.right_terms.0 m.right_terms.1;
      left_terms = (let first : suc t.0 ≤ s.0 = omega arith in first, m.left_terms.1, m.left_terms.2);
      right_terms = m.right_terms.2;
      columns = λ n p q. let all = m.columns n p q in (columns_append n made (t ∷ []) all.0 (all.2.0, all.2.1, tt), all.1, all.2.2);
      within = (λ h. m.within.0 (rest.0 h), λ h. rest.1 (m.within.1 h));
    }

-- ---- columns that stand in both lists

-- the rest of two lists that begin with one column
same_column : (left right : List Term) (s t : Term) → AreTermsFrom (suc s.0) left → AreTermsFrom (suc t.0) right → s.0 ≡ t.0 → IsTrue (is_sum_within s.1 t.1) → HaveSumsWithin left right ↔ HaveSumsWithin (s ∷ left) (t ∷ right)
same_column left right s t p q e within =
    let rest = without_right left t right (suc s.0) (omega arith) p in
    (λ h. ((λ _. within, no_column s right (suc t.0) (omega arith) q), rest.0 h), λ h. rest.1 h.1)

-- the coefficients' sum at an assignment
both_times : (x : ColumnNumbers) (s t : Term) → s.0 ≡ t.0 → times (plus s.1 t.1) (x s.0) ≡ plus (times s.1 (x s.0)) (times t.1 (x t.0))
both_times x s t e =
    plus_times s.1 t.1 (x s.0) ∙ ap (λ j. plus (times s.1 (x s.0)) (times t.1 (x j))) e

-- one column whose coefficients have a sum that is not 0
pub take_both : (xs ys made left right : List Term) (s t : Term) (q : Rational) → IsMerging xs ys made (s ∷ left) (t ∷ right) → s.0 ≡ t.0 → IsTrue (is_sum_within s.1 t.1) → q ≡ plus s.1 t.1 → q ≢ zero → IsMerging xs ys (made ++ (s.0, q) ∷ []) left right
take_both xs ys made left right s t q m e within is some =
    let rest = same_column left right s t m.left_terms.2 m.right_terms.2 e within in
    record {
      number =
          λ x.
          ap (λ n. plus n (plus (sum_at x left) (sum_at x right))) (one_more x made (s.0, q) ∙ ap (λ n. plus (sum_at x made) (plus n zero)) (ap (λ n. times n (x s.0)) is ∙ both_times x s t e)) ∙ moved_both (sum_at x made) (times s.1 (x s.0)) (times t.1 (x t.0)) (sum_at x left) (sum_at x right) ∙ ap₂ (λ m n. plus (sum_at x made) (plus m n)) (sym (sum_at_more x s left)) (sym (sum_at_more x t right)) ∙ m.number x;
      bound = suc s.0;
      joins = joined made m.bound (s.0, q) m.joins m.left_terms.0 some;
      left_terms = m.left_terms.2;
      right_terms = lower_from (suc s.0) (suc t.0) right (omega arith) m.right_terms.2;
      columns = λ n p r. let all = m.columns n p r in (columns_append n made ((s.0, q) ∷ []) all.0 (all.1.0, all.1.1, tt), all.1.2, all.2.2);
      within = (λ h. m.within.0 (rest.0 h), λ h. rest.1 (m.within.1 h));
    }

-- one column whose coefficients add up to 0
pub drop_both : (xs ys made left right : List Term) (s t : Term) → IsMerging xs ys made (s ∷ left) (t ∷ right) → s.0 ≡ t.0 → IsTrue (is_sum_within s.1 t.1) → zero ≡ plus s.1 t.1 → IsMerging xs ys made left right
drop_both xs ys made left right s t m e within is =
    let rest = same_column left right s t m.left_terms.2 m.right_terms.2 e within in
    let first : m.bound ≤ s.0 = m.left_terms.0 in
    let other : m.bound ≤ t.0 = m.right_terms.0 in
    record {
      number =
          λ x.
          ap (λ n. plus n (plus (sum_at x left) (sum_at x right))) (sym (plus_zero (sum_at x made)) ∙ ap (plus (sum_at x made)) (sym (plus_zero zero) ∙ ap (λ n. plus n zero) (sym (zero_times (x s.0)) ∙ ap (λ n. times n (x s.0)) is ∙ both_times x s t e))) ∙ moved_both (sum_at x made) (times s.1 (x s.0)) (times t.1 (x t.0)) (sum_at x left) (sum_at x right) ∙ ap₂ (λ m n. plus (sum_at x made) (plus m n)) (sym (sum_at_more x s left)) (sym (sum_at_more x t right)) ∙ m.number x;
      bound = m.bound;
      joins = m.joins;
      left_terms = lower_from m.bound (suc s.0) left (omega arith) m.left_terms.2;
      right_terms = lower_from m.bound (suc t.0) right (omega arith) m.right_terms.2;
      columns = λ n p q. let all = m.columns n p q in (all.0, all.1.2, all.2.2);
      within = (λ h. m.within.0 (rest.0 h), λ h. rest.1 (m.within.1 h));
    }

-- one column whose coefficients have no sum
pub both_past : (xs ys made left right : List Term) (s t : Term) → IsMerging xs ys made (s ∷ left) (t ∷ right) → s.0 ≡ t.0 → ¬ IsTrue (is_sum_within s.1 t.1) → ¬ HaveSumsWithin xs ys
both_past xs ys made left right s t m e past h = past ((m.within.1 h).0.0 e)

-- ---- the end

alone : (left : List Term) → HaveSumsWithin left []
alone [] = tt
alone (s ∷ left) = (tt, alone left)

pub append_none : (ts : List Term) → ts ++ [] ≡ ts
append_none [] = refl
append_none (t ∷ ts) = ap (λ (r : List Term). t ∷ r) (append_none ts)

-- no terms are left in the first list
pub right_left : (xs ys made right : List Term) → IsMerging xs ys made [] right → IsMerged xs ys ((made ++ []) ++ right)
right_left xs ys made right m =
    subst
    (λ (ts : List Term). IsMerged xs ys (ts ++ right))
    (sym (append_none made))
    (record {
      number = λ x. sum_at_append x made right ∙ ap (plus (sum_at x made)) (sym (zero_plus (sum_at x right)) ∙ ap (λ n. plus n (sum_at x right)) (sym (sum_at_none x))) ∙ m.number x;
      terms = m.joins right m.right_terms;
      columns = λ n p q. let all = m.columns n p q in columns_append n made right all.0 all.2;
      within = m.within.0 tt;
    })

-- no terms are left in the second list
pub left_left : (xs ys made left : List Term) → IsMerging xs ys made left [] → IsMerged xs ys ((made ++ left) ++ [])
left_left xs ys made left m =
    subst
    (IsMerged xs ys)
    (sym (append_none (made ++ left)))
    (record {
      number = λ x. sum_at_append x made left ∙ ap (plus (sum_at x made)) (sym (plus_zero (sum_at x left)) ∙ ap (plus (sum_at x left)) (sym (sum_at_none x))) ∙ m.number x;
      terms = m.joins left m.left_terms;
      columns = λ n p q. let all = m.columns n p q in columns_append n made left all.0 all.1;
      within = m.within.0 (alone left);
    })

-- ---- the lists as a call gives them

-- one column that stands in both lists, whose sum was put at the end
pub push_both : (xs ys made left right : List Term) (s t : Term) (new : List Term) → IsMerging xs ys made (s ∷ left) (t ∷ right) → s.0 ≡ t.0 → PushesSum made s t new → IsMerging xs ys new left right
push_both xs ys made left right s t new m e pushes =
    elim (same_or_other (plus s.1 t.1) zero) [
      | inl is ↦
          subst
          (λ (ts : List Term). IsMerging xs ys ts left right)
          (sym (pushes.dropped is))
          (drop_both xs ys made left right s t m e pushes.within (sym is))
      | inr some ↦
          subst
          (λ (ts : List Term). IsMerging xs ys ts left right)
          (sym (pushes.pushed some))
          (take_both xs ys made left right s t (plus s.1 t.1) m e pushes.within refl some)
    ]

-- a step that takes the first list's term
pub left_step : (xs ys made new l r left right : List Term) (s t : Term) → IsMerging xs ys made l r → l ≡ s ∷ left → r ≡ t ∷ right → s.0 < t.0 → new ≡ made ++ s ∷ [] → IsMerging xs ys new left r
left_step xs ys made new l r left right s t m e f below g =
    subst₂
    (λ (ts us : List Term). IsMerging xs ys ts left us)
    (sym g)
    (sym f)
    (take_left xs ys made left right s t (subst₂ (IsMerging xs ys made) e f m) below)

-- a step that takes the second list's term
pub right_step : (xs ys made new l r left right : List Term) (s t : Term) → IsMerging xs ys made l r → l ≡ s ∷ left → r ≡ t ∷ right → t.0 < s.0 → new ≡ made ++ t ∷ [] → IsMerging xs ys new l right
right_step xs ys made new l r left right s t m e f below g =
    subst₂
    (λ (ts us : List Term). IsMerging xs ys ts us right)
    (sym g)
    (sym e)
    (take_right xs ys made left right s t (subst₂ (IsMerging xs ys made) e f m) below)

-- a step that takes both terms
pub both_step : (xs ys made new l r left right : List Term) (s t : Term) → IsMerging xs ys made l r → l ≡ s ∷ left → r ≡ t ∷ right → s.0 ≡ t.0 → PushesSum made s t new → IsMerging xs ys new left right
both_step xs ys made new l r left right s t m e f same pushes =
    push_both xs ys made left right s t new (subst₂ (IsMerging xs ys made) e f m) same pushes

-- a step at which there is no sum
pub past_step : (xs ys made l r left right : List Term) (s t : Term) → IsMerging xs ys made l r → l ≡ s ∷ left → r ≡ t ∷ right → s.0 ≡ t.0 → ¬ IsTrue (is_sum_within s.1 t.1) → ¬ HaveSumsWithin xs ys
past_step xs ys made l r left right s t m e f same past =
    both_past xs ys made left right s t (subst₂ (IsMerging xs ys made) e f m) same past

-- the end, at which one list is empty and what is left of both is appended
pub right_end : (xs ys made once twice l r : List Term) → IsMerging xs ys made l r → l ≡ [] → once ≡ made ++ l → twice ≡ once ++ r → IsMerged xs ys twice
right_end xs ys made once twice l r m e f g =
    subst
    (IsMerged xs ys)
    (sym (g ∙ ap (λ (ts : List Term). ts ++ r) (f ∙ ap (λ (ts : List Term). made ++ ts) e)))
    (right_left xs ys made r (subst (λ (ts : List Term). IsMerging xs ys made ts r) e m))

pub left_end : (xs ys made once twice l r : List Term) → IsMerging xs ys made l r → r ≡ [] → once ≡ made ++ l → twice ≡ once ++ r → IsMerged xs ys twice
left_end xs ys made once twice l r m e f g =
    subst
    (IsMerged xs ys)
    (sym (g ∙ ap₂ (λ (ts us : List Term). ts ++ us) f e))
    (left_left xs ys made l (subst (λ (ts : List Term). IsMerging xs ys made l ts) e m))
