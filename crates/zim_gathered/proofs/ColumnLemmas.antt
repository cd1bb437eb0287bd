-- Terms in column order as the entries of a tree: a coefficient that is put at its column, or taken out, is the term that is added.
use Rattle.std.proofs.Common.{ℕ, suc, ◌≡◌, ◌<◌, ◌≤◌, ◌+◌, ◌++◌, length, take, drop, get_or, add-one, drop-cons, Bool, true, false, not, ◌&&◌, ◌||◌, IsFalse, IsTrue, nat_lt, nat_eq, List, [], ◌∷◌, Option, None, Some, inl, inr, refl, ap, ap₂, sym, ◌∙◌, subst, arith, nat_cmp, Ordering, Less, Equal, Greater, lt-ltb, le-ltb, eq-eqb, ne_eqb}
use Rattle.std.specs.Ordering.{is_eq, match_ordering}
use Rattle.std.specs.List.{list_all}
use Rattle.std.specs.Map.{lookup, remove_entry}
use Rattle.std.specs.BTreeMap.{is_at, insert_entry}
use Rattle.std.proofs.lemmas.Bool.{cases_order, cond-true, cond-false, and_from, or_left, not_from_false}
use Rattle.std.proofs.lemmas.List.{take-append-drop, take_more}
use Rattle.std.proofs.lemmas.Map.Entries.{lookup_head, lookup_tail}
use Rattle.zim_rational.specs.Rational.{Rational, zero, plus, same}
use Rattle.zim_fraction.specs.Limit.{is_sum_within}
use Rattle.zim_linear.specs.Forms.{Term, AreTermsFrom}
use Rattle.zim_forms.specs.Algebra.{with_term}
use Rattle.zim_gathered.specs.Added.{one_within}

-- ---- how a column stands to the first one

below : (j k : ℕ) → j < k → nat_cmp j k ≡ Less
below j k h = cond-true (nat_lt j k) Less _ (lt-ltb j k h)

same_column : (j k : ℕ) → j ≡ k → nat_cmp j k ≡ Equal
same_column j k e = cond-false (nat_lt j k) Less _ (le-ltb j k (omega arith)) ∙ cond-true (nat_eq j k) Equal Greater (eq-eqb j k e)

above : (j k : ℕ) → k < j → nat_cmp j k ≡ Greater
above j k h = cond-false (nat_lt j k) Less _ (le-ltb j k (omega arith)) ∙ cond-false (nat_eq j k) Equal Greater (ne_eqb j k (λ e. omega arith))

-- the entries for which a column is looked
abbrev at : ℕ → ℕ → Bool
at j = is_at (nat_cmp j)

-- what terms have at a column
abbrev pub coefficient_at : ℕ → List Term → Option Rational
coefficient_at j es = lookup (at j) es

from_first : (n : ℕ) (u : Term) (us : List Term) → AreTermsFrom n (u ∷ us) → AreTermsFrom u.0 (u ∷ us)
from_first n u us h = let le : u.0 ≤ u.0 = omega arith in (le, h.1, h.2)

none_below : (n j : ℕ) (es : List Term) → j < n → AreTermsFrom n es → coefficient_at j es ≡ None
none_below n j [] lt h = refl
none_below n j (u ∷ us) lt h =
    let first : n ≤ u.0 = h.0 in
    let less : j < u.0 = omega arith in
    lookup_tail (at j) u us (ap is_eq (below j u.0 less)) ∙ none_below (suc u.0) j us (omega arith) h.2

-- ---- a coefficient that isn't 0, put at its column

-- what is put at the column of a further coefficient
abbrev pub put : Option Rational → Rational → Rational
put None more = more
put (Some coefficient) more = plus coefficient more

pub put_is : (n j : ℕ) (q r : Rational) (es : List Term) → AreTermsFrom n es → r ≡ put (coefficient_at j es) q → IsFalse (same r zero) → insert_entry nat_cmp es j r ≡ with_term (j, q) es
unfolding with_term
put_is n j q r [] h is some =
    ap (λ (x : Rational). (j, x) ∷ []) is ∙ sym (cond-false (same q zero) [] ((j, q) ∷ []) (subst (λ (x : Rational). IsFalse (same x zero)) is some))
put_is n j q r (u ∷ us) h is some =
    let by : Ordering → List Term = λ o. match_ordering o ((j, r) ∷ u ∷ us) ((u.0, r) ∷ us) (u ∷ insert_entry nat_cmp us j r) in
    let put_at : (o : Option Rational) → coefficient_at j (u ∷ us) ≡ o → r ≡ put o q = λ o e. is ∙ ap (λ (o : Option Rational). put o q) e in
    elim (cases_order j u.0) [
      | inl e ↦
          let r_is : r ≡ plus u.1 q = put_at (Some u.1) (lookup_head (at j) u us (ap is_eq (same_column j u.0 e))) in
          ap by (same_column j u.0 e)
          ∙ ap (λ (x : Rational). (u.0, x) ∷ us) r_is
          ∙ sym (cond-false (nat_lt u.0 j) _ _ (le-ltb u.0 j (omega arith)) ∙ cond-true (nat_eq u.0 j) _ _ (eq-eqb u.0 j (sym e)) ∙ cond-false (same (plus u.1 q) zero) us _ (subst (λ (x : Rational). IsFalse (same x zero)) r_is some))
      | inr (inl lt) ↦
          let r_is : r ≡ q = put_at None (none_below u.0 j (u ∷ us) lt (from_first n u us h)) in
          ap by (below j u.0 lt)
          ∙ ap (λ (x : Rational). (j, x) ∷ u ∷ us) r_is
          ∙ sym (cond-false (nat_lt u.0 j) _ _ (le-ltb u.0 j (omega arith)) ∙ cond-false (nat_eq u.0 j) _ _ (ne_eqb u.0 j (λ e. omega arith)) ∙ cond-false (same q zero) (u ∷ us) _ (subst (λ (x : Rational). IsFalse (same x zero)) r_is some))
      | inr (inr gt) ↦
          ap by (above j u.0 gt)
          ∙ ap (λ (vs : List Term). u ∷ vs) (put_is (suc u.0) j q r us h.2 (put_at (coefficient_at j us) (lookup_tail (at j) u us (ap is_eq (above j u.0 gt)))) some)
          ∙ sym (cond-true (nat_lt u.0 j) _ _ (lt-ltb u.0 j gt))
    ]

-- ---- a coefficient that comes to 0, taken out

none_out : (n j : ℕ) (es : List Term) → j < n → AreTermsFrom n es → remove_entry (at j) es ≡ es
none_out n j [] lt h = refl
none_out n j (u ∷ us) lt h =
    let first : n ≤ u.0 = h.0 in
    let less : j < u.0 = omega arith in
    cond-false (at j u.0) us _ (ap is_eq (below j u.0 less)) ∙ ap (λ (vs : List Term). u ∷ vs) (none_out (suc u.0) j us (omega arith) h.2)

pub out_is : (n j : ℕ) (q r : Rational) (es : List Term) → AreTermsFrom n es → r ≡ put (coefficient_at j es) q → IsTrue (same r zero) → remove_entry (at j) es ≡ with_term (j, q) es
unfolding with_term
out_is n j q r [] h is none = sym (cond-true (same q zero) [] ((j, q) ∷ []) (subst (λ (x : Rational). IsTrue (same x zero)) is none))
out_is n j q r (u ∷ us) h is none =
    let put_at : (o : Option Rational) → coefficient_at j (u ∷ us) ≡ o → r ≡ put o q = λ o e. is ∙ ap (λ (o : Option Rational). put o q) e in
    elim (cases_order j u.0) [
      | inl e ↦
          let r_is : r ≡ plus u.1 q = put_at (Some u.1) (lookup_head (at j) u us (ap is_eq (same_column j u.0 e))) in
          cond-true (at j u.0) us _ (ap is_eq (same_column j u.0 e))
          ∙ sym (cond-false (nat_lt u.0 j) _ _ (le-ltb u.0 j (omega arith)) ∙ cond-true (nat_eq u.0 j) _ _ (eq-eqb u.0 j (sym e)) ∙ cond-true (same (plus u.1 q) zero) us _ (subst (λ (x : Rational). IsTrue (same x zero)) r_is none))
      | inr (inl lt) ↦
          let r_is : r ≡ q = put_at None (none_below u.0 j (u ∷ us) lt (from_first n u us h)) in
          none_out u.0 j (u ∷ us) lt (from_first n u us h)
          ∙ sym (cond-false (nat_lt u.0 j) _ _ (le-ltb u.0 j (omega arith)) ∙ cond-false (nat_eq u.0 j) _ _ (ne_eqb u.0 j (λ e. omega arith)) ∙ cond-true (same q zero) (u ∷ us) _ (subst (λ (x : Rational). IsTrue (same x zero)) r_is none))
      | inr (inr gt) ↦
          cond-false (at j u.0) us _ (ap is_eq (above j u.0 gt))
          ∙ ap (λ (vs : List Term). u ∷ vs) (out_is (suc u.0) j q r us h.2 (put_at (coefficient_at j us) (lookup_tail (at j) u us (ap is_eq (above j u.0 gt)))) none)
          ∙ sym (cond-true (nat_lt u.0 j) _ _ (lt-ltb u.0 j gt))
    ]

-- ---- whether a term fits is decided at its column

-- a further coefficient fits where the sum with the one before is within the limit
abbrev pub fits_at : Option Rational → Rational → Bool
fits_at None more = true
fits_at (Some coefficient) more = is_sum_within coefficient more

abbrev pub fits : Term → List Term → Bool
fits t es = list_all (λ (s : Term). one_within s t) es

fits_apart : (u t : Term) → (u.0 ≡ t.0 → ⊥) → one_within u t ≡ true
fits_apart u t ne = or_left (not (nat_eq u.0 t.0)) (is_sum_within u.1 t.1) (not_from_false (nat_eq u.0 t.0) (ne_eqb u.0 t.0 ne))

fits_below : (n : ℕ) (t : Term) (es : List Term) → t.0 < n → AreTermsFrom n es → fits t es ≡ true
fits_below n t [] lt h = refl
fits_below n t (u ∷ us) lt h =
    let first : n ≤ u.0 = h.0 in
    and_from (one_within u t) (fits t us) (fits_apart u t (λ e. omega arith)) (fits_below (suc u.0) t us (omega arith) h.2)

and_true : (b : Bool) → (b && true) ≡ b
and_true true = refl
and_true false = refl

pub fits_is : (n : ℕ) (t : Term) (es : List Term) → AreTermsFrom n es → fits t es ≡ fits_at (coefficient_at t.0 es) t.1
fits_is n t [] h = refl
fits_is n t (u ∷ us) h =
    let found : (o : Option Rational) → coefficient_at t.0 (u ∷ us) ≡ o → fits_at o t.1 ≡ fits_at (coefficient_at t.0 (u ∷ us)) t.1 = λ o e. ap (λ (o : Option Rational). fits_at o t.1) (sym e) in
    elim (cases_order t.0 u.0) [
      | inl e ↦
          ap₂ (λ (b c : Bool). (not b || is_sum_within u.1 t.1) && c) (eq-eqb u.0 t.0 (sym e)) (fits_below (suc u.0) t us (omega arith) h.2)
          ∙ and_true (is_sum_within u.1 t.1)
          ∙ found (Some u.1) (lookup_head (at t.0) u us (ap is_eq (same_column t.0 u.0 e)))
      | inr (inl lt) ↦ fits_below u.0 t (u ∷ us) lt (from_first n u us h) ∙ found None (none_below u.0 t.0 (u ∷ us) lt (from_first n u us h))
      | inr (inr gt) ↦
          ap (λ (b : Bool). b && fits t us) (fits_apart u t (λ e. omega arith))
          ∙ fits_is (suc u.0) t us h.2
          ∙ found (coefficient_at t.0 us) (lookup_tail (at t.0) u us (ap is_eq (above t.0 u.0 gt)))
    ]

-- ---- terms in order, each put behind those before it

behind : (n j : ℕ) (q : Rational) (es rest : List Term) → AreTermsFrom n (es ++ (j, q) ∷ rest) → n ≤ j
behind n j q [] rest h = h.0
behind n j q (u ∷ us) rest h =
    let first : n ≤ u.0 = h.0 in
    let next : suc u.0 ≤ j = behind (suc u.0) j q us rest h.2 in
    omega arith

insert_behind : (n j : ℕ) (q : Rational) (es rest : List Term) → AreTermsFrom n (es ++ (j, q) ∷ rest) → insert_entry nat_cmp es j q ≡ es ++ (j, q) ∷ []
insert_behind n j q [] rest h = refl
insert_behind n j q (u ∷ us) rest h =
    let next : suc u.0 ≤ j = behind (suc u.0) j q us rest h.2 in
    ap (λ (o : Ordering). match_ordering o ((j, q) ∷ u ∷ us) ((u.0, q) ∷ us) (u ∷ insert_entry nat_cmp us j q)) (above j u.0 (omega arith))
    ∙ ap (λ (vs : List Term). u ∷ vs) (insert_behind (suc u.0) j q us rest h.2)

pub one_behind : (terms made new : List Term) (i : ℕ) (t : Term) → i < length terms → t ≡ get_or terms i t → AreTermsFrom 0 terms → made ≡ take i terms → new ≡ insert_entry nat_cmp made t.0 t.1 → new ≡ take (i + 1) terms
one_behind terms made new i t lt is h so_far put =
    let cut : drop i terms ≡ t ∷ drop (i + 1) terms = rw (add-one, drop-cons terms i t lt, sym is) refl in
    let all : take i terms ++ t ∷ drop (i + 1) terms ≡ terms = ap (λ (vs : List Term). take i terms ++ vs) (sym cut) ∙ take-append-drop i terms in
    put
    ∙ ap (λ (es : List Term). insert_entry nat_cmp es t.0 t.1) so_far
    ∙ insert_behind 0 t.0 t.1 (take i terms) (drop (i + 1) terms) (subst (AreTermsFrom 0) (sym all) h)
    ∙ ap (λ (u : Term). take i terms ++ u ∷ []) is
    ∙ sym (take_more terms i t lt)
