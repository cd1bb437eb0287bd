-- Terms that are added one after another are the terms of the sum of two forms, past where the sum is.
use Rattle.std.proofs.Common.{ℕ, suc, ◌≡◌, ◌<◌, ◌≤◌, Bool, true, false, cond, not, ◌&&◌, nat_lt, nat_eq, IsTrue, IsFalse, List, [], ◌∷◌, Result, Ok, Err, refl, ap, ap₂, sym, ◌∙◌, arith}
use Rattle.std.specs.List.{list_all}
use Rattle.std.proofs.lemmas.Bool.{and_from, or_left, not_from_false, ne_eqb, eqb-true}
use Rattle.zim_answer.specs.Answer.{◌>>=◌, goes}
use Rattle.zim_answer.specs.Gives.{Stops}
use Rattle.zim_rational.specs.Rational.{Rational, zero, plus, same}
use Rattle.zim_fraction.specs.Answers.{sum_answer}
use Rattle.zim_fraction.specs.Limit.{is_sum_within}
use Rattle.zim_fraction.specs.declared.fault.Past.{Past}
use Rattle.zim_linear.specs.Forms.{Term, LinearForm, form_of, AreTerms, AreTermsFrom}
use Rattle.zim_linear.specs.declared.faults.LinFault.{LinFault}
use Rattle.zim_linear.specs.declared.faults.LinFault.TheVariants as refusal
use Rattle.zim_forms.specs.Algebra.{with_term, with_terms, form_sum, form_cause}
use Rattle.zim_gathered.specs.Added.{one_within, term_added}
use Rattle.zim_gathered.proofs.ColumnLemmas.{fits}

-- whether a term and all of others fit
abbrev pub row : List Term → Term → Bool
row ts s = list_all (one_within s) ts

abbrev pub all_fit : List Term → List Term → Bool
all_fit es ts = list_all (row ts) es

-- ---- one term, and the others behind it

row_below : (n : ℕ) (s : Term) (ts : List Term) → s.0 < n → AreTermsFrom n ts → row ts s ≡ true
row_below n s [] lt h = refl
row_below n s (t ∷ ts) lt h =
    let first : n ≤ t.0 = h.0 in
    and_from (one_within s t) (row ts s) (or_left (not (nat_eq s.0 t.0)) (is_sum_within s.1 t.1) (not_from_false (nat_eq s.0 t.0) (ne_eqb s.0 t.0 (λ e. omega arith)))) (row_below (suc t.0) s ts (omega arith) h.2)

pick : (P : List Term → Type 0) (b : Bool) (xs ys : List Term) → (IsTrue b → P xs) → (IsFalse b → P ys) → P (cond b xs ys)
pick P true xs ys f g = f refl
pick P false xs ys f g = g refl

-- a term before all others changes nothing for them
after_one : (t : Term) (ts es : List Term) → AreTermsFrom (suc t.0) ts → all_fit (with_term t es) ts ≡ all_fit es ts
unfolding with_term
after_one t ts [] h =
    pick (λ us. all_fit us ts ≡ true) (same t.1 zero) [] (t ∷ []) (λ _. refl) (λ _. and_from (row ts t) true (row_below (suc t.0) t ts (omega arith) h) refl)
after_one t ts (u ∷ us) h =
    let P : List Term → Type 0 = λ vs. all_fit vs ts ≡ all_fit (u ∷ us) ts in
    let beside : (q : Rational) → row ts (u.0, q) ≡ true → IsTrue (nat_eq u.0 t.0) → row ts u ≡ true = λ q _ e. row_below (suc t.0) u ts (let same_one : u.0 ≡ t.0 = eqb-true u.0 t.0 e in omega arith) h in
    pick P (nat_lt u.0 t.0) (u ∷ with_term t us) _ (λ _. ap (λ (b : Bool). row ts u && b) (after_one t ts us h))
    (λ _.
    pick P (nat_eq u.0 t.0) _ _
    (λ e.
    let same_one : u.0 ≡ t.0 = eqb-true u.0 t.0 e in
    let old : row ts u ≡ true = row_below (suc t.0) u ts (omega arith) h in
    let new : row ts (u.0, plus u.1 t.1) ≡ true = row_below (suc t.0) (u.0, plus u.1 t.1) ts (omega arith) h in
    pick P (same (plus u.1 t.1) zero) us ((u.0, plus u.1 t.1) ∷ us) (λ _. sym (ap (λ (b : Bool). b && all_fit us ts) old)) (λ _. ap (λ (b : Bool). b && all_fit us ts) (new ∙ sym old)))
    (λ _. pick P (same t.1 zero) (u ∷ us) (t ∷ u ∷ us) (λ _. refl) (λ _. ap (λ (b : Bool). b && all_fit (u ∷ us) ts) (row_below (suc t.0) t ts (omega arith) h))))

four : (a b c d : Bool) → ((a && b) && (c && d)) ≡ ((a && c) && (b && d))
four true true c d = refl
four true false true d = refl
four true false false d = refl
four false b c d = refl

first_apart : (t : Term) (ts es : List Term) → all_fit es (t ∷ ts) ≡ (fits t es && all_fit es ts)
first_apart t ts [] = refl
first_apart t ts (u ∷ us) =
    ap (λ (b : Bool). (one_within u t && row ts u) && b) (first_apart t ts us) ∙ four (one_within u t) (row ts u) (fits t us) (all_fit us ts)

none_more : (es : List Term) → all_fit es [] ≡ true
none_more [] = refl
none_more (u ∷ us) = none_more us

-- ---- all terms

abbrev pub answer : Bool → List Term → Result (List Term) Past
answer b es = cond b (Ok es) (Err (record {}))

one_then : (b c : Bool) (es : List Term) (next : List Term → Result (List Term) Past) (last : List Term) → next es ≡ answer c last → (answer b es >>= next) ≡ answer (b && c) last
one_then true c es next last h = h
one_then false c es next last h = refl

pub goes_is : (n : ℕ) (ts es : List Term) → AreTermsFrom n ts → goes term_added es ts ≡ answer (all_fit es ts) (with_terms es ts)
unfolding goes with_terms term_added
goes_is n [] es h = sym (ap (λ (b : Bool). answer b es) (none_more es))
goes_is n (t ∷ ts) es h =
    one_then (fits t es) (all_fit (with_term t es) ts) (with_term t es) (λ next. goes term_added next ts) (with_terms (with_term t es) ts) (goes_is (suc t.0) ts (with_term t es) h.2)
    ∙ ap (λ (b : Bool). answer (fits t es && b) (with_terms (with_term t es) ts)) (after_one t ts es h.2)
    ∙ ap (λ (b : Bool). answer b (with_terms (with_term t es) ts)) (sym (first_apart t ts es))

-- ---- the sum of two forms

-- the answer for two forms, by whether their terms fit and their constants do
abbrev both : Bool → Bool → LinearForm → Result LinearForm Past
both b w f = cond (b && w) (Ok f) (Err (record {}))

both_gave : (b w : Bool) (es new : List Term) (p q : Rational) → answer b es ≡ Ok new → ◌≡◌ {A = Result Rational Past} (Ok q) (cond w (Ok p) (Err (record {}))) → both b w (form_of es p) ≡ Ok (form_of new q)
both_gave true true es new p q h k =
    let terms : es ≡ new = cc in
    let constant : p ≡ q = cc in
    ap₂ (λ (us : List Term) (r : Rational). Ok (form_of us r)) terms constant
both_gave true false es new p q h k = cc
both_gave false w es new p q h k = cc

both_past : (b w : Bool) (es : List Term) (f : LinearForm) (past : Past) → answer b es ≡ Err past → both b w f ≡ Err past
both_past true w es f past h = cc
both_past false w es f past h = cc

constant_past : (b w : Bool) (f : LinearForm) (p : Rational) (past : Past) → ◌≡◌ {A = Result Rational Past} (Err past) (cond w (Ok p) (Err (record {}))) → both b w f ≡ Err past
constant_past b true f p past h = cc
constant_past true false f p past h = cc
constant_past false false f p past h = cc

pub sum_gave : (a more : LinearForm) (q : Rational) (new : List Term) → AreTerms more.terms → Ok q ≡ sum_answer a.constant more.constant → goes term_added a.terms more.terms ≡ Ok new → form_sum a more ≡ Ok (form_of new q)
unfolding form_sum sum_answer
sum_gave a more q new ordered constant given =
    both_gave (all_fit a.terms more.terms) (is_sum_within a.constant more.constant) (with_terms a.terms more.terms) new (plus a.constant more.constant) q (sym (goes_is 0 more.terms a.terms ordered) ∙ given) constant

pub sum_stops : (a more : LinearForm) (refused : LinFault) → AreTerms more.terms → Stops (goes term_added a.terms more.terms) (form_cause refused) → Stops (form_sum a more) (form_cause refused)
unfolding form_sum
sum_stops a more refusal.Past ordered stops =
    both_past (all_fit a.terms more.terms) (is_sum_within a.constant more.constant) (with_terms a.terms more.terms) (form_of (with_terms a.terms more.terms) (plus a.constant more.constant)) (record {}) (sym (goes_is 0 more.terms a.terms ordered) ∙ stops)
sum_stops a more refusal.Memory ordered stops = tt

pub sum_past : (a more : LinearForm) (past : Past) → Err past ≡ sum_answer a.constant more.constant → form_sum a more ≡ Err past
unfolding form_sum sum_answer
sum_past a more past h =
    constant_past (all_fit a.terms more.terms) (is_sum_within a.constant more.constant) (form_of (with_terms a.terms more.terms) (plus a.constant more.constant)) (plus a.constant more.constant) past h
