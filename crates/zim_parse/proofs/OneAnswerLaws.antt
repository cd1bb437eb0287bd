-- The same tokens have one answer at most, and a fault stands at one of them.
use Rattle.std.proofs.Common.{◌≡◌, ℕ, Bool, true, false, if◌then◌else◌, List, [], ◌∷◌, Option, Some, None, refl, sym, ap, ◌∙◌, subst, arith}
use Rattle.std.specs.Prelude.{◌+◌, nat_lt}
use Rattle.std.specs.List.{Contains}
use Rattle.std.proofs.lemmas.List.Elements.{Contains-get_or, Contains-append_right}
use Rattle.std.proofs.lemmas.Option.{none-some, same_Some}
use Rattle.zim_fault.specs.declared.faults.Place.{Place}
use Rattle.zim_fault.specs.declared.kinds.Kind.TheVariants.{Unsupported, Deep}
use Rattle.zim_fault.specs.declared.tokens.Placed.{Placed}
use Rattle.zim_fault.specs.declared.words.Word.{Word}
use Rattle.zim_scan.specs.Nesting.{class_at}
use Rattle.zim_scan.specs.Refused.{refused_in, refused_or, first_refused}
use Rattle.zim_scan.specs.Nesting.{open_behind, loops_behind, deepest, first_deep}
use Rattle.zim_parse.specs.Answers.{fault_at, an_unsupported_word, too_deep, no_statement}
use Rattle.zim_parse.specs.AnswerLaw.{AcceptedAsOne, AcceptedIsNotRefused, RefusedWithOne, places_of, FaultIsAtToken}
use Rattle.zim_parse.proofs.WholeStatement.{same_statement}

pub accepted_as_one : AcceptedAsOne
accepted_as_one ts a b h k = same_statement h.reads k.reads

-- an option is not nothing and something
not_both : {A : Type 0} {o : Option A} (x : A) → o ≡ None → o ≡ Some x → ⊥
not_both x none some = none-some x (sym none ∙ some)

pub accepted_is_not_refused : AcceptedIsNotRefused
accepted_is_not_refused ts s f h (an_unsupported_word p w k) = not_both (p, w) h.supported k
accepted_is_not_refused ts s f h (too_deep p none k) = not_both p h.not_deep k
accepted_is_not_refused ts s f h (no_statement none shallow k) = k s h.reads

pub refused_with_one : RefusedWithOne
refused_with_one ts f g (an_unsupported_word p w h) (an_unsupported_word q v k) =
    ap (λ (x : Place × Word). fault_at x.0 (Unsupported x.1)) (same_Some (p, w) (q, v) (sym h ∙ k))
refused_with_one ts f g (an_unsupported_word p w h) (too_deep q none k) = absurd (not_both (p, w) none h)
refused_with_one ts f g (an_unsupported_word p w h) (no_statement none shallow k) = absurd (not_both (p, w) none h)
refused_with_one ts f g (too_deep p none h) (an_unsupported_word q v k) = absurd (not_both (q, v) none k)
refused_with_one ts f g (too_deep p none h) (too_deep q also k) = ap (λ (x : Place). fault_at x Deep) (same_Some p q (sym h ∙ k))
refused_with_one ts f g (too_deep p none h) (no_statement also shallow k) = absurd (not_both p shallow h)
refused_with_one ts f g (no_statement none shallow h) (an_unsupported_word q v k) = absurd (not_both (q, v) none k)
refused_with_one ts f g (no_statement none shallow h) (too_deep q also k) = absurd (not_both q shallow k)
refused_with_one ts f g (no_statement none shallow h) (no_statement also deep k) = refl

-- a list's first element is one of its elements
the_first : (t : Placed) (rest : List Placed) → Contains (places_of (t ∷ rest)) t.place
the_first t rest = Contains-get_or (places_of (t ∷ rest)) 0 t.place (omega arith)

-- what is an element of the rest is one of the whole
one_later : (t : Placed) (rest : List Placed) (p : Place) → Contains (places_of rest) p → Contains (places_of (t ∷ rest)) p
one_later t rest p h = Contains-append_right (t.place ∷ []) (places_of rest) p h

refused_or_place : (t : Placed) (rest : List Placed) (here : Option Word) (later : Option (Place × Word)) (p : Place) (w : Word) → refused_or t here later ≡ Some (p, w) →
    (later ≡ Some (p, w) → Contains (places_of rest) p) → Contains (places_of (t ∷ rest)) p
refused_or_place t rest None later p w h k = one_later t rest p (k h)
refused_or_place t rest (Some v) later p w h k =
    let same : (t.place, v) ≡ (p, w) = same_Some (t.place, v) (p, w) h in
    subst (λ (x : Place × Word). Contains (places_of (t ∷ rest)) x.0) same (the_first t rest)

refused_place : (ts : List Placed) (p : Place) (w : Word) → first_refused ts ≡ Some (p, w) → Contains (places_of ts) p
unfolding first_refused
refused_place [] p w h = absurd (none-some (p, w) h)
refused_place (t ∷ rest) p w h = refused_or_place t rest (refused_in t.token) (first_refused rest) p w h (refused_place rest p w)

deep_or_place : (t : Placed) (rest : List Placed) (here : Bool) (later : Option Place) (p : Place) → (if here then Some t.place else later) ≡ Some p →
    (later ≡ Some p → Contains (places_of rest) p) → Contains (places_of (t ∷ rest)) p
deep_or_place t rest false later p h k = one_later t rest p (k h)
deep_or_place t rest true later p h k = subst (λ (x : Place). Contains (places_of (t ∷ rest)) x) (same_Some t.place p h) (the_first t rest)

deep_place : (open_before loops : ℕ) (ts : List Placed) (p : Place) → first_deep open_before loops ts ≡ Some p → Contains (places_of ts) p
unfolding first_deep
deep_place open_before loops [] p h = absurd (none-some p h)
deep_place open_before loops (t ∷ rest) p h =
    deep_or_place t rest (nat_lt deepest (open_behind (class_at t) open_before + loops_behind (class_at t) rest loops))
    (first_deep (open_behind (class_at t) open_before) (loops_behind (class_at t) rest loops) rest) p h
    (deep_place (open_behind (class_at t) open_before) (loops_behind (class_at t) rest loops) rest p)

pub fault_is_at_token : FaultIsAtToken
fault_is_at_token ts f (an_unsupported_word p w h) = refused_place ts p w h
fault_is_at_token ts f (too_deep p none h) = deep_place 0 0 ts p h
fault_is_at_token ts f (no_statement {t = t} {rest = rest} none shallow h) = the_first t rest
