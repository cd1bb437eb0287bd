-- Which function a call finds, and that its body weighs less than what is known where it is called.
use Rattle.std.proofs.Common.{◌≡◌, ℕ, zero, suc, ◌+◌, ◌*◌, ◌<◌, ◌≤◌, Bool, true, false, List, [], ◌∷◌, length, slice_get, get_or, Option, Some, None, Err, option_map, nat_eq, inl, inr, refl, sym, ap, ◌∙◌, subst, arith}
use Rattle.std.specs.Prelude.{position, nat_lt, if◌then◌else◌}
use Rattle.std.specs.Cmp.Lexicographic.{pointwise, bytes_decides}
use Rattle.std.specs.List.{IsDistinct, position_or_len}
use Rattle.std.proofs.lemmas.Bool.{cases_lt, cases_eq, false_from_ne_true}
use Rattle.std.proofs.lemmas.List.{length-map}
use Rattle.std.proofs.lemmas.Grind.{common_steps}
use Rattle.std.proofs.lemmas.List.Quantifiers.{position-Some}
use Rattle.std.proofs.lemmas.List.Sums.{fails_before_first}
use Rattle.std.proofs.lemmas.Map.Made.{AllPairs-from_IsDistinct}
use Rattle.zim_eval.specs.Private.{found_call, weight}
use Rattle.zim_fault.specs.declared.faults.Place.{Place}
use Rattle.zim_fault.specs.declared.kinds.Kind.TheVariants.{NoEntry}
use Rattle.zim_functions.specs.Definitions.{defined_names}
use Rattle.zim_functions.specs.declared.definitions.Definition.{Definition}
use Rattle.zim_meaning.specs.Value.{is_defined_as, result_of, calls_of_first}
use Rattle.zim_meaning.specs.World.{World, fault_of}
use Rattle.zim_tuples.specs.declared.elements.Elem.{Elem}
use Rattle.zim_typed.specs.declared.constant.Const.{size-Const}

-- ---- names at positions

named_there : (fs : List Definition) (i : ℕ) (name d : List ℕ) → i < length fs → is_defined_as (slice_get fs i) name ≡ pointwise nat_eq name (get_or (defined_names fs) i d)
named_there [] i name d lt = absurd (omega (arith, lt))
named_there (f ∷ fs) zero name d lt = refl
named_there (f ∷ fs) (suc i) name d lt = named_there fs i name d (omega (arith, lt))

named_past : (fs : List Definition) (i : ℕ) (name : List ℕ) → length fs ≤ i → is_defined_as (slice_get fs i) name ≡ false
named_past [] i name le = refl
named_past (f ∷ fs) zero name le = absurd (omega (arith, le))
named_past (f ∷ fs) (suc i) name le = named_past fs i name (omega (arith, le))

none_passes : (t : List ℕ → Bool) (ks : List (List ℕ)) (k : ℕ) (d : List ℕ) → position t ks ≡ None → k < length ks → t (get_or ks k d) ≡ false
none_passes t ks k d e lt =
    let first : length ks ≤ position_or_len t ks = grind (arith, common_steps) in
    fails_before_first t ks k d (omega (arith, lt, first))

none_named : (fs : List Definition) (name : List ℕ) → position (pointwise nat_eq name) (defined_names fs) ≡ None → (i : ℕ) → is_defined_as (slice_get fs i) name ≡ false
none_named fs name e i = elim (cases_lt i (length fs)) [
  | inl lt ↦ named_there fs i name name lt ∙ none_passes (pointwise nat_eq name) (defined_names fs) i name e (rw (length-map fs (λ f. f.name)) lt)
  | inr past ↦ named_past fs i name past
]

first_named : (fs : List Definition) (name : List ℕ) (p : ℕ) → position (pointwise nat_eq name) (defined_names fs) ≡ Some p → (is_defined_as (slice_get fs p) name ≡ true) × ((i : ℕ) → i < p → is_defined_as (slice_get fs i) name ≡ false)
first_named fs name p e =
    let all = position-Some (pointwise nat_eq name) (defined_names fs) p name e in
    let inside : p < length fs = rw (length-map fs (λ f. f.name)) at all.0 in
    (named_there fs p name name inside ∙ all.1, λ i lt. named_there fs i name name (omega (arith, lt, inside)) ∙ all.2 i lt)

later_named : (fs : List Definition) (name : List ℕ) (p i : ℕ) → IsDistinct (pointwise nat_eq) (defined_names fs) → is_defined_as (slice_get fs p) name ≡ true → p < i → is_defined_as (slice_get fs i) name ≡ false
later_named fs name p i distinct here lt = elim (cases_lt i (length fs)) [
  | inr past ↦ named_past fs i name past
  | inl inside ↦
      let same = (bytes_decides name (get_or (defined_names fs) p name)).0 (sym (named_there fs p name name (omega (arith, lt, inside))) ∙ here) in
      let differ = AllPairs-from_IsDistinct bytes_decides (defined_names fs) distinct p i name lt (rw (length-map fs (λ f. f.name)) inside) in
      named_there fs i name name inside ∙ false_from_ne_true (pointwise nat_eq name (get_or (defined_names fs) i name)) (λ t. differ (sym same ∙ (bytes_decides name (get_or (defined_names fs) i name)).0 t))
]

-- ---- calls

no_call : (world : World) (n : ℕ) (name : List ℕ) (place : Place) (given : List Elem) → ((i : ℕ) → i < n → is_defined_as (slice_get world.functions i) name ≡ false) → calls_of_first world n place name given ≡ Err (fault_of place NoEntry)
unfolding calls_of_first
no_call world zero name place given none = refl
no_call world (suc n) name place given none = rw (none n (omega arith)) (no_call world n name place given (λ i lt. none i (omega (arith, lt))))

a_call : (world : World) (n p : ℕ) (name : List ℕ) (place : Place) (given : List Elem) → p < n → is_defined_as (slice_get world.functions p) name ≡ true → ((i : ℕ) → p < i → is_defined_as (slice_get world.functions i) name ≡ false)
    → calls_of_first world n place name given ≡ result_of world (calls_of_first world p) (slice_get world.functions p) place given
unfolding calls_of_first
a_call world zero p name place given lt here later = absurd (omega (arith, lt))
a_call world (suc n) p name place given lt here later = elim (cases_lt p n) [
  | inl below ↦ rw (later n below) (a_call world n p name place given below here later)
  | inr past ↦ let same : n ≡ p = omega (arith, lt, past) in rw (same, here) refl
]

pub call_none : (world : World) (shown : List Definition) (n : ℕ) (name : List ℕ) (place : Place) (given : List Elem) → shown ≡ world.functions → None ≡ position (pointwise nat_eq name) (defined_names shown) → calls_of_first world n place name given ≡ Err (fault_of place NoEntry)
call_none world shown n name place given same e =
    no_call world n name place given (λ i lt. none_named world.functions name (ap (λ fs. position (pointwise nat_eq name) (defined_names fs)) (sym same) ∙ sym e) i)

pub call_some : (world : World) (shown : List Definition) (n p : ℕ) (name : List ℕ) (place : Place) (given : List Elem) → shown ≡ world.functions → Some p ≡ position (pointwise nat_eq name) (defined_names shown) → IsDistinct (pointwise nat_eq) (defined_names shown)
    → calls_of_first world n place name given ≡ found_call world (if nat_lt p n then option_map (λ d. (p, d)) (slice_get world.functions p) else None) place given
call_some world shown n p name place given same e distinct =
    let found : position (pointwise nat_eq name) (defined_names world.functions) ≡ Some p = ap (λ fs. position (pointwise nat_eq name) (defined_names fs)) (sym same) ∙ sym e in
    let own = subst (λ (fs : List Definition). IsDistinct (pointwise nat_eq) (defined_names fs)) same distinct in
    let first = first_named world.functions name p found in
    elim (cases_lt p n) [
      | inl below ↦ rw (lt_true p n below) (a_call world n p name place given below first.0 (λ i. later_named world.functions name p i own first.0) ∙ found_there world (slice_get world.functions p) p place given)
      | inr past ↦ rw (lt_false p n past) (no_call world n name place given (λ i lt. first.1 i (omega (arith, lt, past))))
    ]
  where
    lt_true : (a b : ℕ) → a < b → nat_lt a b ≡ true
    lt_true a b h = grind arith

    lt_false : (a b : ℕ) → b ≤ a → nat_lt a b ≡ false
    lt_false a b h = grind arith

    found_there : (world : World) (d : Option Definition) (p : ℕ) (place : Place) (given : List Elem) → result_of world (calls_of_first world p) d place given ≡ found_call world (option_map (λ f. (p, f)) d) place given
    found_there world None p place given = refl
    found_there world (Some d) p place given = refl

-- ---- weights

weight_grows : (world : World) (p n : ℕ) → p ≤ n → weight world p ≤ weight world n
unfolding weight
weight_grows world p zero le = let same : p ≡ 0 = omega (arith, le) in rw same (omega arith)
weight_grows world p (suc n) le = elim (cases_eq p (suc n)) [
  | inl same ↦ rw same (omega arith)
  | inr other ↦ let before = weight_grows world p n (omega (arith, le, other)) in omega (arith, before)
]

pub call_weighs_less : (world : World) (n p : ℕ) (d : Definition) → p < n → slice_get world.functions p ≡ Some d → weight world p + 4 * size-Const d.body < weight world n
unfolding weight
call_weighs_less world n p d lt there =
    let grown : weight world (suc p) ≤ weight world n = weight_grows world (suc p) n (omega (arith, lt)) in
    let own : weight world p + 4 * size-Const d.body + 4 ≤ weight world n = rw there at grown in
    omega (arith, own)
