-- The index that is made of an index in which nothing is marked belongs to it, and so does what is made of what stands in braces.
use Rattle.std.proofs.Common.{ℕ, ◌≡◌, Bool, true, false, ◌||◌, List, [], ◌∷◌, ◌++◌, map, filter_map, Option, Some, None, option_map, is_some, if◌then◌else◌, append_assoc, append-nil, refl, sym, ap, subst, ◌∙◌}
use Rattle.std.specs.List.{list_any, list_all}
use Rattle.zim_fault.specs.declared.faults.Place.{Place}
use Rattle.zim_tree.specs.declared.expr.Expr.{Expr}
use Rattle.zim_tree.specs.declared.expr.Angle.{Angle}
use Rattle.zim_tree.specs.declared.expr.Index.{Index, Index-F}
use Rattle.zim_tree.specs.declared.expr.Body.{Body}
use Rattle.zim_tree.specs.declared.expr.Body.TheVariants.{Empty, Members, Tuples, Those, Span}
use Rattle.zim_tree.specs.declared.expr.Body.TheViews.{out-roll-Index}
use Rattle.zim_tree.specs.Trees.{angle_of, index_of}
use Rattle.zim_typed.specs.declared.scope.Declared.{Declared}
use Rattle.zim_typed.specs.declared.constant.LoopSlot.{LoopSlot}
use Rattle.zim_typed.specs.declared.constant.Loop.{Loop}
use Rattle.zim_typed.specs.declared.constant.TBody.{TBody}
use Rattle.zim_typed.specs.Scope.{Text, Names, Scope, is_local, kind_of_name}
use Rattle.zim_typed.specs.Pattern.{bare_name, bound_name, binding}
use Rattle.zim_typed.specs.Variables.{has_variables, is_variable, tuple_has_variables, index_has_variables}
use Rattle.zim_typed.specs.Constants.{AreTuples, AreSlots, IsLoop, IsBody, no_tuple, one_tuple, no_slot, free_slot, again_slot, fixed_slot, is_loop, is_loop_with, is_empty, is_members, is_tuples, is_choices, is_span, is_span_by}
use Rattle.zim_typed.proofs.VariableLaws.{condition_varies, has-index, has-Name, has-Empty, has-Members, has-Tuples, has-Those, has-Span}
use Rattle.zim_static.specs.declared.role.Role.TheVariants as role
use Rattle.zim_static.specs.Faults.{Part, part_of, parts_of, parts_of_angle, part_of_index, name_bound_by, names_behind, all_faults, components_faults, condition_faults, tuples_faults, tuples_of}
use Rattle.zim_static.specs.StatementFaults.{faults_in}
use Rattle.zim_static.proofs.IndexLaws.{opens_parts, opens-Members, opens-Tuples, opens-Those, opens-Span}
use Rattle.zim_static.proofs.PartLaws.{part_bound, at_angle, names_known}
use Rattle.zim_static.proofs.AroundLaws.{both}
use Rattle.zim_typing.specs.Typing.{named_slot, slot_of, typed_const, typed_tuple, typed_slots, typed_body}
use Rattle.zim_typing.specs.Numbers.{numbers_kept, tuple_numbers_kept}
use Rattle.zim_typing.proofs.ConstantLaws.{makes_index_of, inside_of, bare_is_name, makes-Empty, makes-Members, makes-Tuples, makes-Those, makes-Span}
use Rattle.zim_typing.proofs.NumberLaws.{keeps_tuple, keeps_index, keeps-Members, keeps-Tuples, keeps-Those, keeps-Span}
use Rattle.zim_typing.proofs.NamesLemmas.{Same, same_bound, same_behind, Agree, Gives, some_bare, agree_fixed, agree_free, agree_again, agree_position, gives_none, gives_free, gives_again}
use Rattle.zim_typing.proofs.FitLemmas.{none_left, none_right, either_right, neither}
use Rattle.zim_typing.proofs.GoesLemmas.{Fixed, Goes, AllGo, all_fixed, none_vary, quiet_items, consts_from, GoesTuple, tuple_fixed, tuple_of, GoesIndex, GoesBody}

-- ---- the components of an index's tuple

-- the components that are made of those of a tuple belong to them, and bind the names that the tuple binds, behind components that are bare names in one
-- list, and of which it is known in another what each binds; so far these names are known
abbrev pub Slots : Scope → Names → Names → List (Option Text) → List (Option Text) → Names → List Expr → Type 0
Slots scope names others bares before known items =
    (bound : Names) × AreSlots scope others before items (typed_slots scope names bares items) bound
    × ((name : Text) → is_local (known ++ filter_map (bound_name scope names) items) name ≡ is_local bound name) × (list_any (has_variables scope) items ≡ false)

no_slots : (scope : Scope) (names others : Names) (bares before : List (Option Text)) (known : Names) → Gives known before → Slots scope names others bares before known []
unfolding typed_slots
no_slots scope names others bares before known gives = (filter_map (λ x. x) before, no_slot, λ name. ap (λ (all : Names). is_local all name) (append-nil known) ∙ gives name, refl)

filter_none : {A B : Type 0} (f : A → Option B) (x : A) (xs : List A) → f x ≡ None → filter_map f (x ∷ xs) ≡ filter_map f xs
filter_none f x xs h = rw h refl

filter_some : {A B : Type 0} (f : A → Option B) (x : A) (xs : List A) (y : B) → f x ≡ Some y → filter_map f (x ∷ xs) ≡ y ∷ filter_map f xs
filter_some f x xs y h = rw h refl

slot_fixed : (scope : Scope) (names others : Names) (bares before : List (Option Text)) (known : Names) (item : Expr) (items : List Expr) → bound_name scope names item ≡ None → bound_name scope others item ≡ None →
    Fixed scope names others item → Slots scope names others (bares ++ bare_name item ∷ []) (before ++ None ∷ []) known items → Slots scope names others bares before known (item ∷ items)
unfolding typed_slots
slot_fixed scope names others bares before known item items h also fixed rest = (
  rest.0,
  subst (λ (o : Option Text). AreSlots scope others before (item ∷ items) (slot_of bares o (typed_const scope names item) ∷ typed_slots scope names (bares ++ bare_name item ∷ []) items) rest.0) (sym h)
      (fixed_slot also fixed.0 rest.1),
  λ name. ap (λ (bound : Names). is_local (known ++ bound) name) (filter_none (bound_name scope names) item items h) ∙ rest.2 name,
  neither (has_variables scope item) (list_any (has_variables scope) items) fixed.1 rest.3,
)

-- a name that is bound is no variable
undeclared : (d : Option Declared) → is_some d ≡ false → is_variable d ≡ false
undeclared None h = refl
undeclared (Some d) h = cc

bound_fixed : (scope : Scope) (names : Names) (item : Expr) (name : Text) → bound_name scope names item ≡ Some name → has_variables scope item ≡ false
bound_fixed scope names item name h =
    let bare = some_bare scope names item name h in
    let is = bare_is_name item name bare.0 in
    ap (has_variables scope) is.1 ∙ has-Name scope is.0 name ∙ undeclared (kind_of_name scope name) (either_right (is_local names name) (is_some (kind_of_name scope name)) bare.1)

known_behind : (scope : Scope) (names : Names) (known : Names) (item : Expr) (items : List Expr) (name : Text) → bound_name scope names item ≡ Some name →
    known ++ filter_map (bound_name scope names) (item ∷ items) ≡ (known ++ name ∷ []) ++ filter_map (bound_name scope names) items
known_behind scope names known item items name h = ap (λ (bound : Names). known ++ bound) (filter_some (bound_name scope names) item items name h) ∙ sym (append_assoc known (name ∷ []) (filter_map (bound_name scope names) items))

slot_bound : (scope : Scope) (names others : Names) (bares before : List (Option Text)) (known : Names) (item : Expr) (items : List Expr) (name : Text) (slot : LoopSlot) (m : Option Text) →
    bound_name scope names item ≡ Some name → slot_of bares (Some name) (typed_const scope names item) ≡ slot →
    ((bound : Names) (slots : List LoopSlot) → AreSlots scope others (before ++ m ∷ []) items slots bound → AreSlots scope others before (item ∷ items) (slot ∷ slots) bound) →
    Slots scope names others (bares ++ bare_name item ∷ []) (before ++ m ∷ []) (known ++ name ∷ []) items → Slots scope names others bares before known (item ∷ items)
unfolding typed_slots
slot_bound scope names others bares before known item items name slot m h is one rest = (
  rest.0,
  subst (λ (s : LoopSlot). AreSlots scope others before (item ∷ items) (s ∷ typed_slots scope names (bares ++ bare_name item ∷ []) items) rest.0)
      (sym (ap (λ (o : Option Text). slot_of bares o (typed_const scope names item)) h ∙ is)) (one rest.0 (typed_slots scope names (bares ++ bare_name item ∷ []) items) rest.1),
  λ other. ap (λ (all : Names). is_local all other) (known_behind scope names known item items name h) ∙ rest.2 other,
  neither (has_variables scope item) (list_any (has_variables scope) items) (bound_fixed scope names item name h) rest.3,
)

-- those of the components behind the first, whatever stands before them
abbrev Rest : Scope → Names → Names → List Expr → Type 0
Rest scope names others items = (bares before : List (Option Text)) (known : Names) → Agree scope names bares before → Gives known before → Slots scope names others bares before known items

slots_step : (scope : Scope) (names others : Names) → Same names others → (item : Expr) (items : List Expr) → (bound_name scope names item ≡ None → Fixed scope names others item) → Rest scope names others items → Rest scope names others (item ∷ items)
slots_step scope names others same item items fixed rest bares before known agree gives = at_bound (bound_name scope names item) refl
  where
    at_position : (name : Text) (o : Option ℕ) → bound_name scope names item ≡ Some name → binding name before ≡ o → Slots scope names others bares before known (item ∷ items)
    at_position name None is at =
        slot_bound scope names others bares before known item items name _ (Some name) is (ap (λ (o : Option ℕ). named_slot name o) (agree_position scope names bares before item name is agree ∙ at))
        (λ bound slots h. free_slot (sym (same_bound scope names others same item) ∙ is) at h)
        (rest (bares ++ bare_name item ∷ []) (before ++ Some name ∷ []) (known ++ name ∷ []) (agree_free scope names bares before item name is agree) (gives_free known before name gives))
    at_position name (Some i) is at =
        slot_bound scope names others bares before known item items name _ None is (ap (λ (o : Option ℕ). named_slot name o) (agree_position scope names bares before item name is agree ∙ at))
        (λ bound slots h. again_slot (sym (same_bound scope names others same item) ∙ is) at h)
        (rest (bares ++ bare_name item ∷ []) (before ++ None ∷ []) (known ++ name ∷ []) (agree_again scope names bares before item name i is at agree) (gives_again known before name i at gives))

    at_bound : (o : Option Text) → bound_name scope names item ≡ o → Slots scope names others bares before known (item ∷ items)
    at_bound None is =
        slot_fixed scope names others bares before known item items is (sym (same_bound scope names others same item) ∙ is) (fixed is)
        (rest (bares ++ bare_name item ∷ []) (before ++ None ∷ []) known (agree_fixed scope names bares before item is agree) (gives_none known before gives))
    at_bound (Some name) is = at_position name (binding name before) is refl

-- what is marked in a component that binds no name
component_quiet : (scope : Scope) (names : Names) (item : Expr) → (if is_some (name_bound_by scope names (part_of scope item)) then [] else faults_in scope role.Value names item) ≡ [] → bound_name scope names item ≡ None →
    faults_in scope role.Value names item ≡ []
component_quiet scope names item h is = subst (λ (o : Option Text). (if is_some o then [] else faults_in scope role.Value names item) ≡ []) (part_bound scope names item ∙ is) h

slots_belong : (scope : Scope) (names others : Names) → Same names others → (items : List Expr) → AllGo scope items → list_all numbers_kept items ≡ true →
    components_faults scope role.Value names (parts_of scope items) ≡ [] → Rest scope names others items
slots_belong scope names others same [] go numbers quiet = λ bares before known agree gives. no_slots scope names others bares before known gives
slots_belong scope names others same (item ∷ items) go numbers quiet =
    let kept = both (numbers_kept item) (list_all numbers_kept items) numbers in
    slots_step scope names others same item items
    (λ is. go.0 role.Value names others same kept.0 (component_quiet scope names item (none_left _ (components_faults scope role.Value names (parts_of scope items)) quiet) is) tt)
    (slots_belong scope names others same items go.1 kept.1 (none_right _ (components_faults scope role.Value names (parts_of scope items)) quiet))

-- ---- indices

index_varies : (scope : Scope) (p q : Place) (items : List Expr) (set : Expr) (cond : Option (Bool × Expr)) →
    index_has_variables scope (index_of p (angle_of q items) set cond) ≡ (list_any (has_variables scope) items || has_variables scope set || condition_varies scope cond)
index_varies scope p q items set cond =
    has-index scope (index_of p (angle_of q items) set cond)
    ∙ ap (λ (d : Index-F Body Expr Angle Index). tuple_has_variables scope d.tuple || has_variables scope d.set || condition_varies scope d.cond) (out-roll-Index (record { place = p; tuple = angle_of q items; set = set; cond = cond }))
    ∙ ap (λ (b : Bool). b || has_variables scope set || condition_varies scope cond) (tuple_of scope q items)

index_quiet : (scope : Scope) (names : Names) (p q : Place) (items : List Expr) (set : Expr) (cond : Option (Bool × Expr)) → (part_of_index scope (index_of p (angle_of q items) set cond)).faults role.Value names ≡ [] →
    components_faults scope role.Value names (parts_of scope items) ++ faults_in scope role.Value names set
    ++ condition_faults role.Value (filter_map (bound_name scope names) items ++ names) (option_map (λ (c : Bool × Expr). (c.0, part_of scope c.1)) cond) ≡ []
index_quiet scope names p q items set cond h =
    let known : parts_of_angle scope (angle_of q items) ≡ parts_of scope items = at_angle scope (record { place = q; items = items }) in
    let c : Option (Bool × Part) = option_map (λ (c : Bool × Expr). (c.0, part_of scope c.1)) cond in
    ap (λ (inner : Names). components_faults scope role.Value names (parts_of scope items) ++ faults_in scope role.Value names set ++ condition_faults role.Value inner c) (sym (names_known scope names items))
    ∙ ap (λ (parts : List Part). components_faults scope role.Value names parts ++ faults_in scope role.Value names set ++ condition_faults role.Value (names_behind scope names parts) c) (sym known)
    ∙ sym (opens_parts scope role.Value names p (angle_of q items) set cond) ∙ h

pub goes_index : (scope : Scope) (p q : Place) (items : List Expr) (set : Expr) → AllGo scope items → Goes scope set → GoesIndex scope (index_of p (angle_of q items) set None)
goes_index scope p q items set go s names others same numbers quiet =
    let kept = both _ _ (sym (keeps_index p (angle_of q items) set None) ∙ numbers) in
    let kept_set = both _ _ kept.1 in
    let quiet_here = index_quiet scope names p q items set None quiet in
    let slots : Slots scope names others [] [] [] items = slots_belong scope names others same items go (sym (keeps_tuple q items) ∙ kept.0) (none_left _ _ (none_left _ _ quiet_here)) [] [] [] (λ name new. tt) (λ name. refl) in
    let fixed = s role.Value names others same kept_set.0 (none_right _ _ (none_left _ _ quiet_here)) tt in (
      slots.0 ++ others,
      subst (λ (l : Loop). IsLoop scope others (index_of p (angle_of q items) set None) l (slots.0 ++ others)) (sym (makes_index_of scope names p q items set None)) (is_loop p q slots.1 fixed.0),
      subst (λ (inner : Names). Same inner (slots.0 ++ others)) (sym (inside_of scope names p q items set None)) (same_behind (filter_map (bound_name scope names) items) slots.0 names others slots.2 same),
      index_varies scope p q items set None ∙ neither _ _ (neither _ _ slots.3 fixed.1) refl,
    )

pub goes_index_with : (scope : Scope) (p q : Place) (items : List Expr) (set : Expr) (bar : Bool) (cond : Expr) → AllGo scope items → Goes scope set → Goes scope cond → GoesIndex scope (index_of p (angle_of q items) set (Some (bar, cond)))
goes_index_with scope p q items set bar cond go s c names others same numbers quiet =
    let kept = both _ _ (sym (keeps_index p (angle_of q items) set (Some (bar, cond))) ∙ numbers) in
    let kept_set = both _ _ kept.1 in
    let quiet_here = index_quiet scope names p q items set (Some (bar, cond)) quiet in
    let slots : Slots scope names others [] [] [] items = slots_belong scope names others same items go (sym (keeps_tuple q items) ∙ kept.0) (none_left _ _ (none_left _ _ quiet_here)) [] [] [] (λ name new. tt) (λ name. refl) in
    let fixed = s role.Value names others same kept_set.0 (none_right _ _ (none_left _ _ quiet_here)) tt in
    let behind : Same (filter_map (bound_name scope names) items ++ names) (slots.0 ++ others) = same_behind (filter_map (bound_name scope names) items) slots.0 names others slots.2 same in
    let fixed_cond = c role.Value (filter_map (bound_name scope names) items ++ names) (slots.0 ++ others) behind kept_set.1 (none_right _ _ quiet_here) tt in (
      slots.0 ++ others,
      subst (λ (l : Loop). IsLoop scope others (index_of p (angle_of q items) set (Some (bar, cond))) l (slots.0 ++ others)) (sym (makes_index_of scope names p q items set (Some (bar, cond)))) (is_loop_with p q bar slots.1 fixed.0 fixed_cond.0),
      subst (λ (inner : Names). Same inner (slots.0 ++ others)) (sym (inside_of scope names p q items set (Some (bar, cond)))) behind,
      index_varies scope p q items set (Some (bar, cond)) ∙ neither _ _ (neither _ _ slots.3 fixed.1) fixed_cond.1,
    )

-- ---- braces

body_becomes : {scope : Scope} (names : Names) {others : Names} {inside : Body} {b : TBody} → IsBody scope others inside b → typed_body scope names inside ≡ b → IsBody scope others inside (typed_body scope names inside)
body_becomes {scope} names {others} {inside} belongs is = subst (λ (b : TBody). IsBody scope others inside b) (sym is) belongs

pub goes_empty : (scope : Scope) → GoesBody scope Empty
goes_empty scope names others same numbers quiet = (body_becomes names is_empty (makes-Empty scope names), has-Empty scope)

pub goes_members : (scope : Scope) (members : List Expr) → AllGo scope members → GoesBody scope (Members members)
goes_members scope members go names others same numbers quiet =
    let fixed = all_fixed scope members go role.Value names others same (sym (keeps-Members members) ∙ numbers) (quiet_items scope role.Value names members (sym (opens-Members scope role.Value names members) ∙ quiet)) tt in
    (body_becomes names (is_members (consts_from scope names others members fixed)) (makes-Members scope names members), has-Members scope members ∙ none_vary scope names others members fixed)

-- each tuple goes
abbrev pub TuplesGo : Scope → List Angle → Type 0
TuplesGo scope [] = Unit {0}
TuplesGo scope (tuple ∷ tuples) = GoesTuple scope tuple × TuplesGo scope tuples

tuples_fixed : (scope : Scope) (tuples : List Angle) → TuplesGo scope tuples → (names others : Names) → Same names others → list_all tuple_numbers_kept tuples ≡ true →
    tuples_faults role.Value names (tuples_of scope tuples) ≡ [] → AreTuples scope others tuples (map (typed_tuple scope names) tuples) × (list_any (tuple_has_variables scope) tuples ≡ false)
tuples_fixed scope [] go names others same numbers quiet = (no_tuple, refl)
tuples_fixed scope (tuple ∷ tuples) go names others same numbers quiet =
    let kept = both (tuple_numbers_kept tuple) (list_all tuple_numbers_kept tuples) numbers in
    let first = tuple_fixed scope tuple go.0 names others same kept.0 (none_left (all_faults role.Value names (parts_of_angle scope tuple)) (tuples_faults role.Value names (tuples_of scope tuples)) quiet) in
    let rest = tuples_fixed scope tuples go.1 names others same kept.1 (none_right (all_faults role.Value names (parts_of_angle scope tuple)) (tuples_faults role.Value names (tuples_of scope tuples)) quiet) in
    (one_tuple first.0 rest.0, neither (tuple_has_variables scope tuple) (list_any (tuple_has_variables scope) tuples) first.1 rest.1)

pub goes_tuples : (scope : Scope) (tuples : List Angle) → TuplesGo scope tuples → GoesBody scope (Tuples tuples)
goes_tuples scope tuples go names others same numbers quiet =
    let fixed = tuples_fixed scope tuples go names others same (sym (keeps-Tuples tuples) ∙ numbers) (sym (opens-Tuples scope role.Value names tuples) ∙ quiet) in
    (body_becomes names (is_tuples fixed.0) (makes-Tuples scope names tuples), has-Tuples scope tuples ∙ fixed.1)

pub goes_those : (scope : Scope) (index : Index) → GoesIndex scope index → GoesBody scope (Those index)
goes_those scope index go names others same numbers quiet =
    let fixed = go names others same (sym (keeps-Those index) ∙ numbers) (sym (opens-Those scope role.Value names index) ∙ quiet) in
    (body_becomes names (is_choices fixed.1) (makes-Those scope names index), has-Those scope index ∙ fixed.3)

pub goes_span : (scope : Scope) (from : Expr) (with_to : Bool) (to : Expr) → Goes scope from → Goes scope to → GoesBody scope (Span from with_to to None)
goes_span scope from with_to to f t names others same numbers quiet =
    let kept = both _ _ (sym (keeps-Span from with_to to None) ∙ numbers) in
    let kept_both = both _ _ kept.1 in
    let quiet_here = sym (opens-Span scope role.Value names from with_to to None) ∙ quiet in
    let first = f role.Value names others same kept.0 (none_left _ _ (none_left _ _ quiet_here)) tt in
    let second = t role.Value names others same kept_both.0 (none_right _ _ (none_left _ _ quiet_here)) tt in
    (body_becomes names (is_span with_to first.0 second.0) (makes-Span scope names from with_to to None), has-Span scope from with_to to None ∙ neither _ _ (neither _ _ first.1 second.1) refl)

pub goes_span_by : (scope : Scope) (from : Expr) (with_to : Bool) (to by : Expr) → Goes scope from → Goes scope to → Goes scope by → GoesBody scope (Span from with_to to (Some by))
goes_span_by scope from with_to to by f t b names others same numbers quiet =
    let kept = both _ _ (sym (keeps-Span from with_to to (Some by)) ∙ numbers) in
    let kept_both = both _ _ kept.1 in
    let quiet_here = sym (opens-Span scope role.Value names from with_to to (Some by)) ∙ quiet in
    let first = f role.Value names others same kept.0 (none_left _ _ (none_left _ _ quiet_here)) tt in
    let second = t role.Value names others same kept_both.0 (none_right _ _ (none_left _ _ quiet_here)) tt in
    let third = b role.Value names others same kept_both.1 (none_right _ _ quiet_here) tt in
    (body_becomes names (is_span_by with_to first.0 second.0 third.0) (makes-Span scope names from with_to to (Some by)), has-Span scope from with_to to (Some by) ∙ neither _ _ (neither _ _ first.1 second.1) third.1)
