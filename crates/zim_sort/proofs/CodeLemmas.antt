-- What the code has at hand of a place behind an index, of the operands of a comparison and of the arguments of a function.
use Rattle.std.proofs.Common.{ℕ, suc, ◌+◌, ◌-◌, ◌≡◌, ◌<◌, ◌≤◌, Bor, Bool, true, false, not, List, [], ◌∷◌, ◌++◌, length, map, take, drop, position, cond, nat_lt, append_assoc, append-nil, filter_map, Option, Some, None, is_some, option_map, unwrap_or, get_or, Result, IfOk, subst, arith, refl, sym, ap, ◌∙◌}
use Rattle.std.proofs.Math.Seq.{drop-cons, take-suc}
use Rattle.std.proofs.lemmas.List.{drop_all, take_all, length-drop}
use Rattle.std.proofs.lemmas.List.Elements.{filter_map-append}
use Rattle.std.proofs.lemmas.Bool.{false≢true}
use Rattle.std.specs.List.{position_or_len}
use Rattle.zim_fault.specs.declared.faults.Place.{Place}
use Rattle.zim_fault.specs.declared.tokens.Relation.{Relation}
use Rattle.zim_tree.specs.declared.expr.Expr.{Expr}
use Rattle.zim_tree.specs.declared.expr.Angle.{out-Angle}
use Rattle.zim_tree.specs.declared.expr.Index.{Index, out-Index}
use Rattle.zim_typed.specs.declared.constant.Const.{Const}
use Rattle.zim_typed.specs.declared.constant.Const.TheVariants as const
use Rattle.zim_typed.specs.Scope.{Text, Names, Scope, is_known}
use Rattle.zim_typed.specs.declared.constant.LoopSlot.{LoopSlot}
use Rattle.zim_typed.specs.Pattern.{bare_name, bound_name, binding, binds, if_unknown}
use Rattle.zim_static.specs.Around.{names_in}
use Rattle.zim_static.specs.declared.around.Around.{Around}
use Rattle.zim_static.specs.declared.around.Around.TheVariants as around
use Rattle.zim_static.proofs.AroundLaws.{names-Index}
use Rattle.zim_typing.specs.Typing.{typed_const, typed_comparison, typed_slots, names_inside, slot_of, bound_slot, named_slot}

-- the names that are bound behind an index
pub behind_names : (scope : Scope) (names : Names) (index : Index) (outer : Bor Around) (items : Bor (List Expr)) → names_in scope outer.now ≡ names → items.now ≡ (out-Angle (out-Index index).tuple).items →
    names_in scope (around.Index items outer) ≡ names_inside scope names index
behind_names scope names index outer items same is =
    names-Index scope items outer ∙ ap (λ (held : List Expr). filter_map (bound_name scope (names_in scope outer.now)) held ++ names_in scope outer.now) is ∙ ap (λ (n : Names). names_inside scope n index) same

-- what is made under them
pub behind : {A : Type 0} (f : Names → A) (scope : Scope) (names : Names) (index : Index) (outer : Bor Around) (items : Bor (List Expr)) → names_in scope outer.now ≡ names → items.now ≡ (out-Angle (out-Index index).tuple).items →
    {x : A} → x ≡ f (names_in scope (around.Index items outer)) → x ≡ f (names_inside scope names index)
behind f scope names index outer items same is h = h ∙ ap f (behind_names scope names index outer items same is)

-- a comparison with nothing
pub compares_nothing : (scope : Scope) (names : Names) (first : Const) (others : List (Place × Relation × Expr)) → length others < 1 → typed_comparison scope names first others ≡ first
compares_nothing scope names first [] none = refl
compares_nothing scope names first (other ∷ others) none = absurd (omega (arith, none))

-- a comparison with the first of the operands behind relations
pub compares_first : (scope : Scope) (names : Names) (first : Const) (others : List (Place × Relation × Expr)) (c : Place × Relation × Expr) → 1 ≤ length others → c ≡ get_or others 0 c →
    const.Compare c.0 c.1 first (typed_const scope names c.2) ≡ typed_comparison scope names first others
compares_first scope names first [] c some is = absurd (omega (arith, some))
compares_first scope names first (other ∷ others) c some is = ap (λ (x : Place × Relation × Expr). const.Compare x.0 x.1 first (typed_const scope names x.2)) is

-- ---- loops

plus_one : (i : ℕ) → i + 1 ≡ suc i
plus_one i = omega arith

-- what is left of a list, from the member that a loop has come to
pub left_from : {X : Type 0} (xs : List X) (i : ℕ) (x : X) → i < length xs → x ≡ get_or xs i x → drop i xs ≡ x ∷ drop (i + 1) xs
left_from xs i x within is = rw (plus_one i) (drop-cons xs i x within ∙ ap (λ y. y ∷ drop (suc i) xs) (sym is))

-- what a loop has come past, and the member that it has come to
pub past_with : {X : Type 0} (xs : List X) (i : ℕ) (x : X) → i < length xs → x ≡ get_or xs i x → take (i + 1) xs ≡ take i xs ++ x ∷ []
past_with xs i x within is = rw (plus_one i) (take-suc xs i x within ∙ ap (λ y. take i xs ++ y ∷ []) (sym is))

-- ---- components of an index's tuple

mapped_until : {X Y : Type 0} (f : X → Y) (test : Y → Bool) (xs : List X) → position_or_len (λ x. test (f x)) xs ≡ position_or_len test (map f xs)
mapped_until f test [] = refl
mapped_until f test (x ∷ xs) = ap (λ (n : ℕ). cond (not (test (f x))) (1 + n) 0) (mapped_until f test xs)

mapped_length : {X Y : Type 0} (f : X → Y) (xs : List X) → length xs ≡ length (map f xs)
mapped_length f [] = refl
mapped_length f (x ∷ xs) = ap suc (mapped_length f xs)

-- the position of a member is that of what is known of it
pub mapped_position : {X Y : Type 0} (f : X → Y) (test : Y → Bool) (xs : List X) → position (λ x. test (f x)) xs ≡ position test (map f xs)
mapped_position f test xs = λ i. cond (nat_lt (mapped_until f test xs i) (mapped_length f xs i)) (Some (mapped_until f test xs i)) None

-- a component that binds a name binds its bare name
pub binds_bare : (scope : Scope) (names : Names) (item : Expr) (name : Text) → Some name ≡ bare_name item → true ≡ is_some (bound_name scope names item) → bound_name scope names item ≡ Some name
binds_bare scope names item name is bound = at_known (is_known scope names name) refl
  where
    at_known : (known : Bool) → is_known scope names name ≡ known → bound_name scope names item ≡ Some name
    at_known true h = absurd (false≢true (sym (bound ∙ ap (λ (o : Option Text). is_some (if_unknown scope names o)) (sym is) ∙ rw h refl)))
    at_known false h = ap (if_unknown scope names) (sym is) ∙ rw h refl

-- the component that is made of it
pub binds_at : (scope : Scope) (names : Names) (before : List Expr) (item : Expr) (name : Text) (found at : Option ℕ) → Some name ≡ bare_name item → true ≡ is_some (bound_name scope names item) →
    found ≡ position (λ x. binds name (bare_name x)) before → found ≡ at → Some (named_slot name at) ≡ bound_slot (map bare_name before) (bound_name scope names item)
binds_at scope names before item name found at is bound h k =
    ap (λ (i : Option ℕ). Some (named_slot name i)) (sym k ∙ h ∙ mapped_position bare_name (binds name) before) ∙ sym (ap (bound_slot (map bare_name before)) (binds_bare scope names item name is bound))

-- one component more
pub slots_next : (scope : Scope) (names : Names) (items : List Expr) (i : ℕ) (item : Expr) → i < length items → item ≡ get_or items i item → (made : List LoopSlot) (s : LoopSlot) →
    s ≡ slot_of (map bare_name (take i items)) (bound_name scope names item) (typed_const scope names item) →
    {whole : List LoopSlot} → made ++ typed_slots scope names (map bare_name (take i items)) (drop i items) ≡ whole →
    (made ++ s ∷ []) ++ typed_slots scope names (map bare_name (take (i + 1) items)) (drop (i + 1) items) ≡ whole
unfolding typed_slots
slots_next scope names items i item within is made s h inv =
    append_assoc made (s ∷ []) (typed_slots scope names (map bare_name (take (i + 1) items)) (drop (i + 1) items))
    ∙ (λ j. made ++ h j ∷ typed_slots scope names ((ap (map bare_name) (past_with items i item within is) ∙ map_behind (take i items) item) j) (drop (i + 1) items))
    ∙ sym (ap (λ (left : List Expr). made ++ typed_slots scope names (map bare_name (take i items)) left) (left_from items i item within is)) ∙ inv
  where
    map_behind : (xs : List Expr) (x : Expr) → map bare_name (xs ++ x ∷ []) ≡ map bare_name xs ++ bare_name x ∷ []
    map_behind [] x = refl
    map_behind (y ∷ ys) x = ap (λ (rest : List (Option Text)). bare_name y ∷ rest) (map_behind ys x)

-- a component that binds a name
pub slot_bound : (before : List (Option Text)) (bound : Option Text) (value : LoopSlot) → {o : Option LoopSlot} → o ≡ bound_slot before bound → (s : LoopSlot) → o ≡ Some s → s ≡ unwrap_or (bound_slot before bound) value
slot_bound before bound value h s is = ap (λ (o : Option LoopSlot). unwrap_or o value) (sym is ∙ h)

-- one that binds none
pub slot_unbound : (before : List (Option Text)) (bound : Option Text) (value : LoopSlot) → {o : Option LoopSlot} → o ≡ bound_slot before bound → o ≡ None → value ≡ unwrap_or (bound_slot before bound) value
slot_unbound before bound value h is = ap (λ (o : Option LoopSlot). unwrap_or o value) (sym is ∙ h)

-- no component is left
pub slots_end : (scope : Scope) (names : Names) (before : List (Option Text)) (items : List Expr) (i : ℕ) → length items ≤ i → (made : List LoopSlot) {whole : List LoopSlot} →
    made ++ typed_slots scope names before (drop i items) ≡ whole → made ≡ whole
unfolding typed_slots
slots_end scope names before items i out made inv = sym (append-nil made) ∙ sym (ap (λ (left : List Expr). made ++ typed_slots scope names before left) (drop_all i items out)) ∙ inv

-- what is equal to a value is equal to one that is equal to it
pub becomes : {A E : Type 0} {k l : A} (r : Result A E) → k ≡ l → IfOk r (λ made. made ≡ k) → IfOk r (λ made. made ≡ l)
becomes r same h = subst (λ (x : _). IfOk r (λ made. made ≡ x)) same h

one_filtered : {X Y : Type 0} (f : X → Option Y) (x : X) (y : Y) → f x ≡ Some y → filter_map f (x ∷ []) ≡ y ∷ []
one_filtered f x y h = rw h refl

none_filtered : {X Y : Type 0} (f : X → Option Y) (x : X) → f x ≡ None → filter_map f (x ∷ []) ≡ []
none_filtered f x h = rw h refl

-- one more that is taken
pub filtered_some : {X Y : Type 0} (f : X → Option Y) (xs : List X) (x : X) (y : Y) (o : Option Y) (made : List Y) → o ≡ f x → o ≡ Some y → made ≡ filter_map f xs → made ++ y ∷ [] ≡ filter_map f (xs ++ x ∷ [])
filtered_some f xs x y o made h k inv = ap (λ (before : List _). before ++ y ∷ []) inv ∙ sym (filter_map-append f xs (x ∷ []) ∙ ap (λ (rest : List _). filter_map f xs ++ rest) (one_filtered f x y (sym h ∙ k)))

-- one more that is left out
pub filtered_none : {X Y : Type 0} (f : X → Option Y) (xs : List X) (x : X) (o : Option Y) (made : List Y) → o ≡ f x → o ≡ None → made ≡ filter_map f xs → made ≡ filter_map f (xs ++ x ∷ [])
filtered_none f xs x o made h k inv = inv ∙ sym (filter_map-append f xs (x ∷ []) ∙ ap (λ (rest : List _). filter_map f xs ++ rest) (none_filtered f x (sym h ∙ k)) ∙ append-nil (filter_map f xs))

-- the end of a list from a position on, as long as it is
pub end_from : {X : Type 0} (xs : List X) (n : ℕ) → take (length xs - n) (drop n xs) ≡ drop n xs
end_from xs n = take_all (length xs - n) (drop n xs) (subst (λ (m : ℕ). m ≤ length xs - n) (sym (length-drop n xs)) (omega arith))
