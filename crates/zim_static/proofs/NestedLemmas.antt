-- How deep a constant nests and what it calls, one equation for each form, and one step of each loop over parts.
use Rattle.std.proofs.Common.{◌≡◌, ◌<◌, ◌≤◌, ◌+◌, ◌-◌, ◌^◌, ℕ, Bool, List, map, max, min, length, take, get_or, arith, Option, Some, None, option_map, refl, sym, ap, ◌∙◌}
use Rattle.std.proofs.lemmas.Simd.{map-map}
use Rattle.std.proofs.lemmas.List.{take_all}
use Rattle.std.proofs.lemmas.List.Sums.{fold_more}
use Rattle.std.proofs.lemmas.List.Folds.{fold-map}
use Rattle.zim_fault.specs.declared.faults.Place.{Place}
use Rattle.zim_fault.specs.declared.tokens.Token.{Token}
use Rattle.zim_fault.specs.declared.tokens.Relation.{Relation}
use Rattle.zim_fault.specs.declared.signs.Sign.{Sign}
use Rattle.zim_fault.specs.declared.words.Word.{Word}
use Rattle.zim_nesting.specs.Depth.{Depth, no_nesting, a_loop, nesting_in_brackets, ◌followed_by◌, followed, all, nesting_if_given}
use Rattle.zim_typed.specs.declared.constant.Resolved.{Resolved}
use Rattle.zim_typed.specs.declared.constant.Const.{Const, Const-F, roll-Const, map-Const, fold-roll-Const}
use Rattle.zim_typed.specs.declared.constant.Const.TheVariants.{Item, Call, Func, Proj, Paren, Braces, If, Factorial, Power, Signed, Big, Times, Plus, Compare, Member, Not, And, Or, rolls-Item, rolls-Call, rolls-Func, rolls-Proj, rolls-Paren, rolls-Braces, rolls-If, rolls-Factorial, rolls-Power, rolls-Signed, rolls-Big, rolls-Times, rolls-Plus, rolls-Compare, rolls-Member, rolls-Not, rolls-And, rolls-Or}
use Rattle.zim_typed.specs.declared.constant.Const.TheViews.{roll-out-TAngle, roll-out-Loop}
use Rattle.zim_typed.specs.declared.constant.LoopSlot.{LoopSlot, LoopSlot-F, roll-LoopSlot, map-LoopSlot, fold-roll-LoopSlot}
use Rattle.zim_typed.specs.declared.constant.LoopSlot.TheVariants.{Free, Again, Fixed, rolls-Free, rolls-Again, rolls-Fixed}
use Rattle.zim_typed.specs.declared.constant.TBody.{TBody, TBody-F, roll-TBody, map-TBody, fold-roll-TBody}
use Rattle.zim_typed.specs.declared.constant.TBody.TheVariants.{Members, Tuples, Those, Span, rolls-Members, rolls-Tuples, rolls-Those, rolls-Span}
use Rattle.zim_typed.specs.declared.constant.Loop.{Loop, fold-roll-Loop, out-Loop}
use Rattle.zim_typed.specs.declared.constant.TAngle.{TAngle, fold-roll-TAngle, out-TAngle}
use Rattle.zim_typed.specs.Trees.{typed_loop}
use Rattle.zim_typed.specs.Scope.{Scope, kind_of_name}
use Rattle.zim_typed.specs.Nesting.{const_depth, const_calls, calls_step, slot_calls_step, body_calls_step, loop_calls_step, angle_calls_step, greatest, greatest_given, function_nesting}
use Rattle.zim_typed.proofs.NestingLaws.{nests-tuple, nests-loop, nests-Free, nests-Again, nests-Fixed, nests-Members, nests-Tuples, nests-Those, nests-Span, nests-Item, nests-Call, nests-Func, nests-Proj, nests-Paren, nests-Braces, nests-If, nests-Factorial, nests-Power, nests-Signed, nests-Big, nests-Times, nests-Plus, nests-Compare, nests-Member, nests-Not, nests-And, nests-Or}
use Rattle.zim_static.specs.declared.nested.Nested.{Nested}
use Rattle.zim_static.specs.Nested.{nested, slot_depth, slot_calls, typed_body_depth, typed_body_calls, loop_depth, loop_calls, typed_angle_depth, typed_angle_calls}
use Rattle.zim_static.proofs.CallsLemmas.{greatest-next}

-- ---- the functions that each form calls

at_const : (scope : Scope) (d : Const-F Const LoopSlot TBody Loop TAngle) →
    const_calls scope (roll-Const d) ≡ calls_step scope (map-Const Const LoopSlot TBody Loop TAngle ℕ ℕ ℕ ℕ ℕ (const_calls scope) (slot_calls scope) (typed_body_calls scope) (loop_calls scope) (typed_angle_calls scope) d)
at_const scope = fold-roll-Const ℕ ℕ ℕ ℕ ℕ (calls_step scope) slot_calls_step body_calls_step loop_calls_step angle_calls_step

at_slot : (scope : Scope) (d : LoopSlot-F Const LoopSlot TBody Loop TAngle) →
    slot_calls scope (roll-LoopSlot d) ≡ slot_calls_step (map-LoopSlot Const LoopSlot TBody Loop TAngle ℕ ℕ ℕ ℕ ℕ (const_calls scope) (slot_calls scope) (typed_body_calls scope) (loop_calls scope) (typed_angle_calls scope) d)
at_slot scope = fold-roll-LoopSlot ℕ ℕ ℕ ℕ ℕ (calls_step scope) slot_calls_step body_calls_step loop_calls_step angle_calls_step

at_body : (scope : Scope) (d : TBody-F Const LoopSlot TBody Loop TAngle) →
    typed_body_calls scope (roll-TBody d) ≡ body_calls_step (map-TBody Const LoopSlot TBody Loop TAngle ℕ ℕ ℕ ℕ ℕ (const_calls scope) (slot_calls scope) (typed_body_calls scope) (loop_calls scope) (typed_angle_calls scope) d)
at_body scope = fold-roll-TBody ℕ ℕ ℕ ℕ ℕ (calls_step scope) slot_calls_step body_calls_step loop_calls_step angle_calls_step

pub calls-Item : (scope : Scope) (place : Place) (name : List ℕ) (index : List Const) (r : Resolved) → const_calls scope (Item place name index r) ≡ greatest (map (const_calls scope) index)
calls-Item scope place name index r = ap (const_calls scope) (sym (rolls-Item place name index r)) ∙ at_const scope (Const-F.Item place name index r)

pub calls-Call : (scope : Scope) (place : Place) (name : List ℕ) (given : List Const) (r : Resolved) → const_calls scope (Call place name given r) ≡ max (function_nesting (kind_of_name scope name)) (greatest (map (const_calls scope) given))
calls-Call scope place name given r = ap (const_calls scope) (sym (rolls-Call place name given r)) ∙ at_const scope (Const-F.Call place name given r)

pub calls-Func : (scope : Scope) (place : Place) (word : Word) (given : List Const) → const_calls scope (Func place word given) ≡ greatest (map (const_calls scope) given)
calls-Func scope place word given = ap (const_calls scope) (sym (rolls-Func place word given)) ∙ at_const scope (Const-F.Func place word given)

pub calls-Proj : (scope : Scope) (place : Place) (set : Const) (positions : TAngle) → const_calls scope (Proj place set positions) ≡ max (const_calls scope set) (typed_angle_calls scope positions)
calls-Proj scope place set positions = ap (const_calls scope) (sym (rolls-Proj place set positions)) ∙ at_const scope (Const-F.Proj place set positions)

pub calls-Paren : (scope : Scope) (place : Place) (inner : Const) → const_calls scope (Paren place inner) ≡ const_calls scope inner
calls-Paren scope place inner = ap (const_calls scope) (sym (rolls-Paren place inner)) ∙ at_const scope (Const-F.Paren place inner)

pub calls-Braces : (scope : Scope) (place : Place) (body : TBody) → const_calls scope (Braces place body) ≡ typed_body_calls scope body
calls-Braces scope place body = ap (const_calls scope) (sym (rolls-Braces place body)) ∙ at_const scope (Const-F.Braces place body)

pub calls-If : (scope : Scope) (place : Place) (test : Const) (branch : Const) (otherwise : Const) → const_calls scope (If place test branch otherwise) ≡ max (const_calls scope test) (max (const_calls scope branch) (const_calls scope otherwise))
calls-If scope place test branch otherwise = ap (const_calls scope) (sym (rolls-If place test branch otherwise)) ∙ at_const scope (Const-F.If place test branch otherwise)

pub calls-Factorial : (scope : Scope) (operand : Const) (places : List Place) → const_calls scope (Factorial operand places) ≡ const_calls scope operand
calls-Factorial scope operand places = ap (const_calls scope) (sym (rolls-Factorial operand places)) ∙ at_const scope (Const-F.Factorial operand places)

pub calls-Power : (scope : Scope) (place : Place) (sign : Sign) (base : Const) (signed : Option (Place × Bool)) (exponent : Const) → const_calls scope (Power place sign base signed exponent) ≡ max (const_calls scope base) (const_calls scope exponent)
calls-Power scope place sign base signed exponent = ap (const_calls scope) (sym (rolls-Power place sign base signed exponent)) ∙ at_const scope (Const-F.Power place sign base signed exponent)

pub calls-Signed : (scope : Scope) (place : Place) (minus : Bool) (operand : Const) → const_calls scope (Signed place minus operand) ≡ const_calls scope operand
calls-Signed scope place minus operand = ap (const_calls scope) (sym (rolls-Signed place minus operand)) ∙ at_const scope (Const-F.Signed place minus operand)

pub calls-Big : (scope : Scope) (place : Place) (word : Word) (index : Loop) (with_do : Bool) (operand : Const) → const_calls scope (Big place word index with_do operand) ≡ max (loop_calls scope index) (const_calls scope operand)
calls-Big scope place word index with_do operand = ap (const_calls scope) (sym (rolls-Big place word index with_do operand)) ∙ at_const scope (Const-F.Big place word index with_do operand)

pub calls-Times : (scope : Scope) (first : Const) (others : List (Place × Token × Const)) → const_calls scope (Times first others) ≡ max (const_calls scope first) (greatest (map (λ (x : Place × Token × Const). const_calls scope x.2) others))
calls-Times scope first others = ap (const_calls scope) (sym (rolls-Times first others)) ∙ at_const scope (Const-F.Times first others)
    ∙ ap (λ (rest : List ℕ). max (const_calls scope first) (greatest rest)) (map-map (λ (x : Place × Token × ℕ). x.2) (λ (x : Place × Token × Const). (x.0, x.1, const_calls scope x.2)) others)

pub calls-Plus : (scope : Scope) (first : Const) (others : List (Place × Token × Const)) → const_calls scope (Plus first others) ≡ max (const_calls scope first) (greatest (map (λ (x : Place × Token × Const). const_calls scope x.2) others))
calls-Plus scope first others = ap (const_calls scope) (sym (rolls-Plus first others)) ∙ at_const scope (Const-F.Plus first others)
    ∙ ap (λ (rest : List ℕ). max (const_calls scope first) (greatest rest)) (map-map (λ (x : Place × Token × ℕ). x.2) (λ (x : Place × Token × Const). (x.0, x.1, const_calls scope x.2)) others)

pub calls-Compare : (scope : Scope) (place : Place) (relation : Relation) (left : Const) (right : Const) → const_calls scope (Compare place relation left right) ≡ max (const_calls scope left) (const_calls scope right)
calls-Compare scope place relation left right = ap (const_calls scope) (sym (rolls-Compare place relation left right)) ∙ at_const scope (Const-F.Compare place relation left right)

pub calls-Member : (scope : Scope) (place : Place) (tuple : TAngle) (set : Const) → const_calls scope (Member place tuple set) ≡ max (typed_angle_calls scope tuple) (const_calls scope set)
calls-Member scope place tuple set = ap (const_calls scope) (sym (rolls-Member place tuple set)) ∙ at_const scope (Const-F.Member place tuple set)

pub calls-Not : (scope : Scope) (place : Place) (operand : Const) → const_calls scope (Not place operand) ≡ const_calls scope operand
calls-Not scope place operand = ap (const_calls scope) (sym (rolls-Not place operand)) ∙ at_const scope (Const-F.Not place operand)

pub calls-And : (scope : Scope) (first : Const) (others : List (Place × Const)) → const_calls scope (And first others) ≡ max (const_calls scope first) (greatest (map (λ (x : Place × Const). const_calls scope x.1) others))
calls-And scope first others = ap (const_calls scope) (sym (rolls-And first others)) ∙ at_const scope (Const-F.And first others)
    ∙ ap (λ (rest : List ℕ). max (const_calls scope first) (greatest rest)) (map-map (λ (x : Place × ℕ). x.1) (λ (x : Place × Const). (x.0, const_calls scope x.1)) others)

pub calls-Or : (scope : Scope) (first : Const) (others : List (Place × Bool × Const)) → const_calls scope (Or first others) ≡ max (const_calls scope first) (greatest (map (λ (x : Place × Bool × Const). const_calls scope x.2) others))
calls-Or scope first others = ap (const_calls scope) (sym (rolls-Or first others)) ∙ at_const scope (Const-F.Or first others)
    ∙ ap (λ (rest : List ℕ). max (const_calls scope first) (greatest rest)) (map-map (λ (x : Place × Bool × ℕ). x.2) (λ (x : Place × Bool × Const). (x.0, x.1, const_calls scope x.2)) others)

pub calls-Members : (scope : Scope) (members : List Const) → typed_body_calls scope (Members members) ≡ greatest (map (const_calls scope) members)
calls-Members scope members = ap (typed_body_calls scope) (sym (rolls-Members members)) ∙ at_body scope (TBody-F.Members members)

pub calls-Tuples : (scope : Scope) (tuples : List TAngle) → typed_body_calls scope (Tuples tuples) ≡ greatest (map (typed_angle_calls scope) tuples)
calls-Tuples scope tuples = ap (typed_body_calls scope) (sym (rolls-Tuples tuples)) ∙ at_body scope (TBody-F.Tuples tuples)

pub calls-Those : (scope : Scope) (index : Loop) → typed_body_calls scope (Those index) ≡ loop_calls scope index
calls-Those scope index = ap (typed_body_calls scope) (sym (rolls-Those index)) ∙ at_body scope (TBody-F.Those index)

pub calls-Span : (scope : Scope) (from : Const) (with_to : Bool) (to : Const) (by : Option Const) →
    typed_body_calls scope (Span from with_to to by) ≡ max (const_calls scope from) (max (const_calls scope to) (greatest_given (option_map (const_calls scope) by)))
calls-Span scope from with_to to None = ap (typed_body_calls scope) (sym (rolls-Span from with_to to None)) ∙ at_body scope (TBody-F.Span from with_to to None)
calls-Span scope from with_to to (Some by) = ap (typed_body_calls scope) (sym (rolls-Span from with_to to (Some by))) ∙ at_body scope (TBody-F.Span from with_to to (Some by))

pub calls-tuple : (scope : Scope) (tuple : TAngle) → typed_angle_calls scope tuple ≡ greatest (map (const_calls scope) (out-TAngle tuple).items)
calls-tuple scope tuple = ap (typed_angle_calls scope) (sym (roll-out-TAngle tuple)) ∙ fold-roll-TAngle ℕ ℕ ℕ ℕ ℕ (calls_step scope) slot_calls_step body_calls_step loop_calls_step angle_calls_step (out-TAngle tuple)

pub calls-loop : (scope : Scope) (place : Place) (slots : List LoopSlot) (set : Const) (cond : Option Const) →
    loop_calls scope (typed_loop place slots set cond) ≡ max (greatest (map (slot_calls scope) slots)) (max (const_calls scope set) (greatest_given (option_map (const_calls scope) cond)))
calls-loop scope place slots set None = fold-roll-Loop ℕ ℕ ℕ ℕ ℕ (calls_step scope) slot_calls_step body_calls_step loop_calls_step angle_calls_step (record { place = place; slots = slots; set = set; cond = None })
calls-loop scope place slots set (Some c) = fold-roll-Loop ℕ ℕ ℕ ℕ ℕ (calls_step scope) slot_calls_step body_calls_step loop_calls_step angle_calls_step (record { place = place; slots = slots; set = set; cond = Some c })

-- ---- each form with how deep it nests and what it calls

abbrev pub const_nested : Scope → Const → Nested
const_nested scope tree = nested (const_depth tree) (const_calls scope tree)

abbrev pub body_nested : Scope → TBody → Nested
body_nested scope body = nested (typed_body_depth body) (typed_body_calls scope body)

abbrev pub slot_nested : Scope → LoopSlot → Nested
slot_nested scope slot = nested (slot_depth slot) (slot_calls scope slot)

pub of-Item : (scope : Scope) (place : Place) (name : List ℕ) (index : List Const) (r : Resolved) →
    nested (const_depth (Item place name index r)) (const_calls scope (Item place name index r)) ≡ nested (nesting_in_brackets (all (map const_depth index))) (greatest (map (const_calls scope) index))
of-Item scope place name index r = λ i. nested (nests-Item place name index r i) (calls-Item scope place name index r i)

pub of-Call : (scope : Scope) (place : Place) (name : List ℕ) (given : List Const) (r : Resolved) →
    nested (const_depth (Call place name given r)) (const_calls scope (Call place name given r)) ≡ nested (nesting_in_brackets (all (map const_depth given))) (max (function_nesting (kind_of_name scope name)) (greatest (map (const_calls scope) given)))
of-Call scope place name given r = λ i. nested (nests-Call place name given r i) (calls-Call scope place name given r i)

pub of-Func : (scope : Scope) (place : Place) (word : Word) (given : List Const) →
    nested (const_depth (Func place word given)) (const_calls scope (Func place word given)) ≡ nested (nesting_in_brackets (all (map const_depth given))) (greatest (map (const_calls scope) given))
of-Func scope place word given = λ i. nested (nests-Func place word given i) (calls-Func scope place word given i)

pub of-Proj : (scope : Scope) (place : Place) (set : Const) (positions : TAngle) →
    nested (const_depth (Proj place set positions)) (const_calls scope (Proj place set positions)) ≡ nested (nesting_in_brackets (const_depth set followed_by typed_angle_depth positions)) (max (const_calls scope set) (typed_angle_calls scope positions))
of-Proj scope place set positions = λ i. nested (nests-Proj place set positions i) (calls-Proj scope place set positions i)

pub of-Paren : (scope : Scope) (place : Place) (inner : Const) →
    nested (const_depth (Paren place inner)) (const_calls scope (Paren place inner)) ≡ nested (nesting_in_brackets (const_depth inner)) (const_calls scope inner)
of-Paren scope place inner = λ i. nested (nests-Paren place inner i) (calls-Paren scope place inner i)

pub of-Braces : (scope : Scope) (place : Place) (body : TBody) →
    nested (const_depth (Braces place body)) (const_calls scope (Braces place body)) ≡ nested (nesting_in_brackets (typed_body_depth body)) (typed_body_calls scope body)
of-Braces scope place body = λ i. nested (nests-Braces place body i) (calls-Braces scope place body i)

pub of-If : (scope : Scope) (place : Place) (test : Const) (branch : Const) (otherwise : Const) →
    nested (const_depth (If place test branch otherwise)) (const_calls scope (If place test branch otherwise)) ≡ nested (nesting_in_brackets (const_depth test followed_by const_depth branch followed_by const_depth otherwise)) (max (const_calls scope test) (max (const_calls scope branch) (const_calls scope otherwise)))
of-If scope place test branch otherwise = λ i. nested (nests-If place test branch otherwise i) (calls-If scope place test branch otherwise i)

pub of-Factorial : (scope : Scope) (operand : Const) (places : List Place) →
    nested (const_depth (Factorial operand places)) (const_calls scope (Factorial operand places)) ≡ nested (const_depth operand) (const_calls scope operand)
of-Factorial scope operand places = λ i. nested (nests-Factorial operand places i) (calls-Factorial scope operand places i)

pub of-Power : (scope : Scope) (place : Place) (sign : Sign) (base : Const) (signed : Option (Place × Bool)) (exponent : Const) →
    nested (const_depth (Power place sign base signed exponent)) (const_calls scope (Power place sign base signed exponent)) ≡ nested (const_depth base followed_by const_depth exponent) (max (const_calls scope base) (const_calls scope exponent))
of-Power scope place sign base signed exponent = λ i. nested (nests-Power place sign base signed exponent i) (calls-Power scope place sign base signed exponent i)

pub of-Signed : (scope : Scope) (place : Place) (minus : Bool) (operand : Const) →
    nested (const_depth (Signed place minus operand)) (const_calls scope (Signed place minus operand)) ≡ nested (const_depth operand) (const_calls scope operand)
of-Signed scope place minus operand = λ i. nested (nests-Signed place minus operand i) (calls-Signed scope place minus operand i)

pub of-Big : (scope : Scope) (place : Place) (word : Word) (index : Loop) (with_do : Bool) (operand : Const) →
    nested (const_depth (Big place word index with_do operand)) (const_calls scope (Big place word index with_do operand)) ≡ nested (a_loop followed_by loop_depth index followed_by const_depth operand) (max (loop_calls scope index) (const_calls scope operand))
of-Big scope place word index with_do operand = λ i. nested (nests-Big place word index with_do operand i) (calls-Big scope place word index with_do operand i)

pub of-Times : (scope : Scope) (first : Const) (others : List (Place × Token × Const)) →
    nested (const_depth (Times first others)) (const_calls scope (Times first others)) ≡ nested (followed (const_depth first) (map (λ (x : Place × Token × Const). const_depth x.2) others)) (max (const_calls scope first) (greatest (map (λ (x : Place × Token × Const). const_calls scope x.2) others)))
of-Times scope first others = λ i. nested (nests-Times first others i) (calls-Times scope first others i)

pub of-Plus : (scope : Scope) (first : Const) (others : List (Place × Token × Const)) →
    nested (const_depth (Plus first others)) (const_calls scope (Plus first others)) ≡ nested (followed (const_depth first) (map (λ (x : Place × Token × Const). const_depth x.2) others)) (max (const_calls scope first) (greatest (map (λ (x : Place × Token × Const). const_calls scope x.2) others)))
of-Plus scope first others = λ i. nested (nests-Plus first others i) (calls-Plus scope first others i)

pub of-Compare : (scope : Scope) (place : Place) (relation : Relation) (left : Const) (right : Const) →
    nested (const_depth (Compare place relation left right)) (const_calls scope (Compare place relation left right)) ≡ nested (const_depth left followed_by const_depth right) (max (const_calls scope left) (const_calls scope right))
of-Compare scope place relation left right = λ i. nested (nests-Compare place relation left right i) (calls-Compare scope place relation left right i)

pub of-Member : (scope : Scope) (place : Place) (tuple : TAngle) (set : Const) →
    nested (const_depth (Member place tuple set)) (const_calls scope (Member place tuple set)) ≡ nested (typed_angle_depth tuple followed_by const_depth set) (max (typed_angle_calls scope tuple) (const_calls scope set))
of-Member scope place tuple set = λ i. nested (nests-Member place tuple set i) (calls-Member scope place tuple set i)

pub of-Not : (scope : Scope) (place : Place) (operand : Const) →
    nested (const_depth (Not place operand)) (const_calls scope (Not place operand)) ≡ nested (const_depth operand) (const_calls scope operand)
of-Not scope place operand = λ i. nested (nests-Not place operand i) (calls-Not scope place operand i)

pub of-And : (scope : Scope) (first : Const) (others : List (Place × Const)) →
    nested (const_depth (And first others)) (const_calls scope (And first others)) ≡ nested (followed (const_depth first) (map (λ (x : Place × Const). const_depth x.1) others)) (max (const_calls scope first) (greatest (map (λ (x : Place × Const). const_calls scope x.1) others)))
of-And scope first others = λ i. nested (nests-And first others i) (calls-And scope first others i)

pub of-Or : (scope : Scope) (first : Const) (others : List (Place × Bool × Const)) →
    nested (const_depth (Or first others)) (const_calls scope (Or first others)) ≡ nested (followed (const_depth first) (map (λ (x : Place × Bool × Const). const_depth x.2) others)) (max (const_calls scope first) (greatest (map (λ (x : Place × Bool × Const). const_calls scope x.2) others)))
of-Or scope first others = λ i. nested (nests-Or first others i) (calls-Or scope first others i)

pub of-Members : (scope : Scope) (members : List Const) →
    nested (typed_body_depth (Members members)) (typed_body_calls scope (Members members)) ≡ nested (all (map const_depth members)) (greatest (map (const_calls scope) members))
of-Members scope members = λ i. nested (nests-Members members i) (calls-Members scope members i)

pub of-Tuples : (scope : Scope) (tuples : List TAngle) →
    nested (typed_body_depth (Tuples tuples)) (typed_body_calls scope (Tuples tuples)) ≡ nested (all (map typed_angle_depth tuples)) (greatest (map (typed_angle_calls scope) tuples))
of-Tuples scope tuples = λ i. nested (nests-Tuples tuples i) (calls-Tuples scope tuples i)

pub of-Those : (scope : Scope) (index : Loop) →
    nested (typed_body_depth (Those index)) (typed_body_calls scope (Those index)) ≡ nested (loop_depth index) (loop_calls scope index)
of-Those scope index = λ i. nested (nests-Those index i) (calls-Those scope index i)

pub of-Span : (scope : Scope) (from : Const) (with_to : Bool) (to : Const) (by : Option Const) →
    nested (typed_body_depth (Span from with_to to by)) (typed_body_calls scope (Span from with_to to by)) ≡ nested (const_depth from followed_by const_depth to followed_by nesting_if_given (option_map const_depth by)) (max (const_calls scope from) (max (const_calls scope to) (greatest_given (option_map (const_calls scope) by))))
of-Span scope from with_to to by = λ i. nested (nests-Span from with_to to by i) (calls-Span scope from with_to to by i)

pub of-Free : (scope : Scope) (name : List ℕ) → nested (slot_depth (Free name)) (slot_calls scope (Free name)) ≡ nested no_nesting 0
of-Free scope name = λ i. nested (nests-Free name i) ((ap (slot_calls scope) (sym (rolls-Free name)) ∙ at_slot scope (LoopSlot-F.Free name)) i)

pub of-Again : (scope : Scope) (position : ℕ) → nested (slot_depth (Again position)) (slot_calls scope (Again position)) ≡ nested no_nesting 0
of-Again scope position = λ i. nested (nests-Again position i) ((ap (slot_calls scope) (sym (rolls-Again position)) ∙ at_slot scope (LoopSlot-F.Again position)) i)

pub of-Fixed : (scope : Scope) (value : Const) → nested (slot_depth (Fixed value)) (slot_calls scope (Fixed value)) ≡ nested (const_depth value) (const_calls scope value)
of-Fixed scope value = λ i. nested (nests-Fixed value i) ((ap (slot_calls scope) (sym (rolls-Fixed value)) ∙ at_slot scope (LoopSlot-F.Fixed value)) i)

pub of-tuple : (scope : Scope) (tuple : TAngle) →
    nested (typed_angle_depth tuple) (typed_angle_calls scope tuple) ≡ nested (all (map const_depth (out-TAngle tuple).items)) (greatest (map (const_calls scope) (out-TAngle tuple).items))
of-tuple scope tuple = λ i. nested ((ap typed_angle_depth (sym (roll-out-TAngle tuple)) ∙ nests-tuple (out-TAngle tuple).place (out-TAngle tuple).items) i) (calls-tuple scope tuple i)

pub of-loop : (scope : Scope) (index : Loop) →
    nested (loop_depth index) (loop_calls scope index)
    ≡ nested (all (map slot_depth (out-Loop index).slots) followed_by const_depth (out-Loop index).set followed_by nesting_if_given (option_map const_depth (out-Loop index).cond))
    (max (greatest (map (slot_calls scope) (out-Loop index).slots)) (max (const_calls scope (out-Loop index).set) (greatest_given (option_map (const_calls scope) (out-Loop index).cond))))
of-loop scope index =
    let parts = out-Loop index in
    λ i. nested ((ap loop_depth (sym (roll-out-Loop index)) ∙ nests-loop parts.place parts.slots parts.set parts.cond) i) ((ap (loop_calls scope) (sym (roll-out-Loop index)) ∙ calls-loop scope parts.place parts.slots parts.set parts.cond) i)

-- ---- one step of a loop over parts

depth-next : {X : Type 0} (f : X → Depth) (d : Depth) (xs : List X) (i : ℕ) (x : X) → i < length xs → x ≡ get_or xs i x →
    followed d (map f (take i xs)) followed_by f x ≡ followed d (map f (take (i + 1) xs))
depth-next {X} f d xs i x within is =
    let step : Depth → X → Depth = λ before y. before followed_by f y in
    (λ j. fold-map (λ (before : Depth) (piece : Depth). before followed_by piece) f d (take i xs) j followed_by ap f is j) ∙ sym (fold_more step d xs i x within) ∙ sym (fold-map (λ (before : Depth) (piece : Depth). before followed_by piece) f d (take (i + 1) xs))

-- the next of parts one behind the other
pub next-part : {X : Type 0} (f : X → Depth) (g : X → ℕ) (xs : List X) (i : ℕ) (x : X) {after : Nested} → i < length xs → x ≡ get_or xs i x →
    after ≡ nested (all (map f (take i xs)) followed_by f x) (max (greatest (map g (take i xs))) (g x)) →
    after ≡ nested (all (map f (take (i + 1) xs))) (greatest (map g (take (i + 1) xs)))
next-part f g xs i x within is h = h ∙ (λ j. nested (depth-next f no_nesting xs i x within is j) (greatest-next g xs i x within is refl refl refl j))

pub last-part : {X : Type 0} (f : X → Depth) (g : X → ℕ) (xs : List X) (i : ℕ) {whole : Nested} → length xs ≤ i → whole ≡ nested (all (map f (take i xs))) (greatest (map g (take i xs))) →
    whole ≡ nested (all (map f xs)) (greatest (map g xs))
last-part f g xs i out h = h ∙ ap (λ (ys : List _). nested (all (map f ys)) (greatest (map g ys))) (take_all i xs out)

-- the next operand behind the first
pub next-operand : {X : Type 0} (f : X → Depth) (g : X → ℕ) (d : Depth) (k : ℕ) (xs : List X) (i : ℕ) (x : X) {after : Nested} → i < length xs → x ≡ get_or xs i x →
    after ≡ nested (followed d (map f (take i xs)) followed_by f x) (max (max k (greatest (map g (take i xs)))) (g x)) →
    after ≡ nested (followed d (map f (take (i + 1) xs))) (max k (greatest (map g (take (i + 1) xs))))
next-operand f g d k xs i x within is h =
    h ∙ (λ j. nested (depth-next f d xs i x within is j) ((grouped k (greatest (map g (take i xs))) (g x) ∙ ap (max k) (greatest-next g xs i x within is refl refl refl)) j))
  where
    grouped : (a b c : ℕ) → max (max a b) c ≡ max a (max b c)
    grouped a b c = omega arith

pub last-operand : {X : Type 0} (f : X → Depth) (g : X → ℕ) (d : Depth) (k : ℕ) (xs : List X) (i : ℕ) {whole : Nested} → length xs ≤ i →
    whole ≡ nested (followed d (map f (take i xs))) (max k (greatest (map g (take i xs)))) → whole ≡ nested (followed d (map f xs)) (max k (greatest (map g xs)))
last-operand f g d k xs i out h = h ∙ ap (λ (ys : List _). nested (followed d (map f ys)) (max k (greatest (map g ys)))) (take_all i xs out)

-- the first operand, before the others
pub first-operand : (d : Depth) (k : ℕ) {whole : Nested} → whole ≡ nested d k → whole ≡ nested d (max k 0)
first-operand d k h = h ∙ ap (nested d) (above k)
  where
    above : (b : ℕ) → b ≡ max b 0
    above b = omega arith

-- a piece that calls none, and another
pub none-called : (n : ℕ) → max 0 n ≡ n
none-called n = omega arith

-- ---- the full nesting of a function

pub together : (d k : ℕ) → min (min (2 ^ 64 - 1) d + max 0 k) (2 ^ 64 - 1) ≡ min (2 ^ 64 - 1) (d + k)
together d k = omega arith

-- a full nesting within the limit fits
pub fits : (n : ℕ) → n ≤ 200 → min (2 ^ 64 - 1) n ≡ n
fits n h = omega arith
