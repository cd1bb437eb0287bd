-- How deep each form of a constant nests, one equation for each.
use Rattle.std.proofs.Common.{◌≡◌, ℕ, Bool, List, map, Option, Some, None, option_map, sym, ap, ◌∙◌}
use Rattle.std.proofs.lemmas.Simd.{map-map}
use Rattle.zim_fault.specs.declared.faults.Place.{Place}
use Rattle.zim_fault.specs.declared.tokens.Token.{Token}
use Rattle.zim_fault.specs.declared.tokens.Relation.{Relation}
use Rattle.zim_fault.specs.declared.signs.Sign.{Sign}
use Rattle.zim_fault.specs.declared.words.Word.{Word}
use Rattle.zim_nesting.specs.Depth.{Depth, no_nesting, a_loop, nesting_in_brackets, ◌followed_by◌, followed, all, nesting_if_given}
use Rattle.zim_typed.specs.declared.constant.Resolved.{Resolved}
use Rattle.zim_typed.specs.declared.constant.Const.{Const, Const-F, roll-Const, map-Const, fold-roll-Const}
use Rattle.zim_typed.specs.declared.constant.Const.TheVariants.{Number, Text, Truth, Name, Item, Call, Func, Proj, Paren, Braces, If, Factorial, Power, Signed, Big, Times, Plus, Compare, Member, Not, And, Or, rolls-Number, rolls-Text, rolls-Truth, rolls-Name, rolls-Item, rolls-Call, rolls-Func, rolls-Proj, rolls-Paren, rolls-Braces, rolls-If, rolls-Factorial, rolls-Power, rolls-Signed, rolls-Big, rolls-Times, rolls-Plus, rolls-Compare, rolls-Member, rolls-Not, rolls-And, rolls-Or}
use Rattle.zim_typed.specs.declared.constant.LoopSlot.{LoopSlot, LoopSlot-F, roll-LoopSlot, map-LoopSlot, fold-LoopSlot, fold-roll-LoopSlot}
use Rattle.zim_typed.specs.declared.constant.LoopSlot.TheVariants.{Free, Again, Fixed, rolls-Free, rolls-Again, rolls-Fixed}
use Rattle.zim_typed.specs.declared.constant.TBody.{TBody, TBody-F, roll-TBody, map-TBody, fold-TBody, fold-roll-TBody}
use Rattle.zim_typed.specs.declared.constant.TBody.TheVariants.{Empty, Members, Tuples, Those, Span, rolls-Empty, rolls-Members, rolls-Tuples, rolls-Those, rolls-Span}
use Rattle.zim_typed.specs.declared.constant.Loop.{Loop, fold-Loop, fold-roll-Loop}
use Rattle.zim_typed.specs.declared.constant.TAngle.{TAngle, fold-TAngle, fold-roll-TAngle}
use Rattle.zim_typed.specs.Trees.{typed_angle, typed_loop}
use Rattle.zim_typed.specs.Nesting.{depth_step, slot_depth_step, body_depth_step, loop_depth_step, angle_depth_step, const_depth}

abbrev pub slot_depth : LoopSlot → Depth
slot_depth = fold-LoopSlot Depth Depth Depth Depth Depth depth_step slot_depth_step body_depth_step loop_depth_step angle_depth_step

abbrev pub body_depth : TBody → Depth
body_depth = fold-TBody Depth Depth Depth Depth Depth depth_step slot_depth_step body_depth_step loop_depth_step angle_depth_step

abbrev pub loop_depth : Loop → Depth
loop_depth = fold-Loop Depth Depth Depth Depth Depth depth_step slot_depth_step body_depth_step loop_depth_step angle_depth_step

abbrev pub tuple_depth : TAngle → Depth
tuple_depth = fold-TAngle Depth Depth Depth Depth Depth depth_step slot_depth_step body_depth_step loop_depth_step angle_depth_step

at_const : (d : Const-F Const LoopSlot TBody Loop TAngle) → const_depth (roll-Const d) ≡ depth_step (map-Const Const LoopSlot TBody Loop TAngle Depth Depth Depth Depth Depth const_depth slot_depth body_depth loop_depth tuple_depth d)
at_const = fold-roll-Const Depth Depth Depth Depth Depth depth_step slot_depth_step body_depth_step loop_depth_step angle_depth_step

at_slot : (d : LoopSlot-F Const LoopSlot TBody Loop TAngle) → slot_depth (roll-LoopSlot d) ≡ slot_depth_step (map-LoopSlot Const LoopSlot TBody Loop TAngle Depth Depth Depth Depth Depth const_depth slot_depth body_depth loop_depth tuple_depth d)
at_slot = fold-roll-LoopSlot Depth Depth Depth Depth Depth depth_step slot_depth_step body_depth_step loop_depth_step angle_depth_step

at_body : (d : TBody-F Const LoopSlot TBody Loop TAngle) → body_depth (roll-TBody d) ≡ body_depth_step (map-TBody Const LoopSlot TBody Loop TAngle Depth Depth Depth Depth Depth const_depth slot_depth body_depth loop_depth tuple_depth d)
at_body = fold-roll-TBody Depth Depth Depth Depth Depth depth_step slot_depth_step body_depth_step loop_depth_step angle_depth_step

pub nests-tuple : (place : Place) (items : List Const) → tuple_depth (typed_angle place items) ≡ all (map const_depth items)
nests-tuple place items = fold-roll-TAngle Depth Depth Depth Depth Depth depth_step slot_depth_step body_depth_step loop_depth_step angle_depth_step (record { place = place; items = items })

pub nests-loop : (place : Place) (slots : List LoopSlot) (set : Const) (cond : Option Const) →
    loop_depth (typed_loop place slots set cond) ≡ all (map slot_depth slots) followed_by const_depth set followed_by nesting_if_given (option_map const_depth cond)
nests-loop place slots set None = fold-roll-Loop Depth Depth Depth Depth Depth depth_step slot_depth_step body_depth_step loop_depth_step angle_depth_step (record { place = place; slots = slots; set = set; cond = None })
nests-loop place slots set (Some c) = fold-roll-Loop Depth Depth Depth Depth Depth depth_step slot_depth_step body_depth_step loop_depth_step angle_depth_step (record { place = place; slots = slots; set = set; cond = Some c })

pub nests-Free : (name : List ℕ) → slot_depth (Free name) ≡ no_nesting
nests-Free name = ap slot_depth (sym (rolls-Free name)) ∙ at_slot (LoopSlot-F.Free name)

pub nests-Again : (position : ℕ) → slot_depth (Again position) ≡ no_nesting
nests-Again position = ap slot_depth (sym (rolls-Again position)) ∙ at_slot (LoopSlot-F.Again position)

pub nests-Fixed : (value : Const) → slot_depth (Fixed value) ≡ const_depth value
nests-Fixed value = ap slot_depth (sym (rolls-Fixed value)) ∙ at_slot (LoopSlot-F.Fixed value)

pub nests-Empty : body_depth Empty ≡ no_nesting
nests-Empty = ap body_depth (sym rolls-Empty) ∙ at_body TBody-F.Empty

pub nests-Members : (members : List Const) → body_depth (Members members) ≡ all (map const_depth members)
nests-Members members = ap body_depth (sym (rolls-Members members)) ∙ at_body (TBody-F.Members members)

pub nests-Tuples : (tuples : List TAngle) → body_depth (Tuples tuples) ≡ all (map tuple_depth tuples)
nests-Tuples tuples = ap body_depth (sym (rolls-Tuples tuples)) ∙ at_body (TBody-F.Tuples tuples)

pub nests-Those : (index : Loop) → body_depth (Those index) ≡ loop_depth index
nests-Those index = ap body_depth (sym (rolls-Those index)) ∙ at_body (TBody-F.Those index)

pub nests-Span : (from : Const) (with_to : Bool) (to : Const) (by : Option Const) → body_depth (Span from with_to to by) ≡ const_depth from followed_by const_depth to followed_by nesting_if_given (option_map const_depth by)
nests-Span from with_to to None = ap body_depth (sym (rolls-Span from with_to to None)) ∙ at_body (TBody-F.Span from with_to to None)
nests-Span from with_to to (Some by) = ap body_depth (sym (rolls-Span from with_to to (Some by))) ∙ at_body (TBody-F.Span from with_to to (Some by))

pub nests-Number : (place : Place) (digits : List ℕ) → const_depth (Number place digits) ≡ no_nesting
nests-Number place digits = ap const_depth (sym (rolls-Number place digits)) ∙ at_const (Const-F.Number place digits)

pub nests-Text : (place : Place) (text : List ℕ) (double : Bool) → const_depth (Text place text double) ≡ no_nesting
nests-Text place text double = ap const_depth (sym (rolls-Text place text double)) ∙ at_const (Const-F.Text place text double)

pub nests-Truth : (place : Place) (truth : Bool) → const_depth (Truth place truth) ≡ no_nesting
nests-Truth place truth = ap const_depth (sym (rolls-Truth place truth)) ∙ at_const (Const-F.Truth place truth)

pub nests-Name : (place : Place) (name : List ℕ) (r : Resolved) → const_depth (Name place name r) ≡ no_nesting
nests-Name place name r = ap const_depth (sym (rolls-Name place name r)) ∙ at_const (Const-F.Name place name r)

pub nests-Item : (place : Place) (name : List ℕ) (index : List Const) (r : Resolved) → const_depth (Item place name index r) ≡ nesting_in_brackets (all (map const_depth index))
nests-Item place name index r = ap const_depth (sym (rolls-Item place name index r)) ∙ at_const (Const-F.Item place name index r)

pub nests-Call : (place : Place) (name : List ℕ) (given : List Const) (r : Resolved) → const_depth (Call place name given r) ≡ nesting_in_brackets (all (map const_depth given))
nests-Call place name given r = ap const_depth (sym (rolls-Call place name given r)) ∙ at_const (Const-F.Call place name given r)

pub nests-Func : (place : Place) (word : Word) (given : List Const) → const_depth (Func place word given) ≡ nesting_in_brackets (all (map const_depth given))
nests-Func place word given = ap const_depth (sym (rolls-Func place word given)) ∙ at_const (Const-F.Func place word given)

pub nests-Proj : (place : Place) (set : Const) (positions : TAngle) → const_depth (Proj place set positions) ≡ nesting_in_brackets (const_depth set followed_by tuple_depth positions)
nests-Proj place set positions = ap const_depth (sym (rolls-Proj place set positions)) ∙ at_const (Const-F.Proj place set positions)

pub nests-Paren : (place : Place) (inner : Const) → const_depth (Paren place inner) ≡ nesting_in_brackets (const_depth inner)
nests-Paren place inner = ap const_depth (sym (rolls-Paren place inner)) ∙ at_const (Const-F.Paren place inner)

pub nests-Braces : (place : Place) (body : TBody) → const_depth (Braces place body) ≡ nesting_in_brackets (body_depth body)
nests-Braces place body = ap const_depth (sym (rolls-Braces place body)) ∙ at_const (Const-F.Braces place body)

pub nests-If : (place : Place) (test branch otherwise : Const) → const_depth (If place test branch otherwise) ≡ nesting_in_brackets (const_depth test followed_by const_depth branch followed_by const_depth otherwise)
nests-If place test branch otherwise = ap const_depth (sym (rolls-If place test branch otherwise)) ∙ at_const (Const-F.If place test branch otherwise)

pub nests-Factorial : (operand : Const) (places : List Place) → const_depth (Factorial operand places) ≡ const_depth operand
nests-Factorial operand places = ap const_depth (sym (rolls-Factorial operand places)) ∙ at_const (Const-F.Factorial operand places)

pub nests-Power : (place : Place) (sign : Sign) (base : Const) (signed : Option (Place × Bool)) (exponent : Const) → const_depth (Power place sign base signed exponent) ≡ const_depth base followed_by const_depth exponent
nests-Power place sign base signed exponent = ap const_depth (sym (rolls-Power place sign base signed exponent)) ∙ at_const (Const-F.Power place sign base signed exponent)

pub nests-Signed : (place : Place) (minus : Bool) (operand : Const) → const_depth (Signed place minus operand) ≡ const_depth operand
nests-Signed place minus operand = ap const_depth (sym (rolls-Signed place minus operand)) ∙ at_const (Const-F.Signed place minus operand)

pub nests-Big : (place : Place) (word : Word) (index : Loop) (with_do : Bool) (operand : Const) → const_depth (Big place word index with_do operand) ≡ a_loop followed_by loop_depth index followed_by const_depth operand
nests-Big place word index with_do operand = ap const_depth (sym (rolls-Big place word index with_do operand)) ∙ at_const (Const-F.Big place word index with_do operand)

pub nests-Times : (first : Const) (others : List (Place × Token × Const)) → const_depth (Times first others) ≡ followed (const_depth first) (map (λ (x : Place × Token × Const). const_depth x.2) others)
nests-Times first others = ap const_depth (sym (rolls-Times first others)) ∙ at_const (Const-F.Times first others)
    ∙ ap (followed (const_depth first)) (map-map (λ (x : Place × Token × Depth). x.2) (λ (x : Place × Token × Const). (x.0, x.1, const_depth x.2)) others)

pub nests-Plus : (first : Const) (others : List (Place × Token × Const)) → const_depth (Plus first others) ≡ followed (const_depth first) (map (λ (x : Place × Token × Const). const_depth x.2) others)
nests-Plus first others = ap const_depth (sym (rolls-Plus first others)) ∙ at_const (Const-F.Plus first others)
    ∙ ap (followed (const_depth first)) (map-map (λ (x : Place × Token × Depth). x.2) (λ (x : Place × Token × Const). (x.0, x.1, const_depth x.2)) others)

pub nests-Compare : (place : Place) (relation : Relation) (left right : Const) → const_depth (Compare place relation left right) ≡ const_depth left followed_by const_depth right
nests-Compare place relation left right = ap const_depth (sym (rolls-Compare place relation left right)) ∙ at_const (Const-F.Compare place relation left right)

pub nests-Member : (place : Place) (tuple : TAngle) (set : Const) → const_depth (Member place tuple set) ≡ tuple_depth tuple followed_by const_depth set
nests-Member place tuple set = ap const_depth (sym (rolls-Member place tuple set)) ∙ at_const (Const-F.Member place tuple set)

pub nests-Not : (place : Place) (operand : Const) → const_depth (Not place operand) ≡ const_depth operand
nests-Not place operand = ap const_depth (sym (rolls-Not place operand)) ∙ at_const (Const-F.Not place operand)

pub nests-And : (first : Const) (others : List (Place × Const)) → const_depth (And first others) ≡ followed (const_depth first) (map (λ (x : Place × Const). const_depth x.1) others)
nests-And first others = ap const_depth (sym (rolls-And first others)) ∙ at_const (Const-F.And first others)
    ∙ ap (followed (const_depth first)) (map-map (λ (x : Place × Depth). x.1) (λ (x : Place × Const). (x.0, const_depth x.1)) others)

pub nests-Or : (first : Const) (others : List (Place × Bool × Const)) → const_depth (Or first others) ≡ followed (const_depth first) (map (λ (x : Place × Bool × Const). const_depth x.2) others)
nests-Or first others = ap const_depth (sym (rolls-Or first others)) ∙ at_const (Const-F.Or first others)
    ∙ ap (followed (const_depth first)) (map-map (λ (x : Place × Bool × Depth). x.2) (λ (x : Place × Bool × Const). (x.0, x.1, const_depth x.2)) others)
