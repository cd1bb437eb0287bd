-- What is known of each form of an expression, one equation for each.
use Rattle.std.proofs.Common.{◌≡◌, ℕ, Bool, List, map, Option, Some, None, option_map, sym, ap, ◌∙◌}
use Rattle.zim_fault.specs.declared.faults.Place.{Place}
use Rattle.zim_fault.specs.declared.tokens.Token.{Token}
use Rattle.zim_fault.specs.declared.tokens.Relation.{Relation}
use Rattle.zim_fault.specs.declared.signs.Sign.{Sign}
use Rattle.zim_fault.specs.declared.words.Word.{Word}
use Rattle.zim_meaning.specs.Expressions.{Calls}
use Rattle.zim_meaning.specs.Value.{ConstMeaning, SlotMeaning, BodyMeaning, LoopMeaning, TupleMeaning, const_meaning_step, slot_meaning_step, body_meaning_step, loop_meaning_step, tuple_meaning_step, meaning_of_const, meaning_of_slot, meaning_of_body, meaning_of_loop, meaning_of_tuple}
use Rattle.zim_meaning.specs.World.{World}
use Rattle.zim_tuples.specs.declared.environments.Binding.{Binding}
use Rattle.zim_typed.specs.Trees.{typed_angle, typed_loop}
use Rattle.zim_typed.specs.declared.constant.Const.{Const, Const-F, roll-Const, map-Const, fold-roll-Const}
use Rattle.zim_typed.specs.declared.constant.Const.TheVariants as const
use Rattle.zim_typed.specs.declared.constant.Loop.{Loop, fold-roll-Loop}
use Rattle.zim_typed.specs.declared.constant.LoopSlot.{LoopSlot, LoopSlot-F, roll-LoopSlot, map-LoopSlot, fold-roll-LoopSlot}
use Rattle.zim_typed.specs.declared.constant.LoopSlot.TheVariants as slot
use Rattle.zim_typed.specs.declared.constant.Resolved.{Resolved}
use Rattle.zim_typed.specs.declared.constant.TAngle.{TAngle, TAngle-F, fold-roll-TAngle}
use Rattle.zim_typed.specs.declared.constant.TBody.{TBody, TBody-F, roll-TBody, map-TBody, fold-roll-TBody}
use Rattle.zim_typed.specs.declared.constant.TBody.TheVariants as body
use Rattle.zim_typed.specs.declared.constant.Const.TheViews as views
use Rattle.zim_typed.specs.declared.statement.TDoing.{TDoing, TDoing-F, roll-TDoing, map-TDoing, fold-roll-TDoing}
use Rattle.zim_typed.specs.declared.statement.TDoing.TheVariants as doing
use Rattle.zim_typed.specs.declared.statement.TPrinted.{TPrinted}
use Rattle.zim_meaning.specs.Printing.{Doing, doing_output_step, doing_output}
use Rattle.zim_typed.specs.declared.constant.Const.{out-Const}
use Rattle.zim_typed.specs.declared.constant.TAngle.{out-TAngle}

at_const : (world : World) (calls : Calls) (d : Const-F Const LoopSlot TBody Loop TAngle) → meaning_of_const world calls (roll-Const d) ≡ const_meaning_step world calls (map-Const Const LoopSlot TBody Loop TAngle ConstMeaning SlotMeaning BodyMeaning LoopMeaning TupleMeaning (meaning_of_const world calls) (meaning_of_slot world calls) (meaning_of_body world calls) (meaning_of_loop world calls) (meaning_of_tuple world calls) d)
unfolding meaning_of_const meaning_of_slot meaning_of_body meaning_of_loop meaning_of_tuple
at_const world calls = fold-roll-Const ConstMeaning SlotMeaning BodyMeaning LoopMeaning TupleMeaning (const_meaning_step world calls) slot_meaning_step body_meaning_step loop_meaning_step tuple_meaning_step

at_slot : (world : World) (calls : Calls) (d : LoopSlot-F Const LoopSlot TBody Loop TAngle) → meaning_of_slot world calls (roll-LoopSlot d) ≡ slot_meaning_step (map-LoopSlot Const LoopSlot TBody Loop TAngle ConstMeaning SlotMeaning BodyMeaning LoopMeaning TupleMeaning (meaning_of_const world calls) (meaning_of_slot world calls) (meaning_of_body world calls) (meaning_of_loop world calls) (meaning_of_tuple world calls) d)
unfolding meaning_of_const meaning_of_slot meaning_of_body meaning_of_loop meaning_of_tuple
at_slot world calls = fold-roll-LoopSlot ConstMeaning SlotMeaning BodyMeaning LoopMeaning TupleMeaning (const_meaning_step world calls) slot_meaning_step body_meaning_step loop_meaning_step tuple_meaning_step

at_body : (world : World) (calls : Calls) (d : TBody-F Const LoopSlot TBody Loop TAngle) → meaning_of_body world calls (roll-TBody d) ≡ body_meaning_step (map-TBody Const LoopSlot TBody Loop TAngle ConstMeaning SlotMeaning BodyMeaning LoopMeaning TupleMeaning (meaning_of_const world calls) (meaning_of_slot world calls) (meaning_of_body world calls) (meaning_of_loop world calls) (meaning_of_tuple world calls) d)
unfolding meaning_of_const meaning_of_slot meaning_of_body meaning_of_loop meaning_of_tuple
at_body world calls = fold-roll-TBody ConstMeaning SlotMeaning BodyMeaning LoopMeaning TupleMeaning (const_meaning_step world calls) slot_meaning_step body_meaning_step loop_meaning_step tuple_meaning_step

pub means-Number : (world : World) (calls : Calls) (place : Place) (digits : List ℕ) → meaning_of_const world calls (const.Number place digits) ≡ const_meaning_step world calls (Const-F.Number place digits)
means-Number world calls place digits = ap (meaning_of_const world calls) (sym (const.rolls-Number place digits)) ∙ at_const world calls (Const-F.Number place digits)

pub means-Text : (world : World) (calls : Calls) (place : Place) (text : List ℕ) (double : Bool) → meaning_of_const world calls (const.Text place text double) ≡ const_meaning_step world calls (Const-F.Text place text double)
means-Text world calls place text double = ap (meaning_of_const world calls) (sym (const.rolls-Text place text double)) ∙ at_const world calls (Const-F.Text place text double)

pub means-Truth : (world : World) (calls : Calls) (place : Place) (truth : Bool) → meaning_of_const world calls (const.Truth place truth) ≡ const_meaning_step world calls (Const-F.Truth place truth)
means-Truth world calls place truth = ap (meaning_of_const world calls) (sym (const.rolls-Truth place truth)) ∙ at_const world calls (Const-F.Truth place truth)

pub means-Infinity : (world : World) (calls : Calls) (place : Place) → meaning_of_const world calls (const.Infinity place) ≡ const_meaning_step world calls (Const-F.Infinity place)
means-Infinity world calls place = ap (meaning_of_const world calls) (sym (const.rolls-Infinity place)) ∙ at_const world calls (Const-F.Infinity place)

pub means-Name : (world : World) (calls : Calls) (place : Place) (name : List ℕ) (what : Resolved) → meaning_of_const world calls (const.Name place name what) ≡ const_meaning_step world calls (Const-F.Name place name what)
means-Name world calls place name what = ap (meaning_of_const world calls) (sym (const.rolls-Name place name what)) ∙ at_const world calls (Const-F.Name place name what)

pub means-Item : (world : World) (calls : Calls) (place : Place) (name : List ℕ) (index : List Const) (what : Resolved) → meaning_of_const world calls (const.Item place name index what) ≡ const_meaning_step world calls (Const-F.Item place name (map (meaning_of_const world calls) index) what)
means-Item world calls place name index what = ap (meaning_of_const world calls) (sym (const.rolls-Item place name index what)) ∙ at_const world calls (Const-F.Item place name index what)

pub means-Call : (world : World) (calls : Calls) (place : Place) (name : List ℕ) (given : List Const) (what : Resolved) → meaning_of_const world calls (const.Call place name given what) ≡ const_meaning_step world calls (Const-F.Call place name (map (meaning_of_const world calls) given) what)
means-Call world calls place name given what = ap (meaning_of_const world calls) (sym (const.rolls-Call place name given what)) ∙ at_const world calls (Const-F.Call place name given what)

pub means-Func : (world : World) (calls : Calls) (place : Place) (word : Word) (given : List Const) → meaning_of_const world calls (const.Func place word given) ≡ const_meaning_step world calls (Const-F.Func place word (map (meaning_of_const world calls) given))
means-Func world calls place word given = ap (meaning_of_const world calls) (sym (const.rolls-Func place word given)) ∙ at_const world calls (Const-F.Func place word given)

pub means-Proj : (world : World) (calls : Calls) (place : Place) (set : Const) (positions : TAngle) → meaning_of_const world calls (const.Proj place set positions) ≡ const_meaning_step world calls (Const-F.Proj place (meaning_of_const world calls set) (meaning_of_tuple world calls positions))
means-Proj world calls place set positions = ap (meaning_of_const world calls) (sym (const.rolls-Proj place set positions)) ∙ at_const world calls (Const-F.Proj place set positions)

pub means-Paren : (world : World) (calls : Calls) (place : Place) (inner : Const) → meaning_of_const world calls (const.Paren place inner) ≡ const_meaning_step world calls (Const-F.Paren place (meaning_of_const world calls inner))
means-Paren world calls place inner = ap (meaning_of_const world calls) (sym (const.rolls-Paren place inner)) ∙ at_const world calls (Const-F.Paren place inner)

pub means-Braces : (world : World) (calls : Calls) (place : Place) (inside : TBody) → meaning_of_const world calls (const.Braces place inside) ≡ const_meaning_step world calls (Const-F.Braces place (meaning_of_body world calls inside))
means-Braces world calls place inside = ap (meaning_of_const world calls) (sym (const.rolls-Braces place inside)) ∙ at_const world calls (Const-F.Braces place inside)

pub means-If : (world : World) (calls : Calls) (place : Place) (test branch otherwise : Const) → meaning_of_const world calls (const.If place test branch otherwise) ≡ const_meaning_step world calls (Const-F.If place (meaning_of_const world calls test) (meaning_of_const world calls branch) (meaning_of_const world calls otherwise))
means-If world calls place test branch otherwise = ap (meaning_of_const world calls) (sym (const.rolls-If place test branch otherwise)) ∙ at_const world calls (Const-F.If place test branch otherwise)

pub means-Factorial : (world : World) (calls : Calls) (operand : Const) (places : List Place) → meaning_of_const world calls (const.Factorial operand places) ≡ const_meaning_step world calls (Const-F.Factorial (meaning_of_const world calls operand) places)
means-Factorial world calls operand places = ap (meaning_of_const world calls) (sym (const.rolls-Factorial operand places)) ∙ at_const world calls (Const-F.Factorial operand places)

pub means-Power : (world : World) (calls : Calls) (place : Place) (sign : Sign) (base : Const) (signed : Option (Place × Bool)) (exponent : Const) → meaning_of_const world calls (const.Power place sign base signed exponent) ≡ const_meaning_step world calls (Const-F.Power place sign (meaning_of_const world calls base) signed (meaning_of_const world calls exponent))
means-Power world calls place sign base signed exponent = ap (meaning_of_const world calls) (sym (const.rolls-Power place sign base signed exponent)) ∙ at_const world calls (Const-F.Power place sign base signed exponent)

pub means-Signed : (world : World) (calls : Calls) (place : Place) (minus : Bool) (operand : Const) → meaning_of_const world calls (const.Signed place minus operand) ≡ const_meaning_step world calls (Const-F.Signed place minus (meaning_of_const world calls operand))
means-Signed world calls place minus operand = ap (meaning_of_const world calls) (sym (const.rolls-Signed place minus operand)) ∙ at_const world calls (Const-F.Signed place minus operand)

pub means-Big : (world : World) (calls : Calls) (place : Place) (word : Word) (index : Loop) (with_do : Bool) (operand : Const) → meaning_of_const world calls (const.Big place word index with_do operand) ≡ const_meaning_step world calls (Const-F.Big place word (meaning_of_loop world calls index) with_do (meaning_of_const world calls operand))
means-Big world calls place word index with_do operand = ap (meaning_of_const world calls) (sym (const.rolls-Big place word index with_do operand)) ∙ at_const world calls (Const-F.Big place word index with_do operand)

pub means-Times : (world : World) (calls : Calls) (first : Const) (others : List (Place × Token × Const)) → meaning_of_const world calls (const.Times first others) ≡ const_meaning_step world calls (Const-F.Times (meaning_of_const world calls first) (map (λ x. (x.0, x.1, meaning_of_const world calls x.2)) others))
means-Times world calls first others = ap (meaning_of_const world calls) (sym (const.rolls-Times first others)) ∙ at_const world calls (Const-F.Times first others)

pub means-Plus : (world : World) (calls : Calls) (first : Const) (others : List (Place × Token × Const)) → meaning_of_const world calls (const.Plus first others) ≡ const_meaning_step world calls (Const-F.Plus (meaning_of_const world calls first) (map (λ x. (x.0, x.1, meaning_of_const world calls x.2)) others))
means-Plus world calls first others = ap (meaning_of_const world calls) (sym (const.rolls-Plus first others)) ∙ at_const world calls (Const-F.Plus first others)

pub means-Compare : (world : World) (calls : Calls) (place : Place) (relation : Relation) (left right : Const) → meaning_of_const world calls (const.Compare place relation left right) ≡ const_meaning_step world calls (Const-F.Compare place relation (meaning_of_const world calls left) (meaning_of_const world calls right))
means-Compare world calls place relation left right = ap (meaning_of_const world calls) (sym (const.rolls-Compare place relation left right)) ∙ at_const world calls (Const-F.Compare place relation left right)

pub means-Member : (world : World) (calls : Calls) (place : Place) (tuple : TAngle) (set : Const) → meaning_of_const world calls (const.Member place tuple set) ≡ const_meaning_step world calls (Const-F.Member place (meaning_of_tuple world calls tuple) (meaning_of_const world calls set))
means-Member world calls place tuple set = ap (meaning_of_const world calls) (sym (const.rolls-Member place tuple set)) ∙ at_const world calls (Const-F.Member place tuple set)

pub means-Not : (world : World) (calls : Calls) (place : Place) (operand : Const) → meaning_of_const world calls (const.Not place operand) ≡ const_meaning_step world calls (Const-F.Not place (meaning_of_const world calls operand))
means-Not world calls place operand = ap (meaning_of_const world calls) (sym (const.rolls-Not place operand)) ∙ at_const world calls (Const-F.Not place operand)

pub means-And : (world : World) (calls : Calls) (first : Const) (others : List (Place × Const)) → meaning_of_const world calls (const.And first others) ≡ const_meaning_step world calls (Const-F.And (meaning_of_const world calls first) (map (λ x. (x.0, meaning_of_const world calls x.1)) others))
means-And world calls first others = ap (meaning_of_const world calls) (sym (const.rolls-And first others)) ∙ at_const world calls (Const-F.And first others)

pub means-Or : (world : World) (calls : Calls) (first : Const) (others : List (Place × Bool × Const)) → meaning_of_const world calls (const.Or first others) ≡ const_meaning_step world calls (Const-F.Or (meaning_of_const world calls first) (map (λ x. (x.0, x.1, meaning_of_const world calls x.2)) others))
means-Or world calls first others = ap (meaning_of_const world calls) (sym (const.rolls-Or first others)) ∙ at_const world calls (Const-F.Or first others)

pub means-Free : (world : World) (calls : Calls) (name : List ℕ) → meaning_of_slot world calls (slot.Free name) ≡ slot_meaning_step (LoopSlot-F.Free name)
means-Free world calls name = ap (meaning_of_slot world calls) (sym (slot.rolls-Free name)) ∙ at_slot world calls (LoopSlot-F.Free name)

pub means-Again : (world : World) (calls : Calls) (at : ℕ) → meaning_of_slot world calls (slot.Again at) ≡ slot_meaning_step (LoopSlot-F.Again at)
means-Again world calls at = ap (meaning_of_slot world calls) (sym (slot.rolls-Again at)) ∙ at_slot world calls (LoopSlot-F.Again at)

pub means-Fixed : (world : World) (calls : Calls) (c : Const) → meaning_of_slot world calls (slot.Fixed c) ≡ slot_meaning_step (LoopSlot-F.Fixed (meaning_of_const world calls c))
means-Fixed world calls c = ap (meaning_of_slot world calls) (sym (slot.rolls-Fixed c)) ∙ at_slot world calls (LoopSlot-F.Fixed c)

pub means-Empty : (world : World) (calls : Calls) → meaning_of_body world calls body.Empty ≡ body_meaning_step TBody-F.Empty
means-Empty world calls = ap (meaning_of_body world calls) (sym body.rolls-Empty) ∙ at_body world calls TBody-F.Empty

pub means-Members : (world : World) (calls : Calls) (members : List Const) → meaning_of_body world calls (body.Members members) ≡ body_meaning_step (TBody-F.Members (map (meaning_of_const world calls) members))
means-Members world calls members = ap (meaning_of_body world calls) (sym (body.rolls-Members members)) ∙ at_body world calls (TBody-F.Members members)

pub means-Tuples : (world : World) (calls : Calls) (tuples : List TAngle) → meaning_of_body world calls (body.Tuples tuples) ≡ body_meaning_step (TBody-F.Tuples (map (meaning_of_tuple world calls) tuples))
means-Tuples world calls tuples = ap (meaning_of_body world calls) (sym (body.rolls-Tuples tuples)) ∙ at_body world calls (TBody-F.Tuples tuples)

pub means-Those : (world : World) (calls : Calls) (index : Loop) → meaning_of_body world calls (body.Those index) ≡ body_meaning_step (TBody-F.Those (meaning_of_loop world calls index))
means-Those world calls index = ap (meaning_of_body world calls) (sym (body.rolls-Those index)) ∙ at_body world calls (TBody-F.Those index)

pub means-Span : (world : World) (calls : Calls) (from : Const) (with_to : Bool) (to : Const) (by : Option Const) →
    meaning_of_body world calls (body.Span from with_to to by) ≡ body_meaning_step (TBody-F.Span (meaning_of_const world calls from) with_to (meaning_of_const world calls to) (option_map (meaning_of_const world calls) by))
means-Span world calls from with_to to None = ap (meaning_of_body world calls) (sym (body.rolls-Span from with_to to None)) ∙ at_body world calls (TBody-F.Span from with_to to None)
means-Span world calls from with_to to (Some by) = ap (meaning_of_body world calls) (sym (body.rolls-Span from with_to to (Some by))) ∙ at_body world calls (TBody-F.Span from with_to to (Some by))

pub means-loop : (world : World) (calls : Calls) (place : Place) (slots : List LoopSlot) (set : Const) (cond : Option Const) →
    meaning_of_loop world calls (typed_loop place slots set cond) ≡ loop_meaning_step (record { place = place; slots = map (meaning_of_slot world calls) slots; set = meaning_of_const world calls set; cond = option_map (meaning_of_const world calls) cond })
unfolding meaning_of_const meaning_of_slot meaning_of_body meaning_of_loop meaning_of_tuple
means-loop world calls place slots set None = fold-roll-Loop ConstMeaning SlotMeaning BodyMeaning LoopMeaning TupleMeaning (const_meaning_step world calls) slot_meaning_step body_meaning_step loop_meaning_step tuple_meaning_step (record { place = place; slots = slots; set = set; cond = None })
means-loop world calls place slots set (Some c) = fold-roll-Loop ConstMeaning SlotMeaning BodyMeaning LoopMeaning TupleMeaning (const_meaning_step world calls) slot_meaning_step body_meaning_step loop_meaning_step tuple_meaning_step (record { place = place; slots = slots; set = set; cond = Some c })

pub means-tuple : (world : World) (calls : Calls) (place : Place) (items : List Const) → meaning_of_tuple world calls (typed_angle place items) ≡ record { place = place; items = map (meaning_of_const world calls) items }
unfolding meaning_of_const meaning_of_slot meaning_of_body meaning_of_loop meaning_of_tuple
means-tuple world calls place items = fold-roll-TAngle ConstMeaning SlotMeaning BodyMeaning LoopMeaning TupleMeaning (const_meaning_step world calls) slot_meaning_step body_meaning_step loop_meaning_step tuple_meaning_step (record { place = place; items = items })

-- ---- and of the parts of what is known

pub value-Number : (world : World) (calls : Calls) (place : Place) (digits : List ℕ) (env : List Binding) → (meaning_of_const world calls (const.Number place digits)).value env ≡ (const_meaning_step world calls (Const-F.Number place digits)).value env
value-Number world calls place digits env = ap (λ (m : ConstMeaning). m.value env) (means-Number world calls place digits)

pub first-Number : (world : World) (calls : Calls) (place : Place) (digits : List ℕ) → (meaning_of_const world calls (const.Number place digits)).first ≡ (const_meaning_step world calls (Const-F.Number place digits)).first
first-Number world calls place digits = ap (λ (m : ConstMeaning). m.first) (means-Number world calls place digits)

pub value-Text : (world : World) (calls : Calls) (place : Place) (text : List ℕ) (double : Bool) (env : List Binding) → (meaning_of_const world calls (const.Text place text double)).value env ≡ (const_meaning_step world calls (Const-F.Text place text double)).value env
value-Text world calls place text double env = ap (λ (m : ConstMeaning). m.value env) (means-Text world calls place text double)

pub first-Text : (world : World) (calls : Calls) (place : Place) (text : List ℕ) (double : Bool) → (meaning_of_const world calls (const.Text place text double)).first ≡ (const_meaning_step world calls (Const-F.Text place text double)).first
first-Text world calls place text double = ap (λ (m : ConstMeaning). m.first) (means-Text world calls place text double)

pub value-Truth : (world : World) (calls : Calls) (place : Place) (truth : Bool) (env : List Binding) → (meaning_of_const world calls (const.Truth place truth)).value env ≡ (const_meaning_step world calls (Const-F.Truth place truth)).value env
value-Truth world calls place truth env = ap (λ (m : ConstMeaning). m.value env) (means-Truth world calls place truth)

pub first-Truth : (world : World) (calls : Calls) (place : Place) (truth : Bool) → (meaning_of_const world calls (const.Truth place truth)).first ≡ (const_meaning_step world calls (Const-F.Truth place truth)).first
first-Truth world calls place truth = ap (λ (m : ConstMeaning). m.first) (means-Truth world calls place truth)

pub value-Infinity : (world : World) (calls : Calls) (place : Place) (env : List Binding) → (meaning_of_const world calls (const.Infinity place)).value env ≡ (const_meaning_step world calls (Const-F.Infinity place)).value env
value-Infinity world calls place env = ap (λ (m : ConstMeaning). m.value env) (means-Infinity world calls place)

pub first-Infinity : (world : World) (calls : Calls) (place : Place) → (meaning_of_const world calls (const.Infinity place)).first ≡ (const_meaning_step world calls (Const-F.Infinity place)).first
first-Infinity world calls place = ap (λ (m : ConstMeaning). m.first) (means-Infinity world calls place)

pub value-Name : (world : World) (calls : Calls) (place : Place) (name : List ℕ) (what : Resolved) (env : List Binding) → (meaning_of_const world calls (const.Name place name what)).value env ≡ (const_meaning_step world calls (Const-F.Name place name what)).value env
value-Name world calls place name what env = ap (λ (m : ConstMeaning). m.value env) (means-Name world calls place name what)

pub first-Name : (world : World) (calls : Calls) (place : Place) (name : List ℕ) (what : Resolved) → (meaning_of_const world calls (const.Name place name what)).first ≡ (const_meaning_step world calls (Const-F.Name place name what)).first
first-Name world calls place name what = ap (λ (m : ConstMeaning). m.first) (means-Name world calls place name what)

pub value-Item : (world : World) (calls : Calls) (place : Place) (name : List ℕ) (index : List Const) (what : Resolved) (env : List Binding) → (meaning_of_const world calls (const.Item place name index what)).value env ≡ (const_meaning_step world calls (Const-F.Item place name (map (meaning_of_const world calls) index) what)).value env
value-Item world calls place name index what env = ap (λ (m : ConstMeaning). m.value env) (means-Item world calls place name index what)

pub first-Item : (world : World) (calls : Calls) (place : Place) (name : List ℕ) (index : List Const) (what : Resolved) → (meaning_of_const world calls (const.Item place name index what)).first ≡ (const_meaning_step world calls (Const-F.Item place name (map (meaning_of_const world calls) index) what)).first
first-Item world calls place name index what = ap (λ (m : ConstMeaning). m.first) (means-Item world calls place name index what)

pub value-Call : (world : World) (calls : Calls) (place : Place) (name : List ℕ) (given : List Const) (what : Resolved) (env : List Binding) → (meaning_of_const world calls (const.Call place name given what)).value env ≡ (const_meaning_step world calls (Const-F.Call place name (map (meaning_of_const world calls) given) what)).value env
value-Call world calls place name given what env = ap (λ (m : ConstMeaning). m.value env) (means-Call world calls place name given what)

pub first-Call : (world : World) (calls : Calls) (place : Place) (name : List ℕ) (given : List Const) (what : Resolved) → (meaning_of_const world calls (const.Call place name given what)).first ≡ (const_meaning_step world calls (Const-F.Call place name (map (meaning_of_const world calls) given) what)).first
first-Call world calls place name given what = ap (λ (m : ConstMeaning). m.first) (means-Call world calls place name given what)

pub value-Func : (world : World) (calls : Calls) (place : Place) (word : Word) (given : List Const) (env : List Binding) → (meaning_of_const world calls (const.Func place word given)).value env ≡ (const_meaning_step world calls (Const-F.Func place word (map (meaning_of_const world calls) given))).value env
value-Func world calls place word given env = ap (λ (m : ConstMeaning). m.value env) (means-Func world calls place word given)

pub first-Func : (world : World) (calls : Calls) (place : Place) (word : Word) (given : List Const) → (meaning_of_const world calls (const.Func place word given)).first ≡ (const_meaning_step world calls (Const-F.Func place word (map (meaning_of_const world calls) given))).first
first-Func world calls place word given = ap (λ (m : ConstMeaning). m.first) (means-Func world calls place word given)

pub value-Proj : (world : World) (calls : Calls) (place : Place) (set : Const) (positions : TAngle) (env : List Binding) → (meaning_of_const world calls (const.Proj place set positions)).value env ≡ (const_meaning_step world calls (Const-F.Proj place (meaning_of_const world calls set) (meaning_of_tuple world calls positions))).value env
value-Proj world calls place set positions env = ap (λ (m : ConstMeaning). m.value env) (means-Proj world calls place set positions)

pub first-Proj : (world : World) (calls : Calls) (place : Place) (set : Const) (positions : TAngle) → (meaning_of_const world calls (const.Proj place set positions)).first ≡ (const_meaning_step world calls (Const-F.Proj place (meaning_of_const world calls set) (meaning_of_tuple world calls positions))).first
first-Proj world calls place set positions = ap (λ (m : ConstMeaning). m.first) (means-Proj world calls place set positions)

pub value-Paren : (world : World) (calls : Calls) (place : Place) (inner : Const) (env : List Binding) → (meaning_of_const world calls (const.Paren place inner)).value env ≡ (const_meaning_step world calls (Const-F.Paren place (meaning_of_const world calls inner))).value env
value-Paren world calls place inner env = ap (λ (m : ConstMeaning). m.value env) (means-Paren world calls place inner)

pub first-Paren : (world : World) (calls : Calls) (place : Place) (inner : Const) → (meaning_of_const world calls (const.Paren place inner)).first ≡ (const_meaning_step world calls (Const-F.Paren place (meaning_of_const world calls inner))).first
first-Paren world calls place inner = ap (λ (m : ConstMeaning). m.first) (means-Paren world calls place inner)

pub value-Braces : (world : World) (calls : Calls) (place : Place) (inside : TBody) (env : List Binding) → (meaning_of_const world calls (const.Braces place inside)).value env ≡ (const_meaning_step world calls (Const-F.Braces place (meaning_of_body world calls inside))).value env
value-Braces world calls place inside env = ap (λ (m : ConstMeaning). m.value env) (means-Braces world calls place inside)

pub first-Braces : (world : World) (calls : Calls) (place : Place) (inside : TBody) → (meaning_of_const world calls (const.Braces place inside)).first ≡ (const_meaning_step world calls (Const-F.Braces place (meaning_of_body world calls inside))).first
first-Braces world calls place inside = ap (λ (m : ConstMeaning). m.first) (means-Braces world calls place inside)

pub value-If : (world : World) (calls : Calls) (place : Place) (test branch otherwise : Const) (env : List Binding) → (meaning_of_const world calls (const.If place test branch otherwise)).value env ≡ (const_meaning_step world calls (Const-F.If place (meaning_of_const world calls test) (meaning_of_const world calls branch) (meaning_of_const world calls otherwise))).value env
value-If world calls place test branch otherwise env = ap (λ (m : ConstMeaning). m.value env) (means-If world calls place test branch otherwise)

pub first-If : (world : World) (calls : Calls) (place : Place) (test branch otherwise : Const) → (meaning_of_const world calls (const.If place test branch otherwise)).first ≡ (const_meaning_step world calls (Const-F.If place (meaning_of_const world calls test) (meaning_of_const world calls branch) (meaning_of_const world calls otherwise))).first
first-If world calls place test branch otherwise = ap (λ (m : ConstMeaning). m.first) (means-If world calls place test branch otherwise)

pub value-Factorial : (world : World) (calls : Calls) (operand : Const) (places : List Place) (env : List Binding) → (meaning_of_const world calls (const.Factorial operand places)).value env ≡ (const_meaning_step world calls (Const-F.Factorial (meaning_of_const world calls operand) places)).value env
value-Factorial world calls operand places env = ap (λ (m : ConstMeaning). m.value env) (means-Factorial world calls operand places)

pub first-Factorial : (world : World) (calls : Calls) (operand : Const) (places : List Place) → (meaning_of_const world calls (const.Factorial operand places)).first ≡ (const_meaning_step world calls (Const-F.Factorial (meaning_of_const world calls operand) places)).first
first-Factorial world calls operand places = ap (λ (m : ConstMeaning). m.first) (means-Factorial world calls operand places)

pub value-Power : (world : World) (calls : Calls) (place : Place) (sign : Sign) (base : Const) (signed : Option (Place × Bool)) (exponent : Const) (env : List Binding) → (meaning_of_const world calls (const.Power place sign base signed exponent)).value env ≡ (const_meaning_step world calls (Const-F.Power place sign (meaning_of_const world calls base) signed (meaning_of_const world calls exponent))).value env
value-Power world calls place sign base signed exponent env = ap (λ (m : ConstMeaning). m.value env) (means-Power world calls place sign base signed exponent)

pub first-Power : (world : World) (calls : Calls) (place : Place) (sign : Sign) (base : Const) (signed : Option (Place × Bool)) (exponent : Const) → (meaning_of_const world calls (const.Power place sign base signed exponent)).first ≡ (const_meaning_step world calls (Const-F.Power place sign (meaning_of_const world calls base) signed (meaning_of_const world calls exponent))).first
first-Power world calls place sign base signed exponent = ap (λ (m : ConstMeaning). m.first) (means-Power world calls place sign base signed exponent)

pub value-Signed : (world : World) (calls : Calls) (place : Place) (minus : Bool) (operand : Const) (env : List Binding) → (meaning_of_const world calls (const.Signed place minus operand)).value env ≡ (const_meaning_step world calls (Const-F.Signed place minus (meaning_of_const world calls operand))).value env
value-Signed world calls place minus operand env = ap (λ (m : ConstMeaning). m.value env) (means-Signed world calls place minus operand)

pub first-Signed : (world : World) (calls : Calls) (place : Place) (minus : Bool) (operand : Const) → (meaning_of_const world calls (const.Signed place minus operand)).first ≡ (const_meaning_step world calls (Const-F.Signed place minus (meaning_of_const world calls operand))).first
first-Signed world calls place minus operand = ap (λ (m : ConstMeaning). m.first) (means-Signed world calls place minus operand)

pub value-Big : (world : World) (calls : Calls) (place : Place) (word : Word) (index : Loop) (with_do : Bool) (operand : Const) (env : List Binding) → (meaning_of_const world calls (const.Big place word index with_do operand)).value env ≡ (const_meaning_step world calls (Const-F.Big place word (meaning_of_loop world calls index) with_do (meaning_of_const world calls operand))).value env
value-Big world calls place word index with_do operand env = ap (λ (m : ConstMeaning). m.value env) (means-Big world calls place word index with_do operand)

pub first-Big : (world : World) (calls : Calls) (place : Place) (word : Word) (index : Loop) (with_do : Bool) (operand : Const) → (meaning_of_const world calls (const.Big place word index with_do operand)).first ≡ (const_meaning_step world calls (Const-F.Big place word (meaning_of_loop world calls index) with_do (meaning_of_const world calls operand))).first
first-Big world calls place word index with_do operand = ap (λ (m : ConstMeaning). m.first) (means-Big world calls place word index with_do operand)

pub value-Times : (world : World) (calls : Calls) (first : Const) (others : List (Place × Token × Const)) (env : List Binding) → (meaning_of_const world calls (const.Times first others)).value env ≡ (const_meaning_step world calls (Const-F.Times (meaning_of_const world calls first) (map (λ x. (x.0, x.1, meaning_of_const world calls x.2)) others))).value env
value-Times world calls first others env = ap (λ (m : ConstMeaning). m.value env) (means-Times world calls first others)

pub first-Times : (world : World) (calls : Calls) (first : Const) (others : List (Place × Token × Const)) → (meaning_of_const world calls (const.Times first others)).first ≡ (const_meaning_step world calls (Const-F.Times (meaning_of_const world calls first) (map (λ x. (x.0, x.1, meaning_of_const world calls x.2)) others))).first
first-Times world calls first others = ap (λ (m : ConstMeaning). m.first) (means-Times world calls first others)

pub value-Plus : (world : World) (calls : Calls) (first : Const) (others : List (Place × Token × Const)) (env : List Binding) → (meaning_of_const world calls (const.Plus first others)).value env ≡ (const_meaning_step world calls (Const-F.Plus (meaning_of_const world calls first) (map (λ x. (x.0, x.1, meaning_of_const world calls x.2)) others))).value env
value-Plus world calls first others env = ap (λ (m : ConstMeaning). m.value env) (means-Plus world calls first others)

pub first-Plus : (world : World) (calls : Calls) (first : Const) (others : List (Place × Token × Const)) → (meaning_of_const world calls (const.Plus first others)).first ≡ (const_meaning_step world calls (Const-F.Plus (meaning_of_const world calls first) (map (λ x. (x.0, x.1, meaning_of_const world calls x.2)) others))).first
first-Plus world calls first others = ap (λ (m : ConstMeaning). m.first) (means-Plus world calls first others)

pub value-Compare : (world : World) (calls : Calls) (place : Place) (relation : Relation) (left right : Const) (env : List Binding) → (meaning_of_const world calls (const.Compare place relation left right)).value env ≡ (const_meaning_step world calls (Const-F.Compare place relation (meaning_of_const world calls left) (meaning_of_const world calls right))).value env
value-Compare world calls place relation left right env = ap (λ (m : ConstMeaning). m.value env) (means-Compare world calls place relation left right)

pub first-Compare : (world : World) (calls : Calls) (place : Place) (relation : Relation) (left right : Const) → (meaning_of_const world calls (const.Compare place relation left right)).first ≡ (const_meaning_step world calls (Const-F.Compare place relation (meaning_of_const world calls left) (meaning_of_const world calls right))).first
first-Compare world calls place relation left right = ap (λ (m : ConstMeaning). m.first) (means-Compare world calls place relation left right)

pub value-Member : (world : World) (calls : Calls) (place : Place) (tuple : TAngle) (set : Const) (env : List Binding) → (meaning_of_const world calls (const.Member place tuple set)).value env ≡ (const_meaning_step world calls (Const-F.Member place (meaning_of_tuple world calls tuple) (meaning_of_const world calls set))).value env
value-Member world calls place tuple set env = ap (λ (m : ConstMeaning). m.value env) (means-Member world calls place tuple set)

pub first-Member : (world : World) (calls : Calls) (place : Place) (tuple : TAngle) (set : Const) → (meaning_of_const world calls (const.Member place tuple set)).first ≡ (const_meaning_step world calls (Const-F.Member place (meaning_of_tuple world calls tuple) (meaning_of_const world calls set))).first
first-Member world calls place tuple set = ap (λ (m : ConstMeaning). m.first) (means-Member world calls place tuple set)

pub value-Not : (world : World) (calls : Calls) (place : Place) (operand : Const) (env : List Binding) → (meaning_of_const world calls (const.Not place operand)).value env ≡ (const_meaning_step world calls (Const-F.Not place (meaning_of_const world calls operand))).value env
value-Not world calls place operand env = ap (λ (m : ConstMeaning). m.value env) (means-Not world calls place operand)

pub first-Not : (world : World) (calls : Calls) (place : Place) (operand : Const) → (meaning_of_const world calls (const.Not place operand)).first ≡ (const_meaning_step world calls (Const-F.Not place (meaning_of_const world calls operand))).first
first-Not world calls place operand = ap (λ (m : ConstMeaning). m.first) (means-Not world calls place operand)

pub value-And : (world : World) (calls : Calls) (first : Const) (others : List (Place × Const)) (env : List Binding) → (meaning_of_const world calls (const.And first others)).value env ≡ (const_meaning_step world calls (Const-F.And (meaning_of_const world calls first) (map (λ x. (x.0, meaning_of_const world calls x.1)) others))).value env
value-And world calls first others env = ap (λ (m : ConstMeaning). m.value env) (means-And world calls first others)

pub first-And : (world : World) (calls : Calls) (first : Const) (others : List (Place × Const)) → (meaning_of_const world calls (const.And first others)).first ≡ (const_meaning_step world calls (Const-F.And (meaning_of_const world calls first) (map (λ x. (x.0, meaning_of_const world calls x.1)) others))).first
first-And world calls first others = ap (λ (m : ConstMeaning). m.first) (means-And world calls first others)

pub value-Or : (world : World) (calls : Calls) (first : Const) (others : List (Place × Bool × Const)) (env : List Binding) → (meaning_of_const world calls (const.Or first others)).value env ≡ (const_meaning_step world calls (Const-F.Or (meaning_of_const world calls first) (map (λ x. (x.0, x.1, meaning_of_const world calls x.2)) others))).value env
value-Or world calls first others env = ap (λ (m : ConstMeaning). m.value env) (means-Or world calls first others)

pub first-Or : (world : World) (calls : Calls) (first : Const) (others : List (Place × Bool × Const)) → (meaning_of_const world calls (const.Or first others)).first ≡ (const_meaning_step world calls (Const-F.Or (meaning_of_const world calls first) (map (λ x. (x.0, x.1, meaning_of_const world calls x.2)) others))).first
first-Or world calls first others = ap (λ (m : ConstMeaning). m.first) (means-Or world calls first others)

pub value-Free : (world : World) (calls : Calls) (name : List ℕ) (env : List Binding) → meaning_of_slot world calls (slot.Free name) env ≡ slot_meaning_step (LoopSlot-F.Free name) env
value-Free world calls name env = ap (λ (m : SlotMeaning). m env) (means-Free world calls name)

pub value-Again : (world : World) (calls : Calls) (at : ℕ) (env : List Binding) → meaning_of_slot world calls (slot.Again at) env ≡ slot_meaning_step (LoopSlot-F.Again at) env
value-Again world calls at env = ap (λ (m : SlotMeaning). m env) (means-Again world calls at)

pub value-Fixed : (world : World) (calls : Calls) (c : Const) (env : List Binding) → meaning_of_slot world calls (slot.Fixed c) env ≡ slot_meaning_step (LoopSlot-F.Fixed (meaning_of_const world calls c)) env
value-Fixed world calls c env = ap (λ (m : SlotMeaning). m env) (means-Fixed world calls c)

pub value-Empty : (world : World) (calls : Calls) (place : Place) (env : List Binding) → meaning_of_body world calls body.Empty place env ≡ body_meaning_step TBody-F.Empty place env
value-Empty world calls place env = ap (λ (m : BodyMeaning). m place env) (means-Empty world calls)

pub value-Members : (world : World) (calls : Calls) (members : List Const) (place : Place) (env : List Binding) → meaning_of_body world calls (body.Members members) place env ≡ body_meaning_step (TBody-F.Members (map (meaning_of_const world calls) members)) place env
value-Members world calls members place env = ap (λ (m : BodyMeaning). m place env) (means-Members world calls members)

pub value-Tuples : (world : World) (calls : Calls) (tuples : List TAngle) (place : Place) (env : List Binding) → meaning_of_body world calls (body.Tuples tuples) place env ≡ body_meaning_step (TBody-F.Tuples (map (meaning_of_tuple world calls) tuples)) place env
value-Tuples world calls tuples place env = ap (λ (m : BodyMeaning). m place env) (means-Tuples world calls tuples)

pub value-Those : (world : World) (calls : Calls) (index : Loop) (place : Place) (env : List Binding) → meaning_of_body world calls (body.Those index) place env ≡ body_meaning_step (TBody-F.Those (meaning_of_loop world calls index)) place env
value-Those world calls index place env = ap (λ (m : BodyMeaning). m place env) (means-Those world calls index)

pub value-Span : (world : World) (calls : Calls) (from : Const) (with_to : Bool) (to : Const) (by : Option Const) (place : Place) (env : List Binding) → meaning_of_body world calls (body.Span from with_to to by) place env ≡ body_meaning_step (TBody-F.Span (meaning_of_const world calls from) with_to (meaning_of_const world calls to) (option_map (meaning_of_const world calls) by)) place env
value-Span world calls from with_to to by place env = ap (λ (m : BodyMeaning). m place env) (means-Span world calls from with_to to by)

pub value-loop : (world : World) (calls : Calls) (place : Place) (slots : List LoopSlot) (set : Const) (cond : Option Const) (env : List Binding) →
    meaning_of_loop world calls (typed_loop place slots set cond) env ≡ loop_meaning_step (record { place = place; slots = map (meaning_of_slot world calls) slots; set = meaning_of_const world calls set; cond = option_map (meaning_of_const world calls) cond }) env
value-loop world calls place slots set cond env = ap (λ (m : LoopMeaning). m env) (means-loop world calls place slots set cond)

pub items-tuple : (world : World) (calls : Calls) (place : Place) (items : List Const) → (meaning_of_tuple world calls (typed_angle place items)).items ≡ map (meaning_of_const world calls) items
items-tuple world calls place items = ap (λ (m : TupleMeaning). m.items) (means-tuple world calls place items)

pub place-tuple : (world : World) (calls : Calls) (place : Place) (items : List Const) → (meaning_of_tuple world calls (typed_angle place items)).place ≡ place
place-tuple world calls place items = ap (λ (m : TupleMeaning). m.place) (means-tuple world calls place items)

-- ---- what is done

at_doing : (world : World) (d : TDoing-F TDoing) → doing_output world (roll-TDoing d) ≡ doing_output_step world (map-TDoing TDoing Doing (doing_output world) d)
unfolding doing_output
at_doing world = fold-roll-TDoing Doing (doing_output_step world)

pub does-Print : (world : World) (place : Place) (items : List TPrinted) (env : List Binding) (before : List ℕ) →
    doing_output world (doing.Print place items) env before ≡ doing_output_step world (TDoing-F.Print place items) env before
does-Print world place items env before = ap (λ (d : TDoing). doing_output world d env before) (sym (doing.rolls-Print place items)) ∙ ap (λ (d : Doing). d env before) (at_doing world (TDoing-F.Print place items))

pub does-Check : (world : World) (place : Place) (c : Const) (env : List Binding) (before : List ℕ) →
    doing_output world (doing.Check place c) env before ≡ doing_output_step world (TDoing-F.Check place c) env before
does-Check world place c env before = ap (λ (d : TDoing). doing_output world d env before) (sym (doing.rolls-Check place c)) ∙ ap (λ (d : Doing). d env before) (at_doing world (TDoing-F.Check place c))

pub does-Forall : (world : World) (place : Place) (index : Loop) (with_do : Bool) (inner : TDoing) (env : List Binding) (before : List ℕ) →
    doing_output world (doing.Forall place index with_do inner) env before ≡ doing_output_step world (TDoing-F.Forall place index with_do (doing_output world inner)) env before
does-Forall world place index with_do inner env before =
    ap (λ (d : TDoing). doing_output world d env before) (sym (doing.rolls-Forall place index with_do inner)) ∙ ap (λ (d : Doing). d env before) (at_doing world (TDoing-F.Forall place index with_do inner))

-- ---- the parts of trees

pub place-out : (place : Place) (items : List Const) → (out-TAngle (typed_angle place items)).place ≡ place
place-out place items = ap (λ (t : TAngle-F Const LoopSlot TBody Loop TAngle). t.place) (views.out-roll-TAngle (record { place = place; items = items }))

pub items-out : (place : Place) (items : List Const) → (out-TAngle (typed_angle place items)).items ≡ items
items-out place items = ap (λ (t : TAngle-F Const LoopSlot TBody Loop TAngle). t.items) (views.out-roll-TAngle (record { place = place; items = items }))

pub out-Func : (place : Place) (word : Word) (given : List Const) → out-Const (const.Func place word given) ≡ Const-F.Func place word given
out-Func place word given = ap out-Const (sym (const.rolls-Func place word given)) ∙ views.out-roll-Const (Const-F.Func place word given)

-- ---- where the parts of a tuple are written out

pub value-Proj-written : (world : World) (calls : Calls) (place : Place) (set : Const) (angle : Place) (items : List Const) (env : List Binding) → (meaning_of_const world calls (const.Proj place set (typed_angle angle items))).value env ≡ (const_meaning_step world calls (Const-F.Proj place (meaning_of_const world calls set) (meaning_of_tuple world calls (typed_angle angle items)))).value env
value-Proj-written world calls place set angle items env = value-Proj world calls place set (typed_angle angle items) env

pub first-Proj-written : (world : World) (calls : Calls) (place : Place) (set : Const) (angle : Place) (items : List Const) → (meaning_of_const world calls (const.Proj place set (typed_angle angle items))).first ≡ (const_meaning_step world calls (Const-F.Proj place (meaning_of_const world calls set) (meaning_of_tuple world calls (typed_angle angle items)))).first
first-Proj-written world calls place set angle items = first-Proj world calls place set (typed_angle angle items)

pub value-Member-written : (world : World) (calls : Calls) (place : Place) (angle : Place) (items : List Const) (set : Const) (env : List Binding) → (meaning_of_const world calls (const.Member place (typed_angle angle items) set)).value env ≡ (const_meaning_step world calls (Const-F.Member place (meaning_of_tuple world calls (typed_angle angle items)) (meaning_of_const world calls set))).value env
value-Member-written world calls place angle items set env = value-Member world calls place (typed_angle angle items) set env

pub first-Member-written : (world : World) (calls : Calls) (place : Place) (angle : Place) (items : List Const) (set : Const) → (meaning_of_const world calls (const.Member place (typed_angle angle items) set)).first ≡ (const_meaning_step world calls (Const-F.Member place (meaning_of_tuple world calls (typed_angle angle items)) (meaning_of_const world calls set))).first
first-Member-written world calls place angle items set = first-Member world calls place (typed_angle angle items) set

-- each of them
pub ruleset meanings = (value-Number, value-Text, value-Truth, value-Infinity, value-Name, value-Item, value-Call, value-Func, value-Proj, value-Paren, value-Braces, value-If, value-Factorial, value-Power, value-Signed, value-Big, value-Times, value-Plus, value-Compare, value-Member, value-Not, value-And, value-Or, value-Free, value-Again, value-Fixed, value-Empty, value-Members, value-Tuples, value-Those, value-Span, value-loop, items-tuple, place-tuple, first-Number, first-Text, first-Truth, first-Infinity, first-Name, first-Item, first-Call, first-Func, first-Proj, first-Paren, first-Braces, first-If, first-Factorial, first-Power, first-Signed, first-Big, first-Times, first-Plus, first-Compare, first-Member, first-Not, first-And, first-Or, does-Print, does-Check, does-Forall, place-out, items-out, out-Func, value-Proj-written, first-Proj-written, value-Member-written, first-Member-written)
