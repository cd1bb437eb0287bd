-- The value of an expression without variables, and the choices of an index: each form by what its parts answer.
use Rattle.std.specs.Prelude.{ℕ, zero, suc, Bool, false, if◌then◌else◌, nat_eq, List, [], length, map, slice_get, Option, Some, None, Ok, Err}
use Rattle.std.specs.Cmp.Lexicographic.{pointwise}
use Rattle.std.specs.List.{zip}
use Rattle.zim_answer.specs.Answer.{Answer, ◌>>=◌}
use Rattle.zim_fault.specs.declared.faults.Fault.{Fault}
use Rattle.zim_fault.specs.declared.faults.Place.{Place}
use Rattle.zim_fault.specs.declared.kinds.Kind.TheVariants.{WrongKind, NoEntry}
use Rattle.zim_functions.specs.declared.definitions.Definition.{Definition}
use Rattle.zim_meaning.specs.Expressions.{Known, Calls, component, bare_name_value, item_value, call_value, chain_value, factorial_value, power_value, signed_value, comparison_value, member_value, not_value, and_value, or_value, if_value, function_value, projection_value, members_value, tuples_value, span_value}
use Rattle.zim_meaning.specs.Loops.{choices_of, chosen_value, gathered}
use Rattle.zim_meaning.specs.Operations.{literal_value, of_defined_kind}
use Rattle.zim_meaning.specs.World.{World, fault_of, at_place, entry}
use Rattle.zim_meaning.specs.declared.choices.Choice.{Choice}
use Rattle.zim_meaning.specs.declared.values.Value.{Value}
use Rattle.zim_meaning.specs.declared.values.Value.TheVariants as of_value
use Rattle.zim_tuples.specs.declared.elements.Elem.{Elem}
use Rattle.zim_tuples.specs.declared.environments.Binding.{Binding}
use Rattle.zim_tuples.specs.declared.patterns.Slot.{Slot}
use Rattle.zim_tuples.specs.declared.patterns.Slot.TheVariants as slot
use Rattle.zim_typed.specs.declared.constant.Const.{Const, Const-F, fold-Const}
use Rattle.zim_typed.specs.declared.constant.LoopSlot.{LoopSlot, LoopSlot-F, fold-LoopSlot}
use Rattle.zim_typed.specs.declared.constant.TBody.{TBody, TBody-F, fold-TBody}
use Rattle.zim_typed.specs.declared.constant.Loop.{Loop, Loop-F, fold-Loop}
use Rattle.zim_typed.specs.declared.constant.TAngle.{TAngle, TAngle-F, fold-TAngle}

-- ---- what is known of the parts of an expression

-- of an expression: where it begins, and its value in an environment
pub record ConstMeaning : Type 0 where
  pub first : Place
  pub value : List Binding → Answer Value Fault

-- of a tuple: where it begins, and its components
pub record TupleMeaning : Type 0 where
  pub place : Place
  pub items : List ConstMeaning

-- of a component of an index's tuple: its slot in an environment
abbrev pub SlotMeaning : Type 0
SlotMeaning = List Binding → Answer Slot Fault

-- of what stands in braces: the set at the place of the brace
abbrev pub BodyMeaning : Type 0
BodyMeaning = Place → List Binding → Answer Value Fault

-- of an index: its choices
abbrev pub LoopMeaning : Type 0
LoopMeaning = List Binding → Answer (List Choice) Fault

-- what is known of a part is what it holds
abbrev pub meaning_known : Known ConstMeaning
meaning_known = record { first = λ part. part.first; value = λ part env. part.value env }

-- ---- each form

-- an expression
abbrev pub const_meaning_step : World → Calls → Const-F ConstMeaning SlotMeaning BodyMeaning LoopMeaning TupleMeaning → ConstMeaning
const_meaning_step world calls (Const-F.Number place digits) = record { first = place; value = λ env. at_place place (literal_value digits) }
const_meaning_step world calls (Const-F.Text place text double) = record { first = place; value = λ env. Ok (of_value.Text text) }
const_meaning_step world calls (Const-F.Truth place truth) = record { first = place; value = λ env. Ok (of_value.Truth truth) }
const_meaning_step world calls (Const-F.Infinity place) = record { first = place; value = λ env. Err (fault_of place WrongKind) }
const_meaning_step world calls (Const-F.Name place name resolved) = record { first = place; value = λ env. at_place place (entry (bare_name_value world env name resolved)) }
const_meaning_step world calls (Const-F.Item place name index resolved) = record { first = place; value = λ env. item_value world meaning_known env place name index resolved }
const_meaning_step world calls (Const-F.Call place name given resolved) = record { first = place; value = λ env. call_value calls meaning_known env place name given }
const_meaning_step world calls (Const-F.Func place word given) = record { first = place; value = λ env. function_value meaning_known env place word given }
const_meaning_step world calls (Const-F.Proj place set positions) = record { first = place; value = λ env. projection_value meaning_known env place set positions.items }
const_meaning_step world calls (Const-F.Paren place inner) = record { first = place; value = inner.value }
const_meaning_step world calls (Const-F.Braces place body) = record { first = place; value = body place }
const_meaning_step world calls (Const-F.If place test branch otherwise) = record { first = place; value = λ env. if_value meaning_known env place test branch otherwise }
const_meaning_step world calls (Const-F.Factorial operand places) = record { first = operand.first; value = λ env. factorial_value meaning_known env operand places }
const_meaning_step world calls (Const-F.Power place sign base signed exponent) = record { first = base.first; value = λ env. power_value meaning_known env place base signed exponent }
const_meaning_step world calls (Const-F.Signed place minus operand) = record { first = place; value = λ env. signed_value meaning_known env place minus operand }
const_meaning_step world calls (Const-F.Big place word loop with_do body) = record { first = place; value = λ env. loop env >>= gathered word body.value place }
const_meaning_step world calls (Const-F.Times first others) = record { first = first.first; value = λ env. chain_value meaning_known env first others }
const_meaning_step world calls (Const-F.Plus first others) = record { first = first.first; value = λ env. chain_value meaning_known env first others }
const_meaning_step world calls (Const-F.Compare place relation left right) = record { first = left.first; value = λ env. comparison_value meaning_known env place relation left right }
const_meaning_step world calls (Const-F.Member place tuple set) = record { first = tuple.place; value = λ env. member_value meaning_known env place tuple.items set }
const_meaning_step world calls (Const-F.Not place operand) = record { first = place; value = λ env. not_value meaning_known env place operand }
const_meaning_step world calls (Const-F.And first others) = record { first = first.first; value = λ env. and_value meaning_known env first others }
const_meaning_step world calls (Const-F.Or first others) = record { first = first.first; value = λ env. or_value meaning_known env first others }

-- a component of an index's tuple
abbrev pub slot_meaning_step : LoopSlot-F ConstMeaning SlotMeaning BodyMeaning LoopMeaning TupleMeaning → SlotMeaning
slot_meaning_step (LoopSlot-F.Free name) = λ env. Ok (slot.Free name)
slot_meaning_step (LoopSlot-F.Again at) = λ env. Ok (slot.Again at)
slot_meaning_step (LoopSlot-F.Fixed part) = λ env. component meaning_known env part >>= λ element. Ok (slot.Fixed element)

-- what stands in braces
abbrev pub body_meaning_step : TBody-F ConstMeaning SlotMeaning BodyMeaning LoopMeaning TupleMeaning → BodyMeaning
body_meaning_step TBody-F.Empty = λ place env. Ok (of_value.Set [])
body_meaning_step (TBody-F.Members parts) = λ place env. members_value meaning_known env place parts
body_meaning_step (TBody-F.Tuples tuples) = λ place env. tuples_value meaning_known env place (map (λ tuple. tuple.items) tuples)
body_meaning_step (TBody-F.Those loop) = λ place env. loop env >>= λ choices. Ok (chosen_value choices)
body_meaning_step (TBody-F.Span from with_to to by) = λ place env. span_value meaning_known env place from to by

-- an index
abbrev pub loop_meaning_step : Loop-F ConstMeaning SlotMeaning BodyMeaning LoopMeaning TupleMeaning → LoopMeaning
loop_meaning_step index = λ env. choices_of meaning_known (λ slot env. slot env) env index.place index.slots index.set index.cond

-- a tuple
abbrev pub tuple_meaning_step : TAngle-F ConstMeaning SlotMeaning BodyMeaning LoopMeaning TupleMeaning → TupleMeaning
tuple_meaning_step tuple = record { place = tuple.place; items = tuple.items }

-- ---- with the functions of the model given

-- what is known of an expression
unfoldable pub meaning_of_const : World → Calls → Const → ConstMeaning
meaning_of_const world calls = fold-Const ConstMeaning SlotMeaning BodyMeaning LoopMeaning TupleMeaning (const_meaning_step world calls) slot_meaning_step body_meaning_step loop_meaning_step tuple_meaning_step

-- what is known of a component of an index's tuple
unfoldable pub meaning_of_slot : World → Calls → LoopSlot → SlotMeaning
meaning_of_slot world calls = fold-LoopSlot ConstMeaning SlotMeaning BodyMeaning LoopMeaning TupleMeaning (const_meaning_step world calls) slot_meaning_step body_meaning_step loop_meaning_step tuple_meaning_step

-- what is known of what stands in braces
unfoldable pub meaning_of_body : World → Calls → TBody → BodyMeaning
meaning_of_body world calls = fold-TBody ConstMeaning SlotMeaning BodyMeaning LoopMeaning TupleMeaning (const_meaning_step world calls) slot_meaning_step body_meaning_step loop_meaning_step tuple_meaning_step

-- what is known of an index
unfoldable pub meaning_of_loop : World → Calls → Loop → LoopMeaning
meaning_of_loop world calls = fold-Loop ConstMeaning SlotMeaning BodyMeaning LoopMeaning TupleMeaning (const_meaning_step world calls) slot_meaning_step body_meaning_step loop_meaning_step tuple_meaning_step

-- what is known of a tuple
unfoldable pub meaning_of_tuple : World → Calls → TAngle → TupleMeaning
meaning_of_tuple world calls = fold-TAngle ConstMeaning SlotMeaning BodyMeaning LoopMeaning TupleMeaning (const_meaning_step world calls) slot_meaning_step body_meaning_step loop_meaning_step tuple_meaning_step

-- ---- with the functions of the world

-- the parameters of a function bound to what it is called with
abbrev pub bindings : List (List ℕ) → List Elem → List Binding
bindings params given = map (λ pair. record { name = pair.0; value = pair.1 }) (zip params given)

-- whether the function that was defined at a position, if one was, has this name
abbrev pub is_defined_as : Option Definition → List ℕ → Bool
is_defined_as None name = false
is_defined_as (Some definition) name = pointwise nat_eq name definition.name

-- what a function gives where it is called at a place: the value of its body, in which it is known what functions give, with its parameters bound
abbrev pub result_of : World → Calls → Option Definition → Place → List Elem → Answer Value Fault
result_of world calls None place given = Err (fault_of place NoEntry)
result_of world calls (Some definition) place given =
    (meaning_of_const world calls definition.body).value (bindings definition.params given) >>= λ v. at_place place (of_defined_kind definition.kind v)

-- what the first functions of the world give, so many of them: the body of each sees those before it alone
unfoldable pub calls_of_first : World → ℕ → Calls
calls_of_first world zero = λ place name given. Err (fault_of place NoEntry)
calls_of_first world (suc n) = λ place name given.
    if is_defined_as (slice_get world.functions n) name
    then result_of world (calls_of_first world n) (slice_get world.functions n) place given
    else calls_of_first world n place name given

-- what the functions of the world give
abbrev pub calls_of : World → Calls
calls_of world = calls_of_first world (length world.functions)

-- the value of an expression in an environment, or its first fault
abbrev pub value : World → List Binding → Const → Answer Value Fault
value world env c = (meaning_of_const world (calls_of world) c).value env

-- the choices of an index in an environment, or its first fault
abbrev pub index_choices : World → List Binding → Loop → Answer (List Choice) Fault
index_choices world env index = meaning_of_loop world (calls_of world) index env
