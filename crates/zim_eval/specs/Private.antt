-- What serves private contracts alone.
use Rattle.std.specs.Prelude.{ℕ, zero, suc, ◌+◌, ◌*◌, Bool, true, false, if◌then◌else◌, List, [], ◌∷◌, ◌++◌, map, slice_get, Option, Some, None, option_map, Result, Ok, Err}
use Rattle.std.specs.Option.{option_or}
use Rattle.zim_answer.specs.Answer.{Answer, ◌>>=◌, goes}
use Rattle.zim_fault.specs.declared.faults.Fault.{Fault}
use Rattle.zim_fault.specs.declared.faults.Place.{Place}
use Rattle.zim_fault.specs.declared.kinds.Kind.TheVariants.{NoEntry, WrongKind, EmptyChoice}
use Rattle.zim_functions.specs.declared.definitions.Definition.{Definition}
use Rattle.zim_eval.specs.declared.gathering.Gathering.{Gathering}
use Rattle.zim_eval.specs.declared.gathering.Gathering.TheVariants as gathering
use Rattle.zim_fault.specs.declared.kinds.Kind.{Kind}
use Rattle.zim_fraction.specs.Answers.{sum_answer, product_answer}
use Rattle.zim_rational.specs.Rational as exact
use Rattle.zim_rational.specs.Rational.{Rational}
use Rattle.zim_meaning.specs.Operations.{value_signed, value_factorial, element_of_value, truth_of_value, set_of_value, number_of_value, or_past, values_operated}
use Rattle.zim_meaning.specs.Value.{meaning_of_const, meaning_of_body, meaning_of_loop, meaning_of_slot, calls_of_first, result_of}
use Rattle.zim_meaning.specs.World.{World, at_place, fault_of, entry_named}
use Rattle.zim_meaning.specs.Expressions.{differ}
use Rattle.zim_meaning.specs.Loops.{gathered, fits_slots, is_better, best_number, best_tuple}
use Rattle.zim_meaning.specs.declared.choices.Choice.{Choice}
use Rattle.zim_meaning.specs.declared.values.Value.{Value}
use Rattle.zim_meaning.specs.declared.values.Value.TheVariants as of_value
use Rattle.zim_tuples.specs.Patterns.{matched}
use Rattle.zim_tuples.specs.declared.elements.Elem.{Elem}
use Rattle.zim_tuples.specs.declared.environments.Binding.{Binding}
use Rattle.zim_tuples.specs.declared.patterns.Slot.{Slot}
use Rattle.zim_typed.specs.declared.constant.Loop.{Loop, out-Loop}
use Rattle.zim_typed.specs.declared.constant.LoopSlot.{LoopSlot}
use Rattle.zim_typed.specs.declared.constant.TAngle.{TAngle, out-TAngle}
use Rattle.zim_typed.specs.declared.constant.TBody.{TBody}
use Rattle.zim_fault.specs.declared.tokens.Token.{Token}
use Rattle.zim_fault.specs.declared.words.Word.{Word}
use Rattle.zim_fault.specs.declared.words.Word.TheVariants.{WSum, WProd, WMin, WMax, WArgmin, WArgmax}
use Rattle.zim_typed.specs.FirstPlace.{const_first_place}
use Rattle.zim_typed.specs.declared.constant.Const.{Const, size-Const}

-- an answer, and how it goes on with its value
abbrev pub answered_then : {A B : Type 0} → Answer A Fault → (A → Answer B Fault) → Answer B Fault
answered_then a next = a >>= next

-- what an exponent answers, with its sign, if it has one
abbrev pub signed_exponent : Option (Place × Bool) → Answer Value Fault → Answer Value Fault
signed_exponent None a = a
signed_exponent (Some (place, minus)) a = a >>= λ v. at_place place (value_signed minus v)

-- one more `!`
abbrev pub repeated_factorial : Value → Place → Answer Value Fault
repeated_factorial v place = at_place place (value_factorial v)

-- the set that a name stands for: a set, or of an indexed set the whole index set
abbrev pub named_tuples : World → List ℕ → Option (List (List Elem))
named_tuples world name = option_or (entry_named world.sets name) (option_map (λ family. family.indices) (entry_named world.indexed_sets name))

-- what a call gives, where it is known which function is called and at which position it stands
abbrev pub found_call : World → Option (ℕ × Definition) → Place → List Elem → Answer Value Fault
found_call world None place given = Err (fault_of place NoEntry)
found_call world (Some (position, definition)) place given = result_of world (calls_of_first world position) (Some definition) place given

-- ---- with the functions of the world given, so many of the first of them

-- the value of an expression
unfoldable pub value_in : World → ℕ → List Binding → Const → Answer Value Fault
value_in world n env c = (meaning_of_const world (calls_of_first world n) c).value env

-- values with that of one more expression
abbrev pub with_value_in : World → ℕ → List Binding → List Value → Const → Answer (List Value) Fault
with_value_in world n env values c = value_in world n env c >>= λ v. Ok (values ++ v ∷ [])

-- a tuple with one more expression, a number or a text, and wrong where it begins if it is neither
abbrev pub with_component_in : World → ℕ → List Binding → List Elem → Const → Answer (List Elem) Fault
with_component_in world n env tuple c = (value_in world n env c >>= λ v. at_place (const_first_place c) (element_of_value v)) >>= λ next. Ok (tuple ++ next ∷ [])

-- the values of expressions
unfoldable pub values_in : World → ℕ → List Binding → List Const → Answer (List Value) Fault
values_in world n env cs = goes (with_value_in world n env) [] cs

-- the tuple of expressions
unfoldable pub tuple_in : World → ℕ → List Binding → List Const → Answer (List Elem) Fault
tuple_in world n env cs = goes (with_component_in world n env) [] cs

-- ---- the measure of an evaluation

-- how deep the body of a function is, if there is one
abbrev pub definition_size : Option Definition → ℕ
definition_size None = 0
definition_size (Some definition) = size-Const definition.body

-- what the bodies of the first functions weigh, so many of them
unfoldable pub weight : World → ℕ → ℕ
weight world zero = 0
weight world (suc n) = weight world n + 4 * definition_size (slice_get world.functions n) + 4

-- ---- parts of an evaluation

-- a value with an operator and its second operand
abbrev pub operated_in : World → ℕ → List Binding → Value → Place × Token × Const → Answer Value Fault
operated_in world n env v (place, token, c) = value_in world n env c >>= λ w. at_place place (values_operated token v w)

-- `a + b - c` and `a * b / c`, behind its first operand
unfoldable pub chain_in : World → ℕ → List Binding → Value → List (Place × Token × Const) → Answer Value Fault
chain_in world n env v others = goes (operated_in world n env) v others

-- the truth value of a part at the place of its operator, as a value
abbrev pub truth_in : World → ℕ → List Binding → Place → Const → Answer Value Fault
truth_in world n env place c = (value_in world n env c >>= λ v. at_place place (truth_of_value v)) >>= λ b. Ok (of_value.Truth b)

-- a value and the next operand behind an `and`
abbrev pub conjunct_in : World → ℕ → List Binding → Value → Place × Const → Answer Value Fault
conjunct_in world n env v (place, c) = at_place place (truth_of_value v) >>= λ before. if before then truth_in world n env place c else Ok (of_value.Truth false)

-- `a and b`, behind its first operand
unfoldable pub conjuncts_in : World → ℕ → List Binding → Value → List (Place × Const) → Answer Value Fault
conjuncts_in world n env v others = goes (conjunct_in world n env) v others

-- a value and the next operand behind an `or` or an `xor`
abbrev pub disjunct_in : World → ℕ → List Binding → Value → Place × Bool × Const → Answer Value Fault
disjunct_in world n env v (place, false, c) = at_place place (truth_of_value v) >>= λ before. if before then Ok (of_value.Truth true) else truth_in world n env place c
disjunct_in world n env v (place, true, c) = do
  w ← value_in world n env c
  before ← at_place place (truth_of_value v)
  b ← at_place place (truth_of_value w)
  Ok (of_value.Truth (differ before b))

-- `a or b` and `a xor b`, behind its first operand
unfoldable pub disjuncts_in : World → ℕ → List Binding → Value → List (Place × Bool × Const) → Answer Value Fault
disjuncts_in world n env v others = goes (disjunct_in world n env) v others

-- what stands in braces
unfoldable pub body_in : World → ℕ → List Binding → Place → TBody → Answer Value Fault
body_in world n env place body = meaning_of_body world (calls_of_first world n) body place env

-- an index
unfoldable pub choices_in : World → ℕ → List Binding → Loop → Answer (List Choice) Fault
choices_in world n env index = meaning_of_loop world (calls_of_first world n) index env

-- a component of an index's tuple
unfoldable pub slot_in : World → ℕ → List Binding → LoopSlot → Answer Slot Fault
slot_in world n env slot = meaning_of_slot world (calls_of_first world n) slot env

-- slots with one more
abbrev pub with_slot_in : World → ℕ → List Binding → List Slot → LoopSlot → Answer (List Slot) Fault
with_slot_in world n env slots slot = slot_in world n env slot >>= λ next. Ok (slots ++ next ∷ [])

-- the slots of an index
unfoldable pub slots_in : World → ℕ → List Binding → List LoopSlot → Answer (List Slot) Fault
slots_in world n env slots = goes (with_slot_in world n env) [] slots

-- tuples with one more
abbrev pub with_tuple_in : World → ℕ → List Binding → List (List Elem) → TAngle → Answer (List (List Elem)) Fault
with_tuple_in world n env tuples tuple = tuple_in world n env (out-TAngle tuple).items >>= λ next. Ok (tuples ++ next ∷ [])

-- the tuples that are listed in braces
unfoldable pub tuples_in : World → ℕ → List Binding → List TAngle → Answer (List (List Elem)) Fault
tuples_in world n env tuples = goes (with_tuple_in world n env) [] tuples

-- the step of a range, 1 where none is given
abbrev pub step_in : World → ℕ → List Binding → Option Const → Answer Value Fault
step_in world n env None = Ok (of_value.Number exact.one)
step_in world n env (Some by) = value_in world n env by

-- whether a choice passes the condition behind an index, if there is one
abbrev pub tested_in : World → ℕ → List Binding → Place → Option Const → Answer Bool Fault
tested_in world n env place None = Ok true
tested_in world n env place (Some c) = value_in world n env c >>= λ v. at_place place (truth_of_value v)

-- the same for the condition of an index
unfoldable pub passes_in : World → ℕ → List Binding → Loop → Answer Bool Fault
passes_in world n env index = tested_in world n env (out-Loop index).place (out-Loop index).cond

-- a tuple with the environment that it makes, where it passes
abbrev pub kept : List Elem → List Binding → Bool → Option Choice
kept tuple inner passes = if passes then Some (record { tuple = tuple; env = inner }) else None

-- a tuple as a choice of an index, if it is one: the environment that it makes is known, if it agrees with the slots
abbrev pub choice_within : World → ℕ → Loop → List Elem → Option (List Binding) → Answer (Option Choice) Fault
choice_within world n index tuple None = Ok None
choice_within world n index tuple (Some inner) = passes_in world n inner index >>= λ b. Ok (kept tuple inner b)

-- the same where the slots are known
unfoldable pub choice_in : World → ℕ → List Binding → Loop → List Slot → List Elem → Answer (Option Choice) Fault
choice_in world n env index slots tuple = choice_within world n index tuple (matched env slots tuple)

-- choices with one more, if there is one
abbrev pub with_kept : List Choice → Option Choice → List Choice
with_kept choices None = choices
with_kept choices (Some choice) = choices ++ choice ∷ []

-- choices with a tuple, if it is one
abbrev pub with_choice_in : World → ℕ → List Binding → Loop → List Slot → List Choice → List Elem → Answer (List Choice) Fault
with_choice_in world n env index slots choices tuple = choice_in world n env index slots tuple >>= λ choice. Ok (with_kept choices choice)

-- the tuples of a set, in order, that an index chooses
unfoldable pub among_in : World → ℕ → List Binding → Loop → List Slot → List (List Elem) → Answer (List Choice) Fault
among_in world n env index slots tuples = goes (with_choice_in world n env index slots) [] tuples

-- the tuples of the set that a value is, whose tuples have as many components as there are slots
abbrev pub fitting_tuples : Place → List Slot → Value → Answer (List (List Elem)) Fault
fitting_tuples place slots v = at_place place (set_of_value v) >>= λ tuples. at_place place (fits_slots slots tuples) >>= λ fits. Ok tuples

-- the tuples of choices
abbrev pub chosen_tuples : List Choice → List (List Elem)
chosen_tuples choices = map (λ choice. choice.tuple) choices

-- `sum index : a` and the like, where the choices are known
unfoldable pub gathered_in : World → ℕ → Word → Const → Place → List Choice → Answer Value Fault
gathered_in world n word c place choices = gathered word (λ env. value_in world n env c) place choices

-- ---- what is gathered over choices

-- before the first choice, where this word gathers at all
abbrev pub gathering_start : Word → Result Gathering Kind
gathering_start WSum = Ok (gathering.Total false exact.zero)
gathering_start WProd = Ok (gathering.Total true exact.one)
gathering_start WMin = Ok (gathering.Best false false None)
gathering_start WMax = Ok (gathering.Best true false None)
gathering_start WArgmin = Ok (gathering.Best false true None)
gathering_start WArgmax = Ok (gathering.Best true true None)
gathering_start _ = Err WrongKind

-- a total with a number more
abbrev pub total_with : Bool → Rational → Rational → Result Rational Kind
total_with false total q = or_past (sum_answer total q)
total_with true total q = or_past (product_answer total q)

-- with the number at a tuple
abbrev pub gathering_with : Gathering → List Elem → Rational → Result Gathering Kind
gathering_with (gathering.Total is_product total) tuple q = total_with is_product total q >>= λ next. Ok (gathering.Total is_product next)
gathering_with (gathering.Best greatest is_tuple best) tuple q = Ok (gathering.Best greatest is_tuple (if is_better greatest q best then Some (q, tuple) else best))

-- with the value at a tuple
unfoldable pub gathering_with_value : Gathering → List Elem → Value → Result Gathering Kind
gathering_with_value state tuple v = number_of_value v >>= λ q. gathering_with state tuple q

-- with what stands behind an index at a choice
abbrev pub gathering_step : World → ℕ → Const → Place → Gathering → Choice → Answer Gathering Fault
gathering_step world n c place state choice = value_in world n choice.env c >>= λ v. at_place place (gathering_with_value state choice.tuple v)

-- after the last choice
unfoldable pub gathering_value : Gathering → Result Value Kind
gathering_value (gathering.Total is_product total) = Ok (of_value.Number total)
gathering_value (gathering.Best greatest is_tuple None) = Err EmptyChoice
gathering_value (gathering.Best greatest is_tuple (Some best)) = Ok (if is_tuple then best_tuple best else best_number best)

-- the same with a word, where the choices are known
unfoldable pub gathering_in : World → ℕ → Const → Place → Gathering → List Choice → Answer Value Fault
gathering_in world n c place state choices = goes (gathering_step world n c place) state choices >>= λ last. at_place place (gathering_value last)
