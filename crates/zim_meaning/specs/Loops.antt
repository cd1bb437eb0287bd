-- Which tuples an index chooses, and what is made of what stands behind it at each of them.
use Rattle.std.specs.Prelude.{Bool, true, false, ◌==◌, if◌then◌else◌, List, [], ◌∷◌, ◌++◌, length, map, Option, Some, None, Result, Ok, Err}
use Rattle.zim_answer.specs.Answer.{Answer, ◌>>=◌, goes}
use Rattle.zim_fault.specs.declared.faults.Fault.{Fault}
use Rattle.zim_fault.specs.declared.faults.Place.{Place}
use Rattle.zim_fault.specs.declared.kinds.Kind.{Kind}
use Rattle.zim_fault.specs.declared.kinds.Kind.TheVariants.{WrongKind, EmptyChoice}
use Rattle.zim_fault.specs.declared.words.Word.{Word}
use Rattle.zim_fault.specs.declared.words.Word.TheVariants.{WSum, WProd, WMin, WMax, WArgmin, WArgmax}
use Rattle.zim_fraction.specs.Answers.{sum_answer, product_answer}
use Rattle.zim_meaning.specs.Expressions.{Known, truth_at}
use Rattle.zim_meaning.specs.Operations.{number_of_value, set_of_value, or_past}
use Rattle.zim_meaning.specs.World.{at_place, fault_of}
use Rattle.zim_meaning.specs.declared.choices.Choice.{Choice}
use Rattle.zim_meaning.specs.declared.values.Value.{Value}
use Rattle.zim_meaning.specs.declared.values.Value.TheVariants as of_value
use Rattle.zim_rational.specs.Rational.{Rational, zero, one, below}
use Rattle.zim_tuples.specs.Patterns.{matched}
use Rattle.zim_tuples.specs.declared.elements.Elem.{Elem}
use Rattle.zim_tuples.specs.declared.environments.Binding.{Binding}
use Rattle.zim_tuples.specs.declared.patterns.Slot.{Slot}

-- ---- choices

-- whether a choice passes the condition behind an index, if there is one; a condition that is no truth value is wrong at the index
unfoldable pub passes : {P : Type 0} → Known P → Place → Option P → List Binding → Answer Bool Fault
passes known place None env = Ok true
passes known place (Some cond) env = truth_at known env place cond

-- the choices so far and a tuple: it is chosen where it agrees with the slots and passes the condition
abbrev pub with_choice : {P : Type 0} → Known P → List Binding → Place → List Slot → Option P → List Choice → List Elem → Answer (List Choice) Fault
with_choice known env place slots cond chosen tuple = among (matched env slots tuple)
  where
    among : Option (List Binding) → Answer (List Choice) Fault
    among None = Ok chosen
    among (Some inner) = passes known place cond inner >>= λ b. Ok (if b then chosen ++ (record { tuple = tuple; env = inner }) ∷ [] else chosen)

-- the tuples have as many components as there are slots, or there are none
abbrev pub fits_slots : List Slot → List (List Elem) → Result Bool Kind
fits_slots slots [] = Ok true
fits_slots slots (tuple ∷ tuples) = if length slots == length tuple then Ok true else Err WrongKind

-- the tuples of a set, in order, that agree with the slots of an index and pass its condition
unfoldable pub choices_among : {P : Type 0} → Known P → List Binding → Place → List Slot → List (List Elem) → Option P → Answer (List Choice) Fault
choices_among known env place slots tuples cond =
    at_place place (fits_slots slots tuples) >>= λ fits. goes (with_choice known env place slots cond) [] tuples

-- the choices of an index: its slots are evaluated, then its set, and then for each tuple its condition
unfoldable pub choices_of : {P S : Type 0} → Known P → (S → List Binding → Answer Slot Fault) → List Binding → Place → List S → P → Option P → Answer (List Choice) Fault
choices_of known slot_value env place slots set cond = do
  slots ← goes (λ before slot. slot_value slot env >>= λ next. Ok (before ++ next ∷ [])) [] slots
  v ← known.value set env
  tuples ← at_place place (set_of_value v)
  choices_among known env place slots tuples cond

-- `{ index }`: the tuples that are chosen, whole
unfoldable pub chosen_value : List Choice → Value
chosen_value choices = of_value.Set (map (λ choice. choice.tuple) choices)

-- ---- what stands behind an index

-- a total so far with the number at a choice
abbrev pub with_summand : {F : Type 0} → (Rational → Rational → Result Rational F) → (List Binding → Answer Value Fault) → Place → Rational → Choice → Answer Rational Fault
with_summand op body place total choice = do
  v ← body choice.env
  q ← at_place place (number_of_value v)
  at_place place (or_past (op total q))

-- `sum` and `prod`: the total of the numbers at all choices, 0 and 1 of none
abbrev pub total_value : {F : Type 0} → (Rational → Rational → Result Rational F) → Rational → (List Binding → Answer Value Fault) → Place → List Choice → Answer Value Fault
total_value op start body place choices = goes (with_summand op body place) start choices >>= λ total. Ok (of_value.Number total)

-- whether a number is better than the best so far: greater, or less
abbrev pub is_better : Bool → Rational → Option (Rational × List Elem) → Bool
is_better greatest q None = true
is_better true q (Some best) = below best.0 q
is_better false q (Some best) = below q best.0

-- the best so far, of equal ones the first, with the value at a choice
abbrev pub with_best : Bool → (List Binding → Answer Value Fault) → Place → Option (Rational × List Elem) → Choice → Answer (Option (Rational × List Elem)) Fault
with_best greatest body place best choice = do
  v ← body choice.env
  q ← at_place place (number_of_value v)
  Ok (if is_better greatest q best then Some (q, choice.tuple) else best)

-- the best value at all choices with its tuple; of none there is no best
unfoldable pub best_choice : Bool → (List Binding → Answer Value Fault) → Place → List Choice → Answer (Rational × List Elem) Fault
best_choice greatest body place choices = goes (with_best greatest body place) None choices >>= λ best. at_place place (some_best best)
  where
    some_best : Option (Rational × List Elem) → Result (Rational × List Elem) Kind
    some_best None = Err EmptyChoice
    some_best (Some best) = Ok best

-- the least or greatest value
abbrev pub best_number : Rational × List Elem → Value
best_number best = of_value.Number best.0

-- the set of the tuple at which it is
abbrev pub best_tuple : Rational × List Elem → Value
best_tuple best = of_value.Set (best.1 ∷ [])

-- `sum index : a` and the like, where the choices of the index are known
unfoldable pub gathered : Word → (List Binding → Answer Value Fault) → Place → List Choice → Answer Value Fault
gathered WSum body place choices = total_value sum_answer zero body place choices
gathered WProd body place choices = total_value product_answer one body place choices
gathered WMin body place choices = best_choice false body place choices >>= λ best. Ok (best_number best)
gathered WMax body place choices = best_choice true body place choices >>= λ best. Ok (best_number best)
gathered WArgmin body place choices = best_choice false body place choices >>= λ best. Ok (best_tuple best)
gathered WArgmax body place choices = best_choice true body place choices >>= λ best. Ok (best_tuple best)
gathered _ body place choices = Err (fault_of place WrongKind)
