-- What stands in braces and what an index chooses, by what their parts answer.
use Rattle.std.proofs.Common.{◌≡◌, ℕ, Bool, true, false, if◌then◌else◌, List, [], ◌∷◌, ◌++◌, map, Option, Some, None, option_map, Ok, Err, Result, refl, sym, ap, ◌∙◌, subst}
use Rattle.std.specs.List.{filter}
use Rattle.zim_answer.specs.Answer.{Answer, ◌>>=◌, goes}
use Rattle.zim_answer.proofs.BindLemmas.{bind_same, bind_assoc}
use Rattle.std.specs.Prelude.{IfOk}
use Rattle.zim_answer.specs.Gives.{Cause, Gives, Stops}
use Rattle.zim_answer.proofs.GivesLemmas.{Stops-bind}
use Rattle.zim_eval.specs.Causes.{eval_cause}
use Rattle.zim_eval.specs.declared.faults.EvalStop.{EvalStop}
use Rattle.zim_eval.specs.Private.{value_in, values_in, tuple_in, tuples_in, body_in, slot_in, slots_in, step_in, tested_in, passes_in, choice_in, choice_within, kept, with_kept, with_choice_in, among_in, choices_in, chosen_tuples, fitting_tuples}
use Rattle.zim_eval.proofs.FormLemmas.{goes_map, goes_same, means, values_known, tuple_known, tuple_items}
use Rattle.zim_eval.proofs.FirstLemmas.{first_known}
use Rattle.zim_fault.specs.declared.faults.Fault.{Fault}
use Rattle.zim_fault.specs.declared.faults.Place.{Place}
use Rattle.zim_meaning.specs.Expressions.{component, truth_at, tuple_of_parts, members_value, tuples_value, span_value}
use Rattle.zim_meaning.specs.Loops.{passes, with_choice, fits_slots, choices_among, choices_of, chosen_value}
use Rattle.zim_meaning.specs.Operations.{element_of_value, truth_of_value, set_of_value, set_of_members, set_between}
use Rattle.zim_meaning.specs.Value.{meaning_known, meaning_of_slot, meaning_of_loop, meaning_of_tuple, calls_of_first, SlotMeaning, TupleMeaning}
use Rattle.zim_meaning.specs.World.{World, at_place}
use Rattle.zim_meaning.specs.declared.choices.Choice.{Choice}
use Rattle.zim_meaning.specs.declared.values.Value.{Value}
use Rattle.zim_meaning.specs.declared.values.Value.TheVariants as of_value
use Rattle.zim_meaning.proofs.MeaningLaws.{value-Empty, value-Members, value-Tuples, value-Those, value-Span, value-Free, value-Again, value-Fixed, value-loop}
use Rattle.zim_sets.specs.Listing.{set_listed}
use Rattle.zim_sets.specs.Sets.{IsSet}
use Rattle.zim_sets.proofs.JoinLaws.{filter_is_set}
use Rattle.zim_tuples.specs.Patterns.{matched}
use Rattle.zim_tuples.specs.declared.elements.Elem.{Elem}
use Rattle.zim_tuples.specs.declared.environments.Binding.{Binding}
use Rattle.zim_tuples.specs.declared.patterns.Slot.{Slot}
use Rattle.zim_tuples.specs.declared.patterns.Slot.TheVariants as of_slot
use Rattle.zim_typed.specs.FirstPlace.{const_first_place}
use Rattle.zim_typed.specs.declared.constant.Const.{Const}
use Rattle.zim_typed.specs.declared.constant.Loop.{Loop, out-Loop, roll-out-Loop}
use Rattle.zim_typed.specs.declared.constant.LoopSlot.{LoopSlot}
use Rattle.zim_typed.specs.declared.constant.LoopSlot.TheVariants as slot
use Rattle.zim_typed.specs.declared.constant.TAngle.{TAngle, out-TAngle}
use Rattle.zim_typed.specs.declared.constant.TBody.{TBody}
use Rattle.zim_typed.specs.declared.constant.TBody.TheVariants as body

-- ---- braces

pub in-Empty : (world : World) (n : ℕ) (env : List Binding) (place : Place) → body_in world n env place body.Empty ≡ Ok (of_value.Set [])
unfolding body_in
in-Empty world n env place = value-Empty world (calls_of_first world n) place env

pub in-Members : (world : World) (n : ℕ) (env : List Binding) (place : Place) (members : List Const) → body_in world n env place (body.Members members) ≡ (values_in world n env members >>= λ vs. at_place place (set_of_members vs))
unfolding body_in members_value
in-Members world n env place members =
    value-Members world (calls_of_first world n) members place env ∙ ap (λ a. a >>= λ vs. at_place place (set_of_members vs)) (values_known world n env members)

one_more : (world : World) (n : ℕ) (env : List Binding) (tuples : List (List Elem)) (t : TAngle) → (tuple_of_parts meaning_known env (meaning_of_tuple world (calls_of_first world n) t).items >>= λ tuple. Ok (tuples ++ tuple ∷ [])) ≡ (tuple_in world n env (out-TAngle t).items >>= λ tuple. Ok (tuples ++ tuple ∷ []))
one_more world n env tuples t =
    ap (λ items. tuple_of_parts meaning_known env items >>= λ tuple. Ok (tuples ++ tuple ∷ [])) (tuple_items world n t) ∙ ap (λ a. a >>= λ tuple. Ok (tuples ++ tuple ∷ [])) (tuple_known world n env (out-TAngle t).items)

tuples_known : (world : World) (n : ℕ) (env : List Binding) (ts : List TAngle) → goes (λ tuples parts. tuple_of_parts meaning_known env parts >>= λ tuple. Ok (tuples ++ tuple ∷ [])) [] (map (λ (m : TupleMeaning). m.items) (map (meaning_of_tuple world (calls_of_first world n)) ts)) ≡ tuples_in world n env ts
unfolding tuples_in
tuples_known world n env ts =
    goes_map _ (λ (m : TupleMeaning). m.items) [] (map (meaning_of_tuple world (calls_of_first world n)) ts)
    ∙ goes_map _ (meaning_of_tuple world (calls_of_first world n)) [] ts
    ∙ goes_same _ _ (one_more world n env) [] ts

pub in-Tuples : (world : World) (n : ℕ) (env : List Binding) (place : Place) (ts : List TAngle) → body_in world n env place (body.Tuples ts) ≡ (tuples_in world n env ts >>= λ tuples. at_place place (set_listed tuples) >>= λ s. Ok (of_value.Set s))
unfolding body_in tuples_value
in-Tuples world n env place ts =
    value-Tuples world (calls_of_first world n) ts place env ∙ ap (λ a. a >>= λ tuples. at_place place (set_listed tuples) >>= λ s. Ok (of_value.Set s)) (tuples_known world n env ts)

pub in-Those : (world : World) (n : ℕ) (env : List Binding) (place : Place) (index : Loop) → body_in world n env place (body.Those index) ≡ (choices_in world n env index >>= λ choices. Ok (chosen_value choices))
unfolding body_in choices_in
in-Those world n env place index = value-Those world (calls_of_first world n) index place env

pub in-Span : (world : World) (n : ℕ) (env : List Binding) (place : Place) (from : Const) (with_to : Bool) (to : Const) (by : Option Const) →
    body_in world n env place (body.Span from with_to to by) ≡ (value_in world n env from >>= λ v. value_in world n env to >>= λ w. step_in world n env by >>= λ s. at_place place (set_between v w s))
unfolding body_in span_value value_in
in-Span world n env place from with_to to None = value-Span world (calls_of_first world n) from with_to to None place env
in-Span world n env place from with_to to (Some by) = value-Span world (calls_of_first world n) from with_to to (Some by) place env

pub ruleset bodies = (in-Empty, in-Members, in-Tuples, in-Those, in-Span)

-- ---- components of an index's tuple

pub in-Free : (world : World) (n : ℕ) (env : List Binding) (name : List ℕ) → slot_in world n env (slot.Free name) ≡ Ok (of_slot.Free name)
unfolding slot_in
in-Free world n env name = value-Free world (calls_of_first world n) name env

pub in-Again : (world : World) (n : ℕ) (env : List Binding) (at : ℕ) → slot_in world n env (slot.Again at) ≡ Ok (of_slot.Again at)
unfolding slot_in
in-Again world n env at = value-Again world (calls_of_first world n) at env

pub in-Fixed : (world : World) (n : ℕ) (env : List Binding) (c : Const) → slot_in world n env (slot.Fixed c) ≡ ((value_in world n env c >>= λ v. at_place (const_first_place c) (element_of_value v)) >>= λ element. Ok (of_slot.Fixed element))
unfolding slot_in value_in component
in-Fixed world n env c =
    value-Fixed world (calls_of_first world n) c env ∙ ap (λ place. ((means world n c).value env >>= λ v. at_place place (element_of_value v)) >>= λ element. Ok (of_slot.Fixed element)) (first_known world (calls_of_first world n) c)

pub ruleset components = (in-Free, in-Again, in-Fixed)

-- ---- choices

condition_known : (world : World) (n : ℕ) (place : Place) (cond : Option Const) (inner : List Binding) → passes meaning_known place (option_map (means world n) cond) inner ≡ tested_in world n inner place cond
unfolding passes truth_at value_in
condition_known world n place None inner = refl
condition_known world n place (Some c) inner = refl

-- whether a choice is kept, as the meaning says it and as the code does
kept_same : (tuple : List Elem) (chosen : List Choice) (inner : List Binding) (a : Answer Bool Fault) → (a >>= λ b. Ok (if b then chosen ++ (record { tuple = tuple; env = inner }) ∷ [] else chosen)) ≡ ((a >>= λ b. Ok (kept tuple inner b)) >>= λ choice. Ok (with_kept chosen choice))
kept_same tuple chosen inner (Ok true) = refl
kept_same tuple chosen inner (Ok false) = refl
kept_same tuple chosen inner (Err fault) = refl

choice_same : (world : World) (n : ℕ) (env : List Binding) (index : Loop) (ss : List Slot) (chosen : List Choice) (tuple : List Elem) (m : Option (List Binding)) → matched env ss tuple ≡ m
    → with_choice meaning_known env (out-Loop index).place ss (option_map (means world n) (out-Loop index).cond) chosen tuple ≡ (choice_within world n index tuple m >>= λ choice. Ok (with_kept chosen choice))
unfolding passes_in
choice_same world n env index ss chosen tuple None h = rw h refl
choice_same world n env index ss chosen tuple (Some inner) h =
    rw (h, condition_known) (kept_same tuple chosen inner (tested_in world n inner (out-Loop index).place (out-Loop index).cond))

choice_known : (world : World) (n : ℕ) (env : List Binding) (index : Loop) (ss : List Slot) (chosen : List Choice) (tuple : List Elem) → with_choice meaning_known env (out-Loop index).place ss (option_map (means world n) (out-Loop index).cond) chosen tuple ≡ with_choice_in world n env index ss chosen tuple
unfolding choice_in
choice_known world n env index ss chosen tuple = choice_same world n env index ss chosen tuple (matched env ss tuple) refl

among_known : (world : World) (n : ℕ) (env : List Binding) (index : Loop) (ss : List Slot) (tuples : List (List Elem)) →
    choices_among meaning_known env (out-Loop index).place ss tuples (option_map (means world n) (out-Loop index).cond) ≡ (at_place (out-Loop index).place (fits_slots ss tuples) >>= λ fits. among_in world n env index ss tuples)
unfolding choices_among among_in
among_known world n env index ss tuples =
    bind_same (at_place (out-Loop index).place (fits_slots ss tuples)) _ _ (λ fits. goes_same _ _ (choice_known world n env index ss) [] tuples)

slots_known : (world : World) (n : ℕ) (env : List Binding) (ss : List LoopSlot) → goes (λ before slot. slot env >>= λ next. Ok (before ++ next ∷ [])) [] (map (meaning_of_slot world (calls_of_first world n)) ss) ≡ slots_in world n env ss
unfolding slots_in slot_in
slots_known world n env ss = goes_map (λ before (slot : SlotMeaning). slot env >>= λ next. Ok (before ++ next ∷ [])) (meaning_of_slot world (calls_of_first world n)) [] ss

-- the choices of an index: its slots, then its set, then each tuple
pub in-Loop : (world : World) (n : ℕ) (env : List Binding) (index : Loop) → choices_in world n env index ≡ (slots_in world n env (out-Loop index).slots >>= λ ss. value_in world n env (out-Loop index).set >>= λ v. fitting_tuples (out-Loop index).place ss v >>= λ tuples. among_in world n env index ss tuples)
unfolding choices_in choices_of value_in
in-Loop world n env index =
    let i = out-Loop index in
    let calls = calls_of_first world n in
    ap (λ (l : Loop). meaning_of_loop world calls l env) (sym (roll-out-Loop index))
    ∙ value-loop world calls i.place i.slots i.set i.cond env
    ∙ ap (λ a. a >>= λ ss. (means world n i.set).value env >>= λ v. at_place i.place (set_of_value v) >>= λ tuples. choices_among meaning_known env i.place ss tuples (option_map (means world n) i.cond)) (slots_known world n env i.slots)
    ∙ bind_same (slots_in world n env i.slots) _ _ (λ ss. bind_same ((means world n i.set).value env) _ _ (λ v.
    bind_same (at_place i.place (set_of_value v)) _ _ (λ tuples. among_known world n env index ss tuples ∙ sym (bind_assoc (at_place i.place (fits_slots ss tuples)) (λ fits. Ok tuples) (λ tuples. among_in world n env index ss tuples)))
    ∙ sym (bind_assoc (at_place i.place (set_of_value v)) (λ tuples. at_place i.place (fits_slots ss tuples) >>= λ fits. Ok tuples) (λ tuples. among_in world n env index ss tuples))))

-- ---- the chosen tuples are some of the set's

-- whether something was chosen
abbrev is_chosen : Answer (Option Choice) Fault → Bool
is_chosen (Ok (Some choice)) = true
is_chosen (Ok None) = false
is_chosen (Err fault) = false

-- a choice holds its tuple
kept_tuple : (tuple : List Elem) (inner : List Binding) (a : Answer Bool Fault) (choice : Choice) → (a >>= λ b. Ok (kept tuple inner b)) ≡ Ok (Some choice) → choice.tuple ≡ tuple
kept_tuple tuple inner (Ok true) choice h = let e : Some (record { tuple = tuple; env = inner }) ≡ Some choice = cc in let f : record { tuple = tuple; env = inner } ≡ choice = cc in sym (ap (λ (c : Choice). c.tuple) f)
kept_tuple tuple inner (Ok false) choice h = absurd (cc)
kept_tuple tuple inner (Err fault) choice h = absurd (cc)

within_tuple : (world : World) (n : ℕ) (index : Loop) (tuple : List Elem) (m : Option (List Binding)) (choice : Choice) → choice_within world n index tuple m ≡ Ok (Some choice) → choice.tuple ≡ tuple
within_tuple world n index tuple None choice h = absurd (cc)
within_tuple world n index tuple (Some inner) choice h = kept_tuple tuple inner (passes_in world n inner index) choice h

choice_tuple : (world : World) (n : ℕ) (env : List Binding) (index : Loop) (ss : List Slot) (tuple : List Elem) (choice : Choice) → choice_in world n env index ss tuple ≡ Ok (Some choice) → choice.tuple ≡ tuple
unfolding choice_in
choice_tuple world n env index ss tuple choice h = within_tuple world n index tuple (matched env ss tuple) choice h

map_more : (chosen : List Choice) (choice : Choice) → chosen_tuples (chosen ++ choice ∷ []) ≡ chosen_tuples chosen ++ choice.tuple ∷ []
map_more [] choice = refl
map_more (c ∷ chosen) choice = ap (λ rest. c.tuple ∷ rest) (map_more chosen choice)

pub nil_right : (xs : List (List Elem)) → xs ++ [] ≡ xs
nil_right [] = refl
nil_right (x ∷ xs) = ap (λ rest. x ∷ rest) (nil_right xs)

pub assoc : (xs ys zs : List (List Elem)) → (xs ++ ys) ++ zs ≡ xs ++ (ys ++ zs)
assoc [] ys zs = refl
assoc (x ∷ xs) ys zs = ap (λ rest. x ∷ rest) (assoc xs ys zs)

-- going on by what is kept
abbrev keeps : (List Elem → Answer (Option Choice) Fault) → List Choice → List Elem → Answer (List Choice) Fault
keeps step before t = step t >>= λ c. Ok (with_kept before c)

-- the tuples that are chosen, behind those before
abbrev Filtered : (List Elem → Answer (Option Choice) Fault) → List Choice → List Choice → List (List Elem) → Type 0
Filtered step chosen cs tuples = chosen_tuples cs ≡ chosen_tuples chosen ++ filter (λ t. is_chosen (step t)) tuples

filtered_more : (step : List Elem → Answer (Option Choice) Fault) (chosen cs : List Choice) (t : List Elem) (tuples : List (List Elem)) (a : Answer (Option Choice) Fault) → step t ≡ a → ((c : Choice) → step t ≡ Ok (Some c) → c.tuple ≡ t)
    → ((before : List Choice) → goes (keeps step) before tuples ≡ Ok cs → Filtered step before cs tuples) → ((step t >>= λ c. Ok (with_kept chosen c)) >>= λ next. goes (keeps step) next tuples) ≡ Ok cs → Filtered step chosen cs (t ∷ tuples)
filtered_more step chosen cs t tuples (Err fault) e holds later h = absurd (let f : Err fault ≡ Ok cs = rw e at h in cc)
filtered_more step chosen cs t tuples (Ok None) e holds later h = rw e (later chosen (rw e at h))
filtered_more step chosen cs t tuples (Ok (Some c)) e holds later h =
    rw e
    (later (chosen ++ c ∷ []) (rw e at h)
    ∙ ap (λ front. front ++ filter (λ t. is_chosen (step t)) tuples) (map_more chosen c ∙ ap (λ u. chosen_tuples chosen ++ u ∷ []) (holds c e))
    ∙ assoc (chosen_tuples chosen) (t ∷ []) (filter (λ t. is_chosen (step t)) tuples))

chosen_filtered : (step : List Elem → Answer (Option Choice) Fault) → ((t : List Elem) (c : Choice) → step t ≡ Ok (Some c) → c.tuple ≡ t) → (chosen cs : List Choice) (tuples : List (List Elem)) → goes (keeps step) chosen tuples ≡ Ok cs → Filtered step chosen cs tuples
unfolding goes
chosen_filtered step holds chosen cs [] h = let same : chosen ≡ cs = cc in ap chosen_tuples (sym same) ∙ sym (nil_right (chosen_tuples chosen))
chosen_filtered step holds chosen cs (t ∷ tuples) h = filtered_more step chosen cs t tuples (step t) refl (holds t) (λ before g. chosen_filtered step holds before cs tuples g) h

-- the tuples that are chosen of a set are a set
pub chosen_is_set : (world : World) (n : ℕ) (env : List Binding) (index : Loop) (ss : List Slot) (tuples : List (List Elem)) (cs : List Choice) → IsSet tuples → among_in world n env index ss tuples ≡ Ok cs → IsSet (chosen_tuples cs)
unfolding among_in
chosen_is_set world n env index ss tuples cs set h =
    subst IsSet (sym (chosen_filtered (choice_in world n env index ss) (choice_tuple world n env index ss) [] cs tuples h)) (filter_is_set tuples _ set)

-- the same of a result of the code
pub chosen_sets : (world : World) (n : ℕ) (env : List Binding) (index : Loop) (ss : List Slot) (tuples : List (List Elem)) (result : Result (List Choice) EvalStop) → IsSet tuples → Gives (λ cs. cs) eval_cause (among_in world n env index ss tuples) result → IfOk result (λ cs. IsSet (chosen_tuples cs))
chosen_sets world n env index ss tuples (Ok cs) set h = chosen_is_set world n env index ss tuples cs set h
chosen_sets world n env index ss tuples (Err stop) set h = tt

-- ---- the exits of an index

-- what follows the slots, and the value of the set
abbrev behind_value : World → ℕ → List Binding → Loop → List Slot → Value → Answer (List Choice) Fault
behind_value world n env index ss v = fitting_tuples (out-Loop index).place ss v >>= λ tuples. among_in world n env index ss tuples

abbrev behind_slots : World → ℕ → List Binding → Loop → List Slot → Answer (List Choice) Fault
behind_slots world n env index ss = value_in world n env (out-Loop index).set >>= λ v. behind_value world n env index ss v

pub slots_stop : (world : World) (n : ℕ) (env : List Binding) (index : Loop) (parts : List LoopSlot) (cause : Cause Fault) → parts ≡ (out-Loop index).slots → Stops (slots_in world n env parts) cause → Stops (choices_in world n env index) cause
slots_stop world n env index parts cause same h =
    subst (λ (a : Answer (List Choice) Fault). Stops a cause) (sym (in-Loop world n env index ∙ ap (λ ps. slots_in world n env ps >>= behind_slots world n env index) (sym same)))
    (Stops-bind (slots_in world n env parts) (behind_slots world n env index) cause h)

with_slots : (world : World) (n : ℕ) (env : List Binding) (index : Loop) (parts : List LoopSlot) (ss : List Slot) → parts ≡ (out-Loop index).slots → slots_in world n env parts ≡ Ok ss → choices_in world n env index ≡ behind_slots world n env index ss
with_slots world n env index parts ss same h =
    in-Loop world n env index ∙ ap (λ a. a >>= behind_slots world n env index) (ap (slots_in world n env) (sym same) ∙ h)

pub value_stop : (world : World) (n : ℕ) (env : List Binding) (index : Loop) (parts : List LoopSlot) (ss : List Slot) (shown : Const) (cause : Cause Fault) → parts ≡ (out-Loop index).slots → slots_in world n env parts ≡ Ok ss → shown ≡ (out-Loop index).set
    → Stops (value_in world n env shown) cause → Stops (choices_in world n env index) cause
value_stop world n env index parts ss shown cause same h seen stops =
    subst (λ (a : Answer (List Choice) Fault). Stops a cause) (sym (with_slots world n env index parts ss same h ∙ ap (λ c. value_in world n env c >>= behind_value world n env index ss) (sym seen)))
    (Stops-bind (value_in world n env shown) (behind_value world n env index ss) cause stops)

with_value : (world : World) (n : ℕ) (env : List Binding) (index : Loop) (parts : List LoopSlot) (ss : List Slot) (shown : Const) (v : Value) → parts ≡ (out-Loop index).slots → slots_in world n env parts ≡ Ok ss → shown ≡ (out-Loop index).set
    → value_in world n env shown ≡ Ok v → choices_in world n env index ≡ behind_value world n env index ss v
with_value world n env index parts ss shown v same h seen k =
    with_slots world n env index parts ss same h ∙ ap (λ a. a >>= behind_value world n env index ss) (ap (value_in world n env) (sym seen) ∙ k)

pub fit_stop : (world : World) (n : ℕ) (env : List Binding) (index : Loop) (parts : List LoopSlot) (ss same_ss : List Slot) (shown : Const) (v : Value) (cause : Cause Fault) → parts ≡ (out-Loop index).slots → slots_in world n env parts ≡ Ok ss → shown ≡ (out-Loop index).set
    → value_in world n env shown ≡ Ok v → same_ss ≡ ss → Stops (fitting_tuples (out-Loop index).place same_ss v) cause → Stops (choices_in world n env index) cause
fit_stop world n env index parts ss same_ss shown v cause same h seen k again stops =
    subst (λ (a : Answer (List Choice) Fault). Stops a cause) (sym (with_value world n env index parts ss shown v same h seen k ∙ ap (λ s. behind_value world n env index s v) (sym again)))
    (Stops-bind (fitting_tuples (out-Loop index).place same_ss v) (λ tuples. among_in world n env index same_ss tuples) cause stops)

pub all_given : (world : World) (n : ℕ) (env : List Binding) (index : Loop) (parts : List LoopSlot) (ss first_ss second_ss : List Slot) (shown : Const) (v : Value) (tuples same_tuples : List (List Elem)) (result : Result (List Choice) EvalStop) → parts ≡ (out-Loop index).slots → slots_in world n env parts ≡ Ok ss → shown ≡ (out-Loop index).set
    → value_in world n env shown ≡ Ok v → first_ss ≡ ss → fitting_tuples (out-Loop index).place first_ss v ≡ Ok tuples → second_ss ≡ ss → same_tuples ≡ tuples → Gives (λ cs. cs) eval_cause (among_in world n env index second_ss same_tuples) result → Gives (λ cs. cs) eval_cause (choices_in world n env index) result
all_given world n env index parts ss first_ss second_ss shown v tuples same_tuples result same h seen k first fit second again made =
    let all : choices_in world n env index ≡ among_in world n env index second_ss same_tuples =
    with_value world n env index parts ss shown v same h seen k
    ∙ ap (λ a. a >>= λ ts. among_in world n env index ss ts) (ap (λ s. fitting_tuples (out-Loop index).place s v) (sym first) ∙ fit)
    ∙ ap (λ s. among_in world n env index s tuples) (sym second) ∙ ap (among_in world n env index second_ss) (sym again) in
    subst (λ (a : Answer (List Choice) Fault). Gives (λ cs. cs) eval_cause a result) (sym all) made

-- ---- the exits of what an index is made of

pub kept_choice : (world : World) (n : ℕ) (env : List Binding) (index : Loop) (ss : List Slot) (tuple : List Elem) (found : Option (List Binding)) (inner : List Binding) (result : Result (Option Choice) EvalStop) → found ≡ matched env ss tuple → found ≡ Some inner
    → Gives (λ c. c) eval_cause (passes_in world n inner index >>= λ b. Ok (kept tuple inner b)) result → Gives (λ c. c) eval_cause (choice_in world n env index ss tuple) result
unfolding choice_in
kept_choice world n env index ss tuple found inner result is some made =
    subst (λ (m : Option (List Binding)). Gives (λ c. c) eval_cause (choice_within world n index tuple m) result) (sym some ∙ is) made

pub tested : (world : World) (n : ℕ) (env : List Binding) (index : Loop) (cond shown : Const) (result : Result Bool EvalStop) → (out-Loop index).cond ≡ Some cond → shown ≡ cond
    → Gives (λ b. b) eval_cause (value_in world n env shown >>= λ v. at_place (out-Loop index).place (truth_of_value v)) result → Gives (λ b. b) eval_cause (passes_in world n env index) result
unfolding passes_in
tested world n env index cond shown result is same made =
    subst (λ (o : Option Const). Gives (λ b. b) eval_cause (tested_in world n env (out-Loop index).place o) result) (ap Some same ∙ sym is) made

pub fixed_value : (world : World) (n : ℕ) (env : List Binding) (part : LoopSlot) (tree first shown : Const) (place : Place) (result : Result Slot EvalStop) → part ≡ slot.Fixed tree → first ≡ tree → place ≡ const_first_place first → shown ≡ tree
    → Gives (λ s. s) eval_cause ((value_in world n env shown >>= λ v. at_place place (element_of_value v)) >>= λ element. Ok (of_slot.Fixed element)) result → Gives (λ s. s) eval_cause (slot_in world n env part) result
fixed_value world n env part tree first shown place result is begins at same made =
    let whole : slot_in world n env part ≡ ((value_in world n env shown >>= λ v. at_place place (element_of_value v)) >>= λ element. Ok (of_slot.Fixed element)) =
    ap (slot_in world n env) is ∙ in-Fixed world n env tree
    ∙ ap (λ c. (value_in world n env c >>= λ v. at_place (const_first_place tree) (element_of_value v)) >>= λ element. Ok (of_slot.Fixed element)) (sym same)
    ∙ ap (λ p. (value_in world n env shown >>= λ v. at_place p (element_of_value v)) >>= λ element. Ok (of_slot.Fixed element)) (sym (at ∙ ap const_first_place begins)) in
    subst (λ (a : Answer Slot Fault). Gives (λ s. s) eval_cause a result) (sym whole) made

pub spanned : (world : World) (n : ℕ) (env : List Binding) (place : Place) (inside : TBody) (from : Const) (with_to : Bool) (to : Const) (by : Option Const) (first last : Const) (step : Answer Value Fault) (result : Result Value EvalStop) → inside ≡ body.Span from with_to to by → first ≡ from → last ≡ to → step ≡ step_in world n env by
    → Gives (λ v. v) eval_cause (value_in world n env first >>= λ v. value_in world n env last >>= λ w. step >>= λ s. at_place place (set_between v w s)) result → Gives (λ v. v) eval_cause (body_in world n env place inside) result
spanned world n env place inside from with_to to by first last step result is begins ends steps made =
    let whole : body_in world n env place inside ≡ (value_in world n env first >>= λ v. value_in world n env last >>= λ w. step >>= λ s. at_place place (set_between v w s)) =
    ap (body_in world n env place) is ∙ in-Span world n env place from with_to to by
    ∙ ap (λ c. value_in world n env c >>= λ v. value_in world n env to >>= λ w. step_in world n env by >>= λ s. at_place place (set_between v w s)) (sym begins)
    ∙ ap (λ c. value_in world n env first >>= λ v. value_in world n env c >>= λ w. step_in world n env by >>= λ s. at_place place (set_between v w s)) (sym ends)
    ∙ ap (λ a. value_in world n env first >>= λ v. value_in world n env last >>= λ w. a >>= λ s. at_place place (set_between v w s)) (sym steps) in
    subst (λ (a : Answer Value Fault). Gives (λ v. v) eval_cause a result) (sym whole) made
