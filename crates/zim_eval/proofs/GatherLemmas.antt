-- What is gathered over choices, with one state for totals and bests.
use Rattle.std.proofs.Common.{◌≡◌, ℕ, Bool, true, false, if◌then◌else◌, List, [], ◌∷◌, Option, Some, None, Ok, Err, Result, refl, sym, ap, ◌∙◌}
use Rattle.zim_answer.specs.Answer.{Answer, ◌>>=◌, goes}
use Rattle.zim_answer.proofs.BindLemmas.{bind_same, bind_assoc}
use Rattle.zim_eval.specs.Private.{value_in, gathered_in, gathering_in, gathering_start, gathering_with_value, gathering_value, total_with}
use Rattle.zim_eval.specs.declared.gathering.Gathering.{Gathering}
use Rattle.zim_eval.specs.declared.gathering.Gathering.TheVariants as gathering
use Rattle.zim_fault.specs.declared.faults.Fault.{Fault}
use Rattle.zim_fault.specs.declared.faults.Place.{Place}
use Rattle.zim_fault.specs.declared.words.Word.{Word}
use Rattle.zim_fault.specs.declared.words.Word.TheVariants as words
use Rattle.zim_fraction.specs.Answers.{sum_answer, product_answer}
use Rattle.zim_meaning.specs.Loops.{gathered, with_summand, with_best, is_better, best_choice, best_number, best_tuple}
use Rattle.zim_meaning.specs.Operations.{number_of_value, or_past}
use Rattle.zim_meaning.specs.World.{World, at_place}
use Rattle.zim_meaning.specs.declared.choices.Choice.{Choice}
use Rattle.zim_meaning.specs.declared.values.Value.{Value}
use Rattle.zim_meaning.specs.declared.values.Value.TheVariants as of_value
use Rattle.zim_rational.specs.Rational.{Rational, zero, one}
use Rattle.zim_tuples.specs.declared.elements.Elem.{Elem}
use Rattle.zim_tuples.specs.declared.environments.Binding.{Binding}
use Rattle.zim_typed.specs.declared.constant.Const.{Const}

-- going on by steps that are the same but for how the state is kept
goes_kept : {S T X F : Type 0} (keep : S → T) (step : S → X → Result S F) (other : T → X → Result T F) → ((s : S) (x : X) → other (keep s) x ≡ (step s x >>= λ next. Ok (keep next))) → (state : S) (items : List X) → goes other (keep state) items ≡ (goes step state items >>= λ last. Ok (keep last))
unfolding goes
goes_kept keep step other same state [] = refl
goes_kept keep step other same state (item ∷ items) =
    ap (λ a. a >>= λ next. goes other next items) (same state item)
    ∙ bind_assoc (step state item) (λ next. Ok (keep next)) (λ next. goes other next items)
    ∙ bind_same (step state item) _ _ (λ next. goes_kept keep step other same next items)
    ∙ sym (bind_assoc (step state item) (λ next. goes step next items) (λ last. Ok (keep last)))

-- a number that is past is past at its place
at_past : {F : Type 0} (keep : Rational → Gathering) (place : Place) (q : Result Rational F) → at_place place (or_past q >>= λ next. Ok (keep next)) ≡ (at_place place (or_past q) >>= λ next. Ok (keep next))
at_past keep place (Ok q) = refl
at_past keep place (Err e) = refl

total_step : (place : Place) (is_product : Bool) (total : Rational) (choice : Choice) (v : Value) →
    at_place place (gathering_with_value (gathering.Total is_product total) choice.tuple v) ≡ ((at_place place (number_of_value v) >>= λ q. at_place place (total_with is_product total q)) >>= λ next. Ok (gathering.Total is_product next))
unfolding gathering_with_value
total_step place false total choice (of_value.Number q) = at_past (gathering.Total false) place (sum_answer total q)
total_step place true total choice (of_value.Number q) = at_past (gathering.Total true) place (product_answer total q)
total_step place is_product total choice (of_value.Text s) = refl
total_step place is_product total choice (of_value.Truth b) = refl
total_step place is_product total choice (of_value.Set a) = refl

best_step : (place : Place) (greatest is_tuple : Bool) (best : Option (Rational × List Elem)) (choice : Choice) (v : Value) →
    at_place place (gathering_with_value (gathering.Best greatest is_tuple best) choice.tuple v)
    ≡ ((at_place place (number_of_value v) >>= λ q. Ok (if is_better greatest q best then Some (q, choice.tuple) else best)) >>= λ next. Ok (gathering.Best greatest is_tuple next))
unfolding gathering_with_value
best_step place greatest is_tuple best choice (of_value.Number q) = refl
best_step place greatest is_tuple best choice (of_value.Text s) = refl
best_step place greatest is_tuple best choice (of_value.Truth b) = refl
best_step place greatest is_tuple best choice (of_value.Set a) = refl

-- totals

sums : (body : List Binding → Answer Value Fault) (place : Place) (total : Rational) (choice : Choice) → (body choice.env >>= λ v. at_place place (gathering_with_value (gathering.Total false total) choice.tuple v)) ≡ (with_summand sum_answer body place total choice >>= λ next. Ok (gathering.Total false next))
sums body place total choice =
    bind_same (body choice.env) _ _ (λ v. total_step place false total choice v) ∙ sym (bind_assoc (body choice.env) _ _)

products : (body : List Binding → Answer Value Fault) (place : Place) (total : Rational) (choice : Choice) → (body choice.env >>= λ v. at_place place (gathering_with_value (gathering.Total true total) choice.tuple v)) ≡ (with_summand product_answer body place total choice >>= λ next. Ok (gathering.Total true next))
products body place total choice =
    bind_same (body choice.env) _ _ (λ v. total_step place true total choice v) ∙ sym (bind_assoc (body choice.env) _ _)

bests : (greatest is_tuple : Bool) (body : List Binding → Answer Value Fault) (place : Place) (best : Option (Rational × List Elem)) (choice : Choice) → (body choice.env >>= λ v. at_place place (gathering_with_value (gathering.Best greatest is_tuple best) choice.tuple v)) ≡ (with_best greatest body place best choice >>= λ next. Ok (gathering.Best greatest is_tuple next))
bests greatest is_tuple body place best choice =
    bind_same (body choice.env) _ _ (λ v. best_step place greatest is_tuple best choice v) ∙ sym (bind_assoc (body choice.env) _ _)

-- the end of a total
total_end : (place : Place) (is_product : Bool) (a : Answer Rational Fault) → ((a >>= λ total. Ok (gathering.Total is_product total)) >>= λ last. at_place place (gathering_value last)) ≡ (a >>= λ total. Ok (of_value.Number total))
unfolding gathering_value
total_end place is_product (Ok total) = refl
total_end place is_product (Err fault) = refl

-- the end of a best
number_end : (greatest : Bool) (body : List Binding → Answer Value Fault) (place : Place) (choices : List Choice) (a : Answer (Option (Rational × List Elem)) Fault) → goes (with_best greatest body place) None choices ≡ a
    → ((a >>= λ best. Ok (gathering.Best greatest false best)) >>= λ last. at_place place (gathering_value last)) ≡ (best_choice greatest body place choices >>= λ best. Ok (best_number best))
unfolding gathering_value best_choice
number_end greatest body place choices (Ok None) h = rw h refl
number_end greatest body place choices (Ok (Some best)) h = rw h refl
number_end greatest body place choices (Err fault) h = rw h refl

tuple_end : (greatest : Bool) (body : List Binding → Answer Value Fault) (place : Place) (choices : List Choice) (a : Answer (Option (Rational × List Elem)) Fault) → goes (with_best greatest body place) None choices ≡ a
    → ((a >>= λ best. Ok (gathering.Best greatest true best)) >>= λ last. at_place place (gathering_value last)) ≡ (best_choice greatest body place choices >>= λ best. Ok (best_tuple best))
unfolding gathering_value best_choice
tuple_end greatest body place choices (Ok None) h = rw h refl
tuple_end greatest body place choices (Ok (Some best)) h = rw h refl
tuple_end greatest body place choices (Err fault) h = rw h refl

-- what is gathered of a function of environments
abbrev ends : (List Binding → Answer Value Fault) → Place → Gathering → List Choice → Answer Value Fault
ends body place state choices = goes (λ s choice. body choice.env >>= λ v. at_place place (gathering_with_value s choice.tuple v)) state choices >>= λ last. at_place place (gathering_value last)

summed : (body : List Binding → Answer Value Fault) (place : Place) (choices : List Choice) → ends body place (gathering.Total false zero) choices ≡ gathered words.WSum body place choices
unfolding gathered
summed body place choices =
    ap (λ a. a >>= λ last. at_place place (gathering_value last)) (goes_kept (gathering.Total false) (with_summand sum_answer body place) _ (sums body place) zero choices) ∙ total_end place false (goes (with_summand sum_answer body place) zero choices)

multiplied : (body : List Binding → Answer Value Fault) (place : Place) (choices : List Choice) → ends body place (gathering.Total true one) choices ≡ gathered words.WProd body place choices
unfolding gathered
multiplied body place choices =
    ap (λ a. a >>= λ last. at_place place (gathering_value last)) (goes_kept (gathering.Total true) (with_summand product_answer body place) _ (products body place) one choices) ∙ total_end place true (goes (with_summand product_answer body place) one choices)

best_numbered : (greatest : Bool) (body : List Binding → Answer Value Fault) (place : Place) (choices : List Choice) → ends body place (gathering.Best greatest false None) choices ≡ (best_choice greatest body place choices >>= λ best. Ok (best_number best))
best_numbered greatest body place choices =
    ap (λ a. a >>= λ last. at_place place (gathering_value last)) (goes_kept (gathering.Best greatest false) (with_best greatest body place) _ (bests greatest false body place) None choices) ∙ number_end greatest body place choices _ refl

best_tupled : (greatest : Bool) (body : List Binding → Answer Value Fault) (place : Place) (choices : List Choice) → ends body place (gathering.Best greatest true None) choices ≡ (best_choice greatest body place choices >>= λ best. Ok (best_tuple best))
best_tupled greatest body place choices =
    ap (λ a. a >>= λ last. at_place place (gathering_value last)) (goes_kept (gathering.Best greatest true) (with_best greatest body place) _ (bests greatest true body place) None choices) ∙ tuple_end greatest body place choices _ refl

-- a word gathers from its start, or is no word that gathers
pub gathers : (world : World) (n : ℕ) (c : Const) (place : Place) (word : Word) (choices : List Choice) → gathered_in world n word c place choices ≡ (at_place place (gathering_start word) >>= λ start. gathering_in world n c place start choices)
unfolding gathered_in gathering_in gathered
gathers world n c place words.WSum choices = sym (summed (λ env. value_in world n env c) place choices)
gathers world n c place words.WProd choices = sym (multiplied (λ env. value_in world n env c) place choices)
gathers world n c place words.WMin choices = sym (best_numbered false (λ env. value_in world n env c) place choices)
gathers world n c place words.WMax choices = sym (best_numbered true (λ env. value_in world n env c) place choices)
gathers world n c place words.WArgmin choices = sym (best_tupled false (λ env. value_in world n env c) place choices)
gathers world n c place words.WArgmax choices = sym (best_tupled true (λ env. value_in world n env c) place choices)
gathers world n c place _ choices = refl
