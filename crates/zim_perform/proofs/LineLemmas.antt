-- The line of a `print`, item by item.
use Rattle.std.proofs.Common.{◌≡◌, ℕ, List, [], ◌∷◌, ◌++◌, length, Result, Ok, Err, refl, sym, ap, ◌∙◌, subst, append_assoc, arith}
use Rattle.std.specs.Prelude.{codes, flat_map}
use Rattle.std.proofs.lemmas.List.Concat.{flat_map-append}
use Rattle.zim_answer.specs.Answer.{Answer, ◌>>=◌, goes}
use Rattle.zim_answer.specs.Gives.{Cause, Gives, Stops}
use Rattle.zim_answer.proofs.BindLemmas.{bind_assoc}
use Rattle.zim_answer.proofs.GivesLemmas.{Stops-bind}
use Rattle.zim_eval.specs.Causes.{eval_cause}
use Rattle.zim_eval.specs.declared.faults.EvalStop.{EvalStop}
use Rattle.zim_fault.specs.declared.faults.Fault.{Fault}
use Rattle.zim_meaning.specs.Printing.{item_text, print_output, tuple_output, value_output, with_between, with_item}
use Rattle.zim_meaning.specs.Value.{value}
use Rattle.zim_meaning.specs.World.{World}
use Rattle.zim_perform.specs.Private.{items_output, tuple_printed, with_further_item, with_item_text}
use Rattle.zim_perform.proofs.TextLemmas.{nil_right}
use Rattle.zim_tuples.specs.declared.environments.Binding.{Binding}
use Rattle.zim_typed.specs.declared.constant.Const.{Const}
use Rattle.zim_typed.specs.declared.constant.TAngle.{TAngle, out-TAngle}
use Rattle.zim_typed.specs.declared.statement.TPrinted.{TPrinted}
use Rattle.zim_typed.specs.declared.statement.TPrinted.TheVariants as item

-- a text more behind others, with blanks between
more_between : (text : List ℕ) (texts : List (List ℕ)) (next : List ℕ) → with_between 32 (text ∷ (texts ++ next ∷ [])) ≡ (with_between 32 (text ∷ texts) ++ 32 ∷ []) ++ next
more_between text texts next =
    let blank : List ℕ → List ℕ = λ (t : List ℕ). 32 ∷ t in
    let all : flat_map blank (texts ++ next ∷ []) ≡ flat_map blank texts ++ (32 ∷ next) = flat_map-append blank texts (next ∷ []) ∙ ap (λ t. flat_map blank texts ++ (32 ∷ t)) (nil_right next) in
    ap (λ t. text ++ t) all ∙ sym (append_assoc text (flat_map blank texts) (32 ∷ next)) ∙ sym (append_assoc (text ++ flat_map blank texts) (32 ∷ []) next)

-- the line of these texts, once they are there
abbrev line_of_texts : Answer (List (List ℕ)) Fault → Answer (List ℕ) Fault
line_of_texts a = a >>= λ texts. Ok (with_between 32 texts ++ codes "\n")

-- a line with its end
abbrev ended : Answer (List ℕ) Fault → Answer (List ℕ) Fault
ended a = a >>= λ line. Ok (line ++ codes "\n")

-- a line with the text of an item
with_text : (world : World) (env : List Binding) (line : List ℕ) (next : TPrinted) → with_item_text world env line next ≡ (item_text world env next >>= λ text. Ok (line ++ text))
with_text world env line (item.Value c) = sym (bind_assoc (value world env c) (λ v. Ok (value_output v)) (λ text. Ok (line ++ text)))
with_text world env line (item.Tuple tuple) = sym (bind_assoc (tuple_printed world env (out-TAngle tuple).items) (λ t. Ok (tuple_output t)) (λ text. Ok (line ++ text)))

-- behind a first item each further one has a blank before it
further : (world : World) (env : List Binding) (text : List ℕ) (texts : List (List ℕ)) (items : List TPrinted) → line_of_texts (goes (with_item world env) (text ∷ texts) items) ≡ ended (goes (with_further_item world env) (with_between 32 (text ∷ texts)) items)
unfolding goes
further world env text texts [] = refl
further world env text texts (next ∷ items) =
    by (λ more. further world env text (texts ++ more ∷ []) items) (item_text world env next)
    ∙ sym (ap (λ (a : Answer (List ℕ) Fault). ended (a >>= λ line. goes (with_further_item world env) line items)) (with_text world env (with_between 32 (text ∷ texts) ++ 32 ∷ []) next))
  where
    by : ((more : List ℕ) → line_of_texts (goes (with_item world env) (text ∷ (texts ++ more ∷ [])) items) ≡ ended (goes (with_further_item world env) (with_between 32 (text ∷ (texts ++ more ∷ []))) items))
        → (a : Answer (List ℕ) Fault) → line_of_texts ((a >>= λ next. Ok ((text ∷ texts) ++ next ∷ [])) >>= λ next. goes (with_item world env) next items) ≡ ended ((a >>= λ next. Ok ((with_between 32 (text ∷ texts) ++ 32 ∷ []) ++ next)) >>= λ next. goes (with_further_item world env) next items)
    by others (Err fault) = refl
    by others (Ok more) = others more ∙ ap (λ line. ended (goes (with_further_item world env) line items)) (more_between text texts more)

-- the line of a `print` is what its items print, and the line's end
pub print_is : (world : World) (env : List Binding) (items : List TPrinted) → print_output world env items ≡ ended (items_output world env [] items)
unfolding print_output items_output goes
print_is world env [] = refl
print_is world env (next ∷ items) =
    by (item_text world env next)
    ∙ sym (ap (λ (a : Answer (List ℕ) Fault). ended (a >>= λ line. goes (with_further_item world env) line items)) (with_text world env [] next))
  where
    by : (a : Answer (List ℕ) Fault) → line_of_texts ((a >>= λ next. Ok (next ∷ [])) >>= λ next. goes (with_item world env) next items) ≡ ended ((a >>= λ next. Ok next) >>= λ next. goes (with_further_item world env) next items)
    by (Err fault) = refl
    by (Ok more) = further world env more [] items ∙ ap (λ line. ended (goes (with_further_item world env) line items)) (nil_right more)

-- ---- an item by its parts

pub value_given : (world : World) (env : List Binding) (line : List ℕ) (tree : TPrinted) (c shown : Const) (after : List ℕ) (result : Result (Unit {0}) EvalStop) → tree ≡ item.Value c → shown ≡ c
    → Gives (λ (_ : Unit {0}). after) eval_cause (value world env shown >>= λ v. Ok (line ++ value_output v)) result → Gives (λ (_ : Unit {0}). after) eval_cause (with_item_text world env line tree) result
value_given world env line tree c shown after result is same given =
    subst (λ (x : TPrinted). Gives (λ (_ : Unit {0}). after) eval_cause (with_item_text world env line x) result) (sym is)
    (subst (λ (d : Const). Gives (λ (_ : Unit {0}). after) eval_cause (value world env d >>= λ v. Ok (line ++ value_output v)) result) same given)

pub tuple_given : (world : World) (env : List Binding) (line : List ℕ) (tree : TPrinted) (tuple : TAngle) (shown : List Const) (after : List ℕ) (result : Result (Unit {0}) EvalStop) → tree ≡ item.Tuple tuple → shown ≡ (out-TAngle tuple).items
    → Gives (λ (_ : Unit {0}). after) eval_cause (tuple_printed world env shown >>= λ t. Ok (line ++ tuple_output t)) result → Gives (λ (_ : Unit {0}). after) eval_cause (with_item_text world env line tree) result
tuple_given world env line tree tuple shown after result is same given =
    subst (λ (x : TPrinted). Gives (λ (_ : Unit {0}). after) eval_cause (with_item_text world env line x) result) (sym is)
    (subst (λ (cs : List Const). Gives (λ (_ : Unit {0}). after) eval_cause (tuple_printed world env cs >>= λ t. Ok (line ++ tuple_output t)) result) same given)

-- ---- the first item and the further ones

pub no_items : (world : World) (env : List Binding) (line : List ℕ) (items : List TPrinted) → length items ≡ 0 → items_output world env line items ≡ Ok line
unfolding items_output
no_items world env line [] none = refl
no_items world env line (next ∷ items) none = absurd (omega (arith, none))

pub first_stops : (world : World) (env : List Binding) (line : List ℕ) (items : List TPrinted) (first : TPrinted) (further_ones : List TPrinted) (cause : Cause Fault) → items ≡ first ∷ further_ones → Stops (with_item_text world env line first) cause
    → Stops (items_output world env line items) cause
unfolding items_output
first_stops world env line items first further_ones cause is stops =
    subst (λ (xs : List TPrinted). Stops (items_output world env line xs) cause) (sym is)
    (Stops-bind (with_item_text world env line first) (λ next. goes (with_further_item world env) next further_ones) cause stops)

pub first_given : (world : World) (env : List Binding) (line next : List ℕ) (items : List TPrinted) (first : TPrinted) (further_ones : List TPrinted) (after : List ℕ) (result : Result (Unit {0}) EvalStop) → items ≡ first ∷ further_ones → with_item_text world env line first ≡ Ok next
    → Gives (λ (_ : Unit {0}). after) eval_cause (goes (with_further_item world env) next further_ones) result → Gives (λ (_ : Unit {0}). after) eval_cause (items_output world env line items) result
unfolding items_output
first_given world env line next items first further_ones after result is made given =
    subst (λ (xs : List TPrinted). Gives (λ (_ : Unit {0}). after) eval_cause (items_output world env line xs) result) (sym is)
    (subst (λ (a : Answer (List ℕ) Fault). Gives (λ (_ : Unit {0}). after) eval_cause (a >>= λ x. goes (with_further_item world env) x further_ones) result) (sym made) given)

-- ---- the end of the line

pub line_ended : (world : World) (env : List Binding) (items : List TPrinted) (line : List ℕ) → items_output world env [] items ≡ Ok line → print_output world env items ≡ Ok (line ++ 10 ∷ [])
line_ended world env items line made = print_is world env items ∙ ap ended made

pub line_stops : (world : World) (env : List Binding) (items : List TPrinted) (cause : Cause Fault) → Stops (items_output world env [] items) cause → Stops (print_output world env items) cause
line_stops world env items cause stops =
    subst (λ (a : Answer (List ℕ) Fault). Stops a cause) (sym (print_is world env items)) (Stops-bind (items_output world env [] items) (λ line. Ok (line ++ codes "\n")) cause stops)
