-- What a doing answers, by what its parts answer.
use Rattle.std.proofs.Common.{◌≡◌, ℕ, List, ◌++◌, Bool, Result, Ok, Err, sym, ap, ◌∙◌, subst}
use Rattle.zim_answer.specs.Answer.{Answer, ◌>>=◌}
use Rattle.zim_answer.specs.Gives.{Gives, Stops}
use Rattle.zim_eval.specs.Causes.{eval_cause}
use Rattle.zim_eval.specs.declared.faults.EvalStop.{EvalStop}
use Rattle.zim_eval.specs.declared.faults.EvalStop.TheVariants as stops
use Rattle.zim_fault.specs.declared.faults.Fault.{Fault}
use Rattle.zim_fault.specs.declared.faults.Place.{Place}
use Rattle.zim_meaning.specs.Printing.{UnfinishedPrint, behind_text, doing_output, passes_check, print_output}
use Rattle.zim_meaning.specs.Value.{index_choices}
use Rattle.zim_meaning.specs.World.{World}
use Rattle.zim_meaning.specs.declared.choices.Choice.{Choice}
use Rattle.zim_meaning.proofs.MeaningLaws.{does-Print, does-Check, does-Forall}
use Rattle.zim_perform.specs.Performing.{print_cause}
use Rattle.zim_perform.specs.Private.{done_at_each, with_printed_line}
use Rattle.zim_tuples.specs.declared.environments.Binding.{Binding}
use Rattle.zim_typed.specs.declared.constant.Const.{Const}
use Rattle.zim_typed.specs.declared.constant.Loop.{Loop}
use Rattle.zim_typed.specs.declared.statement.TDoing.{TDoing}
use Rattle.zim_typed.specs.declared.statement.TDoing.TheVariants as doing
use Rattle.zim_typed.specs.declared.statement.TPrinted.{TPrinted}

-- a text that is printed where a call answered, whatever the call's value is
abbrev pub Prints : Answer (List ℕ) UnfinishedPrint → List ℕ → Result (Unit {0}) EvalStop → Type 0
Prints answer after result = Gives (λ (_ : Unit {0}). after) (print_cause after) answer result

-- what stops a part stops the doing, and nothing more was printed
pub part_stops : {A B : Type 0} (a : Answer A Fault) (next : A → Answer B UnfinishedPrint) (before : List ℕ) (stop : EvalStop) → Stops a (eval_cause stop) → Stops (behind_text before a >>= next) (print_cause before stop)
part_stops {A} a next before (stops.Fault fault) h = ap (λ (b : Answer A Fault). behind_text before b >>= next) h
part_stops a next before stops.Memory h = tt

-- a line that is there is printed
pub line_printed : (world : World) (env : List Binding) (items : List TPrinted) (before line after : List ℕ) → print_output world env items ≡ Ok line → after ≡ before ++ line → with_printed_line world env items before ≡ Ok after
line_printed world env items before line after made is =
    ap (λ (a : Answer (List ℕ) Fault). behind_text before a >>= λ text. Ok (before ++ text)) made ∙ ap Ok (sym is)

-- a check prints nothing
pub check_prints_nothing : (a : Answer (Unit {0}) Fault) (before : List ℕ) (result : Result (Unit {0}) EvalStop) → Gives (λ passed. passed) eval_cause a result
    → Prints (behind_text before a >>= λ passed. Ok before) before result
check_prints_nothing a before (Ok passed) h = ap (λ (b : Answer (Unit {0}) Fault). behind_text before b >>= λ passed. Ok before) h
check_prints_nothing a before (Err stop) h = part_stops a (λ passed. Ok before) before stop h

-- ---- each form of a doing

pub print_given : (world : World) (env : List Binding) (tree : TDoing) (place : Place) (items shown : List TPrinted) (before after : List ℕ) (result : Result (Unit {0}) EvalStop) → tree ≡ doing.Print place items → shown ≡ items
    → Prints (with_printed_line world env shown before) after result → Prints (doing_output world tree env before) after result
print_given world env tree place items shown before after result is same given =
    subst (λ (a : Answer (List ℕ) UnfinishedPrint). Prints a after result)
    (ap (λ (xs : List TPrinted). with_printed_line world env xs before) same ∙ sym (ap (λ (d : TDoing). doing_output world d env before) is ∙ does-Print world place items env before))
    given

pub check_given : (world : World) (env : List Binding) (tree : TDoing) (place : Place) (c shown : Const) (before : List ℕ) (result : Result (Unit {0}) EvalStop) → tree ≡ doing.Check place c → shown ≡ c
    → Gives (λ passed. passed) eval_cause (passes_check world env place shown) result → Prints (doing_output world tree env before) before result
check_given world env tree place c shown before result is same given =
    subst (λ (a : Answer (List ℕ) UnfinishedPrint). Prints a before result)
    (ap (λ (d : Const). behind_text before (passes_check world env place d) >>= λ passed. Ok before) same ∙ sym (ap (λ (d : TDoing). doing_output world d env before) is ∙ does-Check world place c env before))
    (check_prints_nothing (passes_check world env place shown) before result given)

-- a doing at each choice of an index, where the choices are known
forall_is : (world : World) (env : List Binding) (tree : TDoing) (place : Place) (index : Loop) (with_do : Bool) (inner : TDoing) (before : List ℕ) → tree ≡ doing.Forall place index with_do inner
    → doing_output world tree env before ≡ (behind_text before (index_choices world env index) >>= λ choices. done_at_each world inner before choices)
unfolding done_at_each
forall_is world env tree place index with_do inner before is = ap (λ (d : TDoing). doing_output world d env before) is ∙ does-Forall world place index with_do inner env before

pub forall_given : (world : World) (env : List Binding) (tree : TDoing) (place : Place) (index index_shown : Loop) (with_do : Bool) (inner inner_shown : TDoing) (choices choices_shown : List Choice) (before after : List ℕ) (result : Result (Unit {0}) EvalStop)
    → tree ≡ doing.Forall place index with_do inner → index_shown ≡ index → inner_shown ≡ inner → choices_shown ≡ choices → index_choices world env index_shown ≡ Ok choices
    → Prints (done_at_each world inner_shown before choices_shown) after result → Prints (doing_output world tree env before) after result
forall_given world env tree place index index_shown with_do inner inner_shown choices choices_shown before after result is same_index same_inner same_choices made given =
    let chosen : index_choices world env index ≡ Ok choices = subst (λ (i : Loop). index_choices world env i ≡ Ok choices) same_index made in
    let whole : doing_output world tree env before ≡ done_at_each world inner_shown before choices_shown =
    forall_is world env tree place index with_do inner before is
    ∙ ap (λ (a : Answer (List Choice) Fault). behind_text before a >>= λ cs. done_at_each world inner before cs) chosen
    ∙ ap (λ (d : TDoing). done_at_each world d before choices) (sym same_inner)
    ∙ ap (λ (cs : List Choice). done_at_each world inner_shown before cs) (sym same_choices) in
    subst (λ (a : Answer (List ℕ) UnfinishedPrint). Prints a after result) (sym whole) given

pub forall_stops : (world : World) (env : List Binding) (tree : TDoing) (place : Place) (index shown : Loop) (with_do : Bool) (inner : TDoing) (before : List ℕ) (stop : EvalStop) → tree ≡ doing.Forall place index with_do inner → shown ≡ index
    → Stops (index_choices world env shown) (eval_cause stop) → Stops (doing_output world tree env before) (print_cause before stop)
forall_stops world env tree place index shown with_do inner before stop is same stops_there =
    subst (λ (a : Answer (List ℕ) UnfinishedPrint). Stops a (print_cause before stop)) (sym (forall_is world env tree place index with_do inner before is))
    (part_stops (index_choices world env index) (λ choices. done_at_each world inner before choices) before stop (subst (λ (i : Loop). Stops (index_choices world env i) (eval_cause stop)) same stops_there))
