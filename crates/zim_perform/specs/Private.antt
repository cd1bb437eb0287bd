-- What serves private contracts alone.
use Rattle.std.specs.Prelude.{ℕ, Bool, if◌then◌else◌, List, [], ◌∷◌, ◌++◌, Ok, Err}
use Rattle.zim_answer.specs.Answer.{Answer, ◌>>=◌, goes}
use Rattle.zim_fault.specs.declared.faults.Fault.{Fault}
use Rattle.zim_fault.specs.declared.faults.Place.{Place}
use Rattle.zim_fault.specs.declared.kinds.Kind.TheVariants.{CheckFailed}
use Rattle.zim_meaning.specs.Expressions.{tuple_of_parts}
use Rattle.zim_meaning.specs.Printing.{UnfinishedPrint, behind_text, doing_output, print_output, tuple_output, value_output}
use Rattle.zim_meaning.specs.Statements.{const_known}
use Rattle.zim_meaning.specs.Value.{value}
use Rattle.zim_meaning.specs.World.{World, fault_of}
use Rattle.zim_meaning.specs.declared.choices.Choice.{Choice}
use Rattle.zim_tuples.specs.declared.elements.Elem.{Elem}
use Rattle.zim_tuples.specs.declared.environments.Binding.{Binding}
use Rattle.zim_typed.specs.declared.constant.Const.{Const}
use Rattle.zim_typed.specs.declared.constant.TAngle.{out-TAngle}
use Rattle.zim_typed.specs.declared.statement.TDoing.{TDoing}
use Rattle.zim_typed.specs.declared.statement.TPrinted.{TPrinted}
use Rattle.zim_typed.specs.declared.statement.TPrinted.TheVariants as item

-- a text behind a comma
abbrev pub behind_commas : {A : Type 0} → (A → List ℕ) → A → List ℕ
behind_commas output next = 44 ∷ output next

-- an answer, and how it goes on with its value
abbrev pub answered_then : {A B : Type 0} → Answer A Fault → (A → Answer B Fault) → Answer B Fault
answered_then a next = a >>= next

-- the tuple of expressions
abbrev pub tuple_printed : World → List Binding → List Const → Answer (List Elem) Fault
tuple_printed world env cs = tuple_of_parts (const_known world) env cs

-- a line with what an item prints
abbrev pub with_item_text : World → List Binding → List ℕ → TPrinted → Answer (List ℕ) Fault
with_item_text world env line (item.Value c) = value world env c >>= λ v. Ok (line ++ value_output v)
with_item_text world env line (item.Tuple tuple) = tuple_printed world env (out-TAngle tuple).items >>= λ t. Ok (line ++ tuple_output t)

-- the same behind a blank
abbrev pub with_further_item : World → List Binding → List ℕ → TPrinted → Answer (List ℕ) Fault
with_further_item world env line next = with_item_text world env (line ++ 32 ∷ []) next

-- a line with what items print, with a blank between each two
unfoldable pub items_output : World → List Binding → List ℕ → List TPrinted → Answer (List ℕ) Fault
items_output world env line [] = Ok line
items_output world env line (first ∷ further) = with_item_text world env line first >>= λ next. goes (with_further_item world env) next further

-- nothing, where a `check` at a place is true
abbrev pub check_passed : Place → Bool → Answer (Unit {0}) Fault
check_passed place b = if b then Ok tt else Err (fault_of place CheckFailed)

-- what is printed once a `print` was done
abbrev pub with_printed_line : World → List Binding → List TPrinted → List ℕ → Answer (List ℕ) UnfinishedPrint
with_printed_line world env items before = behind_text before (print_output world env items) >>= λ line. Ok (before ++ line)

-- what is printed once a doing was done at a choice
abbrev pub done_at : World → TDoing → List ℕ → Choice → Answer (List ℕ) UnfinishedPrint
done_at world inner before choice = doing_output world inner choice.env before

-- what is printed once it was done at each of these choices
unfoldable pub done_at_each : World → TDoing → List ℕ → List Choice → Answer (List ℕ) UnfinishedPrint
done_at_each world inner before choices = goes (done_at world inner) before choices
