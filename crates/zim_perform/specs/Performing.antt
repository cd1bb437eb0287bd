-- What the errors of a doing tell, and what is left of what was printed before.
use Rattle.std.specs.Prelude.{ℕ, ◌≡◌, List, ◌++◌, length, drop}
use Rattle.zim_answer.specs.Gives.{Cause, NoMemory, Met}
use Rattle.zim_eval.specs.declared.faults.EvalStop.{EvalStop}
use Rattle.zim_eval.specs.declared.faults.EvalStop.TheVariants as stops
use Rattle.zim_meaning.specs.Printing.{UnfinishedPrint}

-- what an error tells where this text stands printed in the end: that memory was refused, or the first fault, up to which exactly this text was printed
abbrev pub print_cause : List ℕ → EvalStop → Cause UnfinishedPrint
print_cause text (stops.Fault fault) = Met (record { text = text; fault = fault })
print_cause text stops.Memory = NoMemory

-- a text goes on from what was there before, which is its beginning
abbrev pub Continues : List ℕ → List ℕ → Type 0
Continues before after = after ≡ before ++ drop (length before) after
