-- What the errors of this crate's calls tell.
use Rattle.zim_answer.specs.Gives.{Cause, NoMemory, Met}
use Rattle.zim_eval.specs.declared.faults.EvalStop.{EvalStop}
use Rattle.zim_eval.specs.declared.faults.EvalStop.TheVariants as stops
use Rattle.zim_fault.specs.declared.faults.Fault.{Fault}

-- what an error tells: that memory was refused, or the first fault
abbrev pub eval_cause : EvalStop → Cause Fault
eval_cause (stops.Fault fault) = Met fault
eval_cause stops.Memory = NoMemory
