-- What the errors of this crate's calls tell.
use Rattle.zim_answer.specs.Gives.{Cause, NoMemory, Met}
use Rattle.zim_fault.specs.declared.kinds.Kind.{Kind}
use Rattle.zim_operators.specs.declared.stop.Stop.{Stop}
use Rattle.zim_operators.specs.declared.stop.Stop.TheVariants as stops

-- what an error tells: that memory was refused, or the kind of fault
abbrev pub stop_cause : Stop → Cause Kind
stop_cause (stops.Kind kind) = Met kind
stop_cause stops.Memory = NoMemory
