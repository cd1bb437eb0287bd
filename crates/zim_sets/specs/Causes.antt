-- What the errors of this crate's calls tell.
use Rattle.zim_answer.specs.Gives.{Cause, NoMemory, Met}
use Rattle.zim_fault.specs.declared.kinds.Kind.{Kind}
use Rattle.zim_fault.specs.declared.kinds.Kind.TheVariants as kind
use Rattle.zim_sets.specs.declared.faults.SetFault.{SetFault}
use Rattle.zim_sets.specs.declared.faults.SetFault.TheVariants.{WrongKind, StepZero, SetSize, Memory}

-- what an error tells: that memory was refused, or which kind of fault was met
abbrev pub set_cause : SetFault → Cause Kind
set_cause WrongKind = Met kind.WrongKind
set_cause StepZero = Met kind.StepZero
set_cause SetSize = Met kind.SetSize
set_cause Memory = NoMemory
