-- What the errors of this crate's calls tell.
use Rattle.std.specs.Prelude.{Result, Ok, Err}
use Rattle.zim_answer.specs.Gives.{Cause, NoMemory, Met}
use Rattle.zim_fault.specs.declared.faults.Fault as faults
use Rattle.zim_lex.specs.declared.faults.LexFault.{LexFault}
use Rattle.zim_lex.specs.declared.faults.LexFault.TheVariants.{Fault, Memory}

-- what an error of `lex` or `statements` tells
abbrev pub lex_cause : LexFault → Cause faults.Fault
lex_cause (Fault fault) = Met fault
lex_cause Memory = NoMemory

-- a fact of the fault, where the result is one
abbrev pub IfMet : {V : Type 0} → Result V LexFault → (faults.Fault → Type 0) → Type 0
IfMet (Ok value) P = Unit {0}
IfMet (Err (Fault fault)) P = P fault
IfMet (Err Memory) P = Unit {0}
