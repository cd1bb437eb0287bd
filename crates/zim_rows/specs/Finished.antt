-- The linear program that a finished system is.
use Rattle.std.specs.Prelude.{Result, Ok, Err}
use Rattle.zim_rows.specs.declared.finished.Finished.{Finished}
use Rattle.zim_rows.specs.declared.faults.FinishFault.{FinishFault}
use Rattle.zim_rows.specs.Program.{LinearProgram}

-- A finished system without its entries.
abbrev pub program_of : Finished → LinearProgram
program_of finished = record { columns = finished.columns; rows = finished.rows; target = finished.target }

-- The same of an answer.
abbrev pub answered : Result Finished FinishFault → Result LinearProgram FinishFault
answered (Ok finished) = Ok (program_of finished)
answered (Err fault) = Err fault
