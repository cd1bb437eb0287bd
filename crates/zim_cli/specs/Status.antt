-- The number of a status, with which the program ends.
use Rattle.std.specs.Prelude.{ℕ}
use Rattle.zim_cli.specs.declared.status.Status.{Status}
use Rattle.zim_cli.specs.declared.status.Status.TheVariants.{Done, Usage, Refused, ReadFault, WriteFault, OutFault, Memory}

-- The number of each.
abbrev pub number_of_status : Status → ℕ
number_of_status Done = 0
number_of_status Usage = 1
number_of_status Refused = 2
number_of_status ReadFault = 3
number_of_status WriteFault = 4
number_of_status OutFault = 5
number_of_status Memory = 6
