-- The status and the line of each ending of a run.
use Rattle.std.specs.Prelude.{ℕ, ◌<◌, ◌⊎◌, List, [], ◌++◌, length, codes, Result, Ok, Err, ⊤}
use Rattle.zim_gate.specs.FaultLine.{fault_text}
use Rattle.zim_gate.specs.Sink.{SinkState, SinkAppends, SinkStopsIn}
use Rattle.zim_cli.specs.declared.ending.Ending.{Ending}
use Rattle.zim_cli.specs.declared.ending.Ending.TheVariants.{Done, Usage, Refused, Unread, Unwritten, Unput, Memory}
use Rattle.zim_cli.specs.declared.outputs.OutputNames.{OutputNames}
use Rattle.zim_cli.specs.declared.outputs.OutputStop.{OutputStop}
use Rattle.zim_cli.specs.declared.outputs.OutputStop.TheVariants as stop
use Rattle.zim_cli.specs.Outputs.{name_in}
use Rattle.zim_cli.specs.declared.status.Status.{Status}
use Rattle.zim_cli.specs.declared.status.Status.TheVariants as status

-- A fault's file is among the files.
abbrev pub IsReportable : Ending → Type 0
IsReportable (Refused fault files) = fault.place.file < length files
IsReportable _ = ⊤

-- The status with which a run ends.
abbrev pub status_of : Ending → Status
status_of Done = status.Done
status_of Usage = status.Usage
status_of (Refused fault files) = status.Refused
status_of (Unread name) = status.ReadFault
status_of (Unwritten name) = status.WriteFault
status_of Unput = status.OutFault
status_of Memory = status.Memory

-- The line that a run has for the error stream; none where it is done.
abbrev pub ending_line : Ending → List ℕ
ending_line Done = []
ending_line Usage = codes "usage: zimplc MODEL --out BASE\n"
ending_line (Refused fault files) = fault_text files fault
ending_line (Unread name) = codes "zimplc: cannot read " ++ (name ++ codes "\n")
ending_line (Unwritten name) = codes "zimplc: cannot write " ++ (name ++ codes "\n")
ending_line Unput = codes "zimplc: cannot write output\n"
ending_line Memory = codes "zimplc: out of memory\n"

-- A sink took the line, or a first part of it where its count rose.
abbrev pub TakesLine : SinkState → SinkState → List ℕ → Type 0
TakesLine before now line = SinkAppends before now line ⊎ SinkStopsIn before now line

-- The ending of a run whose files were written, or which stopped at one of them.
abbrev pub ending_of_writing : OutputNames → Result ⊤ OutputStop → Ending
ending_of_writing names (Ok _) = Done
ending_of_writing names (Err (stop.Unwritten output)) = Unwritten (name_in names output)
ending_of_writing names (Err stop.Memory) = Memory
