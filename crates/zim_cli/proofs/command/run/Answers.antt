-- What must come follows from how the run ended.
use Rattle.zim_cli.proofs.RunLemmas.{must_be_done, must_be_refused, must_be_read_fault}
use Rattle.zim_cli.proofs.FaultlessLemmas.{must_not_fail}
use Rattle.zim_cli.proofs.EndedTable.{ended_table}
use Rattle.zim_cli.proofs.command.run.Goals as goal

pub returns-clause-done : goal.returns-clause-done
returns-clause-done g c = rw c.report.ensures.status (must_be_done _ _ _ _ _ c.perform-ending.result c.perform-ending.ensures.ended)

pub returns-clause-refused : goal.returns-clause-refused
returns-clause-refused g c = rw c.report.ensures.status (must_be_refused _ _ _ _ _ c.perform-ending.result c.perform-ending.ensures.ended)

pub returns-clause-read_fault : goal.returns-clause-read_fault
returns-clause-read_fault g c = rw c.report.ensures.status (must_be_read_fault _ _ _ _ _ c.perform-ending.result c.perform-ending.ensures.ended)

pub returns-clause-faultless : goal.returns-clause-faultless
returns-clause-faultless g c = must_not_fail _ _ _ _ _ _ (g.met.F.Folder.sound c.perform-ending.new.folder) c.perform-ending.ensures.ended

pub returns-clause-ended_table : goal.returns-clause-ended_table
returns-clause-ended_table g c = ended_table _ _ _ _ _ _ c.perform-ending.ensures.ended
