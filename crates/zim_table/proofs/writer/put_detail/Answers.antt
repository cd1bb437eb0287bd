-- Nothing is put where there is no number.
use Rattle.zim_gate.proofs.PenLaws.{Writes-nothing}
use Rattle.zim_table.proofs.writer.put_detail.Goals as goal

pub returns-in-None : goal.returns-in-None
returns-in-None g c = rw c.in-None.is (Writes-nothing c.args.pen.now)
