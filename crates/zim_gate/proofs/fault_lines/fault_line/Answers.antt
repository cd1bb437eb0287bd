-- The parts of the line one after another.
use Rattle.std.proofs.Common.{rules}
use Rattle.zim_gate.proofs.SinkPenLaws.{◌▸◌, sink_finished}
use Rattle.zim_gate.proofs.fault_lines.fault_line.Goals as goal

pub returns : goal.returns
returns g c =
    sink_finished c.new-pen.ensures (c.put_file.ensures ▸ c.put.ensures ▸ c.put_number.ensures ▸ c.put-2.ensures ▸ c.put_kind.ensures ▸ c.put-3.ensures)
    c.finish.ensures.outcome (search rules)
