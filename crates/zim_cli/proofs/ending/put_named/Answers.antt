-- The three parts of the line one after another.
use Rattle.std.proofs.Common.{rules}
use Rattle.zim_gate.proofs.SinkPenLaws.{◌▸◌, sink_finished}
use Rattle.zim_cli.proofs.ending.put_named.Goals as goal

pub returns : goal.returns
returns g c =
    sink_finished c.new-pen.ensures (c.put.ensures ▸ c.put-2.ensures ▸ c.put-3.ensures)
    c.finish.ensures.outcome (search rules)
