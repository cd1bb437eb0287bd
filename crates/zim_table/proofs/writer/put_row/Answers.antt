-- The pieces of a line.
use Rattle.std.proofs.Common.{◌≡◌, to_z, of_z}
use Rattle.std.specs.Int.{w128}
use Rattle.std.proofs.Math.Facts.{to_z-of_z}
use Rattle.zim_gate.proofs.PenLaws.{◌▸◌}
use Rattle.zim_table.proofs.writer.put_row.Goals as goal

pub returns : goal.returns
returns g c =
    let back : to_z w128 (of_z w128 c.args.factor) ≡ c.args.factor = to_z-of_z {w = w128} search in
    simp back at (c.put.ensures ▸ c.put_number.ensures ▸ c.put-2.ensures ▸ c.put-3.ensures ▸ c.put-4.ensures ▸ c.put_number-2.ensures ▸ c.put-5.ensures ▸ c.put_number-3.ensures ▸ c.put-6.ensures)
