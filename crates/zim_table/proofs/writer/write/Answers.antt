-- The pieces of the file.
use Rattle.std.proofs.Common.{◌≡◌, rules, to_z, of_z}
use Rattle.std.proofs.Math.Facts.{to_z-of_z}
use Rattle.std.specs.Int.{w128}
use Rattle.zim_gate.proofs.PenLaws.{◌▸◌, finished}
use Rattle.zim_table.proofs.writer.write.Goals as goal

pub returns : goal.returns
returns g c =
    let lp : to_z w128 (of_z w128 c.args.system.now.target.factor) ≡ c.args.system.now.target.factor = to_z-of_z {w = w128} search in
    let mps : to_z w128 (of_z w128 c.minimised_factor-minimised.result) ≡ c.minimised_factor-minimised.result = to_z-of_z {w = w128} search in
    let put =
    simp
    (lp, mps)
    at (c.put.ensures ▸ c.put_factor.ensures ▸ c.put_factor-2.ensures ▸ c.put_objective.ensures ▸ c.put_columns.ensures ▸ c.put-2.ensures ▸ c.put_rows.ensures ▸ c.put-3.ensures) in
    let pieces = simp (lp, c.minimised_factor-minimised.ensures, c.has_offset.ensures, c.text_of_offset.ensures, c.as_slice.ensures, c.list.ensures, c.len.ensures) at put in
    finished c.new-pen.ensures pieces c.finish.ensures.outcome (search rules)
