-- The pieces of the file.
use Rattle.std.proofs.Common.{rules, ℕ, List, subst}
use Rattle.zim_gate.specs.Pen.{Writes}
use Rattle.zim_gate.proofs.PenLaws.{◌▸◌, finished}
use Rattle.zim_rows.specs.Finished.{program_of}
use Rattle.zim_lp.proofs.Pieces.{text_in_pieces}
use Rattle.zim_lp.proofs.writer.write.Goals as goal

pub returns : goal.returns
returns g c =
    let pieces =
    simp
    (c.text_of_aim.ensures, c.as_slice.ensures, c.as_slice-columns.ensures, c.has_offset.ensures, c.offset_bound.ensures)
    at (c.put.ensures ▸ c.put-2.ensures ▸ c.put-3.ensures ▸ c.put_objective.ensures ▸ c.put-4.ensures ▸ c.put_rows.ensures ▸ c.put-5.ensures ▸ c.put_bounds.ensures ▸ c.put-6.ensures ▸ c.put_generals.ensures ▸ c.put-7.ensures) in
    let text = subst (λ (t : List ℕ). Writes g.F.Folder.state c.new-pen.result c.put-7.new.self t) (text_in_pieces (program_of c.args.system.now)) pieces in
    finished c.new-pen.ensures text c.finish.ensures.outcome (search rules)
