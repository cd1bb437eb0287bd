-- The pieces of the file.
use Rattle.std.proofs.Common.{length, sym, subst, rules}
use Rattle.std.specs.Prelude.{All}
use Rattle.zim_gate.proofs.PenLaws.{◌▸◌, finished}
use Rattle.zim_mps.specs.Puts.{HasShortKind}
use Rattle.zim_mps.proofs.Pieces.{short_kinds}
use Rattle.zim_mps.proofs.writer.write.Goals as goal

pub put_rights-requires : goal.put_rights-requires
put_rights-requires g c =
    subst (All HasShortKind) (sym c.as_slice-rows.ensures) (short_kinds (length c.args.system.now.columns) c.args.system.now.rows c.args.system.now.program.each_row)

pub put_ranges-requires : goal.put_ranges-requires
put_ranges-requires g c =
    subst (All HasShortKind) (sym c.as_slice-rows.ensures) (short_kinds (length c.args.system.now.columns) c.args.system.now.rows c.args.system.now.program.each_row)

pub returns : goal.returns
returns g c =
    let pieces =
    simp
    c.as_slice-rows.ensures
    at (c.put.ensures ▸ c.put_rows.ensures ▸ c.put-2.ensures ▸ c.put_columns.ensures ▸ c.put-3.ensures ▸ c.put_rights.ensures ▸ c.put_ranges.ensures ▸ c.put-4.ensures ▸ c.put_bounds.ensures ▸ c.put-5.ensures) in
    finished c.new-pen.ensures pieces c.finish.ensures.outcome (search rules)
