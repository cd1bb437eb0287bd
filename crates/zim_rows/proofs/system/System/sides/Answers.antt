use Rattle.std.proofs.Common.{ap, sym, map, ◌∙◌}
use Rattle.zim_rows.specs.declared.rows.Column.{Column}
use Rattle.zim_rows.specs.System.{LinearSystem}
use Rattle.zim_rows.proofs.ColumnLemmas.{sides_of_columns}
use Rattle.zim_rows.proofs.system.System.sides.Goals as goal

pub returns : goal.returns
returns c =
    c.as_slice.ensures ∙ sym (sides_of_columns _ _ c.self.invariant.paired) ∙ ap (λ (s : LinearSystem). map (λ (p : Column). p.sides) s.columns) c.self.view_is
