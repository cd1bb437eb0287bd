use Rattle.std.proofs.Common.{ap}
use Rattle.zim_rows.specs.System.{LinearSystem}
use Rattle.zim_rows.proofs.ColumnLemmas.{index_within, mark_is}
use Rattle.zim_rows.proofs.system.System.is_integer.Goals as goal

pub mark_at-requires : goal.mark_at-requires
mark_at-requires c =
    index_within _ _ _ _ _ c.self.invariant.paired (ap (λ (s : LinearSystem). s.columns) c.self.view_is) c.as_slice.ensures.value c.requires.from_one c.requires.in_columns

pub returns : goal.returns
returns c =
    mark_is _ _ _ _ _ _ c.self.invariant.paired (ap (λ (s : LinearSystem). s.columns) c.self.view_is) c.as_slice.ensures.value c.requires.from_one c.requires.in_columns c.mark_at.ensures
