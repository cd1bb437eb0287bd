use Rattle.zim_rows.proofs.ColumnLemmas.{is_valid}
use Rattle.zim_rows.proofs.system.System.valid.Goals as goal

pub returns : goal.returns
returns c = is_valid _ _ _ _ _ c.self.invariant c.self.view_is
