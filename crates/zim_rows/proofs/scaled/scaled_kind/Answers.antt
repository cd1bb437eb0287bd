use Rattle.zim_rows.proofs.ScaledLemmas.{one_made, one_past}
use Rattle.zim_rows.proofs.scaled.scaled_kind.Goals as goal

pub returns-in-Ok : goal.returns-in-Ok
returns-in-Ok c = one_made _ _ _ _ _ c.in-One.is c.in-Ok.ensures

pub returns-in-Err : goal.returns-in-Err
returns-in-Err c = one_past _ _ _ _ _ c.in-One.is c.in-Err.ensures
