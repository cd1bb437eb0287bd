use Rattle.zim_rows.proofs.ScaledLemmas.{none_made, some_made, some_past}
use Rattle.zim_rows.proofs.scaled.scaled_target.Goals as goal

pub returns-in-None : goal.returns-in-None
returns-in-None c = none_made _ _ _ c.in-None.is c.new.ensures c.zero.ensures

pub returns-in-Ok : goal.returns-in-Ok
returns-in-Ok c = some_made _ _ _ c.in-Some.is c.in-Ok.ensures

pub returns-in-Err-Past : goal.returns-in-Err-Past
returns-in-Err-Past c =
    some_past _ _ _ _ c.in-Some.is c.in-Err-Past.field-0-is c.in-Err-Past.ensures c.past_at.ensures
