-- The made rows grow by each scaled one, and the first that is past is the fault.
use Rattle.zim_rows.proofs.ScaledLemmas.{rows_step, rows_stop, rows_end, none_left}
use Rattle.zim_rows.proofs.scaled.scaled_rows.Goals as goal

pub returns-in-Err-Past : goal.returns-in-Err-Past
returns-in-Err-Past c =
    rows_stop _ _ _ _ _ _ _ c.loop-given.invariant (c.in-Some.ensures.cases.0) c.in-Err-Past.field-0-is c.in-Err-Past.ensures c.past_at.ensures

pub loop-given-preserved : goal.loop-given-preserved
loop-given-preserved c =
    rows_step _ _ _ _ _ _ _ c.loop-given.invariant (c.in-Some.ensures.cases.0) c.in-Ok.ensures c.in_ok-push.ensures.items

pub returns : goal.returns
returns c = rows_end _ _ _ _ c.loop-given.invariant (none_left _ c.in_default.ensures.cases) c.from_vec.ensures
