use Rattle.zim_rows.proofs.ScaledLemmas.{low_past, high_past, range_past, range_made}
use Rattle.zim_rows.proofs.scaled.scaled_range.Goals as goal

pub returns-in-Err : goal.returns-in-Err
returns-in-Err c = low_past _ _ _ _ c.in-Err.ensures

pub returns-in-Err-scaled_number : goal.returns-in-Err-scaled_number
returns-in-Err-scaled_number c = high_past _ _ _ _ c.in-Err-scaled_number.ensures

pub returns-in-Ok-sub : goal.returns-in-Ok-sub
returns-in-Ok-sub c =
    range_made _ _ _ _ _ _ c.in-Ok.ensures c.in-Ok-scaled_number.ensures c.in-Ok-sub.ensures.answer

pub returns-in-Err-sub : goal.returns-in-Err-sub
returns-in-Err-sub c =
    range_past _ _ _ _ _ _ c.in-Ok.ensures c.in-Ok-scaled_number.ensures c.in-Err-sub.ensures.answer
