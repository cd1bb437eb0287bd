use Rattle.zim_linear.proofs.FormLaws.{none_from_length}
use Rattle.zim_linear.proofs.EndLemmas.{end_none, add_start, add_none, add_product_past, add_sum_past, add_step, add_end}
use Rattle.zim_linear.proofs.ends.end.Goals as goal

pub returns-then-not-has_end : goal.returns-then-not-has_end
returns-then-not-has_end c = end_none _ _ _ c.if-not-has_end.ensures

pub loop-t-init : goal.loop-t-init
loop-t-init c = add_start _ _ _ _ c.requires c.zero-sum.ensures c.if-not-has_end.ensures

pub returns-in_default-side : goal.returns-in_default-side
returns-in_default-side c =
    add_none _ _ _ _ _ _ _ c.loop-t.invariant (c.in-Some.ensures.cases.0) c.in_default-side.ensures

pub returns-in-Err : goal.returns-in-Err
returns-in-Err c =
    add_product_past _ _ _ _ _ _ _ _ _ c.loop-t.invariant (c.in-Some.ensures.cases.0) c.in-Some-side.ensures c.in-Err.ensures.answer

pub returns-in-Err-add : goal.returns-in-Err-add
returns-in-Err-add c =
    add_sum_past _ _ _ _ _ _ _ _ _ _ c.loop-t.invariant (c.in-Some.ensures.cases.0) c.in-Some-side.ensures c.in-Ok.ensures.answer c.in-Err-add.ensures.answer

pub loop-t-preserved : goal.loop-t-preserved
loop-t-preserved c =
    add_step _ _ _ _ _ _ _ _ _ _ c.loop-t.invariant (c.in-Some.ensures.cases.0) c.in-Some-side.ensures c.in-Ok.ensures.answer c.in-Ok-add.ensures.answer

pub returns : goal.returns
returns c = add_end _ _ _ _ _ c.loop-t.invariant (none_from_length _ c.in_default.ensures.cases)
