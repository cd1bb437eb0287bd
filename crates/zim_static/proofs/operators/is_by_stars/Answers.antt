-- An operand with variables is behind `*` or `/`, and so is each behind it.
use Rattle.zim_static.proofs.OperandLemmas.{stars_next, stars_refused, stars_ended}
use Rattle.zim_static.proofs.operators.is_by_stars.Goals as goal

pub returns-then-not-may_follow : goal.returns-then-not-may_follow
returns-then-not-may_follow c =
    stars_refused c.args.scope.now c.args.others.now c.loop-place._place-index c.loop-place-item.result c.loop-place.varying c.varies_by-varying.result c.may_follow.result _ c.loop-place-test.true c.loop-place-item.is
    c.varies_by-varying.ensures c.may_follow.ensures c.if-not-may_follow.true c.loop-place.invariant

pub loop-place-preserved : goal.loop-place-preserved
loop-place-preserved c =
    stars_next c.args.scope.now c.args.others.now c.loop-place._place-index c.loop-place-item.result c.loop-place.varying c.varies_by-varying.result c.may_follow.result _ c.loop-place-test.true c.loop-place-item.is
    c.varies_by-varying.ensures c.may_follow.ensures c.if-not-may_follow.false c.loop-place.invariant

pub returns : goal.returns
returns c = stars_ended c.args.scope.now c.args.others.now c.loop-place._place-index c.loop-place.varying _ c.loop-place-test.false c.loop-place.invariant
