-- One step, and the end.
use Rattle.zim_tree.specs.declared.stmt.Limit.{Limit}
use Rattle.zim_static.specs.Calls.{calls}
use Rattle.zim_static.proofs.CallsLemmas.{greatest-next, greatest-end}
use Rattle.zim_static.proofs.deep.limits_calls.Goals as goal

pub loop-limit-preserved : goal.loop-limit-preserved
loop-limit-preserved c =
    greatest-next (λ (limit : Limit). calls c.args.scope.now limit.side) c.args.limits.now c.loop-limit.limit-index c.limit-item.result c.loop-limit-test.true c.limit-item.is c.max-deepest.ensures c.loop-limit.invariant (simp c.get.ensures at c.calls.ensures)

pub returns : goal.returns
returns c = greatest-end (λ (limit : Limit). calls c.args.scope.now limit.side) c.args.limits.now c.loop-limit.limit-index c.loop-limit-test.false c.loop-limit.invariant
