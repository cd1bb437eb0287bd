-- One step, and the end.
use Rattle.zim_static.specs.Calls.{printed_calls}
use Rattle.zim_static.proofs.CallsLemmas.{greatest-next, greatest-end}
use Rattle.zim_static.proofs.deep.printed_calls.Goals as goal

pub loop-item-preserved : goal.loop-item-preserved
loop-item-preserved c =
    greatest-next (printed_calls c.args.scope.now) c.args.items.now c.loop-item.item-index c.item-item.result c.loop-item-test.true c.item-item.is c.max-deepest.ensures c.loop-item.invariant c.item_calls.ensures

pub returns : goal.returns
returns c = greatest-end (printed_calls c.args.scope.now) c.args.items.now c.loop-item.item-index c.loop-item-test.false c.loop-item.invariant
