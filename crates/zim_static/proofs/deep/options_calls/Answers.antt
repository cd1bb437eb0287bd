-- One step, and the end.
use Rattle.zim_fault.specs.declared.faults.Place.{Place}
use Rattle.zim_fault.specs.declared.words.Word.{Word}
use Rattle.zim_tree.specs.declared.expr.Expr.{Expr}
use Rattle.zim_static.specs.Calls.{calls}
use Rattle.zim_static.proofs.CallsLemmas.{greatest-next, greatest-end}
use Rattle.zim_static.proofs.deep.options_calls.Goals as goal

pub loop-place-preserved : goal.loop-place-preserved
loop-place-preserved c =
    greatest-next (λ (x : Place × Word × Expr). calls c.args.scope.now x.2) c.args.options.now c.loop-place._place-index c.loop-place-item.result c.loop-place-test.true c.loop-place-item.is c.max-deepest.ensures c.loop-place.invariant c.calls.ensures

pub returns : goal.returns
returns c = greatest-end (λ (x : Place × Word × Expr). calls c.args.scope.now x.2) c.args.options.now c.loop-place._place-index c.loop-place-test.false c.loop-place.invariant
