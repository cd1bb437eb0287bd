-- One step, and the end.
use Rattle.std.proofs.Common.{max}
use Rattle.zim_tree.specs.declared.expr.Expr.{Expr}
use Rattle.zim_tree.specs.declared.expr.Angle.{Angle}
use Rattle.zim_static.specs.Calls.{calls, tuple_calls}
use Rattle.zim_static.proofs.CallsLemmas.{greatest-next, greatest-end}
use Rattle.zim_static.proofs.deep.entries_calls.Goals as goal

pub loop-tuple-preserved : goal.loop-tuple-preserved
loop-tuple-preserved c =
    greatest-next (λ (entry : Angle × Expr). max (tuple_calls c.args.scope.now entry.0) (calls c.args.scope.now entry.1)) c.args.entries.now c.loop-tuple.tuple-index c.loop-tuple-item.result c.loop-tuple-test.true c.loop-tuple-item.is c.max-deepest.ensures c.loop-tuple.invariant c.entry_calls.ensures

pub returns : goal.returns
returns c = greatest-end (λ (entry : Angle × Expr). max (tuple_calls c.args.scope.now entry.0) (calls c.args.scope.now entry.1)) c.args.entries.now c.loop-tuple.tuple-index c.loop-tuple-test.false c.loop-tuple.invariant
