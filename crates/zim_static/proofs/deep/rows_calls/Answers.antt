-- One step, and the end.
use Rattle.std.proofs.Common.{List, max}
use Rattle.zim_tree.specs.declared.expr.Expr.{Expr}
use Rattle.zim_static.specs.Calls.{all_calls}
use Rattle.zim_static.proofs.CallsLemmas.{greatest-next, greatest-end}
use Rattle.zim_static.proofs.deep.rows_calls.Goals as goal

pub loop-items-preserved : goal.loop-items-preserved
loop-items-preserved c =
    greatest-next (λ (row : List Expr × List Expr). max (all_calls c.args.scope.now row.0) (all_calls c.args.scope.now row.1)) c.args.rows.now c.loop-items.items-index c.loop-items-item.result c.loop-items-test.true c.loop-items-item.is c.max-deepest.ensures c.loop-items.invariant c.row_calls.ensures

pub returns : goal.returns
returns c = greatest-end (λ (row : List Expr × List Expr). max (all_calls c.args.scope.now row.0) (all_calls c.args.scope.now row.1)) c.args.rows.now c.loop-items.items-index c.loop-items-test.false c.loop-items.invariant
