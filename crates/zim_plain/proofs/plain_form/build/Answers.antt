-- One statement more, and the first one that is of no plain form or has a fault.
use Rattle.std.proofs.Common.{sym}
use Rattle.std.proofs.lemmas.Result.{err_from_is_err_and}
use Rattle.zim_plain.specs.Reader.{statement_said}
use Rattle.zim_plain.specs.Build.{built}
use Rattle.zim_plain.proofs.ModelLaws.{one_more, stopped_build, outside_build}
use Rattle.zim_plain.proofs.plain_form.build.Goals as goal

pub returns-in-Err-Outside : goal.returns-in-Err-Outside
returns-in-Err-Outside c =
    outside_build c.args.statements.now c.loop-tree.tree-index c.tree-item.result (built c.loop-tree.builder) c.in-Err-Outside.field-0 c.outside.result c.loop-tree-test.true (sym c.tree-item.is)
    c.in-Err-Outside.field-0-is c.in-Err-Outside.ensures c.loop-tree.invariant.stands c.outside.ensures

pub returns-in_err-add-in-Ok : goal.returns-in_err-add-in-Ok
returns-in_err-add-in-Ok c =
    let p = err_from_is_err_and c.from_residual.result c.from_residual.ensures.1 in
    rw (p.1, p.2)
    (stopped_build c.args.statements.now c.loop-tree.tree-index c.tree-item.result (statement_said c.in-Ok.statement) (built c.loop-tree.builder) (built c.add.new.self) c.in_err-add-in-Ok.field-0.0 c.loop-tree-test.true (sym c.tree-item.is)
    c.in-Ok.ensures c.loop-tree.invariant.stands c.in_err-add-in-Ok.ensures.adds)

pub loop-tree-preserved : goal.loop-tree-preserved
loop-tree-preserved c = record {
  stands = one_more c.args.statements.now c.loop-tree.tree-index c.tree-item.result (statement_said c.in-Ok.statement) (built c.loop-tree.builder) (built c.add.new.self) c.loop-tree-test.true (sym c.tree-item.is) c.in-Ok.ensures c.loop-tree.invariant.stands c.in_ok-add-in-Ok.ensures.adds;
  small = c.in_ok-add-in-Ok.ensures.small;
}
