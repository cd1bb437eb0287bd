-- Each form is counted part by part, in the order of the code.
use Rattle.std.proofs.Common.{Bool, ap}
use Rattle.std.proofs.lemmas.List.{take_all}
use Rattle.zim_fault.specs.declared.faults.Place.{Place}
use Rattle.zim_fault.specs.declared.tokens.Token.{Token}
use Rattle.zim_fault.specs.declared.tokens.Relation.{Relation}
use Rattle.zim_tree.specs.declared.expr.Expr.{Expr}
use Rattle.zim_nesting.specs.Depth.{no_nesting, a_loop, depth, angle_depth, operations_depth, relations_depth, conjuncts_depth, disjuncts_depth}
use Rattle.zim_nesting.proofs.CountsLemmas.{given, followed-next}
use Rattle.zim_nesting.proofs.DepthLaws.{index-view, depth-Proj, depth-If, depth-Big, depth-Times, depth-Plus, depth-Compare, depth-And, depth-Or, depth-Forall, depth-Span}
use Rattle.zim_nesting.proofs.exprs.+depth.Goals as goal

pub depth_of_expr-returns-in-Proj : goal.depth_of_expr-returns-in-Proj
depth_of_expr-returns-in-Proj t c =
    given _ _ (c.inside-in-Proj.ensures _ (c.then.ensures _ _ c.depth_of_expr.ensures c.depth_of_angle.ensures)) (simp (c.get.ensures, c.in-Proj.is, depth-Proj))

pub depth_of_expr-returns-in-If : goal.depth_of_expr-returns-in-If
depth_of_expr-returns-in-If t c =
    given _ _ (c.inside-in-If.ensures _ (c.then-in-If.ensures _ _ c.depth_of_expr-in-If-2.ensures (c.then-branches.ensures _ _ c.depth_of_expr-in-If.ensures c.depth_of_given.ensures)))
    (simp (c.get-in-If.ensures, c.get-in-If-2.ensures, c.in-If.is, depth-If))

pub depth_of_expr-returns-in-Big : goal.depth_of_expr-returns-in-Big
depth_of_expr-returns-in-Big t c =
    given _ _ (c.then-in-Big.ensures a_loop _ c.a_loop.ensures (c.then-rest.ensures _ _ c.depth_of_index.ensures c.depth_of_expr-in-Big.ensures))
    (simp (c.get-in-Big.ensures, c.get-in-Big-2.ensures, c.in-Big.is, depth-Big))

pub depth_of_expr-returns-in-Forall : goal.depth_of_expr-returns-in-Forall
depth_of_expr-returns-in-Forall t c =
    given _ _ (c.then-in-Forall.ensures a_loop _ c.a_loop-in-Forall.ensures (c.then-rest-in-Forall.ensures _ _ c.depth_of_index-in-Forall.ensures c.depth_of_expr-in-Forall.ensures))
    (simp (c.get-in-Forall.ensures, c.get-in-Forall-2.ensures, c.in-Forall.is, depth-Forall))

pub depth_of_expr-returns-in-Times : goal.depth_of_expr-returns-in-Times
depth_of_expr-returns-in-Times t c =
    given _ _ (c.depth_of_operations.ensures _ c.depth_of_expr-in-Times.ensures) (simp (c.get-in-Times.ensures, c.as_slice-in-Times.ensures, c.in-Times.is, depth-Times))

pub depth_of_expr-returns-in-Plus : goal.depth_of_expr-returns-in-Plus
depth_of_expr-returns-in-Plus t c =
    given _ _ (c.depth_of_operations-in-Plus.ensures _ c.depth_of_expr-in-Plus.ensures) (simp (c.get-in-Plus.ensures, c.as_slice-in-Plus.ensures, c.in-Plus.is, depth-Plus))

pub depth_of_expr-returns-in-Compare : goal.depth_of_expr-returns-in-Compare
depth_of_expr-returns-in-Compare t c =
    given _ _ (c.depth_of_relations.ensures _ c.depth_of_expr-in-Compare.ensures) (simp (c.get-in-Compare.ensures, c.as_slice-in-Compare.ensures, c.in-Compare.is, depth-Compare))

pub depth_of_expr-returns-in-And : goal.depth_of_expr-returns-in-And
depth_of_expr-returns-in-And t c =
    given _ _ (c.depth_of_conjuncts.ensures _ c.depth_of_expr-in-And.ensures) (simp (c.get-in-And.ensures, c.as_slice-in-And.ensures, c.in-And.is, depth-And))

pub depth_of_expr-returns-in-Or : goal.depth_of_expr-returns-in-Or
depth_of_expr-returns-in-Or t c =
    given _ _ (c.depth_of_disjuncts.ensures _ c.depth_of_expr-in-Or.ensures) (simp (c.get-in-Or.ensures, c.as_slice-in-Or.ensures, c.in-Or.is, depth-Or))

pub depth_of_body-returns-in-Span : goal.depth_of_body-returns-in-Span
depth_of_body-returns-in-Span t c =
    given _ _ (c.then.ensures _ _ c.depth_of_expr-in-Span.ensures (c.then-rest.ensures _ _ c.depth_of_expr.ensures c.depth_of_given.ensures))
    (simp (c.get-in-Span.ensures, c.get-in-Span-2.ensures, c.in-Span.is, depth-Span))

pub depth_of_index-returns : goal.depth_of_index-returns
depth_of_index-returns t c =
    given _ _ (c.then.ensures _ _ c.depth_of_angle.ensures (c.then-rest.ensures _ _ c.depth_of_expr.ensures c.depth_of_condition.ensures)) (simp (c.get.ensures, index-view))

pub depth_of_exprs-loop-tree-preserved : goal.depth_of_exprs-loop-tree-preserved
depth_of_exprs-loop-tree-preserved t c =
    given _ _ (c.then-counts.ensures _ _ c.loop-tree.invariant c.depth_of_expr.ensures)
    (followed-next depth no_nesting c.args.trees.now c.loop-tree.tree-index c.tree-item.result c.loop-tree-test.true c.tree-item.is)

pub depth_of_angles-loop-tree-preserved : goal.depth_of_angles-loop-tree-preserved
depth_of_angles-loop-tree-preserved t c =
    given _ _ (c.then-counts.ensures _ _ c.loop-tree.invariant c.depth_of_angle.ensures)
    (followed-next angle_depth no_nesting c.args.trees.now c.loop-tree.tree-index c.tree-item.result c.loop-tree-test.true c.tree-item.is)

pub depth_of_operations-loop-place-preserved : goal.depth_of_operations-loop-place-preserved
depth_of_operations-loop-place-preserved t c = λ d is.
    given _ _ (c.then-counts.ensures _ _ (c.loop-place.invariant d is) c.depth_of_expr.ensures)
    (followed-next (λ (x : Place × Token × Expr). depth x.2) d c.args.others.now c.loop-place._place-index c.loop-place-item.result c.loop-place-test.true c.loop-place-item.is)

pub depth_of_relations-loop-place-preserved : goal.depth_of_relations-loop-place-preserved
depth_of_relations-loop-place-preserved t c = λ d is.
    given _ _ (c.then-counts.ensures _ _ (c.loop-place.invariant d is) c.depth_of_expr.ensures)
    (followed-next (λ (x : Place × Relation × Expr). depth x.2) d c.args.others.now c.loop-place._place-index c.loop-place-item.result c.loop-place-test.true c.loop-place-item.is)

pub depth_of_conjuncts-loop-place-preserved : goal.depth_of_conjuncts-loop-place-preserved
depth_of_conjuncts-loop-place-preserved t c = λ d is.
    given _ _ (c.then-counts.ensures _ _ (c.loop-place.invariant d is) c.depth_of_expr.ensures)
    (followed-next (λ (x : Place × Expr). depth x.1) d c.args.others.now c.loop-place._place-index c.loop-place-item.result c.loop-place-test.true c.loop-place-item.is)

pub depth_of_disjuncts-loop-place-preserved : goal.depth_of_disjuncts-loop-place-preserved
depth_of_disjuncts-loop-place-preserved t c = λ d is.
    given _ _ (c.then-counts.ensures _ _ (c.loop-place.invariant d is) c.depth_of_expr.ensures)
    (followed-next (λ (x : Place × Bool × Expr). depth x.2) d c.args.others.now c.loop-place._place-index c.loop-place-item.result c.loop-place-test.true c.loop-place-item.is)

pub depth_of_operations-loop-place-init : goal.depth_of_operations-loop-place-init
depth_of_operations-loop-place-init t c = λ d is. is

pub depth_of_operations-returns : goal.depth_of_operations-returns
depth_of_operations-returns t c = λ d is. given _ _ (c.loop-place.invariant d is) (ap (operations_depth d) (take_all c.loop-place._place-index c.args.others.now c.loop-place-test.false))

pub depth_of_relations-loop-place-init : goal.depth_of_relations-loop-place-init
depth_of_relations-loop-place-init t c = λ d is. is

pub depth_of_relations-returns : goal.depth_of_relations-returns
depth_of_relations-returns t c = λ d is. given _ _ (c.loop-place.invariant d is) (ap (relations_depth d) (take_all c.loop-place._place-index c.args.others.now c.loop-place-test.false))

pub depth_of_conjuncts-loop-place-init : goal.depth_of_conjuncts-loop-place-init
depth_of_conjuncts-loop-place-init t c = λ d is. is

pub depth_of_conjuncts-returns : goal.depth_of_conjuncts-returns
depth_of_conjuncts-returns t c = λ d is. given _ _ (c.loop-place.invariant d is) (ap (conjuncts_depth d) (take_all c.loop-place._place-index c.args.others.now c.loop-place-test.false))

pub depth_of_disjuncts-loop-place-init : goal.depth_of_disjuncts-loop-place-init
depth_of_disjuncts-loop-place-init t c = λ d is. is

pub depth_of_disjuncts-returns : goal.depth_of_disjuncts-returns
depth_of_disjuncts-returns t c = λ d is. given _ _ (c.loop-place.invariant d is) (ap (disjuncts_depth d) (take_all c.loop-place._place-index c.args.others.now c.loop-place-test.false))
