-- Each form part by part.
use Rattle.std.proofs.Common.{Bool, refl, sym, ap, ◌∙◌}
use Rattle.zim_fault.specs.declared.faults.Place.{Place}
use Rattle.zim_fault.specs.declared.tokens.Token.{Token}
use Rattle.zim_fault.specs.declared.tokens.Relation.{Relation}
use Rattle.zim_tree.specs.declared.expr.Expr.{Expr}
use Rattle.zim_static.specs.Calls.{calls, tuple_calls, body_calls}
use Rattle.zim_static.proofs.CallsLemmas.{calls-angle, calls-index, condition_calls, greater_of, of_index, of_index_alone, greatest-next, greatest-end, calls-Call, calls-Item, calls-Func, calls-Proj, calls-If, calls-Power, calls-Big, calls-Times, calls-Plus, calls-Compare, calls-Member, calls-And, calls-Or, calls-Forall, calls-Members, calls-Tuples, calls-Span}
use Rattle.zim_static.proofs.calls.+calls.Goals as goal

pub calls-returns-in-Call : goal.calls-returns-in-Call
calls-returns-in-Call t c =
    greater_of c.max.ensures c.function_nesting.ensures (simp c.as_slice.ensures at c.all_calls.ensures) (ap (calls c.args.scope.now) c.in-Call.is ∙ calls-Call c.args.scope.now _ _ _)

pub calls-returns-in-Item : goal.calls-returns-in-Item
calls-returns-in-Item t c =
    simp c.as_slice-in-Item.ensures at c.all_calls-in-Item.ensures ∙ sym (ap (calls c.args.scope.now) c.in-Item.is ∙ calls-Item c.args.scope.now _ _ _)

pub calls-returns-in-Func : goal.calls-returns-in-Func
calls-returns-in-Func t c =
    simp c.as_slice-in-Func.ensures at c.all_calls-in-Func.ensures ∙ sym (ap (calls c.args.scope.now) c.in-Func.is ∙ calls-Func c.args.scope.now _ _ _)

pub calls-returns-in-Proj : goal.calls-returns-in-Proj
calls-returns-in-Proj t c =
    greater_of c.max-in-Proj.ensures (simp c.get.ensures at c.calls.ensures) (simp c.as_slice-in-Proj.ensures at c.all_calls-in-Proj.ensures ∙ sym (calls-angle c.args.scope.now _)) (ap (calls c.args.scope.now) c.in-Proj.is ∙ calls-Proj c.args.scope.now _ _ _)

pub calls-returns-in-If : goal.calls-returns-in-If
calls-returns-in-If t c =
    greater_of c.max-in-If.ensures (simp c.get-in-If-2.ensures at c.calls-in-If-2.ensures) (greater_of c.max-branches.ensures (simp c.get-in-If.ensures at c.calls-in-If.ensures) c.given_calls.ensures refl)
    (ap (calls c.args.scope.now) c.in-If.is ∙ calls-If c.args.scope.now _ _ _ _ _)

pub calls-returns-in-Power : goal.calls-returns-in-Power
calls-returns-in-Power t c =
    greater_of c.max-in-Power.ensures (simp c.get-in-Power.ensures at c.calls-in-Power.ensures) (simp c.get-in-Power-2.ensures at c.calls-in-Power-2.ensures) (ap (calls c.args.scope.now) c.in-Power.is ∙ calls-Power c.args.scope.now _ _ _ _ _)

pub calls-returns-in-Big : goal.calls-returns-in-Big
calls-returns-in-Big t c =
    greater_of c.max-in-Big.ensures (simp c.get-in-Big.ensures at c.index_calls.ensures) (simp c.get-in-Big-2.ensures at c.calls-in-Big.ensures) (ap (calls c.args.scope.now) c.in-Big.is ∙ calls-Big c.args.scope.now _ _ _ _ _)

pub calls-returns-in-Forall : goal.calls-returns-in-Forall
calls-returns-in-Forall t c =
    greater_of c.max-in-Forall.ensures (simp c.get-in-Forall.ensures at c.index_calls-in-Forall.ensures) (simp c.get-in-Forall-2.ensures at c.calls-in-Forall.ensures) (ap (calls c.args.scope.now) c.in-Forall.is ∙ calls-Forall c.args.scope.now _ _ _ _)

pub calls-returns-in-Times : goal.calls-returns-in-Times
calls-returns-in-Times t c =
    greater_of c.max-in-Times.ensures (simp c.get-in-Times.ensures at c.calls-in-Times.ensures) (simp c.as_slice-in-Times.ensures at c.operand_calls.ensures) (ap (calls c.args.scope.now) c.in-Times.is ∙ calls-Times c.args.scope.now _ _)

pub calls-returns-in-Plus : goal.calls-returns-in-Plus
calls-returns-in-Plus t c =
    greater_of c.max-in-Plus.ensures (simp c.get-in-Plus.ensures at c.calls-in-Plus.ensures) (simp c.as_slice-in-Plus.ensures at c.operand_calls-in-Plus.ensures) (ap (calls c.args.scope.now) c.in-Plus.is ∙ calls-Plus c.args.scope.now _ _)

pub calls-returns-in-Compare : goal.calls-returns-in-Compare
calls-returns-in-Compare t c =
    greater_of c.max-in-Compare.ensures (simp c.get-in-Compare.ensures at c.calls-in-Compare.ensures) (simp c.as_slice-in-Compare.ensures at c.side_calls.ensures) (ap (calls c.args.scope.now) c.in-Compare.is ∙ calls-Compare c.args.scope.now _ _)

pub calls-returns-in-And : goal.calls-returns-in-And
calls-returns-in-And t c =
    greater_of c.max-in-And.ensures (simp c.get-in-And.ensures at c.calls-in-And.ensures) (simp c.as_slice-in-And.ensures at c.conjunct_calls.ensures) (ap (calls c.args.scope.now) c.in-And.is ∙ calls-And c.args.scope.now _ _)

pub calls-returns-in-Or : goal.calls-returns-in-Or
calls-returns-in-Or t c =
    greater_of c.max-in-Or.ensures (simp c.get-in-Or.ensures at c.calls-in-Or.ensures) (simp c.as_slice-in-Or.ensures at c.disjunct_calls.ensures) (ap (calls c.args.scope.now) c.in-Or.is ∙ calls-Or c.args.scope.now _ _)

pub calls-returns-in-Member : goal.calls-returns-in-Member
calls-returns-in-Member t c =
    greater_of c.max-in-Member.ensures (simp c.as_slice-in-Member.ensures at c.all_calls-in-Member.ensures ∙ sym (calls-angle c.args.scope.now _)) (simp c.get-in-Member.ensures at c.calls-in-Member.ensures) (ap (calls c.args.scope.now) c.in-Member.is ∙ calls-Member c.args.scope.now _ _ _)

pub body_calls-returns-in-Members : goal.body_calls-returns-in-Members
body_calls-returns-in-Members t c =
    simp c.as_slice.ensures at c.all_calls.ensures ∙ sym (ap (body_calls c.args.scope.now) c.in-Members.is ∙ calls-Members c.args.scope.now _)

pub body_calls-returns-in-Tuples : goal.body_calls-returns-in-Tuples
body_calls-returns-in-Tuples t c =
    simp c.as_slice-in-Tuples.ensures at c.all_tuple_calls.ensures ∙ sym (ap (body_calls c.args.scope.now) c.in-Tuples.is ∙ calls-Tuples c.args.scope.now _)

pub body_calls-returns-in-Span : goal.body_calls-returns-in-Span
body_calls-returns-in-Span t c =
    greater_of c.max.ensures (simp c.get-in-Span-2.ensures at c.calls-in-Span.ensures) (greater_of c.max-rest.ensures (simp c.get-in-Span.ensures at c.calls.ensures) c.given_calls.ensures refl)
    (ap (body_calls c.args.scope.now) c.in-Span.is ∙ calls-Span c.args.scope.now _ _ _ _)

pub index_calls-returns-in-Some : goal.index_calls-returns-in-Some
index_calls-returns-in-Some t c =
    of_index (calls-index c.args.scope.now c.args.index.now) (simp c.as_slice.ensures at c.all_calls.ensures ∙ sym (calls-angle c.args.scope.now _)) (simp c.get.ensures at c.calls.ensures) c.max-over.ensures
    ((simp c.get-in-Some.ensures at c.calls-in-Some.ensures) ∙ sym (ap (condition_calls c.args.scope.now) c.in-Some.is)) c.max.ensures

pub index_calls-returns-in-None : goal.index_calls-returns-in-None
index_calls-returns-in-None t c =
    of_index_alone (calls-index c.args.scope.now c.args.index.now) (simp c.as_slice.ensures at c.all_calls.ensures ∙ sym (calls-angle c.args.scope.now _)) (simp c.get.ensures at c.calls.ensures) c.max-over.ensures (ap (condition_calls c.args.scope.now) c.in-None.is)

pub all_calls-loop-tree-preserved : goal.all_calls-loop-tree-preserved
all_calls-loop-tree-preserved t c =
    greatest-next (calls c.args.scope.now) c.args.trees.now c.loop-tree.tree-index c.tree-item.result c.loop-tree-test.true c.tree-item.is c.max-deepest.ensures c.loop-tree.invariant c.calls.ensures

pub all_calls-returns : goal.all_calls-returns
all_calls-returns t c =
    greatest-end (calls c.args.scope.now) c.args.trees.now c.loop-tree.tree-index c.loop-tree-test.false c.loop-tree.invariant

pub all_tuple_calls-loop-tuple-preserved : goal.all_tuple_calls-loop-tuple-preserved
all_tuple_calls-loop-tuple-preserved t c =
    greatest-next (tuple_calls c.args.scope.now) c.args.tuples.now c.loop-tuple.tuple-index c.tuple-item.result c.loop-tuple-test.true c.tuple-item.is c.max-deepest.ensures c.loop-tuple.invariant (simp c.as_slice.ensures at c.all_calls.ensures ∙ sym (calls-angle c.args.scope.now c.tuple-item.result))

pub all_tuple_calls-returns : goal.all_tuple_calls-returns
all_tuple_calls-returns t c =
    greatest-end (tuple_calls c.args.scope.now) c.args.tuples.now c.loop-tuple.tuple-index c.loop-tuple-test.false c.loop-tuple.invariant

pub operand_calls-loop-place-preserved : goal.operand_calls-loop-place-preserved
operand_calls-loop-place-preserved t c =
    greatest-next (λ (x : Place × Token × Expr). calls c.args.scope.now x.2) c.args.others.now c.loop-place._place-index c.loop-place-item.result c.loop-place-test.true c.loop-place-item.is c.max-deepest.ensures c.loop-place.invariant c.calls.ensures

pub operand_calls-returns : goal.operand_calls-returns
operand_calls-returns t c =
    greatest-end (λ (x : Place × Token × Expr). calls c.args.scope.now x.2) c.args.others.now c.loop-place._place-index c.loop-place-test.false c.loop-place.invariant

pub side_calls-loop-place-preserved : goal.side_calls-loop-place-preserved
side_calls-loop-place-preserved t c =
    greatest-next (λ (x : Place × Relation × Expr). calls c.args.scope.now x.2) c.args.others.now c.loop-place._place-index c.loop-place-item.result c.loop-place-test.true c.loop-place-item.is c.max-deepest.ensures c.loop-place.invariant c.calls.ensures

pub side_calls-returns : goal.side_calls-returns
side_calls-returns t c =
    greatest-end (λ (x : Place × Relation × Expr). calls c.args.scope.now x.2) c.args.others.now c.loop-place._place-index c.loop-place-test.false c.loop-place.invariant

pub disjunct_calls-loop-place-preserved : goal.disjunct_calls-loop-place-preserved
disjunct_calls-loop-place-preserved t c =
    greatest-next (λ (x : Place × Bool × Expr). calls c.args.scope.now x.2) c.args.others.now c.loop-place._place-index c.loop-place-item.result c.loop-place-test.true c.loop-place-item.is c.max-deepest.ensures c.loop-place.invariant c.calls.ensures

pub disjunct_calls-returns : goal.disjunct_calls-returns
disjunct_calls-returns t c =
    greatest-end (λ (x : Place × Bool × Expr). calls c.args.scope.now x.2) c.args.others.now c.loop-place._place-index c.loop-place-test.false c.loop-place.invariant

pub conjunct_calls-loop-place-preserved : goal.conjunct_calls-loop-place-preserved
conjunct_calls-loop-place-preserved t c =
    greatest-next (λ (x : Place × Expr). calls c.args.scope.now x.1) c.args.others.now c.loop-place._place-index c.loop-place-item.result c.loop-place-test.true c.loop-place-item.is c.max-deepest.ensures c.loop-place.invariant c.calls.ensures

pub conjunct_calls-returns : goal.conjunct_calls-returns
conjunct_calls-returns t c =
    greatest-end (λ (x : Place × Expr). calls c.args.scope.now x.1) c.args.others.now c.loop-place._place-index c.loop-place-test.false c.loop-place.invariant
