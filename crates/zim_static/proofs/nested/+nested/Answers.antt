-- Each form part by part.
use Rattle.std.proofs.Common.{ℕ, Bool, map, max, sym, ap, ◌∙◌, take, option_map}
use Rattle.zim_fault.specs.declared.faults.Place.{Place}
use Rattle.zim_fault.specs.declared.tokens.Token.{Token}
use Rattle.zim_nesting.specs.Depth.{a_loop, nesting_in_brackets, ◌followed_by◌, followed, all, nesting_if_given}
use Rattle.zim_typed.specs.declared.constant.Const.{Const}
use Rattle.zim_typed.specs.Nesting.{const_depth, const_calls, greatest, greatest_given}
use Rattle.zim_static.specs.Nested.{nested, slot_depth, slot_calls, typed_body_depth, typed_body_calls, loop_depth, loop_calls, typed_angle_depth, typed_angle_calls}
use Rattle.zim_static.proofs.NestedLemmas.{const_nested, body_nested, of-tuple, of-loop, of-Item, of-Call, of-Func, of-Proj, of-Paren, of-Braces, of-If, of-Big, of-Times, of-Plus, of-And, of-Or, of-Span, last-part, next-operand, last-operand, first-operand, none-called}
use Rattle.zim_static.proofs.nested.+nested.Goals as goal

pub nested_const-returns-in-Item : goal.nested_const-returns-in-Item
nested_const-returns-in-Item t c =
    c.inside.ensures (all (map const_depth c.in-Item.items)) (greatest (map (const_calls c.args.scope.now) c.in-Item.items)) (simp c.as_slice.ensures at c.nested_all.ensures)
    ∙ sym (ap (const_nested c.args.scope.now) c.in-Item.is ∙ of-Item c.args.scope.now _ _ _ _)

pub nested_const-returns-in-Call : goal.nested_const-returns-in-Call
nested_const-returns-in-Call t c =
    c.calling.ensures (nesting_in_brackets (all (map const_depth c.in-Call.arguments))) (greatest (map (const_calls c.args.scope.now) c.in-Call.arguments)) (c.inside-in-Call.ensures (all (map const_depth c.in-Call.arguments)) (greatest (map (const_calls c.args.scope.now) c.in-Call.arguments)) (simp c.as_slice-in-Call.ensures at c.nested_all-in-Call.ensures))
    ∙ ap (λ (n : ℕ). nested (nesting_in_brackets (all (map const_depth c.in-Call.arguments))) (max n (greatest (map (const_calls c.args.scope.now) c.in-Call.arguments)))) c.function_nesting.ensures
    ∙ sym (ap (const_nested c.args.scope.now) c.in-Call.is ∙ of-Call c.args.scope.now _ _ _ _)

pub nested_const-returns-in-Func : goal.nested_const-returns-in-Func
nested_const-returns-in-Func t c =
    c.inside-in-Func.ensures (all (map const_depth c.in-Func.arguments)) (greatest (map (const_calls c.args.scope.now) c.in-Func.arguments)) (simp c.as_slice-in-Func.ensures at c.nested_all-in-Func.ensures)
    ∙ sym (ap (const_nested c.args.scope.now) c.in-Func.is ∙ of-Func c.args.scope.now _ _ _)

pub nested_const-returns-in-Proj : goal.nested_const-returns-in-Proj
nested_const-returns-in-Proj t c =
    let set = c.in-Proj.set in
    let positions = c.in-Proj.positions in
    c.inside-in-Proj.ensures (const_depth set followed_by typed_angle_depth positions) (max (const_calls c.args.scope.now set) (typed_angle_calls c.args.scope.now positions))
    (c.joined.ensures (const_depth set) (typed_angle_depth positions) (const_calls c.args.scope.now set) (typed_angle_calls c.args.scope.now positions) (simp c.get.ensures at c.nested_const.ensures) (simp c.as_slice-in-Proj.ensures at c.nested_all-in-Proj.ensures ∙ sym (of-tuple c.args.scope.now positions)))
    ∙ sym (ap (const_nested c.args.scope.now) c.in-Proj.is ∙ of-Proj c.args.scope.now _ _ _)

pub nested_const-returns-in-Paren : goal.nested_const-returns-in-Paren
nested_const-returns-in-Paren t c =
    c.inside-in-Paren.ensures (const_depth c.in-Paren.inner) (const_calls c.args.scope.now c.in-Paren.inner) (simp c.get-in-Paren.ensures at c.nested_const-in-Paren.ensures)
    ∙ sym (ap (const_nested c.args.scope.now) c.in-Paren.is ∙ of-Paren c.args.scope.now _ _)

pub nested_const-returns-in-Braces : goal.nested_const-returns-in-Braces
nested_const-returns-in-Braces t c =
    c.inside-in-Braces.ensures (typed_body_depth c.in-Braces.body) (typed_body_calls c.args.scope.now c.in-Braces.body) (simp c.get-in-Braces.ensures at c.nested_body.ensures)
    ∙ sym (ap (const_nested c.args.scope.now) c.in-Braces.is ∙ of-Braces c.args.scope.now _ _)

pub nested_const-returns-in-If : goal.nested_const-returns-in-If
nested_const-returns-in-If t c =
    let test = c.in-If.test in
    let branch = c.in-If.branch in
    let otherwise = c.in-If.otherwise in
    c.inside-in-If.ensures (const_depth test followed_by const_depth branch followed_by const_depth otherwise) (max (const_calls c.args.scope.now test) (max (const_calls c.args.scope.now branch) (const_calls c.args.scope.now otherwise)))
    (c.joined-in-If.ensures (const_depth test) (const_depth branch followed_by const_depth otherwise) (const_calls c.args.scope.now test) (max (const_calls c.args.scope.now branch) (const_calls c.args.scope.now otherwise)) (simp c.get-in-If-3.ensures at c.nested_const-in-If-3.ensures)
    (c.joined-rest.ensures (const_depth branch) (const_depth otherwise) (const_calls c.args.scope.now branch) (const_calls c.args.scope.now otherwise) (simp c.get-in-If.ensures at c.nested_const-in-If.ensures) (simp c.get-in-If-2.ensures at c.nested_const-in-If-2.ensures)))
    ∙ sym (ap (const_nested c.args.scope.now) c.in-If.is ∙ of-If c.args.scope.now _ _ _ _)

pub nested_const-returns-in-Big : goal.nested_const-returns-in-Big
nested_const-returns-in-Big t c =
    let index = c.in-Big.index in
    let inner = c.in-Big.inner in
    c.joined-in-Big.ensures a_loop (loop_depth index followed_by const_depth inner) 0 (max (loop_calls c.args.scope.now index) (const_calls c.args.scope.now inner)) c.a_loop.ensures
    (c.joined-rest-in-Big.ensures (loop_depth index) (const_depth inner) (loop_calls c.args.scope.now index) (const_calls c.args.scope.now inner) (simp c.get-in-Big.ensures at c.nested_loop.ensures) (simp c.get-in-Big-2.ensures at c.nested_const-in-Big.ensures))
    ∙ ap (nested (a_loop followed_by loop_depth index followed_by const_depth inner)) (none-called (max (loop_calls c.args.scope.now index) (const_calls c.args.scope.now inner)))
    ∙ sym (ap (const_nested c.args.scope.now) c.in-Big.is ∙ of-Big c.args.scope.now _ _ _ _ _)

pub nested_const-returns-in-Times : goal.nested_const-returns-in-Times
nested_const-returns-in-Times t c =
    let first = c.in-Times.first in
    simp c.as_slice-in-Times.ensures at (c.nested_operands.ensures (const_depth first) (const_calls c.args.scope.now first) (simp c.get-in-Times.ensures at c.nested_const-in-Times.ensures))
    ∙ sym (ap (const_nested c.args.scope.now) c.in-Times.is ∙ of-Times c.args.scope.now _ _)

pub nested_const-returns-in-Plus : goal.nested_const-returns-in-Plus
nested_const-returns-in-Plus t c =
    let first = c.in-Plus.first in
    simp c.as_slice-in-Plus.ensures at (c.nested_operands-in-Plus.ensures (const_depth first) (const_calls c.args.scope.now first) (simp c.get-in-Plus.ensures at c.nested_const-in-Plus.ensures))
    ∙ sym (ap (const_nested c.args.scope.now) c.in-Plus.is ∙ of-Plus c.args.scope.now _ _)

pub nested_const-returns-in-And : goal.nested_const-returns-in-And
nested_const-returns-in-And t c =
    let first = c.in-And.first in
    simp c.as_slice-in-And.ensures at (c.nested_conjuncts.ensures (const_depth first) (const_calls c.args.scope.now first) (simp c.get-in-And.ensures at c.nested_const-in-And.ensures))
    ∙ sym (ap (const_nested c.args.scope.now) c.in-And.is ∙ of-And c.args.scope.now _ _)

pub nested_const-returns-in-Or : goal.nested_const-returns-in-Or
nested_const-returns-in-Or t c =
    let first = c.in-Or.first in
    simp c.as_slice-in-Or.ensures at (c.nested_disjuncts.ensures (const_depth first) (const_calls c.args.scope.now first) (simp c.get-in-Or.ensures at c.nested_const-in-Or.ensures))
    ∙ sym (ap (const_nested c.args.scope.now) c.in-Or.is ∙ of-Or c.args.scope.now _ _)

pub nested_body-returns-in-Span : goal.nested_body-returns-in-Span
nested_body-returns-in-Span t c =
    let from = c.in-Span.from in
    let end = c.in-Span.end in
    let by_depth = nesting_if_given (option_map const_depth c.in-Span.by) in
    let by_calls = greatest_given (option_map (const_calls c.args.scope.now) c.in-Span.by) in
    c.joined.ensures (const_depth from) (const_depth end followed_by by_depth) (const_calls c.args.scope.now from) (max (const_calls c.args.scope.now end) by_calls) (simp c.get-in-Span-2.ensures at c.nested_const-in-Span.ensures)
    (c.joined-rest.ensures (const_depth end) by_depth (const_calls c.args.scope.now end) by_calls (simp c.get-in-Span.ensures at c.nested_const.ensures) c.nested_given.ensures)
    ∙ sym (ap (body_nested c.args.scope.now) c.in-Span.is ∙ of-Span c.args.scope.now _ _ _ _)

pub nested_loop-returns : goal.nested_loop-returns
nested_loop-returns t c =
    let index = c.args.index.now in
    let cond_depth = nesting_if_given (option_map const_depth index.cond) in
    let cond_calls = greatest_given (option_map (const_calls c.args.scope.now) index.cond) in
    c.joined.ensures (all (map slot_depth index.slots)) (const_depth index.set followed_by cond_depth) (greatest (map (slot_calls c.args.scope.now) index.slots)) (max (const_calls c.args.scope.now index.set) cond_calls) (simp c.as_slice.ensures at c.nested_slots.ensures)
    (c.joined-rest.ensures (const_depth index.set) cond_depth (const_calls c.args.scope.now index.set) cond_calls (simp c.get.ensures at c.nested_const.ensures) c.nested_given.ensures)
    ∙ sym (of-loop c.args.scope.now index)

pub nested_all-returns : goal.nested_all-returns
nested_all-returns t c =
    last-part const_depth (const_calls c.args.scope.now) c.args.trees.now c.loop-tree.tree-index c.loop-tree-test.false c.loop-tree.invariant

pub nested_tuples-returns : goal.nested_tuples-returns
nested_tuples-returns t c =
    last-part typed_angle_depth (typed_angle_calls c.args.scope.now) c.args.tuples.now c.loop-tuple.tuple-index c.loop-tuple-test.false c.loop-tuple.invariant

pub nested_slots-returns : goal.nested_slots-returns
nested_slots-returns t c =
    last-part slot_depth (slot_calls c.args.scope.now) c.args.slots.now c.loop-slot.slot-index c.loop-slot-test.false c.loop-slot.invariant

pub nested_operands-loop-place-init : goal.nested_operands-loop-place-init
nested_operands-loop-place-init t c =
    λ d k h. first-operand d k h

pub nested_operands-loop-place-preserved : goal.nested_operands-loop-place-preserved
nested_operands-loop-place-preserved t c =
    λ d k h. next-operand (λ (x : Place × Token × Const). const_depth x.2) (λ (x : Place × Token × Const). const_calls c.args.scope.now x.2) d k c.args.others.now c.loop-place._place-index c.loop-place-item.result c.loop-place-test.true c.loop-place-item.is
    (c.joined-whole.ensures (followed d (map (λ (x : Place × Token × Const). const_depth x.2) (take c.loop-place._place-index c.args.others.now))) (const_depth c.loop-place-item.result.2) (max k (greatest (map (λ (x : Place × Token × Const). const_calls c.args.scope.now x.2) (take c.loop-place._place-index c.args.others.now)))) (const_calls c.args.scope.now c.loop-place-item.result.2) (c.loop-place.invariant d k h) c.nested_const.ensures)

pub nested_operands-returns : goal.nested_operands-returns
nested_operands-returns t c =
    λ d k h. last-operand (λ (x : Place × Token × Const). const_depth x.2) (λ (x : Place × Token × Const). const_calls c.args.scope.now x.2) d k c.args.others.now c.loop-place._place-index c.loop-place-test.false (c.loop-place.invariant d k h)

pub nested_conjuncts-loop-place-init : goal.nested_conjuncts-loop-place-init
nested_conjuncts-loop-place-init t c =
    λ d k h. first-operand d k h

pub nested_conjuncts-loop-place-preserved : goal.nested_conjuncts-loop-place-preserved
nested_conjuncts-loop-place-preserved t c =
    λ d k h. next-operand (λ (x : Place × Const). const_depth x.1) (λ (x : Place × Const). const_calls c.args.scope.now x.1) d k c.args.others.now c.loop-place._place-index c.loop-place-item.result c.loop-place-test.true c.loop-place-item.is
    (c.joined-whole.ensures (followed d (map (λ (x : Place × Const). const_depth x.1) (take c.loop-place._place-index c.args.others.now))) (const_depth c.loop-place-item.result.1) (max k (greatest (map (λ (x : Place × Const). const_calls c.args.scope.now x.1) (take c.loop-place._place-index c.args.others.now)))) (const_calls c.args.scope.now c.loop-place-item.result.1) (c.loop-place.invariant d k h) c.nested_const.ensures)

pub nested_conjuncts-returns : goal.nested_conjuncts-returns
nested_conjuncts-returns t c =
    λ d k h. last-operand (λ (x : Place × Const). const_depth x.1) (λ (x : Place × Const). const_calls c.args.scope.now x.1) d k c.args.others.now c.loop-place._place-index c.loop-place-test.false (c.loop-place.invariant d k h)

pub nested_disjuncts-loop-place-init : goal.nested_disjuncts-loop-place-init
nested_disjuncts-loop-place-init t c =
    λ d k h. first-operand d k h

pub nested_disjuncts-loop-place-preserved : goal.nested_disjuncts-loop-place-preserved
nested_disjuncts-loop-place-preserved t c =
    λ d k h. next-operand (λ (x : Place × Bool × Const). const_depth x.2) (λ (x : Place × Bool × Const). const_calls c.args.scope.now x.2) d k c.args.others.now c.loop-place._place-index c.loop-place-item.result c.loop-place-test.true c.loop-place-item.is
    (c.joined-whole.ensures (followed d (map (λ (x : Place × Bool × Const). const_depth x.2) (take c.loop-place._place-index c.args.others.now))) (const_depth c.loop-place-item.result.2) (max k (greatest (map (λ (x : Place × Bool × Const). const_calls c.args.scope.now x.2) (take c.loop-place._place-index c.args.others.now)))) (const_calls c.args.scope.now c.loop-place-item.result.2) (c.loop-place.invariant d k h) c.nested_const.ensures)

pub nested_disjuncts-returns : goal.nested_disjuncts-returns
nested_disjuncts-returns t c =
    λ d k h. last-operand (λ (x : Place × Bool × Const). const_depth x.2) (λ (x : Place × Bool × Const). const_calls c.args.scope.now x.2) d k c.args.others.now c.loop-place._place-index c.loop-place-test.false (c.loop-place.invariant d k h)
