-- Each form by its equation.
use Rattle.std.proofs.Common.{sym, ap, ◌∙◌}
use Rattle.zim_typed.specs.Variables.{has_variables, tuple_has_variables, body_has_variables}
use Rattle.zim_typed.proofs.VariableLaws.{condition_varies, has-angle, has-index, has-Item, has-Call, has-Func, has-Proj, has-Times, has-Plus, has-Compare, has-Member, has-And, has-Or, has-Members, has-Tuples}
use Rattle.zim_static.proofs.ListLemmas.{any_next, any_found, by_first, by_second, of_three_first, of_three_second, of_three_third}
use Rattle.zim_static.proofs.varies.+varies.Goals as goal

pub varies-returns-else-is_vabs : goal.varies-returns-else-is_vabs
varies-returns-else-is_vabs t c =
    by_second _ _ _ _ _ (ap (has_variables c.args.scope.now) c.in-Func.is ∙ has-Func c.args.scope.now _ _ _) c.is_vabs.ensures c.if-is_vabs.false (simp c.as_slice-else-is_vabs.ensures at c.one_varies-else-is_vabs.ensures)

pub varies-returns-else-varies : goal.varies-returns-else-varies
varies-returns-else-varies t c =
    by_second _ _ _ _ _ (ap (has_variables c.args.scope.now) c.in-Proj.is ∙ has-Proj c.args.scope.now _ _ _) (simp c.get.ensures at c.varies.ensures) c.if-varies.false
    (simp c.as_slice-else-varies.ensures at c.one_varies-else-varies.ensures ∙ sym (has-angle c.args.scope.now _))

pub varies-returns-else-varies-5 : goal.varies-returns-else-varies-5
varies-returns-else-varies-5 t c =
    by_second _ _ _ _ _ (ap (has_variables c.args.scope.now) c.in-Times.is ∙ has-Times c.args.scope.now _ _) (simp c.get-in-Times.ensures at c.varies-in-Times.ensures) c.if-varies-5.false
    (simp c.as_slice-else-varies-5.ensures at c.one_operand_varies.ensures)

pub varies-returns-else-varies-6 : goal.varies-returns-else-varies-6
varies-returns-else-varies-6 t c =
    by_second _ _ _ _ _ (ap (has_variables c.args.scope.now) c.in-Plus.is ∙ has-Plus c.args.scope.now _ _) (simp c.get-in-Plus.ensures at c.varies-in-Plus.ensures) c.if-varies-6.false
    (simp c.as_slice-else-varies-6.ensures at c.one_operand_varies-else-varies-6.ensures)

pub varies-returns-else-varies-7 : goal.varies-returns-else-varies-7
varies-returns-else-varies-7 t c =
    by_second _ _ _ _ _ (ap (has_variables c.args.scope.now) c.in-Compare.is ∙ has-Compare c.args.scope.now _ _) (simp c.get-in-Compare.ensures at c.varies-in-Compare.ensures) c.if-varies-7.false
    (simp c.as_slice-else-varies-7.ensures at c.one_side_varies.ensures)

pub varies-returns-else-varies-8 : goal.varies-returns-else-varies-8
varies-returns-else-varies-8 t c =
    by_second _ _ _ _ _ (ap (has_variables c.args.scope.now) c.in-And.is ∙ has-And c.args.scope.now _ _) (simp c.get-in-And.ensures at c.varies-in-And.ensures) c.if-varies-8.false
    (simp c.as_slice-else-varies-8.ensures at c.one_conjunct_varies.ensures)

pub varies-returns-else-varies-9 : goal.varies-returns-else-varies-9
varies-returns-else-varies-9 t c =
    by_second _ _ _ _ _ (ap (has_variables c.args.scope.now) c.in-Or.is ∙ has-Or c.args.scope.now _ _) (simp c.get-in-Or.ensures at c.varies-in-Or.ensures) c.if-varies-9.false
    (simp c.as_slice-else-varies-9.ensures at c.one_disjunct_varies.ensures)

pub varies-returns-else-is_variable : goal.varies-returns-else-is_variable
varies-returns-else-is_variable t c =
    by_second _ _ _ _ _ (ap (has_variables c.args.scope.now) c.in-Item.is ∙ has-Item c.args.scope.now _ _ _) c.is_variable-in-Item.ensures c.if-is_variable.false
    (simp c.as_slice.ensures at c.one_varies.ensures)

pub varies-returns-then-one_varies : goal.varies-returns-then-one_varies
varies-returns-then-one_varies t c =
    c.if-one_varies.true
    ∙ by_first _ _ _ _ (ap (has_variables c.args.scope.now) c.in-Member.is ∙ has-Member c.args.scope.now _ _ _)
    (simp c.as_slice-in-Member.ensures at c.one_varies-in-Member.ensures ∙ sym (has-angle c.args.scope.now _)) c.if-one_varies.true

pub varies-returns-else-one_varies : goal.varies-returns-else-one_varies
varies-returns-else-one_varies t c =
    by_second _ _ _ _ _ (ap (has_variables c.args.scope.now) c.in-Member.is ∙ has-Member c.args.scope.now _ _ _)
    (simp c.as_slice-in-Member.ensures at c.one_varies-in-Member.ensures ∙ sym (has-angle c.args.scope.now _)) c.if-one_varies.false
    (simp c.get-else-one_varies.ensures at c.varies-else-one_varies.ensures)

pub index_varies-returns-then-one_varies : goal.index_varies-returns-then-one_varies
index_varies-returns-then-one_varies t c =
    of_three_first _ _ _ _ _ (has-index c.args.scope.now c.args.index.now) (simp c.as_slice.ensures at c.one_varies.ensures ∙ sym (has-angle c.args.scope.now _)) c.if-one_varies.true

pub index_varies-returns-then-varies : goal.index_varies-returns-then-varies
index_varies-returns-then-varies t c =
    of_three_second _ _ _ _ _ _ (has-index c.args.scope.now c.args.index.now) (simp c.as_slice.ensures at c.one_varies.ensures ∙ sym (has-angle c.args.scope.now _)) c.if-one_varies.false
    (simp c.get.ensures at c.varies.ensures) c.if-varies.true

pub index_varies-returns-in-None : goal.index_varies-returns-in-None
index_varies-returns-in-None t c =
    of_three_third _ _ _ _ _ _ _ (has-index c.args.scope.now c.args.index.now) (simp c.as_slice.ensures at c.one_varies.ensures ∙ sym (has-angle c.args.scope.now _)) c.if-one_varies.false
    (simp c.get.ensures at c.varies.ensures) c.if-varies.false (sym (ap (condition_varies c.args.scope.now) c.in-None.is))

pub index_varies-returns-in-Some : goal.index_varies-returns-in-Some
index_varies-returns-in-Some t c =
    of_three_third _ _ _ _ _ _ _ (has-index c.args.scope.now c.args.index.now) (simp c.as_slice.ensures at c.one_varies.ensures ∙ sym (has-angle c.args.scope.now _)) c.if-one_varies.false
    (simp c.get.ensures at c.varies.ensures) c.if-varies.false (simp c.get-in-Some.ensures at c.varies-in-Some.ensures ∙ sym (ap (condition_varies c.args.scope.now) c.in-Some.is))

pub body_varies-returns-in-Members : goal.body_varies-returns-in-Members
body_varies-returns-in-Members t c =
    simp c.as_slice.ensures at c.one_varies.ensures ∙ sym (ap (body_has_variables c.args.scope.now) c.in-Members.is ∙ has-Members c.args.scope.now _)

pub body_varies-returns-in-Tuples : goal.body_varies-returns-in-Tuples
body_varies-returns-in-Tuples t c =
    simp c.as_slice-in-Tuples.ensures at c.one_tuple_varies.ensures ∙ sym (ap (body_has_variables c.args.scope.now) c.in-Tuples.is ∙ has-Tuples c.args.scope.now _)

pub one_tuple_varies-returns-then-one_varies : goal.one_tuple_varies-returns-then-one_varies
one_tuple_varies-returns-then-one_varies t c =
    any_found (tuple_has_variables c.args.scope.now) c.args.tuples.now c.loop-tuple.tuple-index c.tuple-item.result _ c.loop-tuple-test.true c.tuple-item.is
    (has-angle c.args.scope.now c.tuple-item.result ∙ sym (simp c.as_slice.ensures at c.one_varies.ensures) ∙ c.if-one_varies.true) c.loop-tuple.invariant

pub one_tuple_varies-loop-tuple-preserved : goal.one_tuple_varies-loop-tuple-preserved
one_tuple_varies-loop-tuple-preserved t c =
    any_next (tuple_has_variables c.args.scope.now) c.args.tuples.now c.loop-tuple.tuple-index c.tuple-item.result _ c.loop-tuple-test.true c.tuple-item.is
    (has-angle c.args.scope.now c.tuple-item.result ∙ sym (simp c.as_slice.ensures at c.one_varies.ensures) ∙ c.if-one_varies.false) c.loop-tuple.invariant

pub varies-returns-else-is_variable-2 : goal.varies-returns-else-is_variable-2
varies-returns-else-is_variable-2 t c =
    by_second _ _ _ _ _ (ap (has_variables c.args.scope.now) c.in-Call.is ∙ has-Call c.args.scope.now _ _ _) c.is_variable-in-Call.ensures c.if-is_variable-2.false
    (simp c.as_slice-else-is_variable-2.ensures at c.one_varies-else-is_variable-2.ensures)
