-- Each form by its equation.
use Rattle.std.proofs.Common.{Bool, ◌++◌, Option, option_map, filter_map, refl, sym, ap, ◌∙◌}
use Rattle.std.specs.Option.{option_or}
use Rattle.zim_fault.specs.declared.tokens.Token.{Token}
use Rattle.zim_tree.specs.declared.expr.Expr.{Expr}
use Rattle.zim_tree.specs.declared.expr.Angle.{out-Angle}
use Rattle.zim_tree.specs.declared.expr.Index.{Index, out-Index}
use Rattle.zim_tree.specs.declared.expr.Body.{Body}
use Rattle.zim_typed.specs.Pattern.{bound_name}
use Rattle.zim_static.specs.Around.{names_in}
use Rattle.zim_static.specs.Roles.{inside, operand, condition_inside}
use Rattle.zim_static.specs.Faults.{first_of_faults, part_of, parts_of_angle, part_of_body, parts_of, tuples_of, known_operands, known_disjuncts, known_conjuncts, all_faults, given_faults, argument_faults, tuples_faults, operands_faults, conjuncts_faults, factors_faults, component_faults, components_faults, condition_faults}
use Rattle.zim_static.specs.StatementFaults.{faults_in}
use Rattle.zim_static.proofs.PartLaws.{items_known}
use Rattle.zim_static.proofs.FirstLaws.{of_one, of_two, of_three, of_four, of_three_none, compare_none, compare_one, compare_two, opens-Infinity, opens-Name, opens-Item, opens-Call, opens-Func, opens-Proj, opens-Paren, opens-Braces, opens-If, opens-Factorial, opens-Power, opens-Signed, opens-Big, opens-Times, opens-Plus, opens-Compare, opens-Member, opens-Not, opens-And, opens-Or, opens-Forall}
use Rattle.zim_static.proofs.IndexLaws.{opens-index, opens-Empty, opens-Members, opens-Tuples, opens-Those, opens-Span, behind_index, behind_condition}
use Rattle.zim_static.proofs.FaultLoopLemmas.{loop_next, loop_end, operands_step, disjuncts_step, factors_step, operands_none, factors_none, component_bound, component_fault}
use Rattle.zim_static.proofs.fault_in.+fault_in.Goals as goal

pub fault_in-returns-in-Infinity : goal.fault_in-returns-in-Infinity
fault_in-returns-in-Infinity t c =
    of_two _ _ (simp c.is_bound.ensures at c.mark.ensures) c.no_constraint.ensures c.or.ensures
    ∙ sym (ap first_of_faults (ap (faults_in c.args.scope.now c.args.role (names_in c.args.scope.now c.args.around.now)) c.in-Infinity.is ∙ opens-Infinity c.args.scope.now c.args.role (names_in c.args.scope.now c.args.around.now) _))

pub fault_in-returns-in-Name : goal.fault_in-returns-in-Name
fault_in-returns-in-Name t c =
    simp c.wrong_name.ensures at c.name_fault.ensures ∙ sym (ap first_of_faults (ap (faults_in c.args.scope.now c.args.role (names_in c.args.scope.now c.args.around.now)) c.in-Name.is ∙ opens-Name c.args.scope.now c.args.role (names_in c.args.scope.now c.args.around.now) _ _))

pub fault_in-returns-in-Item : goal.fault_in-returns-in-Item
fault_in-returns-in-Item t c =
    of_two _ _ (simp c.wrong_item.ensures at c.name_fault-in-Item.ensures) (simp (c.as_slice.ensures, c.inside.ensures) at c.fault_in_items.ensures) c.or-in-Item.ensures
    ∙ sym (ap first_of_faults (ap (faults_in c.args.scope.now c.args.role (names_in c.args.scope.now c.args.around.now)) c.in-Item.is ∙ opens-Item c.args.scope.now c.args.role (names_in c.args.scope.now c.args.around.now) _ _ _))

pub fault_in-returns-in-Call : goal.fault_in-returns-in-Call
fault_in-returns-in-Call t c =
    let w = simp c.len.ensures at c.wrong_call.ensures in
    of_two _ _ (simp w at c.name_fault-in-Call.ensures) (simp (c.as_slice-in-Call.ensures, c.inside-in-Call.ensures) at c.fault_in_items-in-Call.ensures) c.or-in-Call.ensures
    ∙ sym (ap first_of_faults (ap (faults_in c.args.scope.now c.args.role (names_in c.args.scope.now c.args.around.now)) c.in-Call.is ∙ opens-Call c.args.scope.now c.args.role (names_in c.args.scope.now c.args.around.now) _ _ _))

pub fault_in-returns-in-Some : goal.fault_in-returns-in-Some
fault_in-returns-in-Some t c =
    of_two _ _ (simp c.as_slice-in-Func.ensures at c.function_fault-fault.ensures)
    (simp c.as_slice-in-Some.ensures at c.fault_in_items-in-Some.ensures ∙ ap (λ given. first_of_faults (argument_faults (names_in c.args.scope.now c.args.around.now) (parts_of c.args.scope.now c.in-Func.items) given)) (sym c.in-Some.is ∙ (simp c.as_slice-in-Func-2.ensures at c.argument_role.ensures))) c.or-in-Some.ensures
    ∙ sym (ap first_of_faults (ap (faults_in c.args.scope.now c.args.role (names_in c.args.scope.now c.args.around.now)) c.in-Func.is ∙ opens-Func c.args.scope.now c.args.role (names_in c.args.scope.now c.args.around.now) _ _ _))

pub fault_in-returns-in-None : goal.fault_in-returns-in-None
fault_in-returns-in-None t c =
    of_one _ _ (simp c.as_slice-in-Func.ensures at c.function_fault-fault.ensures)
    (sym (ap (λ given. argument_faults (names_in c.args.scope.now c.args.around.now) (parts_of c.args.scope.now c.in-Func.items) given) (sym c.in-None.is ∙ (simp c.as_slice-in-Func-2.ensures at c.argument_role.ensures))))
    ∙ sym (ap first_of_faults (ap (faults_in c.args.scope.now c.args.role (names_in c.args.scope.now c.args.around.now)) c.in-Func.is ∙ opens-Func c.args.scope.now c.args.role (names_in c.args.scope.now c.args.around.now) _ _ _))

pub fault_in-returns-in-Proj : goal.fault_in-returns-in-Proj
fault_in-returns-in-Proj t c =
    of_three _ _ _ c.no_constraint-in-Proj.ensures (simp (c.get.ensures, c.inside-in-Proj.ensures) at c.fault_in.ensures) c.or-in-Proj.ensures (simp (c.as_slice-in-Proj.ensures, c.inside-in-Proj-2.ensures) at c.fault_in_items-in-Proj.ensures ∙ ap (λ parts. first_of_faults (all_faults (inside c.args.role) (names_in c.args.scope.now c.args.around.now) parts)) (sym (items_known c.args.scope.now c.in-Proj.positions))) c.or-in-Proj-2.ensures
    ∙ sym (ap first_of_faults (ap (faults_in c.args.scope.now c.args.role (names_in c.args.scope.now c.args.around.now)) c.in-Proj.is ∙ opens-Proj c.args.scope.now c.args.role (names_in c.args.scope.now c.args.around.now) _ _ _))

pub fault_in-returns-in-Paren : goal.fault_in-returns-in-Paren
fault_in-returns-in-Paren t c =
    (simp (c.get-in-Paren.ensures, c.parenthesised.ensures) at c.fault_in-in-Paren.ensures) ∙ sym (ap first_of_faults (ap (faults_in c.args.scope.now c.args.role (names_in c.args.scope.now c.args.around.now)) c.in-Paren.is ∙ opens-Paren c.args.scope.now c.args.role (names_in c.args.scope.now c.args.around.now) _ _))

pub fault_in-returns-in-Braces : goal.fault_in-returns-in-Braces
fault_in-returns-in-Braces t c =
    of_two _ _ c.no_constraint-in-Braces.ensures (simp (c.get-in-Braces.ensures, c.inside-in-Braces.ensures) at c.fault_in_body.ensures) c.or-in-Braces.ensures
    ∙ sym (ap first_of_faults (ap (faults_in c.args.scope.now c.args.role (names_in c.args.scope.now c.args.around.now)) c.in-Braces.is ∙ opens-Braces c.args.scope.now c.args.role (names_in c.args.scope.now c.args.around.now) _ _))

pub fault_in-returns-in-If : goal.fault_in-returns-in-If
fault_in-returns-in-If t c =
    of_four _ _ _ _ (simp c.is_missing.ensures at c.choice_fault.ensures) (simp (c.get-in-If.ensures, c.test_of.ensures) at c.fault_in-in-If.ensures) c.or-in-If.ensures (simp (c.get-in-If-2.ensures, c.branch_of.ensures) at c.fault_in-in-If-2.ensures) c.or-in-If-2.ensures (simp c.branch_of-in-If.ensures at c.fault_in_given.ensures) c.or-in-If-3.ensures
    ∙ sym (ap first_of_faults (ap (faults_in c.args.scope.now c.args.role (names_in c.args.scope.now c.args.around.now)) c.in-If.is ∙ opens-If c.args.scope.now c.args.role (names_in c.args.scope.now c.args.around.now) _ _ _ _ _))

pub fault_in-returns-in-Factorial : goal.fault_in-returns-in-Factorial
fault_in-returns-in-Factorial t c =
    of_two _ _ (simp (c.get-in-Factorial.ensures, c.inside-in-Factorial.ensures) at c.fault_in-in-Factorial.ensures) (simp c.as_slice-in-Factorial.ensures at c.factorial_fault.ensures) c.or-in-Factorial.ensures
    ∙ sym (ap first_of_faults (ap (faults_in c.args.scope.now c.args.role (names_in c.args.scope.now c.args.around.now)) c.in-Factorial.is ∙ opens-Factorial c.args.scope.now c.args.role (names_in c.args.scope.now c.args.around.now) _ _))

pub fault_in-returns-in-Power : goal.fault_in-returns-in-Power
fault_in-returns-in-Power t c =
    of_four _ _ _ _ (simp (c.get-in-Power.ensures, c.term_inside.ensures) at c.fault_in-in-Power.ensures) (simp (c.get-in-Power-2.ensures, c.get-in-Power-3.ensures) at c.power_fault.ensures) c.or-in-Power.ensures c.no_constraint-in-Power.ensures c.or-in-Power-2.ensures (simp (c.get-in-Power-4.ensures, c.term_inside-in-Power.ensures) at c.fault_in-in-Power-2.ensures) c.or-in-Power-3.ensures
    ∙ sym (ap first_of_faults (ap (faults_in c.args.scope.now c.args.role (names_in c.args.scope.now c.args.around.now)) c.in-Power.is ∙ opens-Power c.args.scope.now c.args.role (names_in c.args.scope.now c.args.around.now) _ _ _ _ _))

pub fault_in-returns-in-Signed : goal.fault_in-returns-in-Signed
fault_in-returns-in-Signed t c =
    let r = simp (simp c.get-in-Signed.ensures at c.is_infinity.ensures) at c.signed-inside.ensures in
    of_two _ _ c.no_constraint-in-Signed.ensures (simp (c.get-in-Signed-2.ensures, r) at c.fault_in-in-Signed.ensures) c.or-in-Signed.ensures
    ∙ sym (ap first_of_faults (ap (faults_in c.args.scope.now c.args.role (names_in c.args.scope.now c.args.around.now)) c.in-Signed.is ∙ opens-Signed c.args.scope.now c.args.role (names_in c.args.scope.now c.args.around.now) _ _ _))

pub fault_in-returns-in-Big : goal.fault_in-returns-in-Big
fault_in-returns-in-Big t c =
    of_four _ _ _ _ (simp (c.get-in-Big-2.ensures, c.get-in-Big-3.ensures) at c.loop_fault.ensures) c.no_constraint-in-Big.ensures c.or-in-Big.ensures (simp (c.get-in-Big-4.ensures, c.inside-in-Big.ensures) at c.fault_in_index.ensures) c.or-in-Big-2.ensures (behind_index c.args.scope.now _ (names_in c.args.scope.now c.args.around.now) _ _ _ _ refl (c.as_slice-in-Big.ensures ∙ ap (λ (index : Index). (out-Angle (out-Index index).tuple).items) c.get-in-Big.ensures) (simp (c.get-in-Big-5.ensures, c.summand.ensures) at c.fault_in-in-Big.ensures)) c.or-in-Big-3.ensures
    ∙ sym (ap first_of_faults (ap (faults_in c.args.scope.now c.args.role (names_in c.args.scope.now c.args.around.now)) c.in-Big.is ∙ opens-Big c.args.scope.now c.args.role (names_in c.args.scope.now c.args.around.now) _ _ _ _ _))

pub fault_in-returns-in-Times : goal.fault_in-returns-in-Times
fault_in-returns-in-Times t c =
    let v = simp c.get-in-Times.ensures at c.has_variables-before.ensures in
    let s = simp (c.as_slice-in-Times.ensures, v) at c.is_by_stars-by_stars.ensures in
    of_two _ _ (simp (c.get-in-Times-2.ensures, simp s at c.operand.ensures) at c.fault_in-in-Times.ensures) (simp (c.as_slice-in-Times-2.ensures, s, v) at c.fault_in_factors.ensures) c.or-in-Times.ensures
    ∙ sym (ap first_of_faults (ap (faults_in c.args.scope.now c.args.role (names_in c.args.scope.now c.args.around.now)) c.in-Times.is ∙ opens-Times c.args.scope.now c.args.role (names_in c.args.scope.now c.args.around.now) _ _))

pub fault_in-returns-in-Plus : goal.fault_in-returns-in-Plus
fault_in-returns-in-Plus t c =
    let o = simp (simp c.as_slice-in-Plus.ensures at c.is_by_signs.ensures) at c.operand-inside.ensures in
    of_two _ _ (simp (c.get-in-Plus.ensures, o) at c.fault_in-in-Plus.ensures) (simp (c.as_slice-in-Plus-2.ensures, o) at c.fault_in_operands.ensures) c.or-in-Plus.ensures
    ∙ sym (ap first_of_faults (ap (faults_in c.args.scope.now c.args.role (names_in c.args.scope.now c.args.around.now)) c.in-Plus.is ∙ opens-Plus c.args.scope.now c.args.role (names_in c.args.scope.now c.args.around.now) _ _))

pub fault_in-returns-in-empty : goal.fault_in-returns-in-empty
fault_in-returns-in-empty t c =
    compare_none c.args.scope.now c.args.role (names_in c.args.scope.now c.args.around.now) c.in-Compare.first c.in-Compare.others (simp c.as_slice-in-Compare.ensures at c.in-empty.len_below) (simp (c.get-in-empty.ensures, c.side.ensures) at c.fault_in-in-empty.ensures)
    ∙ sym (ap first_of_faults (ap (faults_in c.args.scope.now c.args.role (names_in c.args.scope.now c.args.around.now)) c.in-Compare.is ∙ opens-Compare c.args.scope.now c.args.role (names_in c.args.scope.now c.args.around.now) _ _))

pub fault_in-returns-in-len1 : goal.fault_in-returns-in-len1
fault_in-returns-in-len1 t c =
    compare_one c.args.scope.now c.args.role (names_in c.args.scope.now c.args.around.now) c.in-Compare.first c.in-Compare.others c.right-item.result (simp c.as_slice-in-Compare.ensures at c.in-len1.len_at_least) (simp c.as_slice-in-Compare.ensures at c.in-len1.len_below) (simp c.as_slice-in-Compare.ensures at c.right-item.is)
    (simp (c.get-in-len1.ensures, c.side-in-len1.ensures) at c.fault_in-in-len1.ensures) c.relation_fault.ensures c.or-in-len1.ensures (simp c.side-in-len1-2.ensures at c.fault_in-in-len1-2.ensures) c.or-in-len1-2.ensures
    ∙ sym (ap first_of_faults (ap (faults_in c.args.scope.now c.args.role (names_in c.args.scope.now c.args.around.now)) c.in-Compare.is ∙ opens-Compare c.args.scope.now c.args.role (names_in c.args.scope.now c.args.around.now) _ _))

pub fault_in-returns-in-len2-up : goal.fault_in-returns-in-len2-up
fault_in-returns-in-len2-up t c =
    compare_two c.args.scope.now c.args.role (names_in c.args.scope.now c.args.around.now) c.in-Compare.first c.in-Compare.others c.middle-item.result c.last-item.result (simp c.as_slice-in-Compare.ensures at c.in-len2-up.len_at_least) (simp c.as_slice-in-Compare.ensures at c.middle-item.is) (simp c.as_slice-in-Compare.ensures at c.last-item.is)
    (simp (c.get-in-len2-up.ensures, c.chain_side.ensures) at c.fault_in-in-len2-up.ensures) (simp c.get-in-len2-up-2.ensures at c.chain_fault.ensures) c.or-in-len2-up.ensures (simp c.chain_side-in-len2-up.ensures at c.fault_in-in-len2-up-2.ensures) c.or-in-len2-up-2.ensures (simp c.chain_side-in-len2-up-2.ensures at c.fault_in-in-len2-up-3.ensures) c.or-in-len2-up-3.ensures
    ∙ sym (ap first_of_faults (ap (faults_in c.args.scope.now c.args.role (names_in c.args.scope.now c.args.around.now)) c.in-Compare.is ∙ opens-Compare c.args.scope.now c.args.role (names_in c.args.scope.now c.args.around.now) _ _))

pub fault_in-returns-in-Member : goal.fault_in-returns-in-Member
fault_in-returns-in-Member t c =
    of_three _ _ _ (simp (c.as_slice-in-Member.ensures, c.inside-in-Member.ensures) at c.fault_in_items-in-Member.ensures ∙ ap (λ parts. first_of_faults (all_faults (inside c.args.role) (names_in c.args.scope.now c.args.around.now) parts)) (sym (items_known c.args.scope.now c.in-Member.tuple))) c.no_constraint-in-Member.ensures c.or-in-Member.ensures (simp (c.get-in-Member.ensures, c.inside-in-Member-2.ensures) at c.fault_in-in-Member.ensures) c.or-in-Member-2.ensures
    ∙ sym (ap first_of_faults (ap (faults_in c.args.scope.now c.args.role (names_in c.args.scope.now c.args.around.now)) c.in-Member.is ∙ opens-Member c.args.scope.now c.args.role (names_in c.args.scope.now c.args.around.now) _ _ _))

pub fault_in-returns-in-Not : goal.fault_in-returns-in-Not
fault_in-returns-in-Not t c =
    of_two _ _ c.no_constraint-in-Not.ensures (simp (c.get-in-Not.ensures, c.condition_inside.ensures) at c.fault_in-in-Not.ensures) c.or-in-Not.ensures
    ∙ sym (ap first_of_faults (ap (faults_in c.args.scope.now c.args.role (names_in c.args.scope.now c.args.around.now)) c.in-Not.is ∙ opens-Not c.args.scope.now c.args.role (names_in c.args.scope.now c.args.around.now) _ _))

pub fault_in-returns-in-And : goal.fault_in-returns-in-And
fault_in-returns-in-And t c =
    of_two _ _ (simp (c.get-in-And.ensures, c.conjunct.ensures) at c.fault_in-in-And.ensures) (simp (c.as_slice-in-And.ensures, c.conjunct-in-And.ensures) at c.fault_in_conjuncts.ensures) c.or-in-And.ensures
    ∙ sym (ap first_of_faults (ap (faults_in c.args.scope.now c.args.role (names_in c.args.scope.now c.args.around.now)) c.in-And.is ∙ opens-And c.args.scope.now c.args.role (names_in c.args.scope.now c.args.around.now) _ _))

pub fault_in-returns-in-Or : goal.fault_in-returns-in-Or
fault_in-returns-in-Or t c =
    of_two _ _ (simp (c.get-in-Or.ensures, c.condition_inside-in-Or.ensures) at c.fault_in-in-Or.ensures) (simp c.as_slice-in-Or.ensures at c.fault_in_disjuncts.ensures) c.or-in-Or.ensures
    ∙ sym (ap first_of_faults (ap (faults_in c.args.scope.now c.args.role (names_in c.args.scope.now c.args.around.now)) c.in-Or.is ∙ opens-Or c.args.scope.now c.args.role (names_in c.args.scope.now c.args.around.now) _ _))

pub fault_in-returns-in-Forall : goal.fault_in-returns-in-Forall
fault_in-returns-in-Forall t c =
    of_three _ _ _ (simp c.is_constraint.ensures at c.mark-in-Forall.ensures) (simp (c.get-in-Forall-2.ensures, c.test.ensures) at c.fault_in_index-in-Forall.ensures) c.or-in-Forall.ensures (behind_index c.args.scope.now _ (names_in c.args.scope.now c.args.around.now) _ _ _ _ refl (c.as_slice-in-Forall.ensures ∙ ap (λ (index : Index). (out-Angle (out-Index index).tuple).items) c.get-in-Forall.ensures) (simp (c.get-in-Forall-3.ensures, c.constraint_inside.ensures) at c.fault_in-in-Forall.ensures)) c.or-in-Forall-2.ensures
    ∙ sym (ap first_of_faults (ap (faults_in c.args.scope.now c.args.role (names_in c.args.scope.now c.args.around.now)) c.in-Forall.is ∙ opens-Forall c.args.scope.now c.args.role (names_in c.args.scope.now c.args.around.now) _ _ _ _))

pub fault_in_body-returns-in-Empty : goal.fault_in_body-returns-in-Empty
fault_in_body-returns-in-Empty t c =
    sym (ap first_of_faults (ap (λ (b : Body). (part_of_body c.args.scope.now b).faults c.args.role (names_in c.args.scope.now c.args.around.now)) c.in-Empty.is ∙ opens-Empty c.args.scope.now c.args.role (names_in c.args.scope.now c.args.around.now)))

pub fault_in_body-returns-in-Members : goal.fault_in_body-returns-in-Members
fault_in_body-returns-in-Members t c =
    (simp c.as_slice.ensures at c.fault_in_items.ensures) ∙ sym (ap first_of_faults (ap (λ (b : Body). (part_of_body c.args.scope.now b).faults c.args.role (names_in c.args.scope.now c.args.around.now)) c.in-Members.is ∙ opens-Members c.args.scope.now c.args.role (names_in c.args.scope.now c.args.around.now) _))

pub fault_in_body-returns-in-Those : goal.fault_in_body-returns-in-Those
fault_in_body-returns-in-Those t c =
    (simp c.get.ensures at c.fault_in_index.ensures) ∙ sym (ap first_of_faults (ap (λ (b : Body). (part_of_body c.args.scope.now b).faults c.args.role (names_in c.args.scope.now c.args.around.now)) c.in-Those.is ∙ opens-Those c.args.scope.now c.args.role (names_in c.args.scope.now c.args.around.now) _))

pub fault_in_body-returns-in-Span : goal.fault_in_body-returns-in-Span
fault_in_body-returns-in-Span t c =
    of_three _ _ _ (simp c.get-in-Span.ensures at c.fault_in.ensures) (simp c.get-in-Span-2.ensures at c.fault_in-in-Span.ensures) c.or.ensures c.fault_in_given.ensures c.or-in-Span.ensures
    ∙ sym (ap first_of_faults (ap (λ (b : Body). (part_of_body c.args.scope.now b).faults c.args.role (names_in c.args.scope.now c.args.around.now)) c.in-Span.is ∙ opens-Span c.args.scope.now c.args.role (names_in c.args.scope.now c.args.around.now) _ _ _ _))

pub fault_in_body-loop-tuple-init : goal.fault_in_body-loop-tuple-init
fault_in_body-loop-tuple-init t c =
    ap (λ tuples. first_of_faults (tuples_faults c.args.role (names_in c.args.scope.now c.args.around.now) (tuples_of c.args.scope.now tuples))) c.as_slice-tuple-items.ensures ∙ sym (ap first_of_faults (ap (λ (b : Body). (part_of_body c.args.scope.now b).faults c.args.role (names_in c.args.scope.now c.args.around.now)) c.in-Tuples.is ∙ opens-Tuples c.args.scope.now c.args.role (names_in c.args.scope.now c.args.around.now) _))

pub fault_in_body-loop-tuple-preserved : goal.fault_in_body-loop-tuple-preserved
fault_in_body-loop-tuple-preserved t c =
    loop_next (λ left. tuples_faults c.args.role (names_in c.args.scope.now c.args.around.now) (tuples_of c.args.scope.now left)) (λ left. tuples_faults c.args.role (names_in c.args.scope.now c.args.around.now) (tuples_of c.args.scope.now left)) (all_faults c.args.role (names_in c.args.scope.now c.args.around.now) (parts_of_angle c.args.scope.now c.tuple-item.result)) c.as_slice-tuple-items.result.now c.loop-tuple.tuple-index c.tuple-item.result c.loop-tuple-test.true c.tuple-item.is (λ rest. refl) c.loop-tuple.fault
    (c.or-fault.ensures ∙ ap (option_or c.loop-tuple.fault) (simp c.as_slice-in-loop-tuple.ensures at c.fault_in_items-in-loop-tuple.ensures ∙ ap (λ parts. first_of_faults (all_faults c.args.role (names_in c.args.scope.now c.args.around.now) parts)) (sym (items_known c.args.scope.now c.tuple-item.result)))) c.loop-tuple.invariant

pub fault_in_body-returns-after-loop-tuple : goal.fault_in_body-returns-after-loop-tuple
fault_in_body-returns-after-loop-tuple t c =
    loop_end (λ left. tuples_faults c.args.role (names_in c.args.scope.now c.args.around.now) (tuples_of c.args.scope.now left)) c.as_slice-tuple-items.result.now c.loop-tuple.tuple-index c.loop-tuple-test.false refl c.loop-tuple.fault c.loop-tuple.invariant

pub fault_in_components-loop-tree-preserved-then-is_bound : goal.fault_in_components-loop-tree-preserved-then-is_bound
fault_in_components-loop-tree-preserved-then-is_bound t c =
    loop_next (λ left. components_faults c.args.scope.now c.args.role (names_in c.args.scope.now c.args.around.now) (parts_of c.args.scope.now left)) (λ left. components_faults c.args.scope.now c.args.role (names_in c.args.scope.now c.args.around.now) (parts_of c.args.scope.now left)) (component_faults c.args.scope.now c.args.role (names_in c.args.scope.now c.args.around.now) (part_of c.args.scope.now c.tree-item.result)) c.args.trees.now c.loop-tree.tree-index c.tree-item.result c.loop-tree-test.true c.tree-item.is (λ rest. refl) c.loop-tree.fault
    (component_bound c.args.scope.now c.args.role (names_in c.args.scope.now c.args.around.now) c.tree-item.result c.loop-tree.fault (sym c.is_bound.ensures ∙ c.if-is_bound.true)) c.loop-tree.invariant

pub fault_in_components-loop-tree-preserved : goal.fault_in_components-loop-tree-preserved
fault_in_components-loop-tree-preserved t c =
    loop_next (λ left. components_faults c.args.scope.now c.args.role (names_in c.args.scope.now c.args.around.now) (parts_of c.args.scope.now left)) (λ left. components_faults c.args.scope.now c.args.role (names_in c.args.scope.now c.args.around.now) (parts_of c.args.scope.now left)) (component_faults c.args.scope.now c.args.role (names_in c.args.scope.now c.args.around.now) (part_of c.args.scope.now c.tree-item.result)) c.args.trees.now c.loop-tree.tree-index c.tree-item.result c.loop-tree-test.true c.tree-item.is (λ rest. refl) c.loop-tree.fault
    (component_fault c.args.scope.now c.args.role (names_in c.args.scope.now c.args.around.now) c.tree-item.result c.loop-tree.fault (sym c.is_bound.ensures ∙ c.if-is_bound.false) c.fault_in.ensures c.or-fault.ensures) c.loop-tree.invariant

pub fault_in_components-returns : goal.fault_in_components-returns
fault_in_components-returns t c =
    loop_end (λ left. components_faults c.args.scope.now c.args.role (names_in c.args.scope.now c.args.around.now) (parts_of c.args.scope.now left)) c.args.trees.now c.loop-tree.tree-index c.loop-tree-test.false refl c.loop-tree.fault c.loop-tree.invariant

pub fault_in_conjuncts-loop-place-preserved : goal.fault_in_conjuncts-loop-place-preserved
fault_in_conjuncts-loop-place-preserved t c =
    loop_next (λ left. conjuncts_faults c.args.role (names_in c.args.scope.now c.args.around.now) (known_conjuncts c.args.scope.now left)) (λ left. conjuncts_faults c.args.role (names_in c.args.scope.now c.args.around.now) (known_conjuncts c.args.scope.now left)) (faults_in c.args.scope.now c.args.role (names_in c.args.scope.now c.args.around.now) c.loop-place-item.result.1) c.args.others.now c.loop-place._place-index c.loop-place-item.result c.loop-place-test.true c.loop-place-item.is (λ rest. refl) c.loop-place.fault
    (c.or-fault.ensures ∙ ap (option_or c.loop-place.fault) c.fault_in.ensures) c.loop-place.invariant

pub fault_in_conjuncts-returns : goal.fault_in_conjuncts-returns
fault_in_conjuncts-returns t c =
    loop_end (λ left. conjuncts_faults c.args.role (names_in c.args.scope.now c.args.around.now) (known_conjuncts c.args.scope.now left)) c.args.others.now c.loop-place._place-index c.loop-place-test.false refl c.loop-place.fault c.loop-place.invariant

pub fault_in_disjuncts-loop-place-preserved : goal.fault_in_disjuncts-loop-place-preserved
fault_in_disjuncts-loop-place-preserved t c =
    let fault = simp c.condition_inside-inside.ensures at c.fault_in.ensures in
    rw c.condition_inside-inside.ensures
    (disjuncts_step c.args.scope.now c.loop-place.role (condition_inside c.args.whole) (names_in c.args.scope.now c.args.around.now) c.args.others.now c.loop-place.place-index c.loop-place-item.result c.loop-place-test.true c.loop-place-item.is c.loop-place.fault c.no_constraint.ensures c.or.ensures fault c.or-fault.ensures
    c.loop-place.invariant)

pub fault_in_disjuncts-returns : goal.fault_in_disjuncts-returns
fault_in_disjuncts-returns t c =
    loop_end (λ left. operands_faults c.loop-place.role (condition_inside c.args.whole) (names_in c.args.scope.now c.args.around.now) (known_disjuncts c.args.scope.now left)) c.args.others.now c.loop-place.place-index c.loop-place-test.false (operands_none Bool _ _ _) c.loop-place.fault c.loop-place.invariant

pub fault_in_operands-loop-place-preserved : goal.fault_in_operands-loop-place-preserved
fault_in_operands-loop-place-preserved t c =
    operands_step c.args.scope.now c.loop-place.role c.args.inside (names_in c.args.scope.now c.args.around.now) c.args.others.now c.loop-place.place-index c.loop-place-item.result c.loop-place-test.true c.loop-place-item.is c.loop-place.fault c.no_constraint.ensures c.or.ensures c.fault_in.ensures c.or-fault.ensures
    c.loop-place.invariant

pub fault_in_operands-returns : goal.fault_in_operands-returns
fault_in_operands-returns t c =
    loop_end (λ left. operands_faults c.loop-place.role c.args.inside (names_in c.args.scope.now c.args.around.now) (known_operands c.args.scope.now left)) c.args.others.now c.loop-place.place-index c.loop-place-test.false (operands_none Token _ _ _) c.loop-place.fault c.loop-place.invariant

pub fault_in_factors-loop-place-preserved : goal.fault_in_factors-loop-place-preserved
fault_in_factors-loop-place-preserved t c =
    let linear = simp c.has_variables-now.ensures at c.factor_fault.ensures in
    let fault = simp c.operand-inside.ensures at c.fault_in-inner.ensures in
    rw (c.operand-inside.ensures, c.varies_by-varying.ensures)
    (factors_step c.args.scope.now c.args.by_stars c.loop-place.varying c.loop-place.role (operand c.args.by_stars c.args.whole) (names_in c.args.scope.now c.args.around.now) c.args.others.now c.loop-place.place-index c.loop-place-item.result c.loop-place-test.true c.loop-place-item.is c.loop-place.fault linear c.or.ensures c.no_constraint.ensures c.or-in-loop-place.ensures
    fault c.or-fault.ensures c.loop-place.invariant)

pub fault_in_factors-returns : goal.fault_in_factors-returns
fault_in_factors-returns t c =
    loop_end (λ left. factors_faults c.args.by_stars c.loop-place.varying c.loop-place.role (operand c.args.by_stars c.args.whole) (names_in c.args.scope.now c.args.around.now) (known_operands c.args.scope.now left)) c.args.others.now c.loop-place.place-index c.loop-place-test.false (factors_none _ _ _ _ _) c.loop-place.fault c.loop-place.invariant

pub fault_in_items-loop-tree-preserved : goal.fault_in_items-loop-tree-preserved
fault_in_items-loop-tree-preserved t c =
    loop_next (λ left. all_faults c.args.role (names_in c.args.scope.now c.args.around.now) (parts_of c.args.scope.now left)) (λ left. all_faults c.args.role (names_in c.args.scope.now c.args.around.now) (parts_of c.args.scope.now left)) (faults_in c.args.scope.now c.args.role (names_in c.args.scope.now c.args.around.now) c.tree-item.result) c.args.trees.now c.loop-tree.tree-index c.tree-item.result c.loop-tree-test.true c.tree-item.is (λ rest. refl) c.loop-tree.fault
    (c.or-fault.ensures ∙ ap (option_or c.loop-tree.fault) c.fault_in.ensures) c.loop-tree.invariant

pub fault_in_items-returns : goal.fault_in_items-returns
fault_in_items-returns t c =
    loop_end (λ left. all_faults c.args.role (names_in c.args.scope.now c.args.around.now) (parts_of c.args.scope.now left)) c.args.trees.now c.loop-tree.tree-index c.loop-tree-test.false refl c.loop-tree.fault c.loop-tree.invariant

pub fault_in_index-returns-in-Some : goal.fault_in_index-returns-in-Some
fault_in_index-returns-in-Some t c =
    of_three _ _ _ (simp c.as_slice-items.ensures at c.fault_in_components.ensures) (simp c.get.ensures at c.fault_in.ensures) c.or-fault.ensures
    (behind_condition c.args.scope.now c.args.role (names_in c.args.scope.now c.args.around.now) c.args.index.now _ _ _ refl c.as_slice-items.ensures c.in-Some.is (simp c.get-in-Some.ensures at c.fault_in-in-Some.ensures)) c.or.ensures
    ∙ sym (ap first_of_faults (opens-index c.args.scope.now c.args.role (names_in c.args.scope.now c.args.around.now) c.args.index.now))

pub fault_in_index-returns-in-None : goal.fault_in_index-returns-in-None
fault_in_index-returns-in-None t c =
    of_three_none _ _ _ (simp c.as_slice-items.ensures at c.fault_in_components.ensures) (simp c.get.ensures at c.fault_in.ensures) c.or-fault.ensures
    (ap (λ (cond : Option (Bool × Expr)). condition_faults c.args.role (filter_map (bound_name c.args.scope.now (names_in c.args.scope.now c.args.around.now)) (out-Angle (out-Index c.args.index.now).tuple).items ++ (names_in c.args.scope.now c.args.around.now)) (option_map (λ (x : Bool × Expr). (x.0, part_of c.args.scope.now x.1)) cond)) c.in-None.is)
    ∙ sym (ap first_of_faults (opens-index c.args.scope.now c.args.role (names_in c.args.scope.now c.args.around.now) c.args.index.now))

pub fault_in_given-returns-in-Some : goal.fault_in_given-returns-in-Some
fault_in_given-returns-in-Some t c =
    simp c.get.ensures at c.fault_in.ensures ∙ sym (ap (λ part. first_of_faults (given_faults c.args.role (names_in c.args.scope.now c.args.around.now) (option_map (part_of c.args.scope.now) part))) c.in-Some.is)

pub fault_in_given-returns-in-None : goal.fault_in_given-returns-in-None
fault_in_given-returns-in-None t c =
    sym (ap (λ part. first_of_faults (given_faults c.args.role (names_in c.args.scope.now c.args.around.now) (option_map (part_of c.args.scope.now) part))) c.in-None.is)
