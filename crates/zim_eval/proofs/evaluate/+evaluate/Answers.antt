-- Each form by its equation, the steps of the loops, and the weight of a call.
use Rattle.std.proofs.Common.{◌≡◌, [], ◌∷◌, ◌++◌, Ok, refl, sym, ap, ◌∙◌, subst, arith}
use Rattle.std.proofs.lemmas.Result.{err_from_is_err_and}
use Rattle.zim_answer.specs.Answer.{Answer, ◌>>=◌, goes}
use Rattle.zim_answer.specs.Gives.{Gives, Stops}
use Rattle.zim_answer.proofs.GivesLemmas.{Stops-bind}
use Rattle.zim_answer.proofs.GoesLemmas.{goes_done}
use Rattle.zim_fault.specs.declared.faults.Fault.{Fault}
use Rattle.zim_fault.specs.declared.faults.Place.{Place}
use Rattle.zim_meaning.specs.Operations.{of_defined_kind, element_of_value, truth_of_value}
use Rattle.zim_meaning.specs.World.{at_place}
use Rattle.zim_meaning.specs.declared.values.Value.{Value}
use Rattle.zim_meaning.specs.declared.values.Value.TheVariants as of_value
use Rattle.zim_rational.specs.Rational.{one}
use Rattle.zim_typed.specs.declared.constant.Const.{size-Const}
use Rattle.zim_typed.specs.declared.constant.TAngle.{out-TAngle}
use Rattle.zim_eval.specs.Causes.{eval_cause}
use Rattle.zim_eval.specs.Private.{signed_exponent, value_in, values_in, tuple_in, chain_in, with_value_in, with_component_in, operated_in, conjunct_in, conjuncts_in, disjunct_in, disjuncts_in, tuples_in, with_tuple_in, choices_in, slot_in, slots_in, with_slot_in, passes_in, choice_in, among_in, with_choice_in, gathering_step, gathering_in, gathering_value}
use Rattle.zim_eval.proofs.CallLemmas.{call_weighs_less}
use Rattle.zim_eval.proofs.FormLemmas.{conjunct_true, disjunct_false, disjunct_xor, called_value, chosen_true, chosen_false, chosen_none, in-Item, in-Func, in-Factorial, in-Power, in-Signed, in-Compare, in-Not, in-Proj, in-Member}
use Rattle.zim_eval.proofs.IndexLemmas.{in-Members, in-Tuples, in-Those, spanned, kept_choice, tested, fixed_value, slots_stop, value_stop, fit_stop, all_given, chosen_sets}
use Rattle.zim_sets.specs.Sets.{IsSet}
use Rattle.zim_eval.proofs.LoopLemmas.{next_at, stop_at}
use Rattle.zim_eval.proofs.evaluate.+evaluate.Goals as goal

pub value_of-value_of-requires : goal.value_of-value_of-requires
value_of-value_of-requires t c =
    let less = call_weighs_less c.args.world.now c.args.known c.in-Some.position c.in-Some.definition.now c.in-Some.ensures.before c.in-Some.ensures.there in
    let same : size-Const c.get.result.now ≡ size-Const c.in-Some.definition.now.body = ap size-Const c.get.ensures in
    (omega (arith, less, same, c.decreases), tt)

-- ---- loops

pub chain_of-loop-place-init : goal.chain_of-loop-place-init
unfolding chain_in
chain_of-loop-place-init t c = refl

pub chain_of-returns-in-Err : goal.chain_of-returns-in-Err
chain_of-returns-in-Err t c =
    stop_at (operated_in c.args.world.now c.args.known c.args.env.now) c.loop-place.value c.args.others.now c.loop-place.place-index c.loop-place-item.result (eval_cause c.in-Err.stop) (chain_in c.args.world.now c.args.known c.args.env.now c.args.first c.args.others.now) c.loop-place-test.true c.loop-place-item.is
    (c.in-Err.ensures (value_in c.args.world.now c.args.known c.args.env.now c.loop-place-item.result.2) c.value_of.ensures) c.loop-place.invariant

pub chain_of-loop-place-preserved : goal.chain_of-loop-place-preserved
chain_of-loop-place-preserved t c =
    next_at (operated_in c.args.world.now c.args.known c.args.env.now) c.loop-place.value c.in-Ok.next c.args.others.now c.loop-place.place-index c.loop-place-item.result (chain_in c.args.world.now c.args.known c.args.env.now c.args.first c.args.others.now) c.loop-place-test.true c.loop-place-item.is
    (c.in-Ok.ensures (value_in c.args.world.now c.args.known c.args.env.now c.loop-place-item.result.2) c.value_of.ensures) c.loop-place.invariant

pub chain_of-returns : goal.chain_of-returns
chain_of-returns t c = goes_done (operated_in c.args.world.now c.args.known c.args.env.now) c.loop-place.value c.args.others.now c.loop-place.place-index (chain_in c.args.world.now c.args.known c.args.env.now c.args.first c.args.others.now) c.loop-place-test.false c.loop-place.invariant

pub tuple_of-loop-tree-init : goal.tuple_of-loop-tree-init
unfolding tuple_in
tuple_of-loop-tree-init t c = ap (λ made. goes (with_component_in c.args.world.now c.args.known c.args.env.now) made c.args.trees.now) c.new-made.ensures

pub tuple_of-returns-in_err-add_component : goal.tuple_of-returns-in_err-add_component
tuple_of-returns-in_err-add_component t c =
    let p = err_from_is_err_and c.from_residual.result c.from_residual.ensures.1 in
    rw (p.1, p.2)
    (stop_at (with_component_in c.args.world.now c.args.known c.args.env.now) c.loop-tree.made c.args.trees.now c.loop-tree.tree-index c.tree-item.result (eval_cause c.in_err-add_component.field-0.0) (tuple_in c.args.world.now c.args.known c.args.env.now c.args.trees.now) c.loop-tree-test.true c.tree-item.is
    (subst (λ (p : Place). Stops ((value_in c.args.world.now c.args.known c.args.env.now c.tree-item.result >>= λ v. at_place p (element_of_value v)) >>= λ next. Ok (c.loop-tree.made ++ next ∷ [])) (eval_cause c.in_err-add_component.field-0.0)) c.first_place.ensures (c.in_err-add_component.ensures (value_in c.args.world.now c.args.known c.args.env.now c.tree-item.result) c.value_of.ensures)) c.loop-tree.invariant)

pub tuple_of-loop-tree-preserved : goal.tuple_of-loop-tree-preserved
tuple_of-loop-tree-preserved t c =
    next_at (with_component_in c.args.world.now c.args.known c.args.env.now) c.loop-tree.made c.add_component.new.made c.args.trees.now c.loop-tree.tree-index c.tree-item.result (tuple_in c.args.world.now c.args.known c.args.env.now c.args.trees.now) c.loop-tree-test.true c.tree-item.is
    (subst (λ (p : Place). ((value_in c.args.world.now c.args.known c.args.env.now c.tree-item.result >>= λ v. at_place p (element_of_value v)) >>= λ next. Ok (c.loop-tree.made ++ next ∷ [])) ≡ Ok c.add_component.new.made) c.first_place.ensures (c.in_ok-add_component.ensures (value_in c.args.world.now c.args.known c.args.env.now c.tree-item.result) c.value_of.ensures)) c.loop-tree.invariant

pub tuple_of-returns : goal.tuple_of-returns
tuple_of-returns t c = goes_done (with_component_in c.args.world.now c.args.known c.args.env.now) c.loop-tree.made c.args.trees.now c.loop-tree.tree-index (tuple_in c.args.world.now c.args.known c.args.env.now c.args.trees.now) c.loop-tree-test.false c.loop-tree.invariant

pub values_of-loop-tree-init : goal.values_of-loop-tree-init
unfolding values_in
values_of-loop-tree-init t c = ap (λ made. goes (with_value_in c.args.world.now c.args.known c.args.env.now) made c.args.trees.now) c.new-made.ensures

pub values_of-returns-in_err-add_value : goal.values_of-returns-in_err-add_value
values_of-returns-in_err-add_value t c =
    let p = err_from_is_err_and c.from_residual.result c.from_residual.ensures.1 in
    rw (p.1, p.2)
    (stop_at (with_value_in c.args.world.now c.args.known c.args.env.now) c.loop-tree.made c.args.trees.now c.loop-tree.tree-index c.tree-item.result (eval_cause c.in_err-add_value.field-0.0) (values_in c.args.world.now c.args.known c.args.env.now c.args.trees.now) c.loop-tree-test.true c.tree-item.is
    (c.in_err-add_value.ensures (value_in c.args.world.now c.args.known c.args.env.now c.tree-item.result) c.value_of.ensures) c.loop-tree.invariant)

pub values_of-loop-tree-preserved : goal.values_of-loop-tree-preserved
values_of-loop-tree-preserved t c =
    next_at (with_value_in c.args.world.now c.args.known c.args.env.now) c.loop-tree.made c.add_value.new.made c.args.trees.now c.loop-tree.tree-index c.tree-item.result (values_in c.args.world.now c.args.known c.args.env.now c.args.trees.now) c.loop-tree-test.true c.tree-item.is
    (c.in_ok-add_value.ensures (value_in c.args.world.now c.args.known c.args.env.now c.tree-item.result) c.value_of.ensures) c.loop-tree.invariant

pub values_of-returns : goal.values_of-returns
values_of-returns t c = goes_done (with_value_in c.args.world.now c.args.known c.args.env.now) c.loop-tree.made c.args.trees.now c.loop-tree.tree-index (values_in c.args.world.now c.args.known c.args.env.now c.args.trees.now) c.loop-tree-test.false c.loop-tree.invariant

-- ---- forms

pub value_of-returns-in-Item : goal.value_of-returns-in-Item
value_of-returns-in-Item t c =
    rw (c.in-Item.is, in-Item) (c.item_at.ensures (tuple_in c.args.world.now c.args.known c.args.env.now c.in-Item.index) (rw c.as_slice.ensures at c.tuple_of.ensures))

pub value_of-returns-in-Ok-value_of : goal.value_of-returns-in-Ok-value_of
value_of-returns-in-Ok-value_of t c =
    let d = c.in-Some.definition.now in
    let tuple = rw c.as_slice-in-Call.ensures at c.in-Ok.ensures in
    let whole = called_value c.args.world.now c.args.known c.args.env.now c.in-Call.place c.in-Call.name c.in-Call.given _ c.in-Ok.given c.in-Some.position d c.in-Ok-bound.inner c.get.result.now tuple (c.in-Some.ensures.calls c.in-Call.place c.in-Ok.given) c.in-Ok-bound.ensures c.get.ensures in
    let all = ap (value_in c.args.world.now c.args.known c.args.env.now) c.in-Call.is ∙ whole ∙ ap (λ a. a >>= λ v. at_place c.in-Call.place (of_defined_kind d.kind v)) c.in-Ok-value_of.ensures ∙ ap (at_place c.in-Call.place) (sym c.of_defined_kind.ensures) in
    subst (λ (a : Answer Value Fault). Gives (λ v. v) eval_cause a c.kind_at-in-Ok-value_of.result) (sym all) c.kind_at-in-Ok-value_of.ensures

pub value_of-returns-in-Ok-bound : goal.value_of-returns-in-Ok-bound
value_of-returns-in-Ok-bound t c =
    let d = c.in-Some.definition.now in
    let tuple = rw c.as_slice-in-Call.ensures at c.in-Ok.ensures in
    let whole = called_value c.args.world.now c.args.known c.args.env.now c.in-Call.place c.in-Call.name c.in-Call.given _ c.in-Ok.given c.in-Some.position d c.in-Ok-bound.inner c.get.result.now tuple (c.in-Some.ensures.calls c.in-Call.place c.in-Ok.given) c.in-Ok-bound.ensures c.get.ensures in
    subst (λ (a : Answer Value Fault). Stops a (eval_cause c.in-Err-value_of.stop)) (sym (ap (value_in c.args.world.now c.args.known c.args.env.now) c.in-Call.is ∙ whole))
    (Stops-bind (value_in c.args.world.now c.in-Some.position c.in-Ok-bound.inner c.get.result.now) (λ v. at_place c.in-Call.place (of_defined_kind d.kind v)) (eval_cause c.in-Err-value_of.stop) c.in-Err-value_of.ensures)

pub value_of-returns-in-Func : goal.value_of-returns-in-Func
value_of-returns-in-Func t c =
    rw (c.in-Func.is, in-Func) (c.applied_of.ensures (values_in c.args.world.now c.args.known c.args.env.now c.in-Func.given) (rw c.as_slice-in-Func.ensures at c.values_of.ensures))

pub value_of-returns-in-Ok-true : goal.value_of-returns-in-Ok-true
value_of-returns-in-Ok-true t c =
    chosen_true c.args.world.now c.args.known c.args.env.now c.args.tree.now c.in-If.place c.in-If.test c.in-If.branch c.in-If.otherwise c.get-in-If.result.now c.get-in-Ok-true.result.now c.in-Ok-true.field-0 c.value_of-in-Ok-true.result c.in-If.is c.get-in-If.ensures c.get-in-Ok-true.ensures (c.in-Ok-true.ensures (value_in c.args.world.now c.args.known c.args.env.now c.get-in-If.result.now) c.value_of-in-If.ensures) c.in-Ok-true.field-0-test c.value_of-in-Ok-true.ensures

pub value_of-returns-in-Ok-false : goal.value_of-returns-in-Ok-false
value_of-returns-in-Ok-false t c =
    chosen_false c.args.world.now c.args.known c.args.env.now c.args.tree.now c.in-If.place c.in-If.test c.in-If.branch c.in-If.otherwise c.get-in-If.result.now c.get-in-Ok-false.result.now c.in-Ok-false.field-0 c.value_of-in-Ok-false.result c.in-If.is c.get-in-If.ensures c.get-in-Ok-false.ensures (c.in-Ok-false.ensures (value_in c.args.world.now c.args.known c.args.env.now c.get-in-If.result.now) c.value_of-in-If.ensures) c.in-Ok-false.field-0-test c.value_of-in-Ok-false.ensures

pub value_of-returns-in-If : goal.value_of-returns-in-If
value_of-returns-in-If t c =
    chosen_none c.args.world.now c.args.known c.args.env.now c.args.tree.now c.in-If.place c.in-If.test c.in-If.branch c.in-If.otherwise c.get-in-If.result.now (eval_cause c.in-Err-truth_at.stop) c.in-If.is c.get-in-If.ensures (c.in-Err-truth_at.ensures (value_in c.args.world.now c.args.known c.args.env.now c.get-in-If.result.now) c.value_of-in-If.ensures)

pub value_of-returns-in-Factorial : goal.value_of-returns-in-Factorial
value_of-returns-in-Factorial t c =
    rw (c.in-Factorial.is, in-Factorial, ← c.as_slice-in-Factorial.ensures) (c.factorials_of.ensures (value_in c.args.world.now c.args.known c.args.env.now c.in-Factorial.operand) (rw c.get-in-Factorial.ensures at c.value_of-in-Factorial.ensures))

pub value_of-returns-in-Power : goal.value_of-returns-in-Power
value_of-returns-in-Power t c =
    rw (c.in-Power.is, in-Power) (c.raised_of.ensures (value_in c.args.world.now c.args.known c.args.env.now c.in-Power.base) (signed_exponent c.in-Power.sign (value_in c.args.world.now c.args.known c.args.env.now c.in-Power.exponent)) (rw c.get-in-Power.ensures at c.value_of-in-Power.ensures)
    (c.exponent_of.ensures (value_in c.args.world.now c.args.known c.args.env.now c.in-Power.exponent) (rw c.get-in-Power-2.ensures at c.value_of-in-Power-2.ensures)))

pub value_of-returns-in-Signed : goal.value_of-returns-in-Signed
value_of-returns-in-Signed t c =
    rw (c.in-Signed.is, in-Signed) (c.signed_of.ensures (value_in c.args.world.now c.args.known c.args.env.now c.in-Signed.operand) (rw c.get-in-Signed.ensures at c.value_of-in-Signed.ensures))

pub value_of-returns-in-Compare : goal.value_of-returns-in-Compare
value_of-returns-in-Compare t c =
    rw (c.in-Compare.is, in-Compare) (c.compared_of.ensures (value_in c.args.world.now c.args.known c.args.env.now c.in-Compare.left) (value_in c.args.world.now c.args.known c.args.env.now c.in-Compare.right) (rw c.get-in-Compare.ensures at c.value_of-in-Compare.ensures) (rw c.get-in-Compare-2.ensures at c.value_of-in-Compare-2.ensures))

pub value_of-returns-in-Not : goal.value_of-returns-in-Not
value_of-returns-in-Not t c =
    rw (c.in-Not.is, in-Not) (c.negated_of.ensures (value_in c.args.world.now c.args.known c.args.env.now c.in-Not.operand) (rw c.get-in-Not.ensures at c.value_of-in-Not.ensures))

pub value_of-returns-in-Proj : goal.value_of-returns-in-Proj
value_of-returns-in-Proj t c =
    rw (c.in-Proj.is, in-Proj) (c.projected_of.ensures (value_in c.args.world.now c.args.known c.args.env.now c.in-Proj.set) (values_in c.args.world.now c.args.known c.args.env.now c.in-Proj.positions.items) (rw c.get-in-Proj.ensures at c.value_of-in-Proj.ensures) (rw c.as_slice-in-Proj.ensures at c.values_of-in-Proj.ensures))

pub value_of-returns-in-Member : goal.value_of-returns-in-Member
value_of-returns-in-Member t c =
    rw (c.in-Member.is, in-Member) (c.member_of.ensures (tuple_in c.args.world.now c.args.known c.args.env.now c.in-Member.tuple.items) (value_in c.args.world.now c.args.known c.args.env.now c.in-Member.set) (rw c.as_slice-in-Member.ensures at c.tuple_of-in-Member.ensures) (rw c.get-in-Member.ensures at c.value_of-in-Member.ensures))

pub conjuncts_of-loop-other-init : goal.conjuncts_of-loop-other-init
unfolding conjuncts_in
conjuncts_of-loop-other-init t c = refl

pub conjuncts_of-returns-in-Err : goal.conjuncts_of-returns-in-Err
conjuncts_of-returns-in-Err t c =
    stop_at (conjunct_in c.args.world.now c.args.known c.args.env.now) c.loop-other.value c.args.others.now c.loop-other.other-index c.other-item.result (eval_cause c.in-Err.stop) (conjuncts_in c.args.world.now c.args.known c.args.env.now c.args.first c.args.others.now) c.loop-other-test.true c.other-item.is c.in-Err.ensures c.loop-other.invariant

pub conjuncts_of-loop-other-preserved : goal.conjuncts_of-loop-other-preserved
conjuncts_of-loop-other-preserved t c =
    next_at (conjunct_in c.args.world.now c.args.known c.args.env.now) c.loop-other.value c.in-Ok.next c.args.others.now c.loop-other.other-index c.other-item.result (conjuncts_in c.args.world.now c.args.known c.args.env.now c.args.first c.args.others.now) c.loop-other-test.true c.other-item.is c.in-Ok.ensures c.loop-other.invariant

pub conjuncts_of-returns : goal.conjuncts_of-returns
conjuncts_of-returns t c = goes_done (conjunct_in c.args.world.now c.args.known c.args.env.now) c.loop-other.value c.args.others.now c.loop-other.other-index (conjuncts_in c.args.world.now c.args.known c.args.env.now c.args.first c.args.others.now) c.loop-other-test.false c.loop-other.invariant

pub disjuncts_of-loop-other-init : goal.disjuncts_of-loop-other-init
unfolding disjuncts_in
disjuncts_of-loop-other-init t c = refl

pub disjuncts_of-returns-in-Err : goal.disjuncts_of-returns-in-Err
disjuncts_of-returns-in-Err t c =
    stop_at (disjunct_in c.args.world.now c.args.known c.args.env.now) c.loop-other.value c.args.others.now c.loop-other.other-index c.other-item.result (eval_cause c.in-Err.stop) (disjuncts_in c.args.world.now c.args.known c.args.env.now c.args.first c.args.others.now) c.loop-other-test.true c.other-item.is c.in-Err.ensures c.loop-other.invariant

pub disjuncts_of-loop-other-preserved : goal.disjuncts_of-loop-other-preserved
disjuncts_of-loop-other-preserved t c =
    next_at (disjunct_in c.args.world.now c.args.known c.args.env.now) c.loop-other.value c.in-Ok.next c.args.others.now c.loop-other.other-index c.other-item.result (disjuncts_in c.args.world.now c.args.known c.args.env.now c.args.first c.args.others.now) c.loop-other-test.true c.other-item.is c.in-Ok.ensures c.loop-other.invariant

pub disjuncts_of-returns : goal.disjuncts_of-returns
disjuncts_of-returns t c = goes_done (disjunct_in c.args.world.now c.args.known c.args.env.now) c.loop-other.value c.args.others.now c.loop-other.other-index (disjuncts_in c.args.world.now c.args.known c.args.env.now c.args.first c.args.others.now) c.loop-other-test.false c.loop-other.invariant

pub conjunct_of-returns-in-Ok-true : goal.conjunct_of-returns-in-Ok-true
conjunct_of-returns-in-Ok-true t c =
    conjunct_true c.args.world.now c.args.known c.args.env.now c.args.value.now c.args.next.now c.in-Ok-true.field-0 c.truth_of.result c.truth_value.result c.truth_of.ensures c.in-Ok-true.ensures c.in-Ok-true.field-0-test
    (c.truth_value.ensures ((value_in c.args.world.now c.args.known c.args.env.now c.args.next.now.1) >>= λ v. at_place c.args.next.now.0 (truth_of_value v)) (c.truth_at.ensures (value_in c.args.world.now c.args.known c.args.env.now c.args.next.now.1) c.value_of.ensures))

pub disjunct_of-returns-then-next : goal.disjunct_of-returns-then-next
disjunct_of-returns-then-next t c =
    disjunct_xor c.args.world.now c.args.known c.args.env.now c.args.value.now c.args.next.now c.differing.result c.if-next.true (c.differing.ensures (value_in c.args.world.now c.args.known c.args.env.now c.args.next.now.2) c.value_of.ensures)

pub disjunct_of-returns-in-Ok-false : goal.disjunct_of-returns-in-Ok-false
disjunct_of-returns-in-Ok-false t c =
    disjunct_false c.args.world.now c.args.known c.args.env.now c.args.value.now c.args.next.now c.in-Ok-false.field-0 c.truth_of.result c.truth_value.result c.if-next.false c.truth_of.ensures c.in-Ok-false.ensures c.in-Ok-false.field-0-test
    (c.truth_value.ensures ((value_in c.args.world.now c.args.known c.args.env.now c.args.next.now.2) >>= λ v. at_place c.args.next.now.0 (truth_of_value v)) (c.truth_at.ensures (value_in c.args.world.now c.args.known c.args.env.now c.args.next.now.2) c.value_of-in-Ok-false.ensures))

-- ---- braces and indices

pub tuples_of-loop-tree-init : goal.tuples_of-loop-tree-init
unfolding tuples_in
tuples_of-loop-tree-init t c = ap (λ made. goes (with_tuple_in c.args.world.now c.args.known c.args.env.now) made c.args.trees.now) c.new-made.ensures

pub tuples_of-returns-in_err-add_answer : goal.tuples_of-returns-in_err-add_answer
tuples_of-returns-in_err-add_answer t c =
    let p = err_from_is_err_and c.from_residual.result c.from_residual.ensures.1 in
    rw (p.1, p.2)
    (stop_at (with_tuple_in c.args.world.now c.args.known c.args.env.now) c.loop-tree.made c.args.trees.now c.loop-tree.tree-index c.tree-item.result (eval_cause c.in_err-add_answer.field-0.0) (tuples_in c.args.world.now c.args.known c.args.env.now c.args.trees.now) c.loop-tree-test.true c.tree-item.is
    (c.in_err-add_answer.ensures (tuple_in c.args.world.now c.args.known c.args.env.now (out-TAngle c.tree-item.result).items) (rw c.as_slice.ensures at c.tuple_of.ensures)) c.loop-tree.invariant)

pub tuples_of-loop-tree-preserved : goal.tuples_of-loop-tree-preserved
tuples_of-loop-tree-preserved t c =
    next_at (with_tuple_in c.args.world.now c.args.known c.args.env.now) c.loop-tree.made c.add_answer.new.made c.args.trees.now c.loop-tree.tree-index c.tree-item.result (tuples_in c.args.world.now c.args.known c.args.env.now c.args.trees.now) c.loop-tree-test.true c.tree-item.is
    (c.in_ok-add_answer.ensures (tuple_in c.args.world.now c.args.known c.args.env.now (out-TAngle c.tree-item.result).items) (rw c.as_slice.ensures at c.tuple_of.ensures)) c.loop-tree.invariant

pub tuples_of-returns : goal.tuples_of-returns
tuples_of-returns t c = goes_done (with_tuple_in c.args.world.now c.args.known c.args.env.now) c.loop-tree.made c.args.trees.now c.loop-tree.tree-index (tuples_in c.args.world.now c.args.known c.args.env.now c.args.trees.now) c.loop-tree-test.false c.loop-tree.invariant

pub slots_of-loop-slot-init : goal.slots_of-loop-slot-init
unfolding slots_in
slots_of-loop-slot-init t c = ap (λ made. goes (with_slot_in c.args.world.now c.args.known c.args.env.now) made c.args.slots.now) c.new-made.ensures

pub slots_of-returns-in_err-add_answer : goal.slots_of-returns-in_err-add_answer
slots_of-returns-in_err-add_answer t c =
    let p = err_from_is_err_and c.from_residual.result c.from_residual.ensures.1 in
    rw (p.1, p.2)
    (stop_at (with_slot_in c.args.world.now c.args.known c.args.env.now) c.loop-slot.made c.args.slots.now c.loop-slot.slot-index c.slot-item.result (eval_cause c.in_err-add_answer.field-0.0) (slots_in c.args.world.now c.args.known c.args.env.now c.args.slots.now) c.loop-slot-test.true c.slot-item.is
    (c.in_err-add_answer.ensures (slot_in c.args.world.now c.args.known c.args.env.now c.slot-item.result) c.slot_of.ensures) c.loop-slot.invariant)

pub slots_of-loop-slot-preserved : goal.slots_of-loop-slot-preserved
slots_of-loop-slot-preserved t c =
    next_at (with_slot_in c.args.world.now c.args.known c.args.env.now) c.loop-slot.made c.add_answer.new.made c.args.slots.now c.loop-slot.slot-index c.slot-item.result (slots_in c.args.world.now c.args.known c.args.env.now c.args.slots.now) c.loop-slot-test.true c.slot-item.is
    (c.in_ok-add_answer.ensures (slot_in c.args.world.now c.args.known c.args.env.now c.slot-item.result) c.slot_of.ensures) c.loop-slot.invariant

pub slots_of-returns : goal.slots_of-returns
slots_of-returns t c = goes_done (with_slot_in c.args.world.now c.args.known c.args.env.now) c.loop-slot.made c.args.slots.now c.loop-slot.slot-index (slots_in c.args.world.now c.args.known c.args.env.now c.args.slots.now) c.loop-slot-test.false c.loop-slot.invariant

pub choices_among-loop-tuple-init : goal.choices_among-loop-tuple-init
unfolding among_in
choices_among-loop-tuple-init t c = ap (λ made. goes (with_choice_in c.args.world.now c.args.known c.args.env.now c.args.index.now c.args.slots.now) made c.args.tuples.now) c.new-chosen.ensures

pub choices_among-returns-in_err-add_choice : goal.choices_among-returns-in_err-add_choice
choices_among-returns-in_err-add_choice t c =
    let p = err_from_is_err_and c.from_residual.result c.from_residual.ensures.1 in
    rw (p.1, p.2)
    (stop_at (with_choice_in c.args.world.now c.args.known c.args.env.now c.args.index.now c.args.slots.now) c.loop-tuple.chosen c.args.tuples.now c.loop-tuple.tuple-index c.tuple-item.result (eval_cause c.in_err-add_choice.field-0.0) (among_in c.args.world.now c.args.known c.args.env.now c.args.index.now c.args.slots.now c.args.tuples.now) c.loop-tuple-test.true c.tuple-item.is
    (c.in_err-add_choice.ensures (choice_in c.args.world.now c.args.known c.args.env.now c.args.index.now c.args.slots.now c.tuple-item.result) c.choice_of.ensures) c.loop-tuple.invariant)

pub choices_among-loop-tuple-preserved : goal.choices_among-loop-tuple-preserved
choices_among-loop-tuple-preserved t c =
    next_at (with_choice_in c.args.world.now c.args.known c.args.env.now c.args.index.now c.args.slots.now) c.loop-tuple.chosen c.add_choice.new.chosen c.args.tuples.now c.loop-tuple.tuple-index c.tuple-item.result (among_in c.args.world.now c.args.known c.args.env.now c.args.index.now c.args.slots.now c.args.tuples.now) c.loop-tuple-test.true c.tuple-item.is
    (c.in_ok-add_choice.ensures (choice_in c.args.world.now c.args.known c.args.env.now c.args.index.now c.args.slots.now c.tuple-item.result) c.choice_of.ensures) c.loop-tuple.invariant

pub choices_among-returns : goal.choices_among-returns
choices_among-returns t c = goes_done (with_choice_in c.args.world.now c.args.known c.args.env.now c.args.index.now c.args.slots.now) c.loop-tuple.chosen c.args.tuples.now c.loop-tuple.tuple-index (among_in c.args.world.now c.args.known c.args.env.now c.args.index.now c.args.slots.now c.args.tuples.now) c.loop-tuple-test.false c.loop-tuple.invariant

pub gathered_of-loop-choice-init : goal.gathered_of-loop-choice-init
gathered_of-loop-choice-init t c = refl

pub gathered_of-returns-in-Err : goal.gathered_of-returns-in-Err
unfolding gathering_in
gathered_of-returns-in-Err t c =
    Stops-bind (goes (gathering_step c.args.world.now c.args.known c.args.tree.now c.args.place) c.args.start c.args.choices.now) (λ last. at_place c.args.place (gathering_value last)) (eval_cause c.in-Err.stop)
    (stop_at (gathering_step c.args.world.now c.args.known c.args.tree.now c.args.place) c.loop-choice.state c.args.choices.now c.loop-choice.choice-index c.choice-item.result (eval_cause c.in-Err.stop) (goes (gathering_step c.args.world.now c.args.known c.args.tree.now c.args.place) c.args.start c.args.choices.now) c.loop-choice-test.true c.choice-item.is
    (c.in-Err.ensures (value_in c.args.world.now c.args.known c.choice-item.result.env c.args.tree.now) c.value_of.ensures) c.loop-choice.invariant)

pub gathered_of-loop-choice-preserved : goal.gathered_of-loop-choice-preserved
gathered_of-loop-choice-preserved t c =
    next_at (gathering_step c.args.world.now c.args.known c.args.tree.now c.args.place) c.loop-choice.state c.in-Ok.next c.args.choices.now c.loop-choice.choice-index c.choice-item.result (goes (gathering_step c.args.world.now c.args.known c.args.tree.now c.args.place) c.args.start c.args.choices.now) c.loop-choice-test.true c.choice-item.is
    (c.in-Ok.ensures (value_in c.args.world.now c.args.known c.choice-item.result.env c.args.tree.now) c.value_of.ensures) c.loop-choice.invariant

pub gathered_of-returns : goal.gathered_of-returns
unfolding gathering_in
gathered_of-returns t c =
    rw (goes_done (gathering_step c.args.world.now c.args.known c.args.tree.now c.args.place) c.loop-choice.state c.args.choices.now c.loop-choice.choice-index (goes (gathering_step c.args.world.now c.args.known c.args.tree.now c.args.place) c.args.start c.args.choices.now) c.loop-choice-test.false c.loop-choice.invariant) c.end_of.ensures

pub body_of-returns-in-Members : goal.body_of-returns-in-Members
body_of-returns-in-Members t c =
    rw (c.in-Members.is, in-Members) (c.members_of.ensures (values_in c.args.world.now c.args.known c.args.env.now c.in-Members.members) (rw c.as_slice.ensures at c.values_of.ensures))

pub body_of-returns-in-Tuples : goal.body_of-returns-in-Tuples
body_of-returns-in-Tuples t c =
    rw (c.in-Tuples.is, in-Tuples) (c.listed_of.ensures (tuples_in c.args.world.now c.args.known c.args.env.now c.in-Tuples.tuples) (rw c.as_slice-in-Tuples.ensures at c.tuples_of.ensures))

pub body_of-returns-in-Those : goal.body_of-returns-in-Those
body_of-returns-in-Those t c =
    rw (c.in-Those.is, in-Those) (c.chosen_set.ensures (choices_in c.args.world.now c.args.known c.args.env.now c.in-Those.index) (rw c.get.ensures at c.choices_of.ensures.answer))

pub body_of-returns-in-Some : goal.body_of-returns-in-Some
body_of-returns-in-Some t c =
    spanned c.args.world.now c.args.known c.args.env.now c.args.place c.args.body.now c.in-Span.from c.in-Span._with_to c.in-Span.to c.in-Span.by c.get-in-Some.result.now c.get-in-Some-2.result.now (value_in c.args.world.now c.args.known c.args.env.now c.get-in-Some-3.result.now) c.span_of.result
    c.in-Span.is c.get-in-Some.ensures c.get-in-Some-2.ensures (rw c.in-Some.is (ap (value_in c.args.world.now c.args.known c.args.env.now) c.get-in-Some-3.ensures))
    (c.span_of.ensures (value_in c.args.world.now c.args.known c.args.env.now c.get-in-Some.result.now) (value_in c.args.world.now c.args.known c.args.env.now c.get-in-Some-2.result.now) (value_in c.args.world.now c.args.known c.args.env.now c.get-in-Some-3.result.now) c.value_of.ensures c.value_of-in-Some.ensures c.value_of-in-Some-2.ensures)

pub body_of-returns-in-None : goal.body_of-returns-in-None
body_of-returns-in-None t c =
    spanned c.args.world.now c.args.known c.args.env.now c.args.place c.args.body.now c.in-Span.from c.in-Span._with_to c.in-Span.to c.in-Span.by c.get-in-None.result.now c.get-in-None-2.result.now (Ok (of_value.Number one)) c.span_of-in-None.result
    c.in-Span.is c.get-in-None.ensures c.get-in-None-2.ensures (rw c.in-None.is refl)
    (c.span_of-in-None.ensures (value_in c.args.world.now c.args.known c.args.env.now c.get-in-None.result.now) (value_in c.args.world.now c.args.known c.args.env.now c.get-in-None-2.result.now) (Ok (of_value.Number one)) c.value_of-in-None.ensures c.value_of-in-None-2.ensures (rw c.one.ensures refl))

pub choice_of-returns-in-Ok-Some : goal.choice_of-returns-in-Ok-Some
choice_of-returns-in-Ok-Some t c =
    kept_choice c.args.world.now c.args.known c.args.env.now c.args.index.now c.args.slots.now c.args.tuple.now c.in-Ok-Some.field-0 c.in-Ok-Some.inner c.kept_where.result c.in-Ok-Some.ensures c.in-Ok-Some.field-0-is
    (c.kept_where.ensures (passes_in c.args.world.now c.args.known c.in-Ok-Some.inner c.args.index.now) c.passes-passes.ensures)

pub passes-returns-in-Some : goal.passes-returns-in-Some
passes-returns-in-Some t c =
    tested c.args.world.now c.args.known c.args.env.now c.args.index.now c.in-Some.cond c.get.result.now c.truth_at.result c.in-Some.is c.get.ensures (c.truth_at.ensures (value_in c.args.world.now c.args.known c.args.env.now c.get.result.now) c.value_of.ensures)

pub slot_of-returns-in-Fixed : goal.slot_of-returns-in-Fixed
slot_of-returns-in-Fixed t c =
    fixed_value c.args.world.now c.args.known c.args.env.now c.args.slot.now c.in-Fixed.tree c.get.result.now c.get-in-Fixed.result.now c.first_place.result c.fixed_slot.result c.in-Fixed.is c.get.ensures c.first_place.ensures c.get-in-Fixed.ensures
    (c.fixed_slot.ensures (value_in c.args.world.now c.args.known c.args.env.now c.get-in-Fixed.result.now) c.value_of.ensures)

pub choices_of-returns-in-Ok-fitting_set-clause-answer : goal.choices_of-returns-in-Ok-fitting_set-clause-answer
choices_of-returns-in-Ok-fitting_set-clause-answer t c =
    all_given c.args.world.now c.args.known c.args.env.now c.args.index.now c.as_slice.result.now c.in-Ok.slots c.as_slice-in-Ok-value_of.result.now c.as_slice-in-Ok-fitting_set.result.now c.get.result.now c.in-Ok-value_of.value c.in-Ok-fitting_set.set.now c.as_slice-in-Ok-fitting_set-2.result.now c.choices_among.result
    c.as_slice.ensures c.in-Ok.ensures c.get.ensures c.in-Ok-value_of.ensures c.as_slice-in-Ok-value_of.ensures c.in-Ok-fitting_set.ensures c.as_slice-in-Ok-fitting_set.ensures c.as_slice-in-Ok-fitting_set-2.ensures.value c.choices_among.ensures

pub choices_of-returns-in-Ok-fitting_set-clause-set : goal.choices_of-returns-in-Ok-fitting_set-clause-set
choices_of-returns-in-Ok-fitting_set-clause-set t c =
    chosen_sets c.args.world.now c.args.known c.args.env.now c.args.index.now c.as_slice-in-Ok-fitting_set.result.now c.as_slice-in-Ok-fitting_set-2.result.now c.choices_among.result (subst IsSet (sym c.as_slice-in-Ok-fitting_set-2.ensures.value) c.as_slice-in-Ok-fitting_set-2.ensures.set) c.choices_among.ensures

pub choices_of-returns-in-Ok-value_of-clause-answer : goal.choices_of-returns-in-Ok-value_of-clause-answer
choices_of-returns-in-Ok-value_of-clause-answer t c =
    fit_stop c.args.world.now c.args.known c.args.env.now c.args.index.now c.as_slice.result.now c.in-Ok.slots c.as_slice-in-Ok-value_of.result.now c.get.result.now c.in-Ok-value_of.value (eval_cause c.in-Err-fitting_set.stop)
    c.as_slice.ensures c.in-Ok.ensures c.get.ensures c.in-Ok-value_of.ensures c.as_slice-in-Ok-value_of.ensures c.in-Err-fitting_set.ensures

pub choices_of-returns-in-Ok-clause-answer : goal.choices_of-returns-in-Ok-clause-answer
choices_of-returns-in-Ok-clause-answer t c =
    value_stop c.args.world.now c.args.known c.args.env.now c.args.index.now c.as_slice.result.now c.in-Ok.slots c.get.result.now (eval_cause c.in-Err-value_of.stop) c.as_slice.ensures c.in-Ok.ensures c.get.ensures c.in-Err-value_of.ensures

pub choices_of-returns-clause-answer : goal.choices_of-returns-clause-answer
choices_of-returns-clause-answer t c = slots_stop c.args.world.now c.args.known c.args.env.now c.args.index.now c.as_slice.result.now (eval_cause c.in-Err.stop) c.as_slice.ensures c.in-Err.ensures
