-- What each form of a term makes, by what its parts make.
use Rattle.std.proofs.Common.{IsTrue, length, arith, ap, sym, ◌∙◌}
use Rattle.std.proofs.lemmas.Result.{err_from_is_err_and}
use Rattle.zim_rational.specs.Rational.{zero}
use Rattle.zim_forms.specs.Algebra.{known}
use Rattle.zim_vabs.proofs.OverTermLaws.{operand_here, member_here, sum_operands, sum_first, product_term, minus_term, sum_members, absolute_inner}
use Rattle.zim_formula.specs.GroundRules.{is_term_over}
use Rattle.zim_vabs.proofs.TermCallLemmas.{turn_stops, turn_gives, turn_past, member_stops, member_gives, member_past, grown, made_over, sum_told, sum_over_told, product_gives, sum_stops, sum_goes_on, sum_ends, members_stop, members_go_on, members_end, nought_is, given_is}
use Rattle.zim_vabs.proofs.WeightLemmas.{weight, operands_weigh, members_weigh, weight-Sum, weight-Product, weight-Minus, weight-SumOver, weight-Abs, operand_weighs, member_weighs}
use Rattle.zim_vabs.proofs.terms.+term.Goals as goal

pub absolute_term-absolute_of-requires : goal.absolute_term-absolute_of-requires
absolute_term-absolute_of-requires t c =
    made_over c.args.from.statement c.args.t.now c.args.system.now _ _ c.valid.ensures c.requires c.in_ok-form.ensures

pub term-returns-in_ok-form-in-Product : goal.term-returns-in_ok-form-in-Product
term-returns-in_ok-form-in-Product t c =
    rw c.in-Product.is
    (product_gives c.args.statement c.in-Product.factor c.in-Product.t c.in-Product.others c.args.system.now _ c.in_ok-form-in-Product.form _ (rw (sym c.get-in-Product.ensures) c.in_ok-form-in-Product.ensures) (rw (sym c.as_slice-in-Product.ensures) c.product.ensures))

pub term-returns-in-SumOver : goal.term-returns-in-SumOver
term-returns-in-SumOver t c =
    rw c.in-SumOver.is (sum_over_told c.args.statement c.in-SumOver.place c.in-SumOver.members c.args.system.now _ _ (rw (sym c.as_slice-in-SumOver.ensures) c.sum_over.ensures))

pub sum-returns-in_err-form : goal.sum-returns-in_err-form
sum-returns-in_err-form t c =
    let p = err_from_is_err_and c.from_residual.result c.from_residual.ensures.1 in
    rw (p.1, p.2)
    (sum_stops c.args.statement (length c.args.system.now.columns) c.args.others.now (c.of-sum.result, c.args.system.now) c.loop-operand.system c.loop-operand.sum c.loop-operand.operand-index c.operand-item.result _ (c.args.first, c.args.system.now) c.loop-operand-test.true c.operand-item.is c.loop-operand.invariant (given_is c.of-sum.result c.args.first c.args.system.now c.of-sum.ensures)
    (turn_stops c.args.statement c.loop-operand.sum c.loop-operand.system c.operand-item.result _ c.in_err-form.ensures))

pub sum-returns-in_err-add_signed : goal.sum-returns-in_err-add_signed
sum-returns-in_err-add_signed t c =
    let p = err_from_is_err_and c.from_residual-in_err-add_signed.result c.from_residual-in_err-add_signed.ensures.1 in
    rw (p.1, p.2)
    (sum_stops c.args.statement (length c.args.system.now.columns) c.args.others.now (c.of-sum.result, c.args.system.now) c.loop-operand.system c.loop-operand.sum c.loop-operand.operand-index c.operand-item.result _ (c.args.first, c.args.system.now) c.loop-operand-test.true c.operand-item.is c.loop-operand.invariant (given_is c.of-sum.result c.args.first c.args.system.now c.of-sum.ensures)
    (turn_past c.args.statement c.loop-operand.sum c.loop-operand.system _ c.operand-item.result _ _ c.in_ok-form.ensures c.in_err-add_signed.ensures))

pub sum-loop-operand-preserved : goal.sum-loop-operand-preserved
sum-loop-operand-preserved t c =
    sum_goes_on c.args.statement (length c.args.system.now.columns) c.args.others.now _ c.loop-operand.system c.term.new.system c.loop-operand.sum c.add_signed.new.sum c.loop-operand.operand-index c.operand-item.result c.loop-operand-test.true c.operand-item.is c.loop-operand.invariant
    (turn_gives c.args.statement c.loop-operand.sum c.loop-operand.system _ c.operand-item.result _ _ c.in_ok-form.ensures c.in_ok-add_signed.ensures)
    (grown c.args.statement c.operand-item.result.2 c.loop-operand.system _ _ c.valid.ensures (operand_here (length c.args.system.now.columns) (length c.loop-operand.system.columns) c.args.others.now c.loop-operand.operand-index c.operand-item.result c.loop-operand.invariant.grown c.loop-operand-test.true c.operand-item.is c.requires) c.in_ok-form.ensures)

pub sum-returns : goal.sum-returns
sum-returns t c =
    rw c.in_ok-into_form.ensures
    (sum_ends c.args.statement (length c.args.system.now.columns) c.args.others.now (c.of-sum.result, c.args.system.now) c.loop-operand.system c.loop-operand.sum c.loop-operand.operand-index (c.args.first, c.args.system.now) (omega (arith, c.loop-operand-test.false)) c.loop-operand.invariant (given_is c.of-sum.result c.args.first c.args.system.now c.of-sum.ensures))

pub sum_over-returns-in_err-form : goal.sum_over-returns-in_err-form
sum_over-returns-in_err-form t c =
    let p = err_from_is_err_and c.from_residual.result c.from_residual.ensures.1 in
    rw (p.1, p.2)
    (members_stop c.args.statement (length c.args.system.now.columns) c.args.place (c.of-sum.result, c.args.system.now) c.args.members.now c.loop-member.system c.loop-member.sum c.loop-member.member-index c.member-item.result _ (known zero, c.args.system.now) c.loop-member-test.true c.member-item.is c.loop-member.invariant (nought_is c.of-sum.result c.constant.result c.zero.result c.args.system.now c.zero.ensures c.constant.ensures c.of-sum.ensures)
    (member_stops c.args.statement c.args.place c.loop-member.sum c.loop-member.system c.member-item.result _ c.in_err-form.ensures))

pub sum_over-returns-in_err-add : goal.sum_over-returns-in_err-add
sum_over-returns-in_err-add t c =
    let p = err_from_is_err_and c.from_residual-in_err-add.result c.from_residual-in_err-add.ensures.1 in
    rw (p.1, p.2)
    (members_stop c.args.statement (length c.args.system.now.columns) c.args.place (c.of-sum.result, c.args.system.now) c.args.members.now c.loop-member.system c.loop-member.sum c.loop-member.member-index c.member-item.result _ (known zero, c.args.system.now) c.loop-member-test.true c.member-item.is c.loop-member.invariant (nought_is c.of-sum.result c.constant.result c.zero.result c.args.system.now c.zero.ensures c.constant.ensures c.of-sum.ensures)
    (member_past c.args.statement c.args.place c.loop-member.sum c.loop-member.system _ c.member-item.result _ _ c.in_ok-form.ensures c.in_err-add.ensures))

pub sum_over-loop-member-preserved : goal.sum_over-loop-member-preserved
sum_over-loop-member-preserved t c =
    members_go_on c.args.statement (length c.args.system.now.columns) c.args.place _ c.args.members.now c.loop-member.system c.term.new.system c.loop-member.sum c.add.new.sum c.loop-member.member-index c.member-item.result c.loop-member-test.true c.member-item.is c.loop-member.invariant
    (member_gives c.args.statement c.args.place c.loop-member.sum c.loop-member.system _ c.member-item.result _ _ c.in_ok-form.ensures c.in_ok-add.ensures)
    (grown c.args.statement c.member-item.result c.loop-member.system _ _ c.valid.ensures (member_here (length c.args.system.now.columns) (length c.loop-member.system.columns) c.args.members.now c.loop-member.member-index c.member-item.result c.loop-member.invariant.grown c.loop-member-test.true c.member-item.is c.requires) c.in_ok-form.ensures)

pub sum_over-returns : goal.sum_over-returns
sum_over-returns t c =
    rw c.in_ok-into_form.ensures
    (members_end c.args.statement (length c.args.system.now.columns) c.args.place (c.of-sum.result, c.args.system.now) c.args.members.now c.loop-member.system c.loop-member.sum c.loop-member.member-index (known zero, c.args.system.now) (omega (arith, c.loop-member-test.false)) c.loop-member.invariant (nought_is c.of-sum.result c.constant.result c.zero.result c.args.system.now c.zero.ensures c.constant.ensures c.of-sum.ensures))

pub sum-term-requires : goal.sum-term-requires
sum-term-requires t c =
    let small = operand_weighs c.args.others.now c.loop-operand.operand-index c.operand-item.result c.loop-operand-test.true c.operand-item.is in
    let over = operand_here (length c.args.system.now.columns) (length c.loop-operand.system.columns) c.args.others.now c.loop-operand.operand-index c.operand-item.result c.loop-operand.invariant.grown c.loop-operand-test.true c.operand-item.is c.requires in
    (omega (arith, c.decreases), over)

pub sum_over-term-requires : goal.sum_over-term-requires
sum_over-term-requires t c =
    let small = member_weighs c.args.members.now c.loop-member.member-index c.member-item.result c.loop-member-test.true c.member-item.is in
    let over = member_here (length c.args.system.now.columns) (length c.loop-member.system.columns) c.args.members.now c.loop-member.member-index c.member-item.result c.loop-member.invariant.grown c.loop-member-test.true c.member-item.is c.requires in
    (omega (arith, c.decreases), over)

pub term-sum-requires : goal.term-sum-requires
term-sum-requires t c =
    let small = ap weight c.in-Sum.is ∙ weight-Sum c.in-Sum.first c.in-Sum.others in
    let same = ap operands_weigh c.as_slice.ensures in
    let first : IsTrue (is_term_over (length c.args.system.now.columns) c.get.result.now) = rw c.get.ensures (sum_first (length c.args.system.now.columns) c.args.t.now c.in-Sum.first c.in-Sum.others c.in-Sum.is c.requires) in
    let more = grown c.args.statement c.get.result.now c.args.system.now _ _ c.valid.ensures first c.in_ok-form-in-Sum.ensures in
    (omega (arith, c.decreases), rw c.as_slice.ensures (sum_operands (length c.args.system.now.columns) (length c.term.new.system.columns) c.args.t.now c.in-Sum.first c.in-Sum.others more c.in-Sum.is c.requires))

pub term-returns-in_ok-form-in-Sum : goal.term-returns-in_ok-form-in-Sum
term-returns-in_ok-form-in-Sum t c =
    rw c.in-Sum.is
    (sum_told c.args.statement c.in-Sum.first c.in-Sum.others c.args.system.now c.term.new.system _ c.in_ok-form-in-Sum.form _ (rw (sym c.get.ensures) c.in_ok-form-in-Sum.ensures) (rw (sym c.as_slice.ensures) c.sum.ensures))

pub term-term-requires : goal.term-term-requires
term-term-requires t c =
    let small = ap weight c.in-Sum.is ∙ weight-Sum c.in-Sum.first c.in-Sum.others in
    let same = ap weight c.get.ensures in
    (omega (arith, c.decreases), rw c.get.ensures (sum_first (length c.args.system.now.columns) c.args.t.now c.in-Sum.first c.in-Sum.others c.in-Sum.is c.requires))

pub term-term-requires-in-Product : goal.term-term-requires-in-Product
term-term-requires-in-Product t c =
    let small = ap weight c.in-Product.is ∙ weight-Product c.in-Product.factor c.in-Product.t c.in-Product.others in
    let same = ap weight c.get-in-Product.ensures in
    (omega (arith, c.decreases), rw c.get-in-Product.ensures (product_term (length c.args.system.now.columns) c.args.t.now c.in-Product.t c.in-Product.factor c.in-Product.others c.in-Product.is c.requires))

pub term-term-requires-in-Minus : goal.term-term-requires-in-Minus
term-term-requires-in-Minus t c =
    let small = ap weight c.in-Minus.is ∙ weight-Minus c.in-Minus.field-0 c.in-Minus.t in
    let same = ap weight c.get-in-Minus.ensures in
    (omega (arith, c.decreases), rw c.get-in-Minus.ensures (minus_term (length c.args.system.now.columns) c.args.t.now c.in-Minus.t c.in-Minus.field-0 c.in-Minus.is c.requires))

pub term-sum_over-requires : goal.term-sum_over-requires
term-sum_over-requires t c =
    let small = ap weight c.in-SumOver.is ∙ weight-SumOver c.in-SumOver.place c.in-SumOver.members in
    let same = ap members_weigh c.as_slice-in-SumOver.ensures in
    (omega (arith, c.decreases), rw c.as_slice-in-SumOver.ensures (sum_members (length c.args.system.now.columns) c.args.t.now c.in-SumOver.place c.in-SumOver.members c.in-SumOver.is c.requires))

pub term-absolute_term-requires : goal.term-absolute_term-requires
term-absolute_term-requires t c =
    let small = ap weight c.in-Abs.is ∙ weight-Abs c.in-Abs.place c.in-Abs.t in
    let same = ap weight c.get-in-Abs.ensures in
    (omega (arith, c.decreases), rw c.get-in-Abs.ensures (absolute_inner (length c.args.system.now.columns) c.args.t.now c.in-Abs.t c.in-Abs.place c.in-Abs.is c.requires))
