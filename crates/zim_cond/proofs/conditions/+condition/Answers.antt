-- What each form of a condition makes, by what its parts make.
use Rattle.std.proofs.Common.{IsTrue, length, ◌≤◌, ◌<◌, arith, ap, sym, ◌∙◌}
use Rattle.std.proofs.lemmas.Result.{err_from_is_err_and}
use Rattle.zim_formula.specs.GroundRules.{is_condition_over}
use Rattle.zim_cond.proofs.OverConditionLaws.{operand_here, all_operands_more, chain_parts, not_operand}
use Rattle.zim_cond.proofs.ConditionCallLemmas.{condition_literal, grown, chain_made, turn_stops, turn_refused, chain_turn_stops, chain_goes_on, chain_ends}
use Rattle.zim_cond.proofs.ConditionWeightLemmas.{weight, joined_weigh, weight-Chain, weight-Not, operand_weighs}
use Rattle.zim_cond.proofs.conditions.+condition.Goals as goal

pub chain-condition-requires : goal.chain-condition-requires
chain-condition-requires t c =
    let small = operand_weighs c.args.others.now c.loop-operand.operand-index c.operand-item.result c.loop-operand-test.true c.operand-item.is in
    let over = operand_here (length c.args.system.now.columns) (length c.loop-operand.system.columns) c.args.others.now c.loop-operand.operand-index c.operand-item.result c.loop-operand.invariant.grown c.loop-operand-test.true c.operand-item.is c.requires.over in
    (omega (arith, c.decreases), over)

pub chain-returns-in_err-q : goal.chain-returns-in_err-q
chain-returns-in_err-q t c =
    let p = err_from_is_err_and c.from_residual.result c.from_residual.ensures.1 in
    rw (p.1, p.2)
    (chain_turn_stops c.args.from (length c.args.system.now.columns) c.args.others.now (c.args.first, c.args.system.now) c.loop-operand.system c.loop-operand.p c.loop-operand.operand-index c.operand-item.result _ c.loop-operand-test.true c.operand-item.is c.loop-operand.invariant
    (turn_stops c.args.from c.loop-operand.p c.loop-operand.system c.operand-item.result _ c.in_err-q.ensures))

pub chain-joined-requires-clause-in_order : goal.chain-joined-requires-clause-in_order
chain-joined-requires-clause-in_order t c =
    let over = operand_here (length c.args.system.now.columns) (length c.loop-operand.system.columns) c.args.others.now c.loop-operand.operand-index c.operand-item.result c.loop-operand.invariant.grown c.loop-operand-test.true c.operand-item.is c.requires.over in
    let made = condition_literal c.loop-operand.system c.args.from c.operand-item.result.2 c.in_ok-q.q c.condition.new.system c.valid.ensures over c.in_ok-q.ensures in
    let few : c.loop-operand.p.column ≤ length c.loop-operand.system.columns = c.loop-operand.invariant.in_columns in
    let new : length c.loop-operand.system.columns < c.in_ok-q.q.column = made.is_new in
    omega arith

pub chain-joined-requires-clause-in_columns : goal.chain-joined-requires-clause-in_columns
chain-joined-requires-clause-in_columns t c =
    let over = operand_here (length c.args.system.now.columns) (length c.loop-operand.system.columns) c.args.others.now c.loop-operand.operand-index c.operand-item.result c.loop-operand.invariant.grown c.loop-operand-test.true c.operand-item.is c.requires.over in
    (condition_literal c.loop-operand.system c.args.from c.operand-item.result.2 c.in_ok-q.q c.condition.new.system c.valid.ensures over c.in_ok-q.ensures).in_columns

pub chain-returns-in_err-p : goal.chain-returns-in_err-p
chain-returns-in_err-p t c =
    let p = err_from_is_err_and c.from_residual-in_err-p.result c.from_residual-in_err-p.ensures.1 in
    rw (p.1, p.2)
    (chain_turn_stops c.args.from (length c.args.system.now.columns) c.args.others.now (c.args.first, c.args.system.now) c.loop-operand.system c.loop-operand.p c.loop-operand.operand-index c.operand-item.result _ c.loop-operand-test.true c.operand-item.is c.loop-operand.invariant
    (turn_refused c.args.from c.loop-operand.p c.in_ok-q.q c.loop-operand.system c.condition.new.system c.operand-item.result _ c.in_ok-q.ensures c.in_err-p.ensures))

pub chain-loop-operand-preserved : goal.chain-loop-operand-preserved
chain-loop-operand-preserved t c =
    let over = operand_here (length c.args.system.now.columns) (length c.loop-operand.system.columns) c.args.others.now c.loop-operand.operand-index c.operand-item.result c.loop-operand.invariant.grown c.loop-operand-test.true c.operand-item.is c.requires.over in
    chain_goes_on c.args.from (length c.args.system.now.columns) c.args.others.now (c.args.first, c.args.system.now) c.loop-operand.system c.condition.new.system c.joined.new.system c.loop-operand.p c.in_ok-q.q c.in_ok-p.p c.loop-operand.operand-index c.operand-item.result c.loop-operand-test.true c.operand-item.is c.loop-operand.invariant c.in_ok-q.ensures
    (grown c.args.from c.operand-item.result.2 c.loop-operand.system c.condition.new.system c.in_ok-q.q c.valid.ensures over c.in_ok-q.ensures) c.in_ok-p.ensures

pub chain-returns : goal.chain-returns
chain-returns t c =
    chain_ends c.args.from (length c.args.system.now.columns) c.args.others.now (c.args.first, c.args.system.now) c.loop-operand.system c.loop-operand.p c.loop-operand.operand-index (omega (arith, c.loop-operand-test.false)) c.loop-operand.invariant

pub condition-condition-requires : goal.condition-condition-requires
condition-condition-requires t c =
    let small = ap weight c.in-Chain.is ∙ weight-Chain c.in-Chain.first c.in-Chain.others in
    let same = ap weight c.get-in-Chain.ensures in
    let parts = chain_parts (length c.args.system.now.columns) c.args.c.now c.in-Chain.first c.in-Chain.others c.in-Chain.is c.requires in
    (omega (arith, c.decreases), rw c.get-in-Chain.ensures parts.0)

pub condition-chain-requires : goal.condition-chain-requires
condition-chain-requires t c =
    let small = ap weight c.in-Chain.is ∙ weight-Chain c.in-Chain.first c.in-Chain.others in
    let same = ap joined_weigh c.as_slice.ensures in
    let parts = chain_parts (length c.args.system.now.columns) c.args.c.now c.in-Chain.first c.in-Chain.others c.in-Chain.is c.requires in
    let first : IsTrue (is_condition_over (length c.args.system.now.columns) c.get-in-Chain.result.now) = rw c.get-in-Chain.ensures parts.0 in
    let made = condition_literal c.args.system.now c.args.from c.get-in-Chain.result.now c.in_ok-p-in-Chain.p c.condition.new.system c.valid.ensures first c.in_ok-p-in-Chain.ensures in
    let more = grown c.args.from c.get-in-Chain.result.now c.args.system.now c.condition.new.system c.in_ok-p-in-Chain.p c.valid.ensures first c.in_ok-p-in-Chain.ensures in
    let new : length c.args.system.now.columns < c.in_ok-p-in-Chain.p.column = made.is_new in
    (omega (arith, c.decreases), (rw c.as_slice.ensures (all_operands_more (length c.args.system.now.columns) (length c.condition.new.system.columns) c.in-Chain.others more parts.1), (omega arith, made.in_columns)))

pub condition-condition-requires-in-Not : goal.condition-condition-requires-in-Not
condition-condition-requires-in-Not t c =
    let small = ap weight c.in-Not.is ∙ weight-Not c.in-Not.field-0 c.in-Not.operand in
    let same = ap weight c.get-in-Not.ensures in
    (omega (arith, c.decreases), rw c.get-in-Not.ensures (not_operand (length c.args.system.now.columns) c.args.c.now c.in-Not.operand c.in-Not.field-0 c.in-Not.is c.requires))

pub condition-returns-in_ok-p-in-Chain : goal.condition-returns-in_ok-p-in-Chain
condition-returns-in_ok-p-in-Chain t c =
    rw c.in-Chain.is
    (chain_made c.args.from c.in-Chain.first c.in-Chain.others c.in_ok-p-in-Chain.p c.args.system.now c.condition.new.system c.chain.new.system c.chain.result (rw (sym c.get-in-Chain.ensures) c.in_ok-p-in-Chain.ensures) (rw (sym c.as_slice.ensures) c.chain.ensures))
