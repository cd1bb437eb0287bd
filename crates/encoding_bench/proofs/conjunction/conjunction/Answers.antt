-- The operands so far are over the columns, and so is the chain of all.
use Rattle.encoding_bench.proofs.OverLemmas.{none_over, more_over, chain_over}
use Rattle.encoding_bench.proofs.conjunction.conjunction.Goals as goal

pub loop-number-init : goal.loop-number-init
loop-number-init c = none_over c.args.columns _ c.new-others.ensures

pub loop-number-preserved : goal.loop-number-preserved
loop-number-preserved c = more_over c.args.columns c.loop-number.others c.push.new.self _ _ c.in_ok-condition.condition c.in_ok-push.ensures.ok c.loop-number.invariant c.in_ok-condition.ensures

pub returns : goal.returns
returns c = chain_over c.args.columns c.in_ok-first.first c.in_ok-is_one.field-0 c.loop-number.others c.in_ok-first.ensures c.in_ok-is_one.ensures c.loop-number.invariant
