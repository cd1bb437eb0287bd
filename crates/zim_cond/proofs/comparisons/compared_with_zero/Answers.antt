-- The truth column that each relation needs, or its negation.
use Rattle.zim_cond.proofs.CompareCallLemmas.{at_least_told, greater_told, less_told, at_most_told, equal_literal_told, unequal_told}
use Rattle.zim_cond.proofs.comparisons.compared_with_zero.Goals as goal

pub returns-in-AtLeast : goal.returns-in-AtLeast
returns-in-AtLeast c = rw c.in-AtLeast.is (at_least_told c.args.from c.args.t.now c.zero.result c.args.system.now c.signed.new.system c.signed.result c.zero.ensures c.signed.ensures)

pub returns-in-GreaterThan : goal.returns-in-GreaterThan
returns-in-GreaterThan c = rw c.in-GreaterThan.is (greater_told c.args.from c.args.t.now c.one.result c.args.system.now c.signed-in-GreaterThan.new.system c.signed-in-GreaterThan.result c.one.ensures c.signed-in-GreaterThan.ensures)

pub returns-in-LessThan : goal.returns-in-LessThan
returns-in-LessThan c = rw c.in-LessThan.is (less_told c.args.from c.args.t.now c.zero-in-LessThan.result c.args.system.now c.signed-in-LessThan.new.system c.signed-in-LessThan.result c.zero-in-LessThan.ensures c.signed-in-LessThan.ensures)

pub returns-in-AtMost : goal.returns-in-AtMost
returns-in-AtMost c = rw c.in-AtMost.is (at_most_told c.args.from c.args.t.now c.one-in-AtMost.result c.args.system.now c.signed-in-AtMost.new.system c.signed-in-AtMost.result c.one-in-AtMost.ensures c.signed-in-AtMost.ensures)

pub returns-in-EqualTo : goal.returns-in-EqualTo
returns-in-EqualTo c = rw c.in-EqualTo.is (equal_literal_told c.args.from c.args.t.now c.args.system.now c.equal.new.system c.equal.result c.equal.ensures)

pub returns-in-NotEqualTo : goal.returns-in-NotEqualTo
returns-in-NotEqualTo c = rw c.in-NotEqualTo.is (unequal_told c.args.from c.args.t.now c.args.system.now c.equal-in-NotEqualTo.new.system c.equal-in-NotEqualTo.result c.equal-in-NotEqualTo.ensures)
