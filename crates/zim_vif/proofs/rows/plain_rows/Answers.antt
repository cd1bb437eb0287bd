-- By the relation, the row of the form.
use Rattle.zim_fault.specs.declared.tokens.Relation.TheVariants.{LessThan, NotEqualTo, GreaterThan}
use Rattle.zim_vif.proofs.RowCallLemmas.{plain_told, plain_most, plain_least, plain_equal, plain_none, ByLess, ByUnequal, ByGreater}
use Rattle.zim_vif.proofs.rows.plain_rows.Goals as goal

pub returns-in-AtMost : goal.returns-in-AtMost
returns-in-AtMost c =
    plain_told c.args.from c.args.relation c.args.form.now _ c.compared.result (plain_most c.args.from c.args.relation c.args.form.now c.in-AtMost.is) c.compared.ensures

pub returns-in-AtLeast : goal.returns-in-AtLeast
returns-in-AtLeast c =
    plain_told c.args.from c.args.relation c.args.form.now _ c.compared-in-AtLeast.result (plain_least c.args.from c.args.relation c.args.form.now c.in-AtLeast.is) c.compared-in-AtLeast.ensures

pub returns-in-EqualTo : goal.returns-in-EqualTo
returns-in-EqualTo c =
    plain_told c.args.from c.args.relation c.args.form.now _ c.compared-in-EqualTo.result (plain_equal c.args.from c.args.relation c.args.form.now c.in-EqualTo.is) c.compared-in-EqualTo.ensures

pub returns-in-LessThan : goal.returns-in-LessThan
returns-in-LessThan c = plain_none c.args.from c.args.relation LessThan c.args.form.now c.new.result ByLess c.in-LessThan.is c.new.ensures

pub returns-in-NotEqualTo : goal.returns-in-NotEqualTo
returns-in-NotEqualTo c = plain_none c.args.from c.args.relation NotEqualTo c.args.form.now c.new-in-NotEqualTo.result ByUnequal c.in-NotEqualTo.is c.new-in-NotEqualTo.ensures

pub returns-in-GreaterThan : goal.returns-in-GreaterThan
returns-in-GreaterThan c = plain_none c.args.from c.args.relation GreaterThan c.args.form.now c.new-in-GreaterThan.result ByGreater c.in-GreaterThan.is c.new-in-GreaterThan.ensures
