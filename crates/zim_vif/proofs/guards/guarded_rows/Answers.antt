-- By the relation, the rows of the terms.
use Rattle.zim_vif.proofs.RowCallLemmas.{guarded_most, guarded_least, guarded_equal, guarded_none, ByLess, ByUnequal, ByGreater}
use Rattle.zim_fault.specs.declared.tokens.Relation.TheVariants.{LessThan, NotEqualTo, GreaterThan}
use Rattle.zim_vif.proofs.guards.guarded_rows.Goals as goal

pub returns-in-AtMost : goal.returns-in-AtMost
returns-in-AtMost c =
    guarded_most c.args.from c.args.l c.args.relation c.args.form.now c.in_ok-terms.terms c.args.right c.args.ends.now c.rows_at_end.result c.in_ok-terms.ensures c.requires.right_side c.in-AtMost.is c.rows_at_end.ensures

pub returns-in-AtLeast : goal.returns-in-AtLeast
returns-in-AtLeast c =
    guarded_least c.args.from c.args.l c.args.relation c.args.form.now c.in_ok-terms.terms c.args.right c.args.ends.now c.rows_at_end-in-AtLeast.result c.in_ok-terms.ensures c.requires.right_side c.in-AtLeast.is c.rows_at_end-in-AtLeast.ensures

pub returns-in-EqualTo : goal.returns-in-EqualTo
returns-in-EqualTo c =
    guarded_equal c.args.from c.args.l c.args.relation c.args.form.now c.in_ok-terms.terms c.args.right c.args.ends.now c.under_both.result c.in_ok-terms.ensures c.requires.right_side c.in-EqualTo.is c.under_both.ensures

pub returns-in-LessThan : goal.returns-in-LessThan
returns-in-LessThan c = guarded_none c.args.from c.args.l c.args.relation LessThan c.args.form.now c.args.ends.now c.new.result ByLess c.in-LessThan.is c.new.ensures

pub returns-in-NotEqualTo : goal.returns-in-NotEqualTo
returns-in-NotEqualTo c =
    guarded_none c.args.from c.args.l c.args.relation NotEqualTo c.args.form.now c.args.ends.now c.new-in-NotEqualTo.result ByUnequal c.in-NotEqualTo.is c.new-in-NotEqualTo.ensures

pub returns : goal.returns
returns c =
    guarded_none c.args.from c.args.l c.args.relation GreaterThan c.args.form.now c.args.ends.now c.new-in-GreaterThan.result ByGreater c.in-GreaterThan.is c.new-in-GreaterThan.ensures
