-- The difference, and its comparison with 0.
use Rattle.std.proofs.lemmas.Result.{err_from_is_err_and}
use Rattle.zim_cond.proofs.CompareCallLemmas.{difference_over, comparison_stops, comparison_told}
use Rattle.zim_cond.proofs.comparisons.comparison.Goals as goal

pub compared-requires : goal.compared-requires
compared-requires c =
    difference_over c.args.from.statement c.args.from.place c.args.left.now c.args.right.now c.in_ok-form.form c.args.system.now c.difference.new.system c.valid.ensures c.requires.left c.requires.right c.in_ok-form.ensures

pub returns-in_err-form : goal.returns-in_err-form
returns-in_err-form c =
    let p = err_from_is_err_and c.from_residual.result c.from_residual.ensures.1 in
    rw (p.1, p.2) (comparison_stops c.args.from c.args.relation c.args.left.now c.args.right.now c.args.system.now _ c.in_err-form.ensures)

pub returns : goal.returns
returns c =
    comparison_told c.args.from c.args.relation c.args.left.now c.args.right.now c.in_ok-form.form c.args.system.now c.difference.new.system c.compared.new.system c.compared.result c.in_ok-form.ensures c.compared.ensures
