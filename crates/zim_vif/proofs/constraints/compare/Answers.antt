-- The form of the difference, then its rows over the system that grew.
use Rattle.std.proofs.Common.{sym}
use Rattle.std.proofs.lemmas.Result.{err_from_is_err_and}
use Rattle.zim_vif.proofs.ConstraintCallLemmas.{difference_there, guard_later, guard_from_one, compare_form_stops, compare_rows_stop, compare_fits, compare_told}
use Rattle.zim_vif.proofs.constraints.compare.Goals as goal

pub comparison_rows-requires-clause-columns : goal.comparison_rows-requires-clause-columns
comparison_rows-requires-clause-columns c =
    (difference_there c.args.from.statement c.args.from.place c.args.left.now c.args.right.now c.in_ok-form.form c.args.system.now c.difference.new.system c.valid.ensures c.requires.left c.requires.right c.in_ok-form.ensures).columns

pub comparison_rows-requires-clause-guard : goal.comparison_rows-requires-clause-guard
comparison_rows-requires-clause-guard c = guard_from_one c.args.system.now c.args.guard c.requires.guard

pub returns-in_err-form : goal.returns-in_err-form
returns-in_err-form c =
    let p = err_from_is_err_and c.from_residual.result c.from_residual.ensures.1 in
    rw (p.1, p.2) (compare_form_stops c.args.from c.args.guard c.args.relation c.args.left.now c.args.right.now c.args.system.now _ c.in_err-form.ensures)

pub returns-in_err-rows : goal.returns-in_err-rows
returns-in_err-rows c =
    let p = err_from_is_err_and c.from_residual-in_err-rows.result c.from_residual-in_err-rows.ensures.1 in
    rw (p.1, p.2)
    (compare_rows_stop c.args.from c.args.guard c.args.relation c.args.left.now c.args.right.now c.in_ok-form.form c.args.system.now c.difference.new.system _ c.in_ok-form.ensures c.in_err-rows.ensures)

pub add_rows-requires : goal.add_rows-requires
add_rows-requires c =
    let there = difference_there c.args.from.statement c.args.from.place c.args.left.now c.args.right.now c.in_ok-form.form c.args.system.now c.difference.new.system c.valid.ensures c.requires.left c.requires.right c.in_ok-form.ensures in
    rw c.as_slice.ensures
    (compare_fits c.args.from c.args.guard c.args.relation c.in_ok-form.form c.in_ok-rows.rows c.difference.new.system (guard_later c.args.system.now c.difference.new.system c.args.guard there.extends c.requires.guard) there.ordered there.columns c.in_ok-rows.ensures)

pub returns : goal.returns
returns c =
    compare_told c.args.from c.args.guard c.args.relation c.args.left.now c.args.right.now c.in_ok-form.form _ c.args.system.now c.difference.new.system _ _ c.in_ok-form.ensures c.in_ok-rows.ensures (rw (sym c.as_slice.ensures) c.add_rows.ensures)
