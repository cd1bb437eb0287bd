-- The form of the term, then its rows over the system that grew.
use Rattle.std.proofs.Common.{sym}
use Rattle.std.proofs.lemmas.Result.{err_from_is_err_and}
use Rattle.zim_vif.proofs.ConstraintCallLemmas.{form_there, guard_later, guard_from_one, range_form_stops, range_rows_stop, range_fits, range_told}
use Rattle.zim_vif.proofs.constraints.range.Goals as goal

pub ranged_rows-requires-clause-columns : goal.ranged_rows-requires-clause-columns
ranged_rows-requires-clause-columns c = c.in_ok-form.ensures.made.columns

pub ranged_rows-requires-clause-guard : goal.ranged_rows-requires-clause-guard
ranged_rows-requires-clause-guard c = guard_from_one c.args.system.now c.args.guard c.requires.guard

pub returns-in_err-form : goal.returns-in_err-form
returns-in_err-form c =
    let p = err_from_is_err_and c.from_residual.result c.from_residual.ensures.1 in
    rw (p.1, p.2) (range_form_stops c.args.from c.args.guard c.args.relation c.args.first c.args.t.now c.args.last c.args.system.now _ c.in_err-form.ensures.steps)

pub returns-in_err-rows : goal.returns-in_err-rows
returns-in_err-rows c =
    let p = err_from_is_err_and c.from_residual-in_err-rows.result c.from_residual-in_err-rows.ensures.1 in
    rw (p.1, p.2)
    (range_rows_stop c.args.from c.args.guard c.args.relation c.args.first c.args.t.now c.args.last c.low_of_range-low.result c.low_of_range-high.result c.in_ok-form.form c.args.system.now c.form_of.new.system _ c.low_of_range-low.ensures c.low_of_range-high.ensures c.in_ok-form.ensures.steps c.in_err-rows.ensures)

pub add_rows-requires : goal.add_rows-requires
add_rows-requires c =
    let there = form_there c.args.system.now c.form_of.new.system _ c.in_ok-form.form c.in_ok-form.ensures.made in
    rw c.as_slice.ensures
    (range_fits c.args.from c.args.guard c.in_ok-form.form c.low_of_range-low.result c.low_of_range-high.result c.in_ok-rows.rows c.form_of.new.system (guard_later c.args.system.now c.form_of.new.system c.args.guard there.extends c.requires.guard) there.ordered there.columns c.in_ok-rows.ensures)

pub returns : goal.returns
returns c =
    range_told c.args.from c.args.guard c.args.relation c.args.first c.args.t.now c.args.last c.low_of_range-low.result c.low_of_range-high.result c.in_ok-form.form _ c.args.system.now c.form_of.new.system _ _ c.low_of_range-low.ensures c.low_of_range-high.ensures c.in_ok-form.ensures.steps c.in_ok-rows.ensures (rw (sym c.as_slice.ensures) c.add_rows.ensures)
