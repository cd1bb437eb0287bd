-- The step is placed, and the value is the share of its first column.
use Rattle.std.proofs.Common.{ap, sym, ◌+◌}
use Rattle.std.proofs.lemmas.Result.{err_from_is_err_and}
use Rattle.zim_vabs.proofs.AbsoluteCallLemmas.{step_fits, value_stops, value_placed_stops, value_gives}
use Rattle.zim_vabs.proofs.values.absolute_of.Goals as goal

pub returns-in_err-made : goal.returns-in_err-made
returns-in_err-made c =
    let p = err_from_is_err_and c.from_residual.result c.from_residual.ensures.1 in
    rw (p.1, p.2) (value_stops c.args.from c.args.form.now c.args.system.now _ c.in_err-made.ensures)

pub add_step-requires-clause-columns : goal.add_step-requires-clause-columns
add_step-requires-clause-columns c =
    rw c.as_slice.ensures (step_fits c.args.from c.args.form.now c.args.system.now _ _ _ c.valid.ensures c.requires c.in_ok-made.ensures).each_column

pub add_step-requires-clause-rows : goal.add_step-requires-clause-rows
add_step-requires-clause-rows c =
    rw (c.as_slice.ensures, c.as_slice-2.ensures) (step_fits c.args.from c.args.form.now c.args.system.now _ _ _ c.valid.ensures c.requires c.in_ok-made.ensures).each_row

pub returns-in_err-add_step : goal.returns-in_err-add_step
returns-in_err-add_step c =
    let p = err_from_is_err_and c.from_residual-in_err-add_step.result c.from_residual-in_err-add_step.ensures.1 in
    rw (p.1, p.2)
    (value_placed_stops c.args.from c.args.form.now c.args.system.now _ _ _ c.in_ok-made.ensures (rw (sym c.as_slice.ensures, sym c.as_slice-2.ensures) c.in_err-add_step.ensures))

pub returns : goal.returns
returns c =
    value_gives c.args.from c.args.form.now c.args.system.now _ _ _ _ _ c.in_ok-made.ensures (rw (sym c.as_slice.ensures, sym c.as_slice-2.ensures) c.in_ok-add_step.ensures) (ap (λ n. n + 1) c.column_count.ensures.value) c.in_ok-column_times.ensures
