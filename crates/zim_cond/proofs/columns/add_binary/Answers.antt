-- The step of the column and its rows, and its number.
use Rattle.std.proofs.Common.{ap, ◌+◌}
use Rattle.std.proofs.lemmas.Result.{err_from_is_err_and}
use Rattle.zim_cond.proofs.ColumnCallLemmas.{one_column, binary_stops, binary_gives}
use Rattle.zim_cond.proofs.columns.add_binary.Goals as goal

pub add_step-requires-clause-columns : goal.add_step-requires-clause-columns
add_step-requires-clause-columns c = one_column c.binary_column.result c.binary_column.ensures

pub returns-in_err-add_step : goal.returns-in_err-add_step
returns-in_err-add_step c =
    let p = err_from_is_err_and c.from_residual.result c.from_residual.ensures.1 in
    rw (p.1, p.2) (binary_stops c.args.place c.args.rows.now c.args.system.now c.binary_column.result _ c.binary_column.ensures c.in_err-add_step.ensures)

pub returns : goal.returns
returns c =
    binary_gives c.args.place c.args.rows.now c.args.system.now c.add_step.new.self c.binary_column.result _ c.binary_column.ensures c.in_ok-add_step.ensures (ap (λ n. n + 1) c.column_count.ensures.value)
