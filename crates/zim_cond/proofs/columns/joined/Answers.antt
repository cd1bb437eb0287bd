-- The next column with the rows of the join, as a literal.
use Rattle.std.proofs.Common.{ap, sym, ◌+◌}
use Rattle.std.proofs.lemmas.Result.{err_from_is_err_and}
use Rattle.zim_cond.proofs.ColumnCallLemmas.{join_fits, join_stops, join_gives}
use Rattle.zim_cond.proofs.columns.joined.Goals as goal

pub add_binary-requires : goal.add_binary-requires
add_binary-requires c =
    rw c.as_slice.ensures
    (join_fits c.args.from c.args.join c.args.p c.args.q (c.column_count.result + 1) c.args.system.now c.in_ok-rows.rows c.requires.from_one c.requires.in_order c.requires.in_columns (ap (λ n. n + 1) c.column_count.ensures.value) c.in_ok-rows.ensures)

pub returns-in_err-column : goal.returns-in_err-column
returns-in_err-column c =
    let p = err_from_is_err_and c.from_residual-in_err-column.result c.from_residual-in_err-column.ensures.1 in
    rw (p.1, p.2)
    (join_stops c.args.from c.args.join c.args.p c.args.q (c.column_count.result + 1) c.args.system.now c.in_ok-rows.rows _ (ap (λ n. n + 1) c.column_count.ensures.value) c.in_ok-rows.ensures (rw (sym c.as_slice.ensures) c.in_err-column.ensures))

pub returns : goal.returns
returns c =
    join_gives c.args.from c.args.join c.args.p c.args.q (c.column_count.result + 1) c.in_ok-column.column c.args.system.now c.add_binary.new.system c.in_ok-rows.rows (ap (λ n. n + 1) c.column_count.ensures.value) c.in_ok-rows.ensures (rw (sym c.as_slice.ensures) c.in_ok-column.ensures)
