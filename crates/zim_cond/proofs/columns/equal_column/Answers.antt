-- The column of `T >= 0`, that of `-T >= 0`, and the one that joins them.
use Rattle.std.proofs.Common.{ap, sym, ◌+◌, arith}
use Rattle.std.proofs.lemmas.Result.{err_from_is_err_and}
use Rattle.zim_cond.proofs.ColumnCallLemmas.{truth_grown, opposite_over, equal_stops, equal_second_stops, equal_told, equal_fits}
use Rattle.zim_cond.proofs.columns.equal_column.Goals as goal

pub truth_column-requires-2 : goal.truth_column-requires-2
truth_column-requires-2 c =
    opposite_over c.args.t.now c.in_ok-turned.turned c.args.system.now c.in_ok-g.g c.truth_column.new.system c.in_ok-turned.ensures c.terms-ordered.ensures.ordered c.requires (truth_grown c.args.from c.zero.result c.args.t.now c.args.system.now _ _ c.in_ok-g.ensures)

pub equal_rows-requires-clause-from_one : goal.equal_rows-requires-clause-from_one
equal_rows-requires-clause-from_one c =
    let first = truth_grown c.args.from c.zero.result c.args.t.now c.args.system.now _ _ c.in_ok-g.ensures in
    omega (arith, first.number)

pub equal_rows-requires-clause-in_order : goal.equal_rows-requires-clause-in_order
equal_rows-requires-clause-in_order c =
    let first = truth_grown c.args.from c.zero.result c.args.t.now c.args.system.now _ _ c.in_ok-g.ensures in
    let second = truth_grown c.args.from c.zero-2.result c.in_ok-turned.turned c.truth_column.new.system _ _ c.in_ok-l.ensures in
    omega (arith, first.number, first.size, second.number)

pub equal_rows-requires-clause-behind : goal.equal_rows-requires-clause-behind
equal_rows-requires-clause-behind c =
    let second = truth_grown c.args.from c.zero-2.result c.in_ok-turned.turned c.truth_column.new.system _ _ c.in_ok-l.ensures in
    omega (arith, second.number, second.size, c.column_count.ensures.value)

pub add_binary-requires : goal.add_binary-requires
add_binary-requires c =
    let first = truth_grown c.args.from c.zero.result c.args.t.now c.args.system.now _ _ c.in_ok-g.ensures in
    let second = truth_grown c.args.from c.zero-2.result c.in_ok-turned.turned c.truth_column.new.system _ _ c.in_ok-l.ensures in
    rw c.as_slice.ensures
    (equal_fits c.args.from c.in_ok-g.g c.in_ok-l.l (c.column_count.result + 1) c.truth_column-2.new.system c.in_ok-rows.rows (omega (arith, first.number)) (omega (arith, first.number, first.size, second.number)) (omega (arith, second.number, second.size)) (ap (λ n. n + 1) c.column_count.ensures.value) c.in_ok-rows.ensures)

pub returns-in_err-g : goal.returns-in_err-g
returns-in_err-g c =
    let p = err_from_is_err_and c.from_residual.result c.from_residual.ensures.1 in
    rw (p.1, p.2) (equal_stops c.args.from c.args.t.now c.args.system.now c.zero.result _ c.zero.ensures c.in_err-g.ensures)

pub returns-in_err-l : goal.returns-in_err-l
returns-in_err-l c =
    let p = err_from_is_err_and c.from_residual-in_err-l.result c.from_residual-in_err-l.ensures.1 in
    rw (p.1, p.2)
    (equal_second_stops c.args.from c.args.t.now c.in_ok-turned.turned c.args.system.now c.truth_column.new.system c.zero.result c.zero-2.result c.in_ok-g.g _ c.zero.ensures c.in_ok-g.ensures c.in_ok-turned.ensures c.zero-2.ensures c.in_err-l.ensures)

pub returns : goal.returns
returns c =
    equal_told c.args.from c.args.t.now c.in_ok-turned.turned c.args.system.now c.truth_column.new.system c.truth_column-2.new.system c.add_binary.new.system c.zero.result c.zero-2.result c.in_ok-g.g c.in_ok-l.l (c.column_count.result + 1) c.in_ok-rows.rows c.add_binary.result c.zero.ensures c.in_ok-g.ensures c.in_ok-turned.ensures c.zero-2.ensures c.in_ok-l.ensures
    (ap (λ n. n + 1) c.column_count.ensures.value) c.in_ok-rows.ensures (rw (sym c.as_slice.ensures) c.add_binary.ensures)
