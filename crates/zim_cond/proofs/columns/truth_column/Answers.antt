-- The step by its rows, and past where one of its numbers is.
use Rattle.std.proofs.Common.{ap, sym, ◌+◌}
use Rattle.zim_cond.proofs.ColumnCallLemmas.{truth_past, truth_fits, truth_told}
use Rattle.zim_cond.proofs.columns.truth_column.Goals as goal

pub returns-in-Err : goal.returns-in-Err
returns-in-Err c =
    truth_past c.args.from c.args.t.now c.args.c (c.column_count.result + 1) c.args.system.now c.in-Err.fault c.past_at.result (ap (λ n. n + 1) c.column_count.ensures.value) c.past_at.ensures c.in-Err.ensures

pub add_binary-requires : goal.add_binary-requires
add_binary-requires c =
    rw c.as_slice.ensures
    (truth_fits c.args.from c.args.t.now c.args.c (c.column_count.result + 1) c.args.system.now c.in-Ok.rows c.terms-ordered.ensures.ordered c.requires (ap (λ n. n + 1) c.column_count.ensures.value) c.in-Ok.ensures)

pub returns : goal.returns
returns c =
    truth_told c.args.from c.args.t.now c.args.c (c.column_count.result + 1) c.args.system.now c.add_binary.new.system c.in-Ok.rows c.add_binary.result (ap (λ n. n + 1) c.column_count.ensures.value) c.in-Ok.ensures (rw (sym c.as_slice.ensures) c.add_binary.ensures)
