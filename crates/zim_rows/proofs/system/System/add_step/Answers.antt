-- A step is refused exactly where there is no room for it, and else stands at the end.
use Rattle.std.proofs.Common.{arith}
use Rattle.zim_rows.proofs.StepLemmas.{columns_full, rows_full, step_added, stops_at}
use Rattle.zim_rows.proofs.system.System.add_step.Goals as goal

pub returns-then-column_count-columns : goal.returns-then-column_count-columns
returns-then-column_count-columns c =
    stops_at _ _ _ c.refused.ensures (columns_full c.args.place c.args.self.now c.args.columns.now c.args.rows.now _ c.column_count.ensures.value c.column_count.ensures.within c.if-column_count-columns.true)

pub returns-then-row_count-rows : goal.returns-then-row_count-rows
returns-then-row_count-rows c =
    stops_at _ _ _ c.refused-then-row_count-rows.ensures
    (rows_full c.args.place c.args.self.now c.args.columns.now c.args.rows.now _ _ c.column_count.ensures.value c.column_count.ensures.within (omega arith) c.row_count.ensures.value c.row_count.ensures.within c.if-row_count-rows.true)

pub returns : goal.returns
returns c =
    step_added c.args.place c.args.self.now c.add_columns.new.system c.add_rows.new.system c.args.columns.now c.args.rows.now _ _ c.column_count.ensures.value c.column_count.ensures.within (omega arith) c.row_count.ensures.value c.row_count.ensures.within (omega arith) c.in_ok-add_columns.ensures c.in_ok-add_rows.ensures
