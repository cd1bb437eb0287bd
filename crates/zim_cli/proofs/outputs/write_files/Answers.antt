-- Each output, and where the writing stopped.
use Rattle.std.proofs.Common.{◌∙◌}
use Rattle.zim_rows.specs.Finished.{program_of}
use Rattle.zim_cli.specs.Outputs.{texts_of}
use Rattle.zim_cli.proofs.OutputsLemmas.{table_cleared, clear_stopped, lp_written, lp_stopped, mps_written, mps_stopped, table_written, table_stopped}
use Rattle.zim_cli.proofs.outputs.write_files.Goals as goal

pub returns-in-Err : goal.returns-in-Err
returns-in-Err g c base n =
    rw c.stop_of.ensures
    (clear_stopped _ _ base _ (texts_of (program_of c.args.system.now) c.args.columns.now c.args.statements.now) c.clear_file.result c.in-Err.stop (c.as_slice.ensures ∙ n.table) c.in-Err.is c.clear_file.ensures)

pub returns-in-Err-write_lp_file : goal.returns-in-Err-write_lp_file
returns-in-Err-write_lp_file g c base n =
    rw c.stop_of-in-Err-write_lp_file.ensures
    (lp_stopped _ _ _ base _ (texts_of (program_of c.args.system.now) c.args.columns.now c.args.statements.now) c.write_lp_file.result c.in-Err-write_lp_file.stop (c.as_slice-2.ensures ∙ n.lp) c.in-Err-write_lp_file.is
    (table_cleared _ _ base _ c.clear_file.result (c.as_slice.ensures ∙ n.table) c.in_default.is c.clear_file.ensures)
    c.write_lp_file.ensures)

pub returns-in-Err-write_mps_file : goal.returns-in-Err-write_mps_file
returns-in-Err-write_mps_file g c base n =
    rw c.stop_of-in-Err-write_mps_file.ensures
    (mps_stopped _ _ _ base _ (texts_of (program_of c.args.system.now) c.args.columns.now c.args.statements.now) c.write_mps_file.result c.in-Err-write_mps_file.stop (c.as_slice-3.ensures ∙ n.mps) c.in-Err-write_mps_file.is
    (lp_written _ _ _ base _ (texts_of (program_of c.args.system.now) c.args.columns.now c.args.statements.now) c.write_lp_file.result (c.as_slice-2.ensures ∙ n.lp) c.in_default-write_lp_file.is
    (table_cleared _ _ base _ c.clear_file.result (c.as_slice.ensures ∙ n.table) c.in_default.is c.clear_file.ensures)
    c.write_lp_file.ensures)
    c.write_mps_file.ensures)

pub returns-in-Err-write_table_file : goal.returns-in-Err-write_table_file
returns-in-Err-write_table_file g c base n =
    rw c.stop_of-in-Err-write_table_file.ensures
    (table_stopped _ _ _ base _ (texts_of (program_of c.args.system.now) c.args.columns.now c.args.statements.now) c.write_table_file.result c.in-Err-write_table_file.stop (c.as_slice-table.ensures ∙ n.table) c.in-Err-write_table_file.is
    (mps_written _ _ _ base _ (texts_of (program_of c.args.system.now) c.args.columns.now c.args.statements.now) c.write_mps_file.result (c.as_slice-3.ensures ∙ n.mps) c.in_default-write_mps_file.is
    (lp_written _ _ _ base _ (texts_of (program_of c.args.system.now) c.args.columns.now c.args.statements.now) c.write_lp_file.result (c.as_slice-2.ensures ∙ n.lp) c.in_default-write_lp_file.is
    (table_cleared _ _ base _ c.clear_file.result (c.as_slice.ensures ∙ n.table) c.in_default.is c.clear_file.ensures)
    c.write_lp_file.ensures)
    c.write_mps_file.ensures)
    c.write_table_file.ensures)

pub returns : goal.returns
returns g c base n =
    table_written _ _ _ base _ (texts_of (program_of c.args.system.now) c.args.columns.now c.args.statements.now) c.write_table_file.result (c.as_slice-table.ensures ∙ n.table) c.in_default-write_table_file.is
    (mps_written _ _ _ base _ (texts_of (program_of c.args.system.now) c.args.columns.now c.args.statements.now) c.write_mps_file.result (c.as_slice-3.ensures ∙ n.mps) c.in_default-write_mps_file.is
    (lp_written _ _ _ base _ (texts_of (program_of c.args.system.now) c.args.columns.now c.args.statements.now) c.write_lp_file.result (c.as_slice-2.ensures ∙ n.lp) c.in_default-write_lp_file.is
    (table_cleared _ _ base _ c.clear_file.result (c.as_slice.ensures ∙ n.table) c.in_default.is c.clear_file.ensures)
    c.write_lp_file.ensures)
    c.write_mps_file.ensures)
    c.write_table_file.ensures
