-- The columns stand at the end one after another.
use Rattle.std.proofs.Common.{arith}
use Rattle.zim_rows.proofs.StepLemmas.{no_columns, next_column, last_column, column_room}
use Rattle.zim_rows.proofs.steps.add_columns.Goals as goal

pub loop-column-init : goal.loop-column-init
loop-column-init c = no_columns c.args.system.now c.args.columns.now

pub add_column-requires-clause-room : goal.add_column-requires-clause-room
add_column-requires-clause-room c =
    column_room c.args.system.now c.loop-column.system c.args.columns.now c.loop-column.column-index c.loop-column.invariant c.loop-column-test.true c.requires.room

pub loop-column-preserved : goal.loop-column-preserved
loop-column-preserved c =
    next_column c.args.system.now c.loop-column.system c.add_column.new.system c.args.columns.now c.loop-column.column-index c.column-item.result c.loop-column.invariant c.loop-column-test.true c.column-item.is c.in_ok-add_column.ensures

pub returns : goal.returns
returns c = last_column c.args.system.now c.loop-column.system c.args.columns.now c.loop-column.column-index c.loop-column.invariant (omega arith)
