-- The rows stand at the end one after another.
use Rattle.std.proofs.Common.{arith}
use Rattle.zim_rows.proofs.StepLemmas.{no_rows, next_row, last_row, row_room, row_over}
use Rattle.zim_rows.proofs.steps.add_rows.Goals as goal

pub loop-row-init : goal.loop-row-init
loop-row-init c = no_rows c.args.system.now c.args.rows.now

pub add_row-requires-clause-row : goal.add_row-requires-clause-row
add_row-requires-clause-row c =
    row_over c.args.system.now c.loop-row.system c.args.rows.now c.loop-row.row-index c.row-item.result c.loop-row.invariant c.loop-row-test.true c.row-item.is c.requires.rows

pub add_row-requires-clause-room : goal.add_row-requires-clause-room
add_row-requires-clause-room c =
    row_room c.args.system.now c.loop-row.system c.args.rows.now c.loop-row.row-index c.loop-row.invariant c.loop-row-test.true c.requires.room

pub loop-row-preserved : goal.loop-row-preserved
loop-row-preserved c =
    next_row c.args.system.now c.loop-row.system c.add_row.new.system c.args.rows.now c.loop-row.row-index c.row-item.result c.loop-row.invariant c.loop-row-test.true c.row-item.is c.in_ok-add_row.ensures

pub returns : goal.returns
returns c = last_row c.args.system.now c.loop-row.system c.args.rows.now c.loop-row.row-index c.loop-row.invariant (omega arith)
