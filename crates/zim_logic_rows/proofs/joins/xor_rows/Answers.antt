-- The rows by shares are those of the join.
use Rattle.zim_logic_rows.proofs.JoinRowLemmas.{rows_xor}
use Rattle.zim_logic_rows.proofs.joins.xor_rows.Goals as goal

pub returns : goal.returns
returns c =
    rw (c.in_ok-push-4.ensures.ok, c.in_ok-push-3.ensures.ok, c.in_ok-push-2.ensures.ok, c.in_ok-push.ensures.ok, c.new-rows.ensures)
    (rows_xor c.args.on.from c.args.on.p c.args.on.q c.args.on.r c.in_ok-row.field-0 c.in_ok-row-2.field-0 c.in_ok-row-3.field-0 c.in_ok-row-4.field-0 c.in_ok-row.ensures c.in_ok-row-2.ensures c.in_ok-row-3.ensures c.in_ok-row-4.ensures)
