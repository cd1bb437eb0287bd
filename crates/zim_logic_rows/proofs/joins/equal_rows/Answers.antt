-- The row by shares is that of an equality.
use Rattle.zim_logic_rows.proofs.JoinRowLemmas.{rows_equal}
use Rattle.zim_logic_rows.proofs.joins.equal_rows.Goals as goal

pub returns : goal.returns
returns c = rw (c.in_ok-push.ensures.ok, c.new-rows.ensures) (rows_equal c.args.from c.args.g c.args.l c.args.e c.in_ok-row.field-0 c.in_ok-row.ensures)
