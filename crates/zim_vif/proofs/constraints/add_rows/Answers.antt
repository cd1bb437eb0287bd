-- A step of rows alone.
use Rattle.zim_vif.proofs.ConstraintCallLemmas.{rows_told}
use Rattle.zim_vif.proofs.constraints.add_rows.Goals as goal

pub returns : goal.returns
returns c = rows_told c.args.place c.args.rows.now c.args.system.now _ _ c.add_step.ensures
