-- The law of constraints, from the system itself.
use Rattle.zim_vif.proofs.ConstraintLaws.{constraint_asked}
use Rattle.zim_vif.proofs.laws.constraints_are_asked.Goals as goal

pub returns : goal.returns
returns c = λ before statement guard d after is of over h. constraint_asked before statement guard d (tt, after) is of over h
