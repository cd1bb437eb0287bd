-- What a constraint makes asks it where the guard is on.
use Rattle.zim_vif.proofs.ConstraintCallLemmas.{asked_on}
use Rattle.zim_vif.proofs.constraints.encode.Goals as goal

pub returns-clause-asked : goal.returns-clause-asked
returns-clause-asked c = asked_on c.args.from.statement c.args.guard c.args.c.now c.args.system.now _ _ c.valid.ensures c.requires.guard c.requires.over c.constraint.ensures
