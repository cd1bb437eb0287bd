-- The literal itself, or the column that joins the guard and it.
use Rattle.std.proofs.Common.{refl}
use Rattle.zim_vif.proofs.ConstraintCallLemmas.{guard_literal, guard_order}
use Rattle.zim_vif.proofs.constraints.part_guard.Goals as goal

pub returns-in-None : goal.returns-in-None
returns-in-None c = rw c.in-None.is refl

pub joined-requires-clause-from_one : goal.joined-requires-clause-from_one
joined-requires-clause-from_one c = (guard_literal c.args.system.now c.args.guard c.in-Some.g c.in-Some.is c.requires.guard).from_one

pub joined-requires-clause-in_order : goal.joined-requires-clause-in_order
joined-requires-clause-in_order c = guard_order c.args.guard c.in-Some.g c.args.b c.in-Some.is c.requires.in_order

pub joined-requires-clause-in_columns : goal.joined-requires-clause-in_columns
joined-requires-clause-in_columns c = c.requires.literal.in_columns

pub returns-in-Some : goal.returns-in-Some
returns-in-Some c = rw c.in-Some.is c.joined.ensures
