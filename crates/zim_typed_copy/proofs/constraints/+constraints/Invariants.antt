-- The constraints are copied as far as the loop has come.
use Rattle.std.proofs.Common.{◌≡◌, take}
use Rattle.zim_typed_copy.proofs.constraints.+constraints.Given as goal

abbrev pub invariant-copy_cons-loop-constraint : goal.invariant-copy_cons-loop-constraint
invariant-copy_cons-loop-constraint l = l.made ≡ take l.constraint-index l.constraints
