-- The files so far are the pairs that were taken.
use Rattle.std.proofs.Common.{◌≡◌}
use Rattle.zim_gate.specs.Stored.{entries_of}
use Rattle.zim_gate.proofs.stored.store.Given as goal

abbrev pub invariant-loop-name : goal.invariant-loop-name
invariant-loop-name l = entries_of l.made.items ≡ l.yielded
