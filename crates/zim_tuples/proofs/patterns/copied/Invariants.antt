use Rattle.std.proofs.Common.{◌≡◌, take}
use Rattle.zim_tuples.proofs.patterns.copied.Given as goal

abbrev pub invariant-loop-binding : goal.invariant-loop-binding
invariant-loop-binding l = l.more ≡ take l.binding-index l.env
