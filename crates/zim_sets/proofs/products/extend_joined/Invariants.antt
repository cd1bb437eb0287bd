use Rattle.std.proofs.Common.{◌≡◌, ◌++◌, map, take}
use Rattle.zim_sets.proofs.products.extend_joined.Given as goal

abbrev pub invariant-loop-other : goal.invariant-loop-other
invariant-loop-other l = l.made ≡ l.initial.made ++ map (λ other. l.tuple ++ other) (take l.other-index l.others)
