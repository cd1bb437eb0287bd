use Rattle.std.proofs.Common.{◌≡◌, take}
use Rattle.zim_sets.specs.Products.{crossed}
use Rattle.zim_sets.proofs.products.all_joined.Given as goal

abbrev pub invariant-loop-tuple : goal.invariant-loop-tuple
invariant-loop-tuple l = l.made ≡ crossed (take l.tuple-index l.tuples) l.others
