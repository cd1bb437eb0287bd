-- The operands are known that a loop has come past.
use Rattle.std.proofs.Common.{◌≡◌, take}
use Rattle.zim_static.specs.Around.{names_in}
use Rattle.zim_sort.specs.Parts.{anded_parts, ored_parts}
use Rattle.zim_sort.proofs.conditions.+conditions.Given as goal

abbrev pub invariant-conjuncts-loop-place : goal.invariant-conjuncts-loop-place
invariant-conjuncts-loop-place l = l.made.items ≡ anded_parts l.scope (names_in l.scope l.around) (take l.place-index l.others)

abbrev pub invariant-disjuncts-loop-place : goal.invariant-disjuncts-loop-place
invariant-disjuncts-loop-place l = l.made.items ≡ ored_parts l.scope (names_in l.scope l.around) (take l.place-index l.others)
