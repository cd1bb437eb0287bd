-- The factors are made that the loop has come past.
use Rattle.std.proofs.Common.{◌≡◌, take}
use Rattle.zim_static.specs.Around.{names_in}
use Rattle.zim_typing.specs.Typing.{typed_factors}
use Rattle.zim_sort.proofs.term_parts.factors.Given as goal

abbrev pub invariant-loop-place : goal.invariant-loop-place
invariant-loop-place l = l.made ≡ typed_factors l.scope (names_in l.scope l.around) (take l.place-index l.others)
