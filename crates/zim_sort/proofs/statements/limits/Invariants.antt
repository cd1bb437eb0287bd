-- What the loop has come past is made.
use Rattle.std.proofs.Common.{◌≡◌, take, map}
use Rattle.zim_static.specs.Around.{names_in}
use Rattle.zim_typing.specs.Statements.{typed_limit}
use Rattle.zim_sort.proofs.statements.limits.Given as goal

abbrev pub invariant-loop-tree : goal.invariant-loop-tree
invariant-loop-tree l = l.made ≡ map (typed_limit l.scope (names_in l.scope l.around)) (take l.tree-index l.trees)
