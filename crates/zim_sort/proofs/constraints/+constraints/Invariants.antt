-- The constraints are made that the loop has come past.
use Rattle.std.proofs.Common.{◌≡◌, ◌++◌, map, take}
use Rattle.zim_fault.specs.declared.faults.Place.{Place}
use Rattle.zim_tree.specs.declared.expr.Expr.{Expr}
use Rattle.zim_static.specs.Around.{names_in}
use Rattle.zim_typing.specs.Typing.{typed_con}
use Rattle.zim_sort.proofs.constraints.+constraints.Given as goal

abbrev pub invariant-conjuncts-loop-place : goal.invariant-conjuncts-loop-place
invariant-conjuncts-loop-place l = l.made ≡ l.fn.before ++ map (λ (x : Place × Expr). typed_con l.scope (names_in l.scope l.around) x.1) (take l._place-index l.others)
