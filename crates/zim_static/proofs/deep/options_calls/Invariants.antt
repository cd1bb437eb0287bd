-- The greatest of those that the loop has come past.
use Rattle.std.proofs.Common.{◌≡◌, map, take}
use Rattle.zim_fault.specs.declared.faults.Place.{Place}
use Rattle.zim_fault.specs.declared.words.Word.{Word}
use Rattle.zim_tree.specs.declared.expr.Expr.{Expr}
use Rattle.zim_typed.specs.Nesting.{greatest}
use Rattle.zim_static.specs.Calls.{calls}
use Rattle.zim_static.proofs.deep.options_calls.Given as goal

abbrev pub invariant-loop-place : goal.invariant-loop-place
invariant-loop-place l = l.deepest ≡ greatest (map (λ (x : Place × Word × Expr). calls l.scope x.2) (take l._place-index l.options))
