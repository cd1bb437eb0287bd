-- An index, and what is done for each choice.
use Rattle.std.proofs.Common.{sym, ap, ◌∙◌, ◌≡◌, ℕ, Bool, max}
use Rattle.zim_fault.specs.declared.faults.Place.{Place}
use Rattle.zim_tree.specs.declared.expr.Index.{Index}
use Rattle.zim_tree.specs.declared.stmt.Doing.{Doing, Doing-F, fold-roll-Doing}
use Rattle.zim_tree.specs.declared.stmt.Doing.TheVariants.{Forall, rolls-Forall}
use Rattle.zim_typed.specs.Scope.{Scope}
use Rattle.zim_static.specs.Calls.{index_calls, calls_in_doing, doing_calls}
use Rattle.zim_static.proofs.CallsLemmas.{greater_of}
use Rattle.zim_static.proofs.deep.+doing_calls.Goals as goal

calls-Forall : (scope : Scope) (place : Place) (index : Index) (with_do : Bool) (inside : Doing) →
    doing_calls scope (Forall place index with_do inside) ≡ max (index_calls scope index) (doing_calls scope inside)
calls-Forall scope place index with_do inside = ap (doing_calls scope) (sym (rolls-Forall place index with_do inside)) ∙ fold-roll-Doing ℕ (calls_in_doing scope) (Doing-F.Forall place index with_do inside)

pub returns-in-Forall : goal.returns-in-Forall
returns-in-Forall t c = greater_of c.max.ensures (simp c.get-in-Forall.ensures at c.index_calls.ensures) (simp c.get-in-Forall-2.ensures at c.doing_calls.ensures) (ap (doing_calls c.args.scope.now) c.in-Forall.is ∙ calls-Forall _ _ _ _ _)
