-- An index, and what is done for each choice.
use Rattle.std.proofs.Common.{◌≡◌, Bool, List, ◌++◌, refl, sym, ap, ◌∙◌}
use Rattle.zim_fault.specs.declared.faults.Place.{Place}
use Rattle.zim_fault.specs.declared.faults.Fault.{Fault}
use Rattle.zim_tree.specs.declared.expr.Angle.{out-Angle}
use Rattle.zim_tree.specs.declared.expr.Index.{Index, out-Index}
use Rattle.zim_tree.specs.declared.stmt.Doing.{Doing, Doing-F, fold-roll-Doing}
use Rattle.zim_tree.specs.declared.stmt.Doing.TheVariants.{Forall, rolls-Forall}
use Rattle.zim_typed.specs.Scope.{Names, Scope}
use Rattle.zim_static.specs.Around.{names_in}
use Rattle.zim_static.specs.Faults.{first_of_faults}
use Rattle.zim_static.specs.StatementFaults.{faults_in_doing, doing_faults, statement_index_faults, index_names}
use Rattle.zim_static.proofs.FirstLaws.{of_two}
use Rattle.zim_static.proofs.IndexLaws.{behind_names}
use Rattle.zim_static.proofs.statements.+doing_fault.Goals as goal

opens-Forall : (scope : Scope) (names : Names) (place : Place) (index : Index) (with_do : Bool) (inside : Doing) →
    doing_faults scope (Forall place index with_do inside) names ≡ statement_index_faults scope names index ++ doing_faults scope inside (index_names scope names index)
opens-Forall scope names place index with_do inside =
    ap (λ (f : Names → List Fault). f names) (ap (doing_faults scope) (sym (rolls-Forall place index with_do inside)) ∙ fold-roll-Doing (Names → List Fault) (faults_in_doing scope) (Doing-F.Forall place index with_do inside))

pub returns-in-Forall : goal.returns-in-Forall
returns-in-Forall t c =
    of_two _ _ (simp c.get-in-Forall-2.ensures at c.fault_in_index.ensures)
    (simp c.get-in-Forall-3.ensures at c.doing_fault.ensures
    ∙ ap (λ (names : Names). first_of_faults (doing_faults c.args.scope.now c.in-Forall.inside names))
    (behind_names c.args.scope.now (names_in c.args.scope.now c.args.around.now) c.in-Forall.index _ _ refl (c.as_slice-in-Forall.ensures ∙ ap (λ (index : Index). (out-Angle (out-Index index).tuple).items) c.get-in-Forall.ensures)))
    c.or.ensures
    ∙ sym (ap first_of_faults (ap (λ (doing : Doing). doing_faults c.args.scope.now doing (names_in c.args.scope.now c.args.around.now)) c.in-Forall.is ∙ opens-Forall _ _ _ _ _ _))
