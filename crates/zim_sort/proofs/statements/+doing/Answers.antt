-- Each form by its equation.
use Rattle.std.proofs.Common.{◌≡◌, List, map, refl, sym, ap, ◌∙◌}
use Rattle.zim_tree.specs.declared.expr.Angle.{out-Angle}
use Rattle.zim_tree.specs.declared.expr.Index.{Index, out-Index}
use Rattle.zim_typed.specs.declared.constant.Const.{Const}
use Rattle.zim_typed.specs.declared.statement.TPrinted.{TPrinted}
use Rattle.zim_typed.specs.declared.statement.TDoing.TheVariants as doing
use Rattle.zim_typed.specs.Scope.{Names}
use Rattle.zim_static.specs.Around.{names_in}
use Rattle.zim_typing.specs.Typing.{typed_const, typed_index, names_inside}
use Rattle.zim_typing.specs.Statements.{typed_printed, typed_doing}
use Rattle.zim_sort.proofs.CodeLemmas.{behind}
use Rattle.zim_typing.proofs.StatementBelongLaws.{makes-Print, makes-Check, makes-Forall}
use Rattle.zim_sort.proofs.statements.+doing.Goals as goal

pub returns-in_ok-all_printed-in-Print : goal.returns-in_ok-all_printed-in-Print
returns-in_ok-all_printed-in-Print t c =
    ap (λ (items : List TPrinted). doing.Print c.in-Print.place items) (c.in_ok-all_printed-in-Print.ensures ∙ ap (map (typed_printed c.args.scope.now (names_in c.args.scope.now c.args.around.now))) c.as_slice.ensures) ∙ sym (ap (typed_doing c.args.scope.now (names_in c.args.scope.now c.args.around.now)) c.in-Print.is ∙ makes-Print c.args.scope.now (names_in c.args.scope.now c.args.around.now) _ _)

pub returns-in_ok-boxed_constant-in-Check : goal.returns-in_ok-boxed_constant-in-Check
returns-in_ok-boxed_constant-in-Check t c =
    ap (λ (k : Const). doing.Check c.in-Check.place k) (c.in_ok-boxed_constant-in-Check.ensures ∙ ap (typed_const c.args.scope.now (names_in c.args.scope.now c.args.around.now)) c.get.ensures) ∙ sym (ap (typed_doing c.args.scope.now (names_in c.args.scope.now c.args.around.now)) c.in-Check.is ∙ makes-Check c.args.scope.now (names_in c.args.scope.now c.args.around.now) _ _)

pub returns-in_ok-inside-in-Forall : goal.returns-in_ok-inside-in-Forall
returns-in_ok-inside-in-Forall t c =
    let inner : c.in_ok-inside-in-Forall.inside ≡ typed_doing c.args.scope.now (names_inside c.args.scope.now (names_in c.args.scope.now c.args.around.now) c.in-Forall.index) c.in-Forall.inside
    = c.in_ok-inside-in-Forall.ensures
    ∙ behind (λ (n : Names). typed_doing c.args.scope.now n c.get-in-Forall-3.result.now) c.args.scope.now (names_in c.args.scope.now c.args.around.now) c.in-Forall.index _ _ refl (c.as_slice-in-Forall.ensures ∙ ap (λ (index : Index). (out-Angle (out-Index index).tuple).items) c.get-in-Forall.ensures) c.in_ok-doing-in-Forall.ensures ∙ ap (typed_doing c.args.scope.now (names_inside c.args.scope.now (names_in c.args.scope.now c.args.around.now) c.in-Forall.index)) c.get-in-Forall-3.ensures in
    (λ i. doing.Forall c.in-Forall.place ((c.in_ok-made-in-Forall.ensures ∙ ap (typed_index c.args.scope.now (names_in c.args.scope.now c.args.around.now)) c.get-in-Forall-2.ensures) i) c.in-Forall.with_do (inner i)) ∙ sym (ap (typed_doing c.args.scope.now (names_in c.args.scope.now c.args.around.now)) c.in-Forall.is ∙ makes-Forall c.args.scope.now (names_in c.args.scope.now c.args.around.now) _ _ _ _)
