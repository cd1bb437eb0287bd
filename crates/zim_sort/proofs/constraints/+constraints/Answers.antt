-- Each form by its equation.
use Rattle.std.proofs.Common.{◌≡◌, inl, inr, List, [], ◌∷◌, ◌++◌, map, IfOk, refl, sym, ap, ◌∙◌}
use Rattle.zim_fault.specs.declared.faults.Place.{Place}
use Rattle.zim_tree.specs.declared.expr.Expr.{Expr}
use Rattle.zim_tree.specs.declared.expr.Angle.{out-Angle}
use Rattle.zim_tree.specs.declared.expr.Index.{Index, out-Index}
use Rattle.zim_typed.specs.declared.constraint.Con.{Con}
use Rattle.zim_typed.specs.declared.constraint.Con.TheVariants as con
use Rattle.zim_typed.specs.Scope.{Names}
use Rattle.zim_static.specs.Around.{names_in}
use Rattle.zim_typing.specs.Typing.{names_inside, typed_index, typed_con, typed_comparing, typed_picking}
use Rattle.zim_typing.proofs.TermLaws.{con-Number, con-Text, con-Truth, con-Infinity, con-Name, con-Item, con-Call, con-Func, con-Proj, con-Braces, con-Factorial, con-Power, con-Signed, con-Big, con-Times, con-Plus, con-Member, con-Not, con-Or, con-Paren, con-If, con-Compare, con-And, con-Forall}
use Rattle.zim_sort.proofs.CodeLemmas.{behind, becomes}
use Rattle.zim_sort.proofs.constraints.+constraints.Goals as goal

pub constraint-returns-in-Paren : goal.constraint-returns-in-Paren
constraint-returns-in-Paren t c =
    becomes _ (ap (typed_con c.args.scope.now (names_in c.args.scope.now c.args.around.now)) c.get.ensures ∙ sym (con-Paren c.args.scope.now (names_in c.args.scope.now c.args.around.now) _ _) ∙ sym (ap (typed_con c.args.scope.now (names_in c.args.scope.now c.args.around.now)) c.in-Paren.is)) c.constraint.ensures

pub constraint-returns-in_ok-otherwise-in-If : goal.constraint-returns-in_ok-otherwise-in-If
constraint-returns-in_ok-otherwise-in-If t c =
    becomes _ ((λ i. typed_picking c.args.scope.now (names_in c.args.scope.now c.args.around.now) c.in-If.place c.in-If.vif (c.get-in-If-2.ensures i) ((c.in_ok-branch-in-If.ensures ∙ ap (typed_con c.args.scope.now (names_in c.args.scope.now c.args.around.now)) c.get-in-If.ensures) i) (c.in_ok-otherwise-in-If.ensures i)) ∙ sym (con-If c.args.scope.now (names_in c.args.scope.now c.args.around.now) _ _ _ _ _) ∙ sym (ap (typed_con c.args.scope.now (names_in c.args.scope.now c.args.around.now)) c.in-If.is)) c.picking.ensures

pub constraint-returns-in-Compare : goal.constraint-returns-in-Compare
constraint-returns-in-Compare t c =
    becomes _ ((λ i. typed_comparing c.args.scope.now (names_in c.args.scope.now c.args.around.now) (c.get-in-Compare.ensures i) (c.as_slice.ensures i)) ∙ sym (con-Compare c.args.scope.now (names_in c.args.scope.now c.args.around.now) _ _) ∙ sym (ap (typed_con c.args.scope.now (names_in c.args.scope.now c.args.around.now)) c.in-Compare.is)) c.comparing.ensures

pub constraint-returns-in_ok-conjuncts-in-And : goal.constraint-returns-in_ok-conjuncts-in-And
constraint-returns-in_ok-conjuncts-in-And t c =
    let first : c.push.new.self ≡ (typed_con c.args.scope.now (names_in c.args.scope.now c.args.around.now)) c.in-And.first ∷ [] = c.in_ok-push-in-And.ensures.ok ∙ (λ i. c.new-made.ensures i ++ (c.in_ok-constraint-in-And.ensures ∙ ap (typed_con c.args.scope.now (names_in c.args.scope.now c.args.around.now)) c.get-in-And.ensures) i ∷ []) in
    ap (λ (cs : List Con). con.And cs) (c.in_ok-conjuncts-in-And.ensures ∙ (λ i. first i ++ map (λ (x : Place × Expr). (typed_con c.args.scope.now (names_in c.args.scope.now c.args.around.now)) x.1) (c.as_slice-in-And.ensures i))) ∙ sym (con-And c.args.scope.now (names_in c.args.scope.now c.args.around.now) _ _) ∙ sym (ap (typed_con c.args.scope.now (names_in c.args.scope.now c.args.around.now)) c.in-And.is)

pub constraint-returns-in_ok-index-in-Forall : goal.constraint-returns-in_ok-index-in-Forall
constraint-returns-in_ok-index-in-Forall t c =
    let inner : c.in_ok-inner-in-Forall.inner ≡ typed_con c.args.scope.now (names_inside c.args.scope.now (names_in c.args.scope.now c.args.around.now) c.in-Forall.index) c.in-Forall.inner
    = behind (λ (n : Names). typed_con c.args.scope.now n c.get-in-Forall-2.result.now) c.args.scope.now (names_in c.args.scope.now c.args.around.now) c.in-Forall.index _ _ refl (c.as_slice-in-Forall.ensures ∙ ap (λ (index : Index). (out-Angle (out-Index index).tuple).items) c.get-in-Forall.ensures) c.in_ok-inner-in-Forall.ensures ∙ ap (typed_con c.args.scope.now (names_inside c.args.scope.now (names_in c.args.scope.now c.args.around.now) c.in-Forall.index)) c.get-in-Forall-2.ensures in
    (λ i. con.Forall c.in-Forall.place ((c.in_ok-index-in-Forall.ensures ∙ ap (typed_index c.args.scope.now (names_in c.args.scope.now c.args.around.now)) c.get-in-Forall-3.ensures) i) (inner i)) ∙ sym (con-Forall c.args.scope.now (names_in c.args.scope.now c.args.around.now) _ _ _ _) ∙ sym (ap (typed_con c.args.scope.now (names_in c.args.scope.now c.args.around.now)) c.in-Forall.is)

pub constraint-returns-in-Number : goal.constraint-returns-in-Number
constraint-returns-in-Number t c =
    ap (λ (cs : List Con). con.And cs) c.new.ensures ∙ sym (elim c.in-Number.is [ inl v0 ↦ ap (typed_con c.args.scope.now (names_in c.args.scope.now c.args.around.now)) v0.2 ∙ con-Number c.args.scope.now (names_in c.args.scope.now c.args.around.now) _ _ | inr w1 ↦ elim w1 [ inl v1 ↦ ap (typed_con c.args.scope.now (names_in c.args.scope.now c.args.around.now)) v1.3 ∙ con-Text c.args.scope.now (names_in c.args.scope.now c.args.around.now) _ _ _ | inr w2 ↦ elim w2 [ inl v2 ↦ ap (typed_con c.args.scope.now (names_in c.args.scope.now c.args.around.now)) v2.2 ∙ con-Truth c.args.scope.now (names_in c.args.scope.now c.args.around.now) _ _ | inr w3 ↦ elim w3 [ inl v3 ↦ ap (typed_con c.args.scope.now (names_in c.args.scope.now c.args.around.now)) v3.1 ∙ con-Infinity c.args.scope.now (names_in c.args.scope.now c.args.around.now) _ | inr w4 ↦ elim w4 [ inl v4 ↦ ap (typed_con c.args.scope.now (names_in c.args.scope.now c.args.around.now)) v4.2 ∙ con-Name c.args.scope.now (names_in c.args.scope.now c.args.around.now) _ _ | inr w5 ↦ elim w5 [ inl v5 ↦ ap (typed_con c.args.scope.now (names_in c.args.scope.now c.args.around.now)) v5.3 ∙ con-Item c.args.scope.now (names_in c.args.scope.now c.args.around.now) _ _ _ | inr w6 ↦ elim w6 [ inl v6 ↦ ap (typed_con c.args.scope.now (names_in c.args.scope.now c.args.around.now)) v6.3 ∙ con-Call c.args.scope.now (names_in c.args.scope.now c.args.around.now) _ _ _ | inr w7 ↦ elim w7 [ inl v7 ↦ ap (typed_con c.args.scope.now (names_in c.args.scope.now c.args.around.now)) v7.3 ∙ con-Func c.args.scope.now (names_in c.args.scope.now c.args.around.now) _ _ _ | inr w8 ↦ elim w8 [ inl v8 ↦ ap (typed_con c.args.scope.now (names_in c.args.scope.now c.args.around.now)) v8.3 ∙ con-Proj c.args.scope.now (names_in c.args.scope.now c.args.around.now) _ _ _ | inr w9 ↦ elim w9 [ inl v9 ↦ ap (typed_con c.args.scope.now (names_in c.args.scope.now c.args.around.now)) v9.2 ∙ con-Braces c.args.scope.now (names_in c.args.scope.now c.args.around.now) _ _ | inr w10 ↦ elim w10 [ inl v10 ↦ ap (typed_con c.args.scope.now (names_in c.args.scope.now c.args.around.now)) v10.2 ∙ con-Factorial c.args.scope.now (names_in c.args.scope.now c.args.around.now) _ _ | inr w11 ↦ elim w11 [ inl v11 ↦ ap (typed_con c.args.scope.now (names_in c.args.scope.now c.args.around.now)) v11.5 ∙ con-Power c.args.scope.now (names_in c.args.scope.now c.args.around.now) _ _ _ _ _ | inr w12 ↦ elim w12 [ inl v12 ↦ ap (typed_con c.args.scope.now (names_in c.args.scope.now c.args.around.now)) v12.3 ∙ con-Signed c.args.scope.now (names_in c.args.scope.now c.args.around.now) _ _ _ | inr w13 ↦ elim w13 [ inl v13 ↦ ap (typed_con c.args.scope.now (names_in c.args.scope.now c.args.around.now)) v13.5 ∙ con-Big c.args.scope.now (names_in c.args.scope.now c.args.around.now) _ _ _ _ _ | inr w14 ↦ elim w14 [ inl v14 ↦ ap (typed_con c.args.scope.now (names_in c.args.scope.now c.args.around.now)) v14.2 ∙ con-Times c.args.scope.now (names_in c.args.scope.now c.args.around.now) _ _ | inr w15 ↦ elim w15 [ inl v15 ↦ ap (typed_con c.args.scope.now (names_in c.args.scope.now c.args.around.now)) v15.2 ∙ con-Plus c.args.scope.now (names_in c.args.scope.now c.args.around.now) _ _ | inr w16 ↦ elim w16 [ inl v16 ↦ ap (typed_con c.args.scope.now (names_in c.args.scope.now c.args.around.now)) v16.3 ∙ con-Member c.args.scope.now (names_in c.args.scope.now c.args.around.now) _ _ _ | inr w17 ↦ elim w17 [ inl v17 ↦ ap (typed_con c.args.scope.now (names_in c.args.scope.now c.args.around.now)) v17.2 ∙ con-Not c.args.scope.now (names_in c.args.scope.now c.args.around.now) _ _ | inr w18 ↦ ap (typed_con c.args.scope.now (names_in c.args.scope.now c.args.around.now)) w18.2 ∙ con-Or c.args.scope.now (names_in c.args.scope.now c.args.around.now) _ _ ] ] ] ] ] ] ] ] ] ] ] ] ] ] ] ] ] ])
