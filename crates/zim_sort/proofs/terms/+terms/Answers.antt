-- Each form by its equation.
use Rattle.std.proofs.Common.{ℕ, ◌+◌, ◌≡◌, ◌⊎◌, inl, inr, List, [], ◌∷◌, ◌++◌, drop, Option, Some, None, IfOk, refl, sym, ap, subst, ◌∙◌}
use Rattle.std.proofs.lemmas.List.{drop_all}
use Rattle.zim_fault.specs.declared.faults.Place.{Place}
use Rattle.zim_fault.specs.declared.tokens.Token.{Token}
use Rattle.zim_tree.specs.declared.expr.Expr.{Expr}
use Rattle.zim_tree.specs.declared.expr.Angle.{out-Angle}
use Rattle.zim_tree.specs.declared.expr.Index.{Index, out-Index}
use Rattle.zim_typed.specs.declared.constant.Const.{Const}
use Rattle.zim_typed.specs.declared.constraint.Term.TheVariants as term
use Rattle.zim_typed.specs.Scope.{Names}
use Rattle.zim_static.specs.Around.{names_in}
use Rattle.zim_sort.specs.declared.part.TermPart.{TermPart}
use Rattle.zim_sort.specs.declared.part.TermPart.TheVariants.{Varies, Fixed}
use Rattle.zim_typing.specs.Typing.{names_inside, known_product, typed_const, typed_consts, typed_index, typed_term, typed_factors}
use Rattle.zim_sort.specs.Parts.{typed_term_part, signed_part, parenthesised_part, summed_part, picked_part, absolute_part, absolute_operand, operand_parts, sum_part, product_part, product_part_behind}
use Rattle.zim_typing.proofs.TermLaws.{term-Number, term-Text, term-Truth, term-Infinity, term-Call, term-Proj, term-Braces, term-Factorial, term-Power, term-Compare, term-Member, term-Not, term-And, term-Or, term-Forall}
use Rattle.zim_sort.proofs.CodeLemmas.{behind, becomes, left_from, end_from}
use Rattle.zim_sort.proofs.PartLemmas.{alone, name_varies, name_alone, item_varies, item_alone, func_absolute, func_alone, part-Paren, part-Signed, part-Big, big_alone, part-If, vif_alone, if_alone, part-Times, behind_fixed, behind_varying, behind_none, part-Plus}
use Rattle.zim_sort.proofs.terms.+terms.Goals as goal

pub term_part-returns-in-Number : goal.term_part-returns-in-Number
term_part-returns-in-Number t c =
    becomes _ (alone c.args.scope.now (names_in c.args.scope.now c.args.around.now) c.args.tree.now (elim c.in-Number.is [ inl v0 ↦ ap (typed_term c.args.scope.now (names_in c.args.scope.now c.args.around.now)) v0.2 ∙ term-Number c.args.scope.now (names_in c.args.scope.now c.args.around.now) _ _ | inr w1 ↦ elim w1 [ inl v1 ↦ ap (typed_term c.args.scope.now (names_in c.args.scope.now c.args.around.now)) v1.3 ∙ term-Text c.args.scope.now (names_in c.args.scope.now c.args.around.now) _ _ _ | inr w2 ↦ elim w2 [ inl v2 ↦ ap (typed_term c.args.scope.now (names_in c.args.scope.now c.args.around.now)) v2.2 ∙ term-Truth c.args.scope.now (names_in c.args.scope.now c.args.around.now) _ _ | inr w3 ↦ elim w3 [ inl v3 ↦ ap (typed_term c.args.scope.now (names_in c.args.scope.now c.args.around.now)) v3.1 ∙ term-Infinity c.args.scope.now (names_in c.args.scope.now c.args.around.now) _ | inr w4 ↦ elim w4 [ inl v4 ↦ ap (typed_term c.args.scope.now (names_in c.args.scope.now c.args.around.now)) v4.3 ∙ term-Call c.args.scope.now (names_in c.args.scope.now c.args.around.now) _ _ _ | inr w5 ↦ elim w5 [ inl v5 ↦ ap (typed_term c.args.scope.now (names_in c.args.scope.now c.args.around.now)) v5.3 ∙ term-Proj c.args.scope.now (names_in c.args.scope.now c.args.around.now) _ _ _ | inr w6 ↦ elim w6 [ inl v6 ↦ ap (typed_term c.args.scope.now (names_in c.args.scope.now c.args.around.now)) v6.2 ∙ term-Braces c.args.scope.now (names_in c.args.scope.now c.args.around.now) _ _ | inr w7 ↦ elim w7 [ inl v7 ↦ ap (typed_term c.args.scope.now (names_in c.args.scope.now c.args.around.now)) v7.2 ∙ term-Factorial c.args.scope.now (names_in c.args.scope.now c.args.around.now) _ _ | inr w8 ↦ elim w8 [ inl v8 ↦ ap (typed_term c.args.scope.now (names_in c.args.scope.now c.args.around.now)) v8.5 ∙ term-Power c.args.scope.now (names_in c.args.scope.now c.args.around.now) _ _ _ _ _ | inr w9 ↦ elim w9 [ inl v9 ↦ ap (typed_term c.args.scope.now (names_in c.args.scope.now c.args.around.now)) v9.2 ∙ term-Compare c.args.scope.now (names_in c.args.scope.now c.args.around.now) _ _ | inr w10 ↦ elim w10 [ inl v10 ↦ ap (typed_term c.args.scope.now (names_in c.args.scope.now c.args.around.now)) v10.3 ∙ term-Member c.args.scope.now (names_in c.args.scope.now c.args.around.now) _ _ _ | inr w11 ↦ elim w11 [ inl v11 ↦ ap (typed_term c.args.scope.now (names_in c.args.scope.now c.args.around.now)) v11.2 ∙ term-Not c.args.scope.now (names_in c.args.scope.now c.args.around.now) _ _ | inr w12 ↦ elim w12 [ inl v12 ↦ ap (typed_term c.args.scope.now (names_in c.args.scope.now c.args.around.now)) v12.2 ∙ term-And c.args.scope.now (names_in c.args.scope.now c.args.around.now) _ _ | inr w13 ↦ elim w13 [ inl v13 ↦ ap (typed_term c.args.scope.now (names_in c.args.scope.now c.args.around.now)) v13.2 ∙ term-Or c.args.scope.now (names_in c.args.scope.now c.args.around.now) _ _ | inr w14 ↦ ap (typed_term c.args.scope.now (names_in c.args.scope.now c.args.around.now)) w14.4 ∙ term-Forall c.args.scope.now (names_in c.args.scope.now c.args.around.now) _ _ _ _ ] ] ] ] ] ] ] ] ] ] ] ] ] ])) c.fixed-in-Number.ensures

pub product_behind-returns-in-Varies : goal.product_behind-returns-in-Varies
product_behind-returns-in-Varies t c =
    let known : c.in_ok-known-in-Varies.known ≡ known_product c.args.first c.loop-at.before = c.in_ok-known-in-Varies.ensures in
    let factors : c.in_ok-behind-in-Varies.behind ≡ typed_factors c.args.scope.now (names_in c.args.scope.now c.args.around.now) (drop (c.loop-at.at + 1) c.args.others.now) = c.in_ok-behind-in-Varies.ensures ∙ ap (typed_factors c.args.scope.now (names_in c.args.scope.now c.args.around.now)) (end_from c.args.others.now (c.loop-at.at + 1)) in
    let made : IfOk c.varying.result (λ made. made ≡ Varies (term.Product (Some (c.in_ok-known-in-Varies.known, c.index-others-at.result.0)) c.in-Varies.term c.in_ok-behind-in-Varies.behind)) = c.varying.ensures in
    becomes _
    ((λ i. Varies (term.Product (Some (known i, c.index-others-at.result.0)) c.in-Varies.term (factors i)))
    ∙ sym (behind_varying c.args.scope.now (names_in c.args.scope.now c.args.around.now) c.args.first c.loop-at.before c.index-others-at.result (drop (c.loop-at.at + 1) c.args.others.now) c.in-Varies.term (sym c.in-Varies.is ∙ c.in_ok-tree.ensures)) ∙ sym (ap (λ (left : List (Place × Token × Expr)). product_part_behind c.args.scope.now (names_in c.args.scope.now c.args.around.now) c.args.first c.loop-at.before left) (left_from c.args.others.now c.loop-at.at c.index-others-at.result c.loop-at-test.true c.index-others-at.is)) ∙ c.loop-at.invariant)
    made

pub product_behind-loop-at-preserved : goal.product_behind-loop-at-preserved
product_behind-loop-at-preserved t c =
    subst (λ (now : List (Place × Token × Const)). product_part_behind c.args.scope.now (names_in c.args.scope.now c.args.around.now) c.args.first now (drop (c.loop-at.at + 1) c.args.others.now) ≡ product_part_behind c.args.scope.now (names_in c.args.scope.now c.args.around.now) c.args.first [] c.args.others.now) (sym c.in_ok-push-in-Fixed.ensures.ok)
    (sym (behind_fixed c.args.scope.now (names_in c.args.scope.now c.args.around.now) c.args.first c.loop-at.before c.index-others-at.result (drop (c.loop-at.at + 1) c.args.others.now) _ _ c.in_ok-copy-in-Fixed.ensures (ap (λ (k : Const). Fixed k) c.into_inner.ensures ∙ sym c.in-Fixed.is ∙ c.in_ok-tree.ensures)) ∙ sym (ap (λ (left : List (Place × Token × Expr)). product_part_behind c.args.scope.now (names_in c.args.scope.now c.args.around.now) c.args.first c.loop-at.before left) (left_from c.args.others.now c.loop-at.at c.index-others-at.result c.loop-at-test.true c.index-others-at.is)) ∙ c.loop-at.invariant)

pub product_behind-returns : goal.product_behind-returns
product_behind-returns t c =
    ap (λ (k : Const). Fixed k) c.in_ok-new.ensures ∙ sym (behind_none c.args.scope.now (names_in c.args.scope.now c.args.around.now) c.args.first c.loop-at.before)
    ∙ sym (ap (λ (left : List (Place × Token × Expr)). product_part_behind c.args.scope.now (names_in c.args.scope.now c.args.around.now) c.args.first c.loop-at.before left) (drop_all c.loop-at.at c.args.others.now c.loop-at-test.false)) ∙ c.loop-at.invariant

pub term_part-returns-then-vif : goal.term_part-returns-then-vif
term_part-returns-then-vif t c =
    becomes _ (ap (λ (e : Expr). Fixed ((typed_const c.args.scope.now (names_in c.args.scope.now c.args.around.now)) e)) c.in-If.is ∙ vif_alone c.args.scope.now (names_in c.args.scope.now c.args.around.now) _ c.in-If.vif _ _ c.in-If.otherwise (sym c.if-vif.true) ∙ sym (ap (typed_term_part c.args.scope.now (names_in c.args.scope.now c.args.around.now)) c.in-If.is)) c.fixed-then-vif.ensures

pub term_part-returns-then-is_variable : goal.term_part-returns-then-is_variable
term_part-returns-then-is_variable t c =
    becomes _ (name_varies c.args.scope.now (names_in c.args.scope.now c.args.around.now) _ _ (sym c.if-is_variable.true ∙ c.is_variable.ensures) ∙ sym (ap (typed_term_part c.args.scope.now (names_in c.args.scope.now c.args.around.now)) c.in-Name.is)) c.column.ensures

pub term_part-returns-else-is_variable : goal.term_part-returns-else-is_variable
term_part-returns-else-is_variable t c =
    becomes _ (ap (λ (e : Expr). Fixed ((typed_const c.args.scope.now (names_in c.args.scope.now c.args.around.now)) e)) c.in-Name.is ∙ name_alone c.args.scope.now (names_in c.args.scope.now c.args.around.now) _ _ (sym c.if-is_variable.false ∙ c.is_variable.ensures) ∙ sym (ap (typed_term_part c.args.scope.now (names_in c.args.scope.now c.args.around.now)) c.in-Name.is)) c.fixed.ensures

pub term_part-returns-then-is_variable-2 : goal.term_part-returns-then-is_variable-2
term_part-returns-then-is_variable-2 t c =
    becomes _ (ap (λ (given : List Expr). Varies (term.Column c.in-Item.place c.in-Item.name (typed_consts c.args.scope.now (names_in c.args.scope.now c.args.around.now) given))) c.as_slice.ensures ∙ item_varies c.args.scope.now (names_in c.args.scope.now c.args.around.now) _ _ _ (sym c.if-is_variable-2.true ∙ c.is_variable-in-Item.ensures) ∙ sym (ap (typed_term_part c.args.scope.now (names_in c.args.scope.now c.args.around.now)) c.in-Item.is)) c.column-then-is_variable-2.ensures

pub term_part-returns-else-is_variable-2 : goal.term_part-returns-else-is_variable-2
term_part-returns-else-is_variable-2 t c =
    becomes _ (ap (λ (e : Expr). Fixed ((typed_const c.args.scope.now (names_in c.args.scope.now c.args.around.now)) e)) c.in-Item.is ∙ item_alone c.args.scope.now (names_in c.args.scope.now c.args.around.now) _ _ _ (sym c.if-is_variable-2.false ∙ c.is_variable-in-Item.ensures) ∙ sym (ap (typed_term_part c.args.scope.now (names_in c.args.scope.now c.args.around.now)) c.in-Item.is)) c.fixed-else-is_variable-2.ensures

pub term_part-returns-in_ok-operand-in-Some : goal.term_part-returns-in_ok-operand-in-Some
term_part-returns-in_ok-operand-in-Some t c =
    becomes _ (ap (absolute_part c.in-Func.place) c.in_ok-operand-in-Some.ensures ∙ func_absolute c.args.scope.now (names_in c.args.scope.now c.args.around.now) _ _ _ c.in-Some.operand.now (sym (c.in-Some.ensures ∙ ap (absolute_operand c.in-Func.word) c.as_slice-in-Func.ensures)) ∙ sym (ap (typed_term_part c.args.scope.now (names_in c.args.scope.now c.args.around.now)) c.in-Func.is)) c.absolute.ensures

pub term_part-returns-in-None : goal.term_part-returns-in-None
term_part-returns-in-None t c =
    becomes _ (ap (λ (e : Expr). Fixed ((typed_const c.args.scope.now (names_in c.args.scope.now c.args.around.now)) e)) c.in-Func.is ∙ func_alone c.args.scope.now (names_in c.args.scope.now c.args.around.now) _ _ _ (sym (c.in-None.ensures ∙ ap (absolute_operand c.in-Func.word) c.as_slice-in-Func.ensures)) ∙ sym (ap (typed_term_part c.args.scope.now (names_in c.args.scope.now c.args.around.now)) c.in-Func.is)) c.fixed-in-None.ensures

pub term_part-returns-in_ok-inner-in-Paren : goal.term_part-returns-in_ok-inner-in-Paren
term_part-returns-in_ok-inner-in-Paren t c =
    becomes _ (ap (parenthesised_part c.in-Paren.place) (c.in_ok-inner-in-Paren.ensures ∙ ap (typed_term_part c.args.scope.now (names_in c.args.scope.now c.args.around.now)) c.get.ensures) ∙ part-Paren c.args.scope.now (names_in c.args.scope.now c.args.around.now) _ _ ∙ sym (ap (typed_term_part c.args.scope.now (names_in c.args.scope.now c.args.around.now)) c.in-Paren.is)) c.parenthesised.ensures

pub term_part-returns-in_ok-otherwise-in-Some-otherwise : goal.term_part-returns-in_ok-otherwise-in-Some-otherwise
term_part-returns-in_ok-otherwise-in-Some-otherwise t c =
    becomes _
    ((λ i. picked_part c.in-If.place ((c.in_ok-test-in-Some-otherwise.ensures ∙ ap (typed_const c.args.scope.now (names_in c.args.scope.now c.args.around.now)) c.get-in-Some-otherwise.ensures) i) ((c.in_ok-branch-in-Some-otherwise.ensures ∙ ap (typed_term_part c.args.scope.now (names_in c.args.scope.now c.args.around.now)) c.get-in-Some-otherwise-2.ensures) i) ((c.in_ok-otherwise-in-Some-otherwise.ensures ∙ ap (typed_term_part c.args.scope.now (names_in c.args.scope.now c.args.around.now)) c.get-in-Some-otherwise-3.ensures) i))
    ∙ part-If c.args.scope.now (names_in c.args.scope.now c.args.around.now) _ c.in-If.vif _ _ c.in-Some-otherwise.otherwise c.in-If.otherwise (sym c.if-vif.false) c.in-Some-otherwise.is ∙ sym (ap (typed_term_part c.args.scope.now (names_in c.args.scope.now c.args.around.now)) c.in-If.is)) c.picked.ensures

pub term_part-returns-in-None-otherwise : goal.term_part-returns-in-None-otherwise
term_part-returns-in-None-otherwise t c =
    becomes _ (ap (λ (e : Expr). Fixed ((typed_const c.args.scope.now (names_in c.args.scope.now c.args.around.now)) e)) c.in-If.is ∙ if_alone c.args.scope.now (names_in c.args.scope.now c.args.around.now) _ c.in-If.vif _ _ c.in-If.otherwise c.in-None-otherwise.is ∙ sym (ap (typed_term_part c.args.scope.now (names_in c.args.scope.now c.args.around.now)) c.in-If.is)) c.fixed-in-None-otherwise.ensures

pub term_part-returns-in_ok-operand-in-Signed : goal.term_part-returns-in_ok-operand-in-Signed
term_part-returns-in_ok-operand-in-Signed t c =
    becomes _ (ap (signed_part c.in-Signed.place c.in-Signed.minus) (c.in_ok-operand-in-Signed.ensures ∙ ap (typed_term_part c.args.scope.now (names_in c.args.scope.now c.args.around.now)) c.get-in-Signed.ensures) ∙ part-Signed c.args.scope.now (names_in c.args.scope.now c.args.around.now) _ _ _ ∙ sym (ap (typed_term_part c.args.scope.now (names_in c.args.scope.now c.args.around.now)) c.in-Signed.is)) c.signed.ensures

pub term_part-returns-in_ok-operand-in-Big : goal.term_part-returns-in_ok-operand-in-Big
term_part-returns-in_ok-operand-in-Big t c =
    let inner : c.in_ok-operand-in-Big.operand ≡ typed_term_part c.args.scope.now (names_inside c.args.scope.now (names_in c.args.scope.now c.args.around.now) c.in-Big.index) c.in-Big.operand
    = behind (λ (n : Names). typed_term_part c.args.scope.now n c.get-then-is_summation-3.result.now) c.args.scope.now (names_in c.args.scope.now c.args.around.now) c.in-Big.index _ _ refl (c.as_slice-then-is_summation.ensures ∙ ap (λ (index : Index). (out-Angle (out-Index index).tuple).items) c.get-then-is_summation.ensures) c.in_ok-operand-in-Big.ensures ∙ ap (typed_term_part c.args.scope.now (names_inside c.args.scope.now (names_in c.args.scope.now c.args.around.now) c.in-Big.index)) c.get-then-is_summation-3.ensures in
    becomes _ ((λ i. summed_part c.in-Big.place c.in-Big.word ((c.in_ok-made-in-Big.ensures ∙ ap (typed_index c.args.scope.now (names_in c.args.scope.now c.args.around.now)) c.get-then-is_summation-2.ensures) i) c.in-Big.with_do (inner i)) ∙ part-Big c.args.scope.now (names_in c.args.scope.now c.args.around.now) _ _ _ _ _ (sym c.if-is_summation.true ∙ c.is_summation.ensures) ∙ sym (ap (typed_term_part c.args.scope.now (names_in c.args.scope.now c.args.around.now)) c.in-Big.is)) c.summed.ensures

pub term_part-returns-else-is_summation : goal.term_part-returns-else-is_summation
term_part-returns-else-is_summation t c =
    becomes _ (ap (λ (e : Expr). Fixed ((typed_const c.args.scope.now (names_in c.args.scope.now c.args.around.now)) e)) c.in-Big.is ∙ big_alone c.args.scope.now (names_in c.args.scope.now c.args.around.now) _ _ _ _ _ (sym c.if-is_summation.false ∙ c.is_summation.ensures) ∙ sym (ap (typed_term_part c.args.scope.now (names_in c.args.scope.now c.args.around.now)) c.in-Big.is)) c.fixed-else-is_summation.ensures

pub term_part-returns-in-Varies : goal.term_part-returns-in-Varies
term_part-returns-in-Varies t c =
    becomes _ (ap (λ (others : List (Place × Token × Expr)). Varies (term.Product None c.in-Varies.term (typed_factors c.args.scope.now (names_in c.args.scope.now c.args.around.now) others))) c.as_slice-in-Varies.ensures ∙ ap (λ (p : TermPart). product_part c.args.scope.now (names_in c.args.scope.now c.args.around.now) p c.in-Times.others) (sym c.in-Varies.is ∙ c.in_ok-term-in-Times.ensures ∙ ap (typed_term_part c.args.scope.now (names_in c.args.scope.now c.args.around.now)) c.get-in-Times.ensures) ∙ part-Times c.args.scope.now (names_in c.args.scope.now c.args.around.now) _ _ ∙ sym (ap (typed_term_part c.args.scope.now (names_in c.args.scope.now c.args.around.now)) c.in-Times.is)) c.multiplied.ensures

pub term_part-returns-in-Fixed : goal.term_part-returns-in-Fixed
term_part-returns-in-Fixed t c =
    becomes _ (ap (product_part_behind c.args.scope.now (names_in c.args.scope.now c.args.around.now) c.in-Fixed.tree []) c.as_slice-in-Fixed.ensures ∙ ap (λ (p : TermPart). product_part c.args.scope.now (names_in c.args.scope.now c.args.around.now) p c.in-Times.others) (sym c.in-Fixed.is ∙ c.in_ok-term-in-Times.ensures ∙ ap (typed_term_part c.args.scope.now (names_in c.args.scope.now c.args.around.now)) c.get-in-Times.ensures) ∙ part-Times c.args.scope.now (names_in c.args.scope.now c.args.around.now) _ _ ∙ sym (ap (typed_term_part c.args.scope.now (names_in c.args.scope.now c.args.around.now)) c.in-Times.is)) c.product_behind.ensures

pub term_part-returns-in_ok-others-in-Plus : goal.term_part-returns-in_ok-others-in-Plus
term_part-returns-in_ok-others-in-Plus t c =
    becomes _ ((λ i. sum_part ((c.in_ok-first-in-Plus.ensures ∙ ap (typed_term_part c.args.scope.now (names_in c.args.scope.now c.args.around.now)) c.get-in-Plus.ensures) i) ((c.in_ok-others-in-Plus.ensures ∙ ap (operand_parts c.args.scope.now (names_in c.args.scope.now c.args.around.now)) c.as_slice-in-Plus.ensures) i)) ∙ part-Plus c.args.scope.now (names_in c.args.scope.now c.args.around.now) _ _ ∙ sym (ap (typed_term_part c.args.scope.now (names_in c.args.scope.now c.args.around.now)) c.in-Plus.is)) c.sum_of.ensures
