-- Each form by its equation.
use Rattle.std.proofs.Common.{◌≡◌, inl, inr, IfOk, refl, sym, ap, ◌∙◌}
use Rattle.zim_static.specs.Around.{names_in}
use Rattle.zim_typing.specs.Typing.{typed_cond}
use Rattle.zim_sort.specs.Parts.{typed_term_part, typed_condition_part, parenthesised_condition, negated_part, compared_part, anded_parts, anded_part, ored_parts, ored_part}
use Rattle.zim_typing.proofs.TermLaws.{cond-Number, cond-Text, cond-Truth, cond-Infinity, cond-Name, cond-Item, cond-Call, cond-Func, cond-Proj, cond-Braces, cond-If, cond-Factorial, cond-Power, cond-Signed, cond-Big, cond-Times, cond-Plus, cond-Member, cond-Forall, cond-Compare}
use Rattle.zim_sort.proofs.CodeLemmas.{becomes}
use Rattle.zim_sort.proofs.ConditionLemmas.{cond_alone, condition-Paren, condition-Not, condition_one, compared_none, compared_more, condition-And, condition-Or}
use Rattle.zim_sort.proofs.conditions.+conditions.Goals as goal

pub condition_part-returns-in_ok-inner-in-Paren : goal.condition_part-returns-in_ok-inner-in-Paren
condition_part-returns-in_ok-inner-in-Paren t c =
    becomes _ (ap (parenthesised_condition c.in-Paren.place) (c.in_ok-inner-in-Paren.ensures ∙ ap (typed_condition_part c.args.scope.now (names_in c.args.scope.now c.args.around.now)) c.get.ensures) ∙ condition-Paren c.args.scope.now (names_in c.args.scope.now c.args.around.now) _ _ ∙ sym (ap (typed_condition_part c.args.scope.now (names_in c.args.scope.now c.args.around.now)) c.in-Paren.is)) c.parenthesised.ensures

pub condition_part-returns-in_ok-right-in-len1 : goal.condition_part-returns-in_ok-right-in-len1
condition_part-returns-in_ok-right-in-len1 t c =
    becomes _
    ((λ i. compared_part c.other-item.result.0 c.other-item.result.1 ((c.in_ok-left-in-len1.ensures ∙ ap (typed_term_part c.args.scope.now (names_in c.args.scope.now c.args.around.now)) c.get-in-len1.ensures) i) (c.in_ok-right-in-len1.ensures i))
    ∙ condition_one c.args.scope.now (names_in c.args.scope.now c.args.around.now) _ c.in-Compare.others c.other-item.result (simp c.as_slice.ensures at c.in-len1.len_at_least) (simp c.as_slice.ensures at c.in-len1.len_below) (simp c.as_slice.ensures at c.other-item.is) ∙ sym (ap (typed_condition_part c.args.scope.now (names_in c.args.scope.now c.args.around.now)) c.in-Compare.is)) c.compared.ensures

pub condition_part-returns-in-len2-up : goal.condition_part-returns-in-len2-up
condition_part-returns-in-len2-up t c =
    becomes _ (cond_alone c.args.scope.now (names_in c.args.scope.now c.args.around.now) c.args.tree.now (ap (typed_cond c.args.scope.now (names_in c.args.scope.now c.args.around.now)) c.in-Compare.is ∙ cond-Compare c.args.scope.now (names_in c.args.scope.now c.args.around.now) _ _ ∙ compared_more c.args.scope.now (names_in c.args.scope.now c.args.around.now) _ c.in-Compare.others (simp c.as_slice.ensures at c.in-len2-up.len_at_least))) c.fixed-in-len2-up.ensures

pub condition_part-returns-in-empty : goal.condition_part-returns-in-empty
condition_part-returns-in-empty t c =
    becomes _ (cond_alone c.args.scope.now (names_in c.args.scope.now c.args.around.now) c.args.tree.now (ap (typed_cond c.args.scope.now (names_in c.args.scope.now c.args.around.now)) c.in-Compare.is ∙ cond-Compare c.args.scope.now (names_in c.args.scope.now c.args.around.now) _ _ ∙ compared_none c.args.scope.now (names_in c.args.scope.now c.args.around.now) _ c.in-Compare.others (simp c.as_slice.ensures at c.in-empty.len_below))) c.fixed.ensures

pub condition_part-returns-in_ok-operand-in-Not : goal.condition_part-returns-in_ok-operand-in-Not
condition_part-returns-in_ok-operand-in-Not t c =
    becomes _ (ap (negated_part c.in-Not.place) (c.in_ok-operand-in-Not.ensures ∙ ap (typed_condition_part c.args.scope.now (names_in c.args.scope.now c.args.around.now)) c.get-in-Not.ensures) ∙ condition-Not c.args.scope.now (names_in c.args.scope.now c.args.around.now) _ _ ∙ sym (ap (typed_condition_part c.args.scope.now (names_in c.args.scope.now c.args.around.now)) c.in-Not.is)) c.negated.ensures

pub condition_part-returns-in_ok-others-in-And : goal.condition_part-returns-in_ok-others-in-And
condition_part-returns-in_ok-others-in-And t c =
    becomes _ ((λ i. anded_part ((c.in_ok-first-in-And.ensures ∙ ap (typed_condition_part c.args.scope.now (names_in c.args.scope.now c.args.around.now)) c.get-in-And.ensures) i) ((c.in_ok-others-in-And.ensures ∙ ap (anded_parts c.args.scope.now (names_in c.args.scope.now c.args.around.now)) c.as_slice-in-And.ensures) i)) ∙ condition-And c.args.scope.now (names_in c.args.scope.now c.args.around.now) _ _ ∙ sym (ap (typed_condition_part c.args.scope.now (names_in c.args.scope.now c.args.around.now)) c.in-And.is)) c.anded.ensures

pub condition_part-returns-in_ok-others-in-Or : goal.condition_part-returns-in_ok-others-in-Or
condition_part-returns-in_ok-others-in-Or t c =
    becomes _ ((λ i. ored_part ((c.in_ok-first-in-Or.ensures ∙ ap (typed_condition_part c.args.scope.now (names_in c.args.scope.now c.args.around.now)) c.get-in-Or.ensures) i) ((c.in_ok-others-in-Or.ensures ∙ ap (ored_parts c.args.scope.now (names_in c.args.scope.now c.args.around.now)) c.as_slice-in-Or.ensures) i)) ∙ condition-Or c.args.scope.now (names_in c.args.scope.now c.args.around.now) _ _ ∙ sym (ap (typed_condition_part c.args.scope.now (names_in c.args.scope.now c.args.around.now)) c.in-Or.is)) c.ored.ensures

pub condition_part-returns-in-Number : goal.condition_part-returns-in-Number
condition_part-returns-in-Number t c =
    becomes _ (cond_alone c.args.scope.now (names_in c.args.scope.now c.args.around.now) c.args.tree.now (elim c.in-Number.is [ inl v0 ↦ ap (typed_cond c.args.scope.now (names_in c.args.scope.now c.args.around.now)) v0.2 ∙ cond-Number c.args.scope.now (names_in c.args.scope.now c.args.around.now) _ _ | inr w1 ↦ elim w1 [ inl v1 ↦ ap (typed_cond c.args.scope.now (names_in c.args.scope.now c.args.around.now)) v1.3 ∙ cond-Text c.args.scope.now (names_in c.args.scope.now c.args.around.now) _ _ _ | inr w2 ↦ elim w2 [ inl v2 ↦ ap (typed_cond c.args.scope.now (names_in c.args.scope.now c.args.around.now)) v2.2 ∙ cond-Truth c.args.scope.now (names_in c.args.scope.now c.args.around.now) _ _ | inr w3 ↦ elim w3 [ inl v3 ↦ ap (typed_cond c.args.scope.now (names_in c.args.scope.now c.args.around.now)) v3.1 ∙ cond-Infinity c.args.scope.now (names_in c.args.scope.now c.args.around.now) _ | inr w4 ↦ elim w4 [ inl v4 ↦ ap (typed_cond c.args.scope.now (names_in c.args.scope.now c.args.around.now)) v4.2 ∙ cond-Name c.args.scope.now (names_in c.args.scope.now c.args.around.now) _ _ | inr w5 ↦ elim w5 [ inl v5 ↦ ap (typed_cond c.args.scope.now (names_in c.args.scope.now c.args.around.now)) v5.3 ∙ cond-Item c.args.scope.now (names_in c.args.scope.now c.args.around.now) _ _ _ | inr w6 ↦ elim w6 [ inl v6 ↦ ap (typed_cond c.args.scope.now (names_in c.args.scope.now c.args.around.now)) v6.3 ∙ cond-Call c.args.scope.now (names_in c.args.scope.now c.args.around.now) _ _ _ | inr w7 ↦ elim w7 [ inl v7 ↦ ap (typed_cond c.args.scope.now (names_in c.args.scope.now c.args.around.now)) v7.3 ∙ cond-Func c.args.scope.now (names_in c.args.scope.now c.args.around.now) _ _ _ | inr w8 ↦ elim w8 [ inl v8 ↦ ap (typed_cond c.args.scope.now (names_in c.args.scope.now c.args.around.now)) v8.3 ∙ cond-Proj c.args.scope.now (names_in c.args.scope.now c.args.around.now) _ _ _ | inr w9 ↦ elim w9 [ inl v9 ↦ ap (typed_cond c.args.scope.now (names_in c.args.scope.now c.args.around.now)) v9.2 ∙ cond-Braces c.args.scope.now (names_in c.args.scope.now c.args.around.now) _ _ | inr w10 ↦ elim w10 [ inl v10 ↦ ap (typed_cond c.args.scope.now (names_in c.args.scope.now c.args.around.now)) v10.5 ∙ cond-If c.args.scope.now (names_in c.args.scope.now c.args.around.now) _ _ _ _ _ | inr w11 ↦ elim w11 [ inl v11 ↦ ap (typed_cond c.args.scope.now (names_in c.args.scope.now c.args.around.now)) v11.2 ∙ cond-Factorial c.args.scope.now (names_in c.args.scope.now c.args.around.now) _ _ | inr w12 ↦ elim w12 [ inl v12 ↦ ap (typed_cond c.args.scope.now (names_in c.args.scope.now c.args.around.now)) v12.5 ∙ cond-Power c.args.scope.now (names_in c.args.scope.now c.args.around.now) _ _ _ _ _ | inr w13 ↦ elim w13 [ inl v13 ↦ ap (typed_cond c.args.scope.now (names_in c.args.scope.now c.args.around.now)) v13.3 ∙ cond-Signed c.args.scope.now (names_in c.args.scope.now c.args.around.now) _ _ _ | inr w14 ↦ elim w14 [ inl v14 ↦ ap (typed_cond c.args.scope.now (names_in c.args.scope.now c.args.around.now)) v14.5 ∙ cond-Big c.args.scope.now (names_in c.args.scope.now c.args.around.now) _ _ _ _ _ | inr w15 ↦ elim w15 [ inl v15 ↦ ap (typed_cond c.args.scope.now (names_in c.args.scope.now c.args.around.now)) v15.2 ∙ cond-Times c.args.scope.now (names_in c.args.scope.now c.args.around.now) _ _ | inr w16 ↦ elim w16 [ inl v16 ↦ ap (typed_cond c.args.scope.now (names_in c.args.scope.now c.args.around.now)) v16.2 ∙ cond-Plus c.args.scope.now (names_in c.args.scope.now c.args.around.now) _ _ | inr w17 ↦ elim w17 [ inl v17 ↦ ap (typed_cond c.args.scope.now (names_in c.args.scope.now c.args.around.now)) v17.3 ∙ cond-Member c.args.scope.now (names_in c.args.scope.now c.args.around.now) _ _ _ | inr w18 ↦ ap (typed_cond c.args.scope.now (names_in c.args.scope.now c.args.around.now)) w18.4 ∙ cond-Forall c.args.scope.now (names_in c.args.scope.now c.args.around.now) _ _ _ _ ] ] ] ] ] ] ] ] ] ] ] ] ] ] ] ] ] ])) c.fixed-in-Number.ensures
