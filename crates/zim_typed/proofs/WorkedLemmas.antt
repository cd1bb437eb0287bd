-- The typed trees of some expressions, rule by rule.
use Rattle.std.proofs.Common.{◌≡◌, [], ◌∷◌, true, false, ◌||◌, Some, IsTrue, refl, sym, ap, ◌∙◌}
use Rattle.zim_fault.specs.declared.faults.Place.{Place}
use Rattle.zim_fault.specs.declared.tokens.Token.TheVariants.{Word as word_token}
use Rattle.zim_fault.specs.declared.tokens.Relation.TheVariants.{AtMost}
use Rattle.zim_fault.specs.declared.words.Word.TheVariants.{WMod, WDefnumb}
use Rattle.zim_tree.specs.declared.expr.Expr.{Expr-F}
use Rattle.zim_tree.specs.declared.expr.Body.TheViews.{out-roll-Expr}
use Rattle.zim_tree.specs.declared.expr.Expr.TheVariants as tree
use Rattle.zim_decimal.specs.Token.{is_number_token, is_mantissa}
use Rattle.zim_typed.specs.Pattern.{name_node, bare_name, bound_name, if_unknown}
use Rattle.zim_typed.specs.Constants.{const_number, const_truth, const_name, const_product, no_operand, one_operand, no_slot, free_slot, again_slot, is_loop}
use Rattle.zim_typed.specs.Terms.{term_variable, term_multiple, no_factor, con_range}
use Rattle.zim_typed.specs.Statements.{is_value, is_infinity, is_chosen, is_definition}
use Rattle.zim_typed.specs.Worked.{one_text, two, seven, x, a_set, i, with_variable, with_set, QuotientsMultiply, RepeatedNamesAreBoundOnce, ChainsAreRanges, BoundsMayPickInfinity, BodiesNameParameters}
use Rattle.zim_typed.proofs.VariableLaws.{has-Number, has-Name, has-Times}

-- `1`, `2` and `7` are numbers
digit_one : IsTrue (is_number_token one_text)
unfolding is_number_token is_mantissa
digit_one = refl

digit_two : IsTrue (is_number_token two)
unfolding is_number_token is_mantissa
digit_two = refl

digit_seven : IsTrue (is_number_token seven)
unfolding is_number_token is_mantissa
digit_seven = refl

pub quotients_multiply : QuotientsMultiply
quotients_multiply p q r s t =
    term_multiple s (tree.Number p seven) (tree.Name t x) ((q, word_token WMod, tree.Number r two) ∷ []) []
    (has-Times with_variable (tree.Number p seven) ((q, word_token WMod, tree.Number r two) ∷ []) ∙ (λ j. has-Number with_variable p seven j || (has-Number with_variable r two j || false)))
    (const_product (const_number p seven digit_seven) (one_operand q (word_token WMod) (const_number r two digit_two) no_operand))
    (has-Name with_variable t x) (term_variable t x refl) no_factor

-- the name `i` is bound, where it stands bare
bound_bare : (p : Place) → bound_name with_set [] (tree.Name p i) ≡ Some i
bound_bare p = ap (if_unknown with_set []) (ap bare_name (sym (tree.rolls-Name p i)) ∙ ap name_node (out-roll-Expr (Expr-F.Name p i)))

pub repeated_names : RepeatedNamesAreBoundOnce
repeated_names p q r s t = is_loop p q (free_slot (bound_bare r) refl (again_slot (bound_bare s) refl no_slot)) (const_name t a_set refl)

pub chains_are_ranges : ChainsAreRanges
chains_are_ranges p q r s t =
    con_range q s AtMost refl (has-Number with_variable p one_text) (has-Number with_variable t two) (const_number p one_text digit_one) (term_variable r x refl) (const_number t two digit_two)

pub bounds_may_pick : BoundsMayPickInfinity
bounds_may_pick p q r s = is_chosen p (const_truth q true) (is_value (const_number r one_text digit_one)) (is_infinity s)

pub bodies_name : BodiesNameParameters
bodies_name p q = is_definition WDefnumb ((p, i) ∷ []) (const_name q i refl)
