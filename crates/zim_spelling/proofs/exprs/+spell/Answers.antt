-- Each form is spelled part by part, in the order of the code.
use Rattle.std.proofs.Common.{◌∷◌, if◌then◌else◌, ◌++◌}
use Rattle.std.specs.Prelude.{Bool}
use Rattle.zim_fault.specs.declared.faults.Place.{Place}
use Rattle.zim_fault.specs.declared.tokens.Token.{Token}
use Rattle.zim_fault.specs.declared.tokens.Relation.{Relation}
use Rattle.zim_fault.specs.declared.signs.Sign.TheVariants.{SComma}
use Rattle.zim_fault.specs.declared.words.Word.TheVariants.{WAnd, WOr, WXor}
use Rattle.zim_tree.specs.declared.expr.Expr.{Expr}
use Rattle.zim_tree.specs.Spelling.{Tokens, a_word, a_sign, relation_sign, spelling, angle_spelling}
use Rattle.zim_spelling.proofs.SpellerLaws.{◌▸◌, given, Spells-nothing, Spells-next-map, else_behind, by_behind}
use Rattle.zim_tree.proofs.SpellingLaws.{spelling-Item, spelling-Call, spelling-Func, spelling-Proj, spelling-Paren, spelling-Braces, spelling-If, spelling-Factorial, spelling-Power, spelling-Signed, spelling-Big, spelling-Times, spelling-Plus, spelling-Compare, spelling-Member, spelling-Not, spelling-And, spelling-Or, spelling-Forall, spelling-Span}
use Rattle.zim_spelling.proofs.exprs.+spell.Goals as goal

pub spell_expr-returns-in-Item : goal.spell_expr-returns-in-Item
spell_expr-returns-in-Item t c =
    given (c.put_name-in-Item.ensures ▸ c.put_sign.ensures ▸ c.spell_exprs.ensures ▸ c.put_sign-in-Item.ensures) (simp (c.as_slice.ensures, c.in-Item.is, spelling-Item))

pub spell_expr-returns-in-Call : goal.spell_expr-returns-in-Call
spell_expr-returns-in-Call t c =
    given (c.put_name-in-Call.ensures ▸ c.put_sign-in-Call.ensures ▸ c.spell_exprs-in-Call.ensures ▸ c.put_sign-in-Call-2.ensures) (simp (c.as_slice-in-Call.ensures, c.in-Call.is, spelling-Call))

pub spell_expr-returns-in-Func : goal.spell_expr-returns-in-Func
spell_expr-returns-in-Func t c =
    given (c.put_word-in-Func.ensures ▸ c.put_sign-in-Func.ensures ▸ c.spell_exprs-in-Func.ensures ▸ c.put_sign-in-Func-2.ensures) (simp (c.as_slice-in-Func.ensures, c.in-Func.is, spelling-Func))

pub spell_expr-returns-in-Proj : goal.spell_expr-returns-in-Proj
spell_expr-returns-in-Proj t c =
    given (c.put_word-in-Proj.ensures ▸ c.put_sign-in-Proj.ensures ▸ c.spell_expr.ensures ▸ c.put_sign-in-Proj-2.ensures ▸ c.spell_angle.ensures ▸ c.put_sign-in-Proj-3.ensures) (simp (c.get.ensures, c.in-Proj.is, spelling-Proj))

pub spell_expr-returns-in-Paren : goal.spell_expr-returns-in-Paren
spell_expr-returns-in-Paren t c =
    given (c.put_sign-in-Paren.ensures ▸ c.spell_expr-in-Paren.ensures ▸ c.put_sign-in-Paren-2.ensures) (simp (c.get-in-Paren.ensures, c.in-Paren.is, spelling-Paren))

pub spell_expr-returns-in-Braces : goal.spell_expr-returns-in-Braces
spell_expr-returns-in-Braces t c =
    given (c.put_sign-in-Braces.ensures ▸ c.spell_body.ensures ▸ c.put_sign-in-Braces-2.ensures) (simp (c.get-in-Braces.ensures, c.in-Braces.is, spelling-Braces))

pub spell_expr-returns-in-If : goal.spell_expr-returns-in-If
spell_expr-returns-in-If t c =
    given (c.put_one_word-in-If.ensures ▸ c.spell_expr-in-If.ensures ▸ c.put_word-in-If.ensures ▸ c.spell_expr-in-If-2.ensures ▸ c.spell_behind.ensures ▸ c.put_word-in-If-2.ensures) (simp (c.get-in-If.ensures, c.get-in-If-2.ensures, c.in-If.is, spelling-If, else_behind))

pub spell_expr-returns-in-Factorial : goal.spell_expr-returns-in-Factorial
spell_expr-returns-in-Factorial t c =
    given (c.spell_expr-in-Factorial.ensures ▸ c.put_marks.ensures) (simp (c.get-in-Factorial.ensures, c.as_slice-in-Factorial.ensures, c.in-Factorial.is, spelling-Factorial))

pub spell_expr-returns-in-Power : goal.spell_expr-returns-in-Power
spell_expr-returns-in-Power t c =
    given (c.spell_expr-in-Power.ensures ▸ c.put_sign-in-Power.ensures ▸ c.put_exponent_sign.ensures ▸ c.spell_expr-in-Power-2.ensures) (simp (c.get-in-Power.ensures, c.get-in-Power-2.ensures, c.in-Power.is, spelling-Power))

pub spell_expr-returns-in-Signed : goal.spell_expr-returns-in-Signed
spell_expr-returns-in-Signed t c =
    given (c.put_plus_or_minus.ensures ▸ c.spell_expr-in-Signed.ensures) (simp (c.get-in-Signed.ensures, c.in-Signed.is, spelling-Signed))

pub spell_expr-returns-in-Big : goal.spell_expr-returns-in-Big
spell_expr-returns-in-Big t c =
    given (c.put_word-in-Big.ensures ▸ c.spell_index.ensures ▸ c.put_separator.ensures ▸ c.spell_expr-in-Big.ensures) (simp (c.get-in-Big.ensures, c.get-in-Big-2.ensures, c.in-Big.is, spelling-Big))

pub spell_expr-returns-in-Times : goal.spell_expr-returns-in-Times
spell_expr-returns-in-Times t c =
    given (c.spell_expr-in-Times.ensures ▸ c.spell_operations.ensures) (simp (c.get-in-Times.ensures, c.as_slice-in-Times.ensures, c.in-Times.is, spelling-Times))

pub spell_expr-returns-in-Plus : goal.spell_expr-returns-in-Plus
spell_expr-returns-in-Plus t c =
    given (c.spell_expr-in-Plus.ensures ▸ c.spell_operations-in-Plus.ensures) (simp (c.get-in-Plus.ensures, c.as_slice-in-Plus.ensures, c.in-Plus.is, spelling-Plus))

pub spell_expr-returns-in-Compare : goal.spell_expr-returns-in-Compare
spell_expr-returns-in-Compare t c =
    given (c.spell_expr-in-Compare.ensures ▸ c.spell_relations.ensures) (simp (c.get-in-Compare.ensures, c.as_slice-in-Compare.ensures, c.in-Compare.is, spelling-Compare))

pub spell_expr-returns-in-Member : goal.spell_expr-returns-in-Member
spell_expr-returns-in-Member t c =
    given (c.spell_angle-in-Member.ensures ▸ c.put_word-in-Member.ensures ▸ c.spell_expr-in-Member.ensures) (simp (c.get-in-Member.ensures, c.in-Member.is, spelling-Member))

pub spell_expr-returns-in-Not : goal.spell_expr-returns-in-Not
spell_expr-returns-in-Not t c =
    given (c.put_word-in-Not.ensures ▸ c.spell_expr-in-Not.ensures) (simp (c.get-in-Not.ensures, c.in-Not.is, spelling-Not))

pub spell_expr-returns-in-And : goal.spell_expr-returns-in-And
spell_expr-returns-in-And t c =
    given (c.spell_expr-in-And.ensures ▸ c.spell_conjuncts.ensures) (simp (c.get-in-And.ensures, c.as_slice-in-And.ensures, c.in-And.is, spelling-And))

pub spell_expr-returns-in-Or : goal.spell_expr-returns-in-Or
spell_expr-returns-in-Or t c =
    given (c.spell_expr-in-Or.ensures ▸ c.spell_disjuncts.ensures) (simp (c.get-in-Or.ensures, c.as_slice-in-Or.ensures, c.in-Or.is, spelling-Or))

pub spell_expr-returns-in-Forall : goal.spell_expr-returns-in-Forall
spell_expr-returns-in-Forall t c =
    given (c.put_word-in-Forall.ensures ▸ c.spell_index-in-Forall.ensures ▸ c.put_separator-in-Forall.ensures ▸ c.spell_expr-in-Forall.ensures) (simp (c.get-in-Forall.ensures, c.get-in-Forall-2.ensures, c.in-Forall.is, spelling-Forall))

pub spell_body-returns-in-Span : goal.spell_body-returns-in-Span
spell_body-returns-in-Span t c =
    given (c.spell_expr.ensures ▸ c.put_dots_or_to.ensures ▸ c.spell_expr-in-Span.ensures ▸ c.spell_behind.ensures) (simp (c.get-in-Span.ensures, c.get-in-Span-2.ensures, c.in-Span.is, spelling-Span, by_behind))

pub spell_exprs-loop-tree-init : goal.spell_exprs-loop-tree-init
spell_exprs-loop-tree-init t c = Spells-nothing _

pub spell_exprs-loop-tree-preserved : goal.spell_exprs-loop-tree-preserved
spell_exprs-loop-tree-preserved t c =
    Spells-next-map (λ (part : Tokens). a_sign SComma ++ part) spelling c.in-Some.others.now c.loop-tree.tree-index c.tree-item.result c.loop-tree-test.true c.tree-item.is c.loop-tree.invariant (c.put_sign.ensures ▸ c.spell_expr-in-loop-tree.ensures)

pub spell_body-loop-tuple-init : goal.spell_body-loop-tuple-init
spell_body-loop-tuple-init t c = Spells-nothing _

pub spell_body-loop-tuple-preserved : goal.spell_body-loop-tuple-preserved
spell_body-loop-tuple-preserved t c =
    Spells-next-map (λ (part : Tokens). a_sign SComma ++ part) angle_spelling c.in-Some.others.now c.loop-tuple.tuple-index c.tuple-item.result c.loop-tuple-test.true c.tuple-item.is c.loop-tuple.invariant (c.put_sign.ensures ▸ c.spell_angle-in-loop-tuple.ensures)

pub spell_operations-loop-place-init : goal.spell_operations-loop-place-init
spell_operations-loop-place-init t c = Spells-nothing _

pub spell_operations-loop-place-preserved : goal.spell_operations-loop-place-preserved
spell_operations-loop-place-preserved t c =
    Spells-next-map (λ (x : Place × Token × Tokens). x.1 ∷ x.2) (λ (x : Place × Token × Expr). (x.0, x.1, spelling x.2)) c.args.others.now c.loop-place._place-index c.loop-place-item.result c.loop-place-test.true c.loop-place-item.is c.loop-place.invariant (c.put_copy.ensures ▸ c.spell_expr.ensures)

pub spell_relations-loop-place-init : goal.spell_relations-loop-place-init
spell_relations-loop-place-init t c = Spells-nothing _

pub spell_relations-loop-place-preserved : goal.spell_relations-loop-place-preserved
spell_relations-loop-place-preserved t c =
    Spells-next-map (λ (x : Place × Relation × Tokens). a_sign (relation_sign x.1) ++ x.2) (λ (x : Place × Relation × Expr). (x.0, x.1, spelling x.2)) c.args.others.now c.loop-place._place-index c.loop-place-item.result c.loop-place-test.true c.loop-place-item.is c.loop-place.invariant (c.put_relation.ensures ▸ c.spell_expr.ensures)

pub spell_conjuncts-loop-place-init : goal.spell_conjuncts-loop-place-init
spell_conjuncts-loop-place-init t c = Spells-nothing _

pub spell_conjuncts-loop-place-preserved : goal.spell_conjuncts-loop-place-preserved
spell_conjuncts-loop-place-preserved t c =
    Spells-next-map (λ (x : Place × Tokens). a_word WAnd ++ x.1) (λ (x : Place × Expr). (x.0, spelling x.1)) c.args.others.now c.loop-place._place-index c.loop-place-item.result c.loop-place-test.true c.loop-place-item.is c.loop-place.invariant (c.put_word.ensures ▸ c.spell_expr.ensures)

pub spell_disjuncts-loop-place-init : goal.spell_disjuncts-loop-place-init
spell_disjuncts-loop-place-init t c = Spells-nothing _

pub spell_disjuncts-loop-place-preserved : goal.spell_disjuncts-loop-place-preserved
spell_disjuncts-loop-place-preserved t c =
    Spells-next-map (λ (x : Place × Bool × Tokens). a_word (if x.1 then WXor else WOr) ++ x.2) (λ (x : Place × Bool × Expr). (x.0, x.1, spelling x.2)) c.args.others.now c.loop-place._place-index c.loop-place-item.result c.loop-place-test.true c.loop-place-item.is c.loop-place.invariant (c.put_one_word.ensures ▸ c.spell_expr.ensures)
