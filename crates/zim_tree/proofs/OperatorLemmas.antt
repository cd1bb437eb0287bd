-- An operator is spelled by the token that it was read from.
use Rattle.std.proofs.Common.{◌≡◌, true, false, [], ◌∷◌, ◌++◌, if◌then◌else◌, refl, sym, ap, ◌∙◌, append-nil, true≢false}
use Rattle.zim_fault.specs.declared.faults.Place.{Place}
use Rattle.zim_fault.specs.declared.tokens.Token.{Token}
use Rattle.zim_fault.specs.declared.tokens.Token.TheVariants.{Word as word_token, Sign as sign_token}
use Rattle.zim_fault.specs.declared.signs.Sign.TheVariants.{SLess, SGreater, SLessEqual, SGreaterEqual, SEqual, SNotEqual}
use Rattle.zim_fault.specs.declared.words.Word.TheVariants.{WAnd, WOr, WXor}
use Rattle.zim_tree.specs.declared.expr.Expr.{Expr}
use Rattle.zim_tree.specs.Classes.{token_class}
use Rattle.zim_tree.specs.Levels.{Chain, products, sums, relations, conjunctions, disjunctions, joins, Operands, relation_of, is_xor, compared, conjoined, disjoined, joined}
use Rattle.zim_tree.specs.Spelling.{Tokens, relation_sign, spelling, operations_of, relations_of, conjuncts_of, disjuncts_of}
use Rattle.zim_tree.proofs.SpellingLaws.{spelling-Times, spelling-Plus, spelling-Compare, spelling-And, spelling-Or}

no : {A : Type 0} → false ≡ true → A
no h = absurd (true≢false (sym h))

relation_back : (token : Token) → joins relations (token_class token) ≡ true → sign_token (relation_sign (relation_of token)) ≡ token
relation_back (sign_token SLess) h = refl
relation_back (sign_token SGreater) h = refl
relation_back (sign_token SLessEqual) h = refl
relation_back (sign_token SGreaterEqual) h = refl
relation_back (sign_token SEqual) h = refl
relation_back (sign_token SNotEqual) h = refl
relation_back (word_token WAnd) h = no h
relation_back _ h = no h

and_back : (token : Token) → joins conjunctions (token_class token) ≡ true → word_token WAnd ≡ token
and_back (word_token WAnd) h = refl
and_back (sign_token SLess) h = no h
and_back _ h = no h

or_back : (token : Token) → joins disjunctions (token_class token) ≡ true → word_token (if is_xor token then WXor else WOr) ≡ token
or_back (word_token WOr) h = refl
or_back (word_token WXor) h = refl
or_back (sign_token SLess) h = no h
or_back _ h = no h

-- how the operators and operands of a list are spelled
abbrev pub operands_spelling : Chain → Operands → Tokens
operands_spelling products others = operations_of others
operands_spelling sums others = operations_of others
operands_spelling relations others = relations_of (compared others)
operands_spelling conjunctions others = conjuncts_of (conjoined others)
operands_spelling disjunctions others = disjuncts_of (disjoined others)

pub operands_spelling-nil : (chain : Chain) → operands_spelling chain [] ≡ []
operands_spelling-nil products = refl
operands_spelling-nil sums = refl
operands_spelling-nil relations = refl
operands_spelling-nil conjunctions = refl
operands_spelling-nil disjunctions = refl

pub operands_spelling-cons : (chain : Chain) (p : Place) (token : Token) (operand : Expr) (others : Operands) → joins chain (token_class token) ≡ true →
    operands_spelling chain ((p, token, operand) ∷ others) ≡ token ∷ (spelling operand ++ operands_spelling chain others)
operands_spelling-cons products p token operand others h = refl
operands_spelling-cons sums p token operand others h = refl
operands_spelling-cons relations p token operand others h = ap (λ (t : Token). t ∷ (spelling operand ++ relations_of (compared others))) (relation_back token h)
operands_spelling-cons conjunctions p token operand others h = ap (λ (t : Token). t ∷ (spelling operand ++ conjuncts_of (conjoined others))) (and_back token h)
operands_spelling-cons disjunctions p token operand others h = ap (λ (t : Token). t ∷ (spelling operand ++ disjuncts_of (disjoined others))) (or_back token h)

pub joined-spelling : (chain : Chain) (first : Expr) (others : Operands) → spelling (joined chain first others) ≡ spelling first ++ operands_spelling chain others
joined-spelling chain first [] = sym (ap (λ (l : Tokens). spelling first ++ l) (operands_spelling-nil chain) ∙ append-nil (spelling first))
joined-spelling products first (other ∷ others) = spelling-Times first (other ∷ others)
joined-spelling sums first (other ∷ others) = spelling-Plus first (other ∷ others)
joined-spelling relations first (other ∷ others) = spelling-Compare first (compared (other ∷ others))
joined-spelling conjunctions first (other ∷ others) = spelling-And first (conjoined (other ∷ others))
joined-spelling disjunctions first (other ∷ others) = spelling-Or first (disjoined (other ∷ others))
