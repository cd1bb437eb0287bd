-- The grammar of expressions: a derivation shows that these tokens are a tree of this level, each part of the tree
-- of the level that the rule names, and each place that of the token that the rule marks.
-- A tree is tight where it has a derivation.
use Rattle.std.specs.Prelude.{ℕ, ◌≡◌, List, [], ◌∷◌, ◌++◌, length, Bool, true, Option, Some, None}
use Rattle.zim_fault.specs.declared.faults.Place.{Place}
use Rattle.zim_fault.specs.declared.tokens.Token.{Token}
use Rattle.zim_fault.specs.declared.tokens.Token.TheVariants.{Name as name_token, Word as word_token, Number as number_token, Text as text_token, Sign as sign_token}
use Rattle.zim_fault.specs.declared.tokens.Placed.{Placed}
use Rattle.zim_fault.specs.declared.signs.Sign.{Sign}
use Rattle.zim_fault.specs.declared.signs.Sign.TheVariants.{SComma, SLeftParen, SRightParen, SLeftBracket, SRightBracket, SLeftBrace, SRightBrace, SLess, SGreater}
use Rattle.zim_fault.specs.declared.words.Word.{Word}
use Rattle.zim_fault.specs.declared.words.Word.TheVariants.{WForall, WThen, WElse, WEnd, WNot, WIn, WBy, WInfinity, WProj}
use Rattle.zim_tree.specs.declared.expr.Expr.{Expr}
use Rattle.zim_tree.specs.declared.expr.Expr.TheVariants as tree
use Rattle.zim_tree.specs.declared.expr.Angle.{Angle}
use Rattle.zim_tree.specs.declared.expr.Index.{Index}
use Rattle.zim_tree.specs.declared.expr.Body.{Body}
use Rattle.zim_tree.specs.declared.expr.Body.TheVariants as body
use Rattle.zim_tree.specs.declared.classes.Class.TheVariants as class
use Rattle.zim_tree.specs.Trees.{angle_of, index_of}
use Rattle.zim_tree.specs.Classes.{token_class, word_class, sign_class}
use Rattle.zim_tree.specs.Levels.{Level, primary, postfix, power, unary, product, big, loop, term, sum, comparison, negation, disjunction, whole, Chain, level_of, operand_of, joins, Limits, Operands, joined, factorial, placed, exclamations, sign_token_of, exponent_sign, separator_token, condition_token, span_token, truth_token, if_token, is_function, is_loop}

mutual
  -- the tokens are an expression of this level
  pub data Reads : Level → List Placed → Expr → Type 0 where
    a_number : (p : Place) (digits : List ℕ) → Reads primary (placed p (number_token digits) ∷ []) (tree.Number p digits)
    a_text : (p : Place) (text : List ℕ) (double : Bool) → Reads primary (placed p (text_token text double) ∷ []) (tree.Text p text double)
    a_truth : (p : Place) (truth : Bool) → Reads primary (placed p (truth_token truth) ∷ []) (tree.Truth p truth)
    an_infinity : (p : Place) → Reads primary (placed p (word_token WInfinity) ∷ []) (tree.Infinity p)
    a_name : (p : Place) (name : List ℕ) → Reads primary (placed p (name_token name) ∷ []) (tree.Name p name)
    an_item : (p q r : Place) (name : List ℕ) {ts : List Placed} {index : List Expr} → ReadsList sum ts index →
        Reads primary (placed p (name_token name) ∷ (placed q (sign_token SLeftBracket) ∷ (ts ++ placed r (sign_token SRightBracket) ∷ []))) (tree.Item p name index)
    a_bare_call : (p q r : Place) (name : List ℕ) →
        Reads primary (placed p (name_token name) ∷ (placed q (sign_token SLeftParen) ∷ (placed r (sign_token SRightParen) ∷ []))) (tree.Call p name [])
    a_call : (p q r : Place) (name : List ℕ) {ts : List Placed} {given : List Expr} → ReadsList disjunction ts given →
        Reads primary (placed p (name_token name) ∷ (placed q (sign_token SLeftParen) ∷ (ts ++ placed r (sign_token SRightParen) ∷ []))) (tree.Call p name given)
    a_function : (p q r : Place) (word : Word) {ts : List Placed} {given : List Expr} → is_function (word_class word) ≡ true → ReadsList disjunction ts given →
        Reads primary (placed p (word_token word) ∷ (placed q (sign_token SLeftParen) ∷ (ts ++ placed r (sign_token SRightParen) ∷ []))) (tree.Func p word given)
    a_projection : (p q r s : Place) {ts us : List Placed} {set : Expr} {positions : Angle} → Reads disjunction ts set → ReadsTuple us positions →
        Reads primary (placed p (word_token WProj) ∷ (placed q (sign_token SLeftParen) ∷ (ts ++ (placed r (sign_token SComma) ∷ (us ++ placed s (sign_token SRightParen) ∷ []))))) (tree.Proj p set positions)
    in_parentheses : (p q : Place) {ts : List Placed} {inner : Expr} → Reads disjunction ts inner →
        Reads primary (placed p (sign_token SLeftParen) ∷ (ts ++ placed q (sign_token SRightParen) ∷ [])) (tree.Paren p inner)
    in_braces : (p q : Place) {ts : List Placed} {inside : Body} → ReadsBody ts inside →
        Reads primary (placed p (sign_token SLeftBrace) ∷ (ts ++ placed q (sign_token SRightBrace) ∷ [])) (tree.Braces p inside)
    an_if : (p q r : Place) (vif : Bool) {ts us : List Placed} {test branch : Expr} → Reads disjunction ts test → Reads whole us branch →
        Reads primary (placed p (if_token vif) ∷ (ts ++ (placed q (word_token WThen) ∷ (us ++ placed r (word_token WEnd) ∷ [])))) (tree.If p vif test branch None)
    an_if_with_else : (p q r s : Place) (vif : Bool) {ts us vs : List Placed} {test branch otherwise : Expr} → Reads disjunction ts test → Reads whole us branch → Reads whole vs otherwise →
        Reads primary (placed p (if_token vif) ∷ (ts ++ (placed q (word_token WThen) ∷ (us ++ (placed r (word_token WElse) ∷ (vs ++ placed s (word_token WEnd) ∷ []))))))
        (tree.If p vif test branch (Some otherwise))
    a_postfix : (marks : List Place) {ts : List Placed} {operand : Expr} → Reads primary ts operand → Reads postfix (ts ++ exclamations marks) (factorial operand marks)
    no_power : {ts : List Placed} {base : Expr} → Reads postfix ts base → Reads power ts base
    a_power : (p : Place) (sign : Sign) (signed : Option (Place × Bool)) {ts us : List Placed} {base exponent : Expr} → sign_class sign ≡ class.Power →
        Reads postfix ts base → Reads postfix us exponent →
        Reads power (ts ++ placed p (sign_token sign) ∷ (exponent_sign signed ++ us)) (tree.Power p sign base signed exponent)
    no_sign : {ts : List Placed} {operand : Expr} → Reads power ts operand → Reads unary ts operand
    a_sign : (p : Place) (minus : Bool) {ts : List Placed} {operand : Expr} → Reads power ts operand →
        Reads unary (placed p (sign_token_of minus) ∷ ts) (tree.Signed p minus operand)
    a_big : (p q : Place) (word : Word) (with_do : Bool) {ts us : List Placed} {index : Index} {operand : Expr} → is_loop (word_class word) ≡ true →
        ReadsIndex ts index → Reads term us operand →
        Reads big (placed p (word_token word) ∷ (ts ++ (placed q (separator_token with_do) ∷ us))) (tree.Big p word index with_do operand)
    no_loop_sign : {ts : List Placed} {operand : Expr} → Reads big ts operand → Reads loop ts operand
    a_loop_sign : (p : Place) (minus : Bool) {ts : List Placed} {operand : Expr} → Reads big ts operand →
        Reads loop (placed p (sign_token_of minus) ∷ ts) (tree.Signed p minus operand)
    a_product : {ts : List Placed} {operand : Expr} → Reads product ts operand → Reads term ts operand
    a_loop : {ts : List Placed} {operand : Expr} → Reads loop ts operand → Reads term ts operand
    a_product_with_loop : (p : Place) (token : Token) {ts us : List Placed} {first last : Expr} → token_class token ≡ class.Product →
        Reads product ts first → Reads loop us last →
        Reads term (ts ++ placed p token ∷ us) (tree.Times first ((p, token, last) ∷ []))
    a_chain : (chain : Chain) {ts us : List Placed} {first : Expr} {others : Operands} → Limits chain (length others) →
        Reads (operand_of chain) ts first → ReadsOperands chain us others → Reads (level_of chain) (ts ++ us) (joined chain first others)
    a_member : (p : Place) {ts us : List Placed} {tuple : Angle} {set : Expr} → ReadsTuple ts tuple → Reads sum us set →
        Reads comparison (ts ++ placed p (word_token WIn) ∷ us) (tree.Member p tuple set)
    no_not : {ts : List Placed} {operand : Expr} → Reads comparison ts operand → Reads negation ts operand
    a_not : (p : Place) {ts : List Placed} {operand : Expr} → Reads comparison ts operand →
        Reads negation (placed p (word_token WNot) ∷ ts) (tree.Not p operand)
    no_forall : {ts : List Placed} {operand : Expr} → Reads disjunction ts operand → Reads whole ts operand
    a_forall : (p q : Place) (with_do : Bool) {ts us : List Placed} {index : Index} {inside : Expr} → ReadsIndex ts index → Reads whole us inside →
        Reads whole (placed p (word_token WForall) ∷ (ts ++ (placed q (separator_token with_do) ∷ us))) (tree.Forall p index with_do inside)

  -- the tokens are operators of this list, each with an operand behind it
  pub data ReadsOperands : Chain → List Placed → Operands → Type 0 where
    no_operand : (chain : Chain) → ReadsOperands chain [] []
    an_operand : (chain : Chain) (p : Place) (token : Token) {ts us : List Placed} {operand : Expr} {others : Operands} → joins chain (token_class token) ≡ true →
        Reads (operand_of chain) ts operand → ReadsOperands chain us others →
        ReadsOperands chain (placed p token ∷ (ts ++ us)) ((p, token, operand) ∷ others)

  -- the tokens are one or more expressions of this level with commas between them
  pub data ReadsList : Level → List Placed → List Expr → Type 0 where
    the_last : {level : Level} {ts : List Placed} {item : Expr} → Reads level ts item → ReadsList level ts (item ∷ [])
    one_more : {level : Level} (p : Place) {ts us : List Placed} {item : Expr} {items : List Expr} → Reads level ts item → ReadsList level us items →
        ReadsList level (ts ++ placed p (sign_token SComma) ∷ us) (item ∷ items)

  -- the tokens are a tuple
  pub data ReadsTuple : List Placed → Angle → Type 0 where
    a_tuple : (p q : Place) {ts : List Placed} {items : List Expr} → ReadsList sum ts items →
        ReadsTuple (placed p (sign_token SLess) ∷ (ts ++ placed q (sign_token SGreater) ∷ [])) (angle_of p items)

  -- the tokens are one or more tuples with commas between them
  pub data ReadsTuples : List Placed → List Angle → Type 0 where
    the_last_tuple : {ts : List Placed} {tuple : Angle} → ReadsTuple ts tuple → ReadsTuples ts (tuple ∷ [])
    one_more_tuple : (p : Place) {ts us : List Placed} {tuple : Angle} {tuples : List Angle} → ReadsTuple ts tuple → ReadsTuples us tuples →
        ReadsTuples (ts ++ placed p (sign_token SComma) ∷ us) (tuple ∷ tuples)

  -- the tokens are an index
  pub data ReadsIndex : List Placed → Index → Type 0 where
    an_index : (p : Place) {ts us : List Placed} {tuple : Angle} {set : Expr} → ReadsTuple ts tuple → Reads sum us set →
        ReadsIndex (ts ++ placed p (word_token WIn) ∷ us) (index_of p tuple set None)
    an_index_with : (p q : Place) (bar : Bool) {ts us vs : List Placed} {tuple : Angle} {set cond : Expr} → ReadsTuple ts tuple → Reads sum us set → Reads disjunction vs cond →
        ReadsIndex (ts ++ placed p (word_token WIn) ∷ (us ++ placed q (condition_token bar) ∷ vs)) (index_of p tuple set (Some (bar, cond)))

  -- the tokens are what stands in braces
  pub data ReadsBody : List Placed → Body → Type 0 where
    nothing : ReadsBody [] body.Empty
    the_members : {ts : List Placed} {members : List Expr} → ReadsList sum ts members → ReadsBody ts (body.Members members)
    the_tuples : {ts : List Placed} {tuples : List Angle} → ReadsTuples ts tuples → ReadsBody ts (body.Tuples tuples)
    the_choices : {ts : List Placed} {index : Index} → ReadsIndex ts index → ReadsBody ts (body.Those index)
    a_span : (p : Place) (with_to : Bool) {ts us : List Placed} {from to : Expr} → Reads sum ts from → Reads sum us to →
        ReadsBody (ts ++ placed p (span_token with_to) ∷ us) (body.Span from with_to to None)
    a_span_by : (p q : Place) (with_to : Bool) {ts us vs : List Placed} {from to by : Expr} → Reads sum ts from → Reads sum us to → Reads sum vs by →
        ReadsBody (ts ++ placed p (span_token with_to) ∷ (us ++ placed q (word_token WBy) ∷ vs)) (body.Span from with_to to (Some by))
