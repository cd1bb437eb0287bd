-- How each tree is spelled: the tokens of its rule, with the spellings of its parts in their places.
use Rattle.std.specs.Prelude.{List, [], ◌∷◌, ◌++◌, map, Bool, true, false, Option, Some, None, if◌then◌else◌}
use Rattle.std.specs.List.{flat_map}
use Rattle.zim_fault.specs.declared.faults.Place.{Place}
use Rattle.zim_fault.specs.declared.tokens.Token.{Token}
use Rattle.zim_fault.specs.declared.tokens.Token.TheVariants.{Name as name_token, Word as word_token, Number as number_token, Text as text_token, Sign as sign_token}
use Rattle.zim_fault.specs.declared.tokens.Relation.{Relation}
use Rattle.zim_fault.specs.declared.tokens.Relation.TheVariants.{LessThan, AtMost, EqualTo, NotEqualTo, AtLeast, GreaterThan}
use Rattle.zim_fault.specs.declared.signs.Sign.{Sign}
use Rattle.zim_fault.specs.declared.signs.Sign.TheVariants.{SComma, SColon, SLeftParen, SRightParen, SLeftBracket, SRightBracket, SLeftBrace, SRightBrace, SLess, SGreater, SLessEqual, SGreaterEqual, SEqual, SNotEqual, SPlus, SMinus, SExclamation, SBar, SDots}
use Rattle.zim_fault.specs.declared.words.Word.{Word}
use Rattle.zim_fault.specs.declared.words.Word.TheVariants.{WDo, WForall, WIf, WThen, WElse, WEnd, WVif, WAnd, WOr, WXor, WNot, WIn, WWith, WTo, WBy, WTrue, WFalse, WInfinity, WProj}
use Rattle.zim_tree.specs.declared.expr.Expr.{Expr, Expr-F, fold-Expr}
use Rattle.zim_tree.specs.declared.expr.Angle.{Angle, Angle-F, fold-Angle}
use Rattle.zim_tree.specs.declared.expr.Index.{Index, Index-F, fold-Index}
use Rattle.zim_tree.specs.declared.expr.Body.{Body, Body-F, fold-Body}

-- a list of tokens
abbrev pub Tokens : Type 0
Tokens = List Token

-- one word
abbrev pub a_word : Word → Tokens
a_word w = word_token w ∷ []

-- one sign
abbrev pub a_sign : Sign → Tokens
a_sign s = sign_token s ∷ []

-- a comma and the spelling of a part, for each part
abbrev pub after_commas : List Tokens → Tokens
after_commas = flat_map (λ part. sign_token SComma ∷ part)

-- the parts with commas between them
abbrev pub with_commas : List Tokens → Tokens
with_commas [] = []
with_commas (part ∷ rest) = part ++ after_commas rest

-- `+` or `-`
abbrev pub sign_of : Bool → Tokens
sign_of minus = a_sign (if minus then SMinus else SPlus)

-- `:` or `do`
abbrev pub separator : Bool → Tokens
separator true = a_word WDo
separator false = a_sign SColon

-- a relation's sign
abbrev pub relation_sign : Relation → Sign
relation_sign LessThan = SLess
relation_sign AtMost = SLessEqual
relation_sign EqualTo = SEqual
relation_sign NotEqualTo = SNotEqual
relation_sign AtLeast = SGreaterEqual
relation_sign GreaterThan = SGreater

-- as many `!` as there are places
abbrev pub marks : List Place → Tokens
marks = flat_map (λ place. a_sign SExclamation)

-- each operator and the operand behind it
abbrev pub operations : List (Place × Token × Tokens) → Tokens
operations = flat_map (λ x. x.1 ∷ x.2)

-- each relation and the operand behind it
abbrev pub relations : List (Place × Relation × Tokens) → Tokens
relations = flat_map (λ x. sign_token (relation_sign x.1) ∷ x.2)

-- `and` and an operand, again and again
abbrev pub conjuncts : List (Place × Tokens) → Tokens
conjuncts = flat_map (λ x. word_token WAnd ∷ x.1)

-- `or` or `xor` and an operand, again and again
abbrev pub disjuncts : List (Place × Bool × Tokens) → Tokens
disjuncts = flat_map (λ x. word_token (if x.1 then WXor else WOr) ∷ x.2)

-- the sign of an exponent, if it has one
abbrev pub exponent_sign_spelled : Option (Place × Bool) → Tokens
exponent_sign_spelled None = []
exponent_sign_spelled (Some s) = sign_of s.1

-- `else` and a part, if there is one
abbrev pub else_part : Option Tokens → Tokens
else_part None = []
else_part (Some part) = word_token WElse ∷ part

-- `by` and a step, if there is one
abbrev pub by_part : Option Tokens → Tokens
by_part None = []
by_part (Some part) = word_token WBy ∷ part

-- `with` or a bar and a condition, if there is one
abbrev pub condition : Option (Bool × Tokens) → Tokens
condition None = []
condition (Some c) = (if c.0 then sign_token SBar else word_token WWith) ∷ c.1

-- an expression of parts that are spelled already
abbrev pub expr_spelled : Expr-F Tokens Tokens Tokens Tokens → Tokens
expr_spelled (Expr-F.Number place digits) = number_token digits ∷ []
expr_spelled (Expr-F.Text place text double) = text_token text double ∷ []
expr_spelled (Expr-F.Truth place truth) = a_word (if truth then WTrue else WFalse)
expr_spelled (Expr-F.Infinity place) = a_word WInfinity
expr_spelled (Expr-F.Name place name) = name_token name ∷ []
expr_spelled (Expr-F.Item place name index) = name_token name ∷ (a_sign SLeftBracket ++ (with_commas index ++ a_sign SRightBracket))
expr_spelled (Expr-F.Call place name given) = name_token name ∷ (a_sign SLeftParen ++ (with_commas given ++ a_sign SRightParen))
expr_spelled (Expr-F.Func place word given) = word_token word ∷ (a_sign SLeftParen ++ (with_commas given ++ a_sign SRightParen))
expr_spelled (Expr-F.Proj place set positions) =
    a_word WProj ++ (a_sign SLeftParen ++ (set ++ (a_sign SComma ++ (positions ++ a_sign SRightParen))))
expr_spelled (Expr-F.Paren place inner) = a_sign SLeftParen ++ (inner ++ a_sign SRightParen)
expr_spelled (Expr-F.Braces place body) = a_sign SLeftBrace ++ (body ++ a_sign SRightBrace)
expr_spelled (Expr-F.If place vif test branch otherwise) =
    a_word (if vif then WVif else WIf) ++ (test ++ (a_word WThen ++ (branch ++ (else_part otherwise ++ a_word WEnd))))
expr_spelled (Expr-F.Factorial operand places) = operand ++ marks places
expr_spelled (Expr-F.Power place sign base signed exponent) = base ++ (a_sign sign ++ (exponent_sign_spelled signed ++ exponent))
expr_spelled (Expr-F.Signed place minus operand) = sign_of minus ++ operand
expr_spelled (Expr-F.Big place word index with_do operand) = a_word word ++ (index ++ (separator with_do ++ operand))
expr_spelled (Expr-F.Times first others) = first ++ operations others
expr_spelled (Expr-F.Plus first others) = first ++ operations others
expr_spelled (Expr-F.Compare first others) = first ++ relations others
expr_spelled (Expr-F.Member place tuple set) = tuple ++ (a_word WIn ++ set)
expr_spelled (Expr-F.Not place operand) = a_word WNot ++ operand
expr_spelled (Expr-F.And first others) = first ++ conjuncts others
expr_spelled (Expr-F.Or first others) = first ++ disjuncts others
expr_spelled (Expr-F.Forall place index with_do body) = a_word WForall ++ (index ++ (separator with_do ++ body))

-- a tuple of parts that are spelled already
abbrev pub angle_spelled : Angle-F Tokens Tokens Tokens Tokens → Tokens
angle_spelled tuple = a_sign SLess ++ (with_commas tuple.items ++ a_sign SGreater)

-- an index of parts that are spelled already
abbrev pub index_spelled : Index-F Tokens Tokens Tokens Tokens → Tokens
index_spelled index = index.tuple ++ (a_word WIn ++ (index.set ++ condition index.cond))

-- what stands in braces, of parts that are spelled already
abbrev pub body_spelled : Body-F Tokens Tokens Tokens Tokens → Tokens
body_spelled Body-F.Empty = []
body_spelled (Body-F.Members members) = with_commas members
body_spelled (Body-F.Tuples tuples) = with_commas tuples
body_spelled (Body-F.Those index) = index
body_spelled (Body-F.Span from with_to to by) =
    from ++ ((if with_to then word_token WTo else sign_token SDots) ∷ (to ++ by_part by))

-- how an expression is spelled
abbrev pub spelling : Expr → Tokens
spelling = fold-Expr Tokens Tokens Tokens Tokens body_spelled expr_spelled angle_spelled index_spelled

-- how a tuple is spelled
abbrev pub angle_spelling : Angle → Tokens
angle_spelling = fold-Angle Tokens Tokens Tokens Tokens body_spelled expr_spelled angle_spelled index_spelled

-- how an index is spelled
abbrev pub index_spelling : Index → Tokens
index_spelling = fold-Index Tokens Tokens Tokens Tokens body_spelled expr_spelled angle_spelled index_spelled

-- how what stands in braces is spelled
abbrev pub body_spelling : Body → Tokens
body_spelling = fold-Body Tokens Tokens Tokens Tokens body_spelled expr_spelled angle_spelled index_spelled

-- how operators with the operands behind them are spelled
abbrev pub operations_of : List (Place × Token × Expr) → Tokens
operations_of others = operations (map (λ x. (x.0, x.1, spelling x.2)) others)

-- how relations with the operands behind them are spelled
abbrev pub relations_of : List (Place × Relation × Expr) → Tokens
relations_of others = relations (map (λ x. (x.0, x.1, spelling x.2)) others)

-- how operands behind `and` are spelled
abbrev pub conjuncts_of : List (Place × Expr) → Tokens
conjuncts_of others = conjuncts (map (λ x. (x.0, spelling x.1)) others)

-- how operands behind `or` and `xor` are spelled
abbrev pub disjuncts_of : List (Place × Bool × Expr) → Tokens
disjuncts_of others = disjuncts (map (λ x. (x.0, x.1, spelling x.2)) others)
