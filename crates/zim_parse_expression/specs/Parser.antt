-- The parser of expressions as a function: from tokens to a tree and the tokens that are left.
use Rattle.std.specs.Prelude.{ℕ, zero, suc, List, [], ◌∷◌, length, Bool, true, false, Option, Some, None, nat_eq, if◌then◌else◌}
use Rattle.zim_fault.specs.declared.faults.Place.{Place}
use Rattle.zim_fault.specs.declared.tokens.Token.{Token}
use Rattle.zim_fault.specs.declared.tokens.Token.TheVariants.{Name as name_token, Word as word_token, Number as number_token, Text as text_token, Sign as sign_token}
use Rattle.zim_fault.specs.declared.tokens.Placed.{Placed}
use Rattle.zim_fault.specs.declared.signs.Sign.{Sign}
use Rattle.zim_fault.specs.declared.signs.Sign.TheVariants.{SCaret, SColon, SMinus, SBar, SDots}
use Rattle.zim_fault.specs.declared.words.Word.{Word}
use Rattle.zim_fault.specs.declared.words.Word.TheVariants.{WDo, WSum, WTrue, WVif, WWith, WTo}
use Rattle.zim_tree.specs.declared.expr.Expr.{Expr}
use Rattle.zim_tree.specs.declared.expr.Expr.TheVariants as tree
use Rattle.zim_tree.specs.declared.expr.Angle.{Angle}
use Rattle.zim_tree.specs.declared.expr.Index.{Index}
use Rattle.zim_tree.specs.declared.expr.Body.{Body}
use Rattle.zim_tree.specs.declared.expr.Body.TheVariants as body
use Rattle.zim_tree.specs.declared.classes.Class.{Class}
use Rattle.zim_tree.specs.declared.classes.Class.TheVariants as class
use Rattle.zim_tree.specs.Trees.{angle_of, index_of}
use Rattle.zim_tree.specs.Classes.{word_class, sign_class}
use Rattle.zim_tree.specs.Levels.{Level, primary, postfix, power, unary, product, big, loop, term, sum, comparison, negation, conjunction, disjunction, whole, Chain, products, sums, relations, conjunctions, disjunctions, Operands, joined, factorial, is_loop}
use Rattle.zim_scan.specs.Nesting.{class_at, is_left_paren}
use Rattle.zim_parse_expression.specs.Next.{is_right_paren, is_right_bracket, is_right_brace, is_comma, is_less, is_greater, is_in, is_then, is_else, is_end, is_by, is_exclamation, start_of, a_less, Start, opens, looseness, rank}

-- a tree and the tokens behind it, or nothing
abbrev pub Parsed : Type 0 → Type 0
Parsed A = Option (A × List Placed)

-- a parser of something
abbrev pub Parser : Type 0 → Type 0
Parser A = List Placed → Parsed A

-- go on with what was read and the tokens behind it
unfoldable pub and_then : {A B : Type 0} → Parsed A → (A → List Placed → Parsed B) → Parsed B
and_then None next = None
and_then (Some x) next = next x.0 x.1

-- one token of a class, for its place
abbrev pub expect : (Class → Bool) → Parser Place
expect test [] = None
expect test (t ∷ rest) = if test (class_at t) then Some (t.place, rest) else None

-- the sign that a token is
abbrev pub sign_of_token : Token → Sign
sign_of_token (sign_token s) = s
sign_of_token _ = SCaret

-- the word that a token is
abbrev pub word_of_token : Token → Word
word_of_token (word_token w) = w
word_of_token _ = WSum

-- whether a token is `-`
abbrev pub is_minus : Token → Bool
is_minus (sign_token SMinus) = true
is_minus _ = false

-- whether a word is `true`
abbrev pub is_true : Word → Bool
is_true WTrue = true
is_true _ = false

-- whether a word is `vif`
abbrev pub is_vif : Word → Bool
is_vif WVif = true
is_vif _ = false

-- `:` or `do`
abbrev pub separator_in : Token → Option Bool
separator_in (sign_token SColon) = Some false
separator_in (word_token WDo) = Some true
separator_in _ = None

-- a bar or `with`
abbrev pub condition_in : Token → Option Bool
condition_in (sign_token SBar) = Some true
condition_in (word_token WWith) = Some false
condition_in _ = None

-- `..` or `to`
abbrev pub span_in : Token → Option Bool
span_in (sign_token SDots) = Some false
span_in (word_token WTo) = Some true
span_in _ = None

-- one of two tokens, by a test that says which
abbrev pub flagged : Option Bool → List Placed → Parsed Bool
flagged None rest = None
flagged (Some flag) rest = Some (flag, rest)

-- one of two tokens comes next: which of them
abbrev pub flag_of : (Token → Option Bool) → Parser Bool
flag_of test [] = None
flag_of test (t ∷ rest) = flagged (test t.token) rest

-- the parser of each level, for what stands deeper
abbrev pub Inner : Type 0
Inner = Level → Parser Expr

-- more items behind a first one, each behind a comma
abbrev pub after_comma : {A : Type 0} → A → Parsed Place → List Placed → (List Placed → Parsed (List A)) → Parsed (List A)
after_comma first None rest more = Some (first ∷ [], rest)
after_comma first (Some x) rest more = and_then (more x.1) (λ others behind. Some (first ∷ others, behind))

-- all items behind a first one; `turns` bounds how many
unfoldable pub items_behind : {A : Type 0} → Parser A → ℕ → A → Parser (List A)
items_behind item zero first rest = Some (first ∷ [], rest)
items_behind item (suc turns) first rest =
    after_comma first (expect is_comma rest) rest (λ behind. and_then (item behind) (λ second left. items_behind item turns second left))

-- one or more items with commas between them
unfoldable pub items_of : {A : Type 0} → Parser A → Parser (List A)
items_of item ts = and_then (item ts) (λ first rest. items_behind item (length rest) first rest)

-- a tuple
unfoldable pub tuple_of : Inner → Parser Angle
tuple_of inner ts = and_then (expect is_less ts) (λ p rest. and_then (items_of (inner sum) rest) (λ items behind.
    and_then (expect is_greater behind) (λ q left. Some (angle_of p items, left))))

-- an index behind its tuple and `in`
abbrev pub index_end : Inner → Place → Angle → Expr → Parsed Bool → List Placed → Parsed Index
index_end inner p tuple set None rest = Some (index_of p tuple set None, rest)
index_end inner p tuple set (Some x) rest = and_then (inner disjunction x.1) (λ cond left. Some (index_of p tuple set (Some (x.0, cond)), left))

-- an index behind its `in`, with its tuple
unfoldable pub index_behind : Inner → Angle → Place → Parser Index
index_behind inner tuple p ts = and_then (inner sum ts) (λ set rest. index_end inner p tuple set (flag_of condition_in rest) rest)

-- an index
unfoldable pub index_from : Inner → Parser Index
index_from inner ts = and_then (tuple_of inner ts) (λ tuple rest. and_then (expect is_in rest) (λ p behind. index_behind inner tuple p behind))

-- the end of a span
abbrev pub span_end : Inner → Expr → Bool → Expr → Parsed Place → List Placed → Parsed Body
span_end inner from with_to to None rest = Some (body.Span from with_to to None, rest)
span_end inner from with_to to (Some x) rest = and_then (inner sum x.1) (λ by left. Some (body.Span from with_to to (Some by), left))

-- what stands in braces behind a first expression
abbrev pub body_behind : Inner → Expr → Parsed Bool → List Placed → Parsed Body
body_behind inner first None rest = and_then (items_behind (inner sum) (length rest) first rest) (λ members left. Some (body.Members members, left))
body_behind inner first (Some x) rest = and_then (inner sum x.1) (λ to behind. span_end inner first x.0 to (expect is_by behind) behind)

-- what stands in braces behind a first tuple
abbrev pub body_tuple : Inner → Angle → Parsed Place → List Placed → Parsed Body
body_tuple inner tuple None rest = and_then (items_behind (tuple_of inner) (length rest) tuple rest) (λ tuples left. Some (body.Tuples tuples, left))
body_tuple inner tuple (Some x) rest = and_then (index_behind inner tuple x.0 x.1) (λ index left. Some (body.Those index, left))

-- what stands in braces, by its first token
abbrev pub body_at : Inner → Class → Parser Body
body_at inner class.RightBrace ts = Some (body.Empty, ts)
body_at inner class.Less ts = and_then (tuple_of inner ts) (λ tuple rest. body_tuple inner tuple (expect is_in rest) rest)
body_at inner _ ts = and_then (inner sum ts) (λ first rest. body_behind inner first (flag_of span_in rest) rest)

-- what stands in braces
unfoldable pub body_of : Inner → Parser Body
body_of inner [] = None
body_of inner (t ∷ rest) = body_at inner (class_at t) (t ∷ rest)

-- arguments, and `)`
unfoldable pub arguments : Inner → Parser (List Expr)
arguments inner ts = and_then (items_of (inner disjunction) ts) (λ given rest. and_then (expect is_right_paren rest) (λ q left. Some (given, left)))

-- a call behind its `(`
abbrev pub call_end : Inner → Place → List ℕ → Parsed Place → List Placed → Parsed Expr
call_end inner p name None rest = and_then (arguments inner rest) (λ given left. Some (tree.Call p name given, left))
call_end inner p name (Some x) rest = Some (tree.Call p name [], x.1)

-- what begins with a name
abbrev pub from_name : Inner → Place → List ℕ → Class → Placed → List Placed → Parsed Expr
from_name inner p name class.LeftBracket t rest = and_then (items_of (inner sum) rest) (λ index behind. and_then (expect is_right_bracket behind) (λ q left. Some (tree.Item p name index, left)))
from_name inner p name class.LeftParen t rest = call_end inner p name (expect is_right_paren rest) rest
from_name inner p name _ t rest = Some (tree.Name p name, t ∷ rest)

-- what begins with this name
unfoldable pub named : Inner → Place → List ℕ → Parser Expr
named inner p name [] = Some (tree.Name p name, [])
named inner p name (t ∷ rest) = from_name inner p name (class_at t) t rest

-- the end of an `if`
abbrev pub if_end : Inner → Place → Bool → Expr → Expr → Parsed Place → List Placed → Parsed Expr
if_end inner p vif test branch None rest = and_then (expect is_end rest) (λ q left. Some (tree.If p vif test branch None, left))
if_end inner p vif test branch (Some x) rest = and_then (inner whole x.1) (λ otherwise behind.
    and_then (expect is_end behind) (λ q left. Some (tree.If p vif test branch (Some otherwise), left)))

-- an `if` or `vif` behind its word
unfoldable pub if_from : Inner → Place → Bool → Parser Expr
if_from inner p vif ts = and_then (inner disjunction ts) (λ test rest. and_then (expect is_then rest) (λ q behind.
    and_then (inner whole behind) (λ branch left. if_end inner p vif test branch (expect is_else left) left)))

-- a function behind its word
unfoldable pub function_from : Inner → Place → Word → Parser Expr
function_from inner p word ts = and_then (expect is_left_paren ts) (λ q rest. and_then (arguments inner rest) (λ given left. Some (tree.Func p word given, left)))

-- a projection behind its word
unfoldable pub projection_from : Inner → Place → Parser Expr
projection_from inner p ts = and_then (expect is_left_paren ts) (λ q r1. and_then (inner disjunction r1) (λ set r2. and_then (expect is_comma r2) (λ s r3.
    and_then (tuple_of inner r3) (λ positions r4. and_then (expect is_right_paren r4) (λ t left. Some (tree.Proj p set positions, left))))))

-- what begins with a word
abbrev pub from_word : Inner → Place → Word → Class → Parser Expr
from_word inner p before class.Truth rest = Some (tree.Truth p (is_true before), rest)
from_word inner p before class.Infinity rest = Some (tree.Infinity p, rest)
from_word inner p before class.Function rest = function_from inner p before rest
from_word inner p before class.MinOrMax rest = function_from inner p before rest
from_word inner p before class.Proj rest = projection_from inner p rest
from_word inner p before class.IfOrVif rest = if_from inner p (is_vif before) rest
from_word inner p before _ rest = None

-- what begins with a sign
abbrev pub sign_at : Inner → Place → Class → Parser Expr
sign_at inner p class.LeftParen rest = and_then (inner disjunction rest) (λ e behind. and_then (expect is_right_paren behind) (λ q left. Some (tree.Paren p e, left)))
sign_at inner p class.LeftBrace rest = and_then (body_of inner rest) (λ inside behind. and_then (expect is_right_brace behind) (λ q left. Some (tree.Braces p inside, left)))
sign_at inner p _ rest = None

-- a primary whose first token is this
abbrev pub primary_at : Inner → Place → Token → Parser Expr
primary_at inner p (number_token digits) rest = Some (tree.Number p digits, rest)
primary_at inner p (text_token text double) rest = Some (tree.Text p text double, rest)
primary_at inner p (name_token name) rest = named inner p name rest
primary_at inner p (word_token word) rest = from_word inner p word (word_class word) rest
primary_at inner p (sign_token sign) rest = sign_at inner p (sign_class sign) rest

-- a primary
unfoldable pub primary_of : Inner → Parser Expr
primary_of inner [] = None
primary_of inner (t ∷ rest) = primary_at inner t.place t.token rest

-- the places of all `!` that come next, and what is left behind them
unfoldable pub marks_of : List Placed → List Place × List Placed
marks_of [] = ([], [])
marks_of (t ∷ rest) = if is_exclamation (class_at t) then (t.place ∷ (marks_of rest).0, (marks_of rest).1) else ([], t ∷ rest)

-- an operand with its `!`
unfoldable pub postfix_of : Inner → Parser Expr
postfix_of inner ts = and_then (primary_of inner ts) (λ operand rest. Some (factorial operand (marks_of rest).0, (marks_of rest).1))

-- a sign, if one comes next, and what is left behind it
abbrev pub sign_before : Class → Placed → List Placed → Option (Place × Bool) × List Placed
sign_before class.PlusOrMinus t rest = (Some (t.place, is_minus t.token), rest)
sign_before _ t rest = (None, t ∷ rest)

-- a sign before an exponent, if one comes next
abbrev pub signed_of : List Placed → Option (Place × Bool) × List Placed
signed_of [] = (None, [])
signed_of (t ∷ rest) = sign_before (class_at t) t rest

-- an exponent behind its operator
abbrev pub power_at : Inner → Expr → Class → Placed → List Placed → Parsed Expr
power_at inner base class.Power t rest = and_then (postfix_of inner (signed_of rest).1) (λ exponent left.
    Some (tree.Power t.place (sign_of_token t.token) base (signed_of rest).0 exponent, left))
power_at inner base _ t rest = Some (base, t ∷ rest)

-- a power behind its base
unfoldable pub power_behind : Inner → Expr → Parser Expr
power_behind inner base [] = Some (base, [])
power_behind inner base (t ∷ rest) = power_at inner base (class_at t) t rest

-- a power, or an operand without one
unfoldable pub power_of : Inner → Parser Expr
power_of inner ts = and_then (postfix_of inner ts) (λ base rest. power_behind inner base rest)

-- an operand behind its sign, or without one
abbrev pub sign_or : Parser Expr → Class → Placed → List Placed → Parsed Expr
sign_or operand class.PlusOrMinus t rest = and_then (operand rest) (λ e left. Some (tree.Signed t.place (is_minus t.token) e, left))
sign_or operand _ t rest = operand (t ∷ rest)

-- an operand with or without a sign
unfoldable pub signed_or : Parser Expr → Parser Expr
signed_or operand [] = None
signed_or operand (t ∷ rest) = sign_or operand (class_at t) t rest

-- an operand of a product
abbrev pub unary_of : Inner → Parser Expr
unary_of inner = signed_or (power_of inner)

-- the operators of a list that come next, each with its operand
unfoldable pub operands_of : Chain → Parser Expr → ℕ → Parser Operands
operands_of chain operand zero ts = Some ([], ts)
operands_of chain operand (suc turns) [] = Some ([], [])
operands_of chain operand (suc turns) (t ∷ rest) = if nat_eq (looseness (t ∷ rest)) (rank chain)
    then and_then (operand rest) (λ e behind. and_then (operands_of chain operand turns behind) (λ others left. Some ((t.place, t.token, e) ∷ others, left)))
    else Some ([], t ∷ rest)

-- how many operators a list takes at most
abbrev pub turns_of : Chain → List Placed → ℕ
turns_of relations rest = 2
turns_of _ rest = length rest

-- operands with operators between them
unfoldable pub chain_of : Chain → Parser Expr → Parser Expr
chain_of chain operand ts = and_then (operand ts) (λ first rest.
    and_then (operands_of chain operand (turns_of chain rest) rest) (λ others left. Some (joined chain first others, left)))

-- a product
abbrev pub products_of : Inner → Parser Expr
products_of inner = chain_of products (unary_of inner)

-- a loop without a sign
unfoldable pub big_of : Inner → Parser Expr
big_of inner [] = None
big_of inner (t ∷ rest) = if is_loop (class_at t)
    then and_then (index_from inner rest) (λ index r1. and_then (flag_of separator_in r1) (λ with_do r2.
    and_then (inner term r2) (λ operand left. Some (tree.Big t.place (word_of_token t.token) index with_do operand, left))))
    else None

-- a loop with or without a sign
abbrev pub loop_of : Inner → Parser Expr
loop_of inner = signed_or (big_of inner)

-- a loop behind a product and an operator, if one opens there
unfoldable pub term_behind : Inner → Expr → Parser Expr
term_behind inner first [] = Some (first, [])
term_behind inner first (t ∷ rest) = if nat_eq (looseness (t ∷ rest)) 5
    then and_then (loop_of inner rest) (λ last left. Some (tree.Times first ((t.place, t.token, last) ∷ []), left))
    else Some (first, t ∷ rest)

-- an operand of a sum
unfoldable pub term_of : Inner → Parser Expr
term_of inner ts = if opens ts then loop_of inner ts else and_then (products_of inner ts) (λ first rest. term_behind inner first rest)

-- a sum
abbrev pub sum_of : Inner → Parser Expr
sum_of inner = chain_of sums (term_of inner)

-- a membership
unfoldable pub member_of : Inner → Parser Expr
member_of inner ts = and_then (tuple_of inner ts) (λ tuple rest. and_then (expect is_in rest) (λ p behind.
    and_then (sum_of inner behind) (λ set left. Some (tree.Member p tuple set, left))))

-- a membership or a comparison, by how the tokens begin
abbrev pub comparison_at : Inner → Start → Parser Expr
comparison_at inner a_less ts = member_of inner ts
comparison_at inner _ ts = chain_of relations (sum_of inner) ts

-- a membership or a comparison
unfoldable pub comparison_of : Inner → Parser Expr
comparison_of inner ts = comparison_at inner (start_of ts) ts

-- a `not` or a comparison, by the class of the first token
abbrev pub negation_at : Inner → Class → Placed → List Placed → Parsed Expr
negation_at inner class.Not t rest = and_then (comparison_of inner rest) (λ e left. Some (tree.Not t.place e, left))
negation_at inner _ t rest = comparison_of inner (t ∷ rest)

-- a `not` or a comparison
unfoldable pub negation_of : Inner → Parser Expr
negation_of inner [] = None
negation_of inner (t ∷ rest) = negation_at inner (class_at t) t rest

-- operands of `and`
abbrev pub conjunction_of : Inner → Parser Expr
conjunction_of inner = chain_of conjunctions (negation_of inner)

-- operands of `or` and `xor`
abbrev pub disjunction_of : Inner → Parser Expr
disjunction_of inner = chain_of disjunctions (conjunction_of inner)

-- a `forall` or a disjunction, by the class of the first token
abbrev pub whole_at : Inner → Class → Placed → List Placed → Parsed Expr
whole_at inner class.Forall t rest = and_then (index_from inner rest) (λ index r1. and_then (flag_of separator_in r1) (λ with_do r2.
    and_then (inner whole r2) (λ inside left. Some (tree.Forall t.place index with_do inside, left))))
whole_at inner _ t rest = disjunction_of inner (t ∷ rest)

-- an expression of any kind
unfoldable pub expression_of : Inner → Parser Expr
expression_of inner [] = None
expression_of inner (t ∷ rest) = whole_at inner (class_at t) t rest

-- an expression of this level, with a parser for what stands deeper
abbrev pub at_level : Inner → Level → Parser Expr
at_level inner primary = primary_of inner
at_level inner postfix = postfix_of inner
at_level inner power = power_of inner
at_level inner unary = unary_of inner
at_level inner product = products_of inner
at_level inner big = big_of inner
at_level inner loop = loop_of inner
at_level inner term = term_of inner
at_level inner sum = sum_of inner
at_level inner comparison = comparison_of inner
at_level inner negation = negation_of inner
at_level inner conjunction = conjunction_of inner
at_level inner disjunction = disjunction_of inner
at_level inner whole = expression_of inner

-- an expression of this level, at most so many levels deep
unfoldable pub parse : ℕ → Inner
parse zero level ts = None
parse (suc depth) level ts = at_level (parse depth) level ts
