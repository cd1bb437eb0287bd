-- The parts of the parser's rules that have a function of their own.
use Rattle.std.specs.Prelude.{ℕ, List, [], ◌∷◌, Bool, false, Option, Some, None, nat_eq, if◌then◌else◌}
use Rattle.zim_fault.specs.declared.faults.Place.{Place}
use Rattle.zim_fault.specs.declared.tokens.Placed.{Placed}
use Rattle.zim_fault.specs.declared.words.Word.{Word}
use Rattle.zim_tree.specs.declared.expr.Expr.{Expr}
use Rattle.zim_tree.specs.declared.expr.Expr.TheVariants as tree
use Rattle.zim_tree.specs.declared.expr.Body.{Body}
use Rattle.zim_tree.specs.declared.classes.Class.{Class}
use Rattle.zim_tree.specs.Levels.{term, sum, whole, Chain, joined, factorial}
use Rattle.zim_scan.specs.Nesting.{class_at}
use Rattle.zim_parse_expression.specs.Next.{is_right_paren, is_right_bracket, is_in, is_else, is_end, is_by, looseness}
use Rattle.zim_parse_expression.specs.Parser.{Parsed, Parser, Inner, and_then, expect, flag_of, separator_in, span_in, sign_of_token, items_of, tuple_of, index_from, span_end, body_behind, body_tuple, body_at, call_end, postfix_of, marks_of, operands_of, turns_of, signed_of, loop_of, comparison_of, disjunction_of}

-- a span behind its `..` or `to`
unfoldable pub span_behind : Inner → Expr → Bool → Parser Body
span_behind inner from with_to ts = and_then (inner sum ts) (λ to behind. span_end inner from with_to to (expect is_by behind) behind)

-- what stands in braces behind a first expression
unfoldable pub body_end : Inner → Expr → Parser Body
body_end inner first ts = body_behind inner first (flag_of span_in ts) ts

-- what stands in braces and begins with `<`
unfoldable pub body_less : Inner → Parser Body
body_less inner ts = and_then (tuple_of inner ts) (λ tuple rest. body_tuple inner tuple (expect is_in rest) rest)

-- what stands in braces, by the class of the next token
abbrev pub body_by : Inner → Option Class → Parser Body
body_by inner None ts = None
body_by inner (Some c) ts = body_at inner c ts

-- a call behind its `(`
unfoldable pub call_behind : Inner → Place → List ℕ → Parser Expr
call_behind inner p name ts = call_end inner p name (expect is_right_paren ts) ts

-- an item behind its `[`
unfoldable pub item_behind : Inner → Place → List ℕ → Parser Expr
item_behind inner p name ts = and_then (items_of (inner sum) ts) (λ index behind. and_then (expect is_right_bracket behind) (λ q left. Some (tree.Item p name index, left)))

-- the end of an `if`, by whether an `else` was found
abbrev pub else_found : Inner → Parsed Place → Parser (Option Expr)
else_found inner None ts = and_then (expect is_end ts) (λ q left. Some (None, left))
else_found inner (Some x) ts = and_then (inner whole x.1) (λ e behind. and_then (expect is_end behind) (λ q left. Some (Some e, left)))

-- the part behind `else`, if there is one, and `end`
unfoldable pub otherwise : Inner → Parser (Option Expr)
otherwise inner ts = else_found inner (expect is_else ts) ts

-- a power behind its operator
unfoldable pub exponent_of : Inner → Expr → Placed → Parser Expr
exponent_of inner base t ts = and_then (postfix_of inner (signed_of ts).1) (λ exponent left.
    Some (tree.Power t.place (sign_of_token t.token) base (signed_of ts).0 exponent, left))

-- the next token, if it is an operator that binds so loosely, and what is left behind it
abbrev pub operator_of : ℕ → List Placed → Option (Placed × List Placed)
operator_of rank [] = None
operator_of rank (t ∷ rest) = if nat_eq (looseness (t ∷ rest)) rank then Some (t, rest) else None

-- whether an operator that binds so loosely comes next
abbrev pub begins_operator : ℕ → List Placed → Bool
begins_operator rank [] = false
begins_operator rank (t ∷ rest) = nat_eq (looseness (t ∷ rest)) rank

-- whether the next token is of a class
abbrev pub sees_class : (Class → Bool) → List Placed → Bool
sees_class test [] = false
sees_class test (t ∷ rest) = test (class_at t)

-- the operators of a list with their operands, behind the first operand
unfoldable pub chain_behind : Chain → Parser Expr → Expr → Parser Expr
chain_behind chain operand first ts = and_then (operands_of chain operand (turns_of chain ts) ts) (λ others left. Some (joined chain first others, left))

-- every `!` behind an operand
unfoldable pub marks_behind : Expr → Parser Expr
marks_behind operand ts = Some (factorial operand (marks_of ts).0, (marks_of ts).1)

-- a loop behind a product and this operator
unfoldable pub loop_behind : Inner → Expr → Placed → Parser Expr
loop_behind inner first t ts = and_then (loop_of inner ts) (λ last left. Some (tree.Times first ((t.place, t.token, last) ∷ []), left))

-- a loop behind its word
unfoldable pub big_behind : Inner → Place → Word → Parser Expr
big_behind inner p w ts = and_then (index_from inner ts) (λ index r1. and_then (flag_of separator_in r1) (λ with_do r2.
    and_then (inner term r2) (λ operand left. Some (tree.Big p w index with_do operand, left))))

-- a `forall` behind its word
unfoldable pub forall_behind : Inner → Place → Parser Expr
forall_behind inner p ts = and_then (index_from inner ts) (λ index r1. and_then (flag_of separator_in r1) (λ with_do r2.
    and_then (inner whole r2) (λ inside left. Some (tree.Forall p index with_do inside, left))))

-- an operand behind a sign that was found or not
abbrev pub signed_by : Parser Expr → Option (Place × Bool) × List Placed → Parsed Expr
signed_by operand (None, rest) = operand rest
signed_by operand (Some s, rest) = and_then (operand rest) (λ e left. Some (tree.Signed s.0 s.1 e, left))

-- a comparison behind a `not` that was found or not
abbrev pub not_found : Inner → Parsed Place → Parser Expr
not_found inner None ts = comparison_of inner ts
not_found inner (Some x) ts = and_then (comparison_of inner x.1) (λ e left. Some (tree.Not x.0 e, left))

-- an expression behind a `forall` that was found or not
abbrev pub forall_found : Inner → Parsed Place → Parser Expr
forall_found inner None ts = disjunction_of inner ts
forall_found inner (Some x) ts = forall_behind inner x.0 x.1
