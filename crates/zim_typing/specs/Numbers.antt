-- Whether the numbers in a tree are number tokens, as they are in each tree that is read from a text.
use Rattle.std.specs.Prelude.{List, map, Bool, true, ◌&&◌, Option, Some, None}
use Rattle.std.specs.List.{list_all}
use Rattle.zim_decimal.specs.Token.{is_number_token}
use Rattle.zim_tree.specs.declared.expr.Expr.{Expr, Expr-F, fold-Expr}
use Rattle.zim_tree.specs.declared.expr.Angle.{Angle, Angle-F, fold-Angle}
use Rattle.zim_tree.specs.declared.expr.Index.{Index, Index-F, fold-Index}
use Rattle.zim_tree.specs.declared.expr.Body.{Body, Body-F, fold-Body}

-- those of all parts are
abbrev pub all_of : List Bool → Bool
all_of = list_all (λ kept. kept)

-- those of a part are, if there is one
abbrev pub if_given : Option Bool → Bool
if_given None = true
if_given (Some kept) = kept

-- those of the condition of an index are, if there is one
abbrev pub in_condition : Option (Bool × Bool) → Bool
in_condition None = true
in_condition (Some c) = c.1

-- an expression, where it is known of its parts
abbrev pub numbers_in_expr : Expr-F Bool Bool Bool Bool → Bool
numbers_in_expr (Expr-F.Number place digits) = is_number_token digits
numbers_in_expr (Expr-F.Text place text double) = true
numbers_in_expr (Expr-F.Truth place truth) = true
numbers_in_expr (Expr-F.Infinity place) = true
numbers_in_expr (Expr-F.Name place name) = true
numbers_in_expr (Expr-F.Item place name index) = all_of index
numbers_in_expr (Expr-F.Call place name arguments) = all_of arguments
numbers_in_expr (Expr-F.Func place function arguments) = all_of arguments
numbers_in_expr (Expr-F.Proj place set positions) = set && positions
numbers_in_expr (Expr-F.Paren place inner) = inner
numbers_in_expr (Expr-F.Braces place inside) = inside
numbers_in_expr (Expr-F.If place vif test branch otherwise) = test && (branch && if_given otherwise)
numbers_in_expr (Expr-F.Factorial operand places) = operand
numbers_in_expr (Expr-F.Power place sign base signed exponent) = base && exponent
numbers_in_expr (Expr-F.Signed place minus operand) = operand
numbers_in_expr (Expr-F.Big place loop index with_do operand) = index && operand
numbers_in_expr (Expr-F.Times first others) = first && all_of (map (λ x. x.2) others)
numbers_in_expr (Expr-F.Plus first others) = first && all_of (map (λ x. x.2) others)
numbers_in_expr (Expr-F.Compare first others) = first && all_of (map (λ x. x.2) others)
numbers_in_expr (Expr-F.Member place tuple set) = tuple && set
numbers_in_expr (Expr-F.Not place operand) = operand
numbers_in_expr (Expr-F.And first others) = first && all_of (map (λ x. x.1) others)
numbers_in_expr (Expr-F.Or first others) = first && all_of (map (λ x. x.2) others)
numbers_in_expr (Expr-F.Forall place index with_do inside) = index && inside

-- a tuple
abbrev pub numbers_in_tuple : Angle-F Bool Bool Bool Bool → Bool
numbers_in_tuple tuple = all_of tuple.items

-- an index with its condition
abbrev pub numbers_in_index : Index-F Bool Bool Bool Bool → Bool
numbers_in_index index = index.tuple && (index.set && in_condition index.cond)

-- what stands in braces
abbrev pub numbers_in_body : Body-F Bool Bool Bool Bool → Bool
numbers_in_body Body-F.Empty = true
numbers_in_body (Body-F.Members members) = all_of members
numbers_in_body (Body-F.Tuples tuples) = all_of tuples
numbers_in_body (Body-F.Those index) = index
numbers_in_body (Body-F.Span from with_to to by) = from && (to && if_given by)

-- whether the numbers in an expression are number tokens
unfoldable pub numbers_kept : Expr → Bool
numbers_kept = fold-Expr Bool Bool Bool Bool numbers_in_body numbers_in_expr numbers_in_tuple numbers_in_index

-- those in a tuple
unfoldable pub tuple_numbers_kept : Angle → Bool
tuple_numbers_kept = fold-Angle Bool Bool Bool Bool numbers_in_body numbers_in_expr numbers_in_tuple numbers_in_index

-- those in an index
unfoldable pub index_numbers_kept : Index → Bool
index_numbers_kept = fold-Index Bool Bool Bool Bool numbers_in_body numbers_in_expr numbers_in_tuple numbers_in_index

-- those in what stands in braces
unfoldable pub body_numbers_kept : Body → Bool
body_numbers_kept = fold-Body Bool Bool Bool Bool numbers_in_body numbers_in_expr numbers_in_tuple numbers_in_index
