-- The tree of a statement of plain form.
use Rattle.std.specs.Prelude.{◌≡◌, if◌then◌else◌, List, [], ◌∷◌, ◌++◌, map, Option, Some, None}
use Rattle.zim_fault.specs.declared.faults.Place.{Place}
use Rattle.zim_fault.specs.declared.signs.Sign.TheVariants.{SPlus, SMinus, SStar, SSlash}
use Rattle.zim_fault.specs.declared.tokens.Token.{Token}
use Rattle.zim_fault.specs.declared.tokens.Token.TheVariants as token
use Rattle.zim_fault.specs.declared.tokens.Relation.{Relation}
use Rattle.zim_fault.specs.declared.tokens.Relation.TheVariants as relation
use Rattle.zim_tree.specs.declared.expr.Expr.{Expr}
use Rattle.zim_tree.specs.declared.expr.Expr.TheVariants as tree
use Rattle.zim_tree.specs.declared.stmt.Stmt.{Stmt}
use Rattle.zim_tree.specs.declared.stmt.Shape.{Shape}
use Rattle.zim_tree.specs.declared.stmt.Shape.TheVariants as shape
use Rattle.zim_tree.specs.Levels.{Operands, products, sums, joined}
use Rattle.zim_rows.specs.declared.rows.Sense.{Sense}
use Rattle.zim_rows.specs.declared.rows.Sense.TheVariants.{AtMost, AtLeast, Equal}
use Rattle.zim_plain.specs.Statements.{Literal, Divisor, Item, Constant, Multiple, SignAt, Further, Sum, Head, Statement, Variable, Objective, Constraint, PlainModel}

-- A number.
abbrev pub tree_of_literal : Literal → Expr
tree_of_literal literal = tree.Number literal.place literal.text

-- An operand with the sign before it, if there is one.
abbrev pub with_sign : Option SignAt → Expr → Expr
with_sign None operand = operand
with_sign (Some sign) operand = tree.Signed sign.place sign.negative operand

-- `/ number` behind a number, or nothing.
abbrev pub divisor_operand : Option Divisor → Operands
divisor_operand None = []
divisor_operand (Some divisor) = (divisor.slash, token.Sign SSlash, tree_of_literal divisor.literal) ∷ []

-- An item with the sign before it: the sign binds to its number, or to its name where it has no factor.
abbrev pub tree_of_item : Option SignAt → Item → Expr
tree_of_item sign (Constant coefficient) = joined products (with_sign sign (tree_of_literal coefficient.number)) (divisor_operand coefficient.divisor)
tree_of_item sign (Multiple None place name) = with_sign sign (tree.Name place name)
tree_of_item sign (Multiple (Some factor) place name) =
    joined products (with_sign sign (tree_of_literal factor.coefficient.number))
    (divisor_operand factor.coefficient.divisor ++ (factor.star, token.Sign SStar, tree.Name place name) ∷ [])

-- An item behind others: the operator before it, and its tree without a sign.
abbrev pub operand_of_further : Further → Place × Token × Expr
operand_of_further further = (further.sign.place, token.Sign (if further.sign.negative then SMinus else SPlus), tree_of_item None further.item)

-- A list: its first item with its sign, and the others with the operators before them.
abbrev pub tree_of_sum : Sum → Expr
tree_of_sum sum = joined sums (tree_of_item sum.sign sum.first) (map operand_of_further sum.others)

-- The relation of a `subto`.
abbrev pub relation_of_sense : Sense → Relation
relation_of_sense AtMost = relation.AtMost
relation_of_sense AtLeast = relation.AtLeast
relation_of_sense Equal = relation.EqualTo

-- A statement with this first word and name.
abbrev pub headed : Head → Shape → Stmt
headed head what = record { first = head.word; at = head.at; name = head.name; shape = what }

-- A statement: a variable without index, kind, bounds, priority and start value; an objective; or one relation between two lists.
abbrev pub tree_of : Statement → Stmt
tree_of (Variable head) = headed head (shape.Var None None [] None None)
tree_of (Objective maximize head sum) = headed head (shape.Goal maximize (tree_of_sum sum))
tree_of (Constraint head left sense at right) =
    headed head (shape.Subto (tree.Compare (tree_of_sum left) ((at, relation_of_sense sense, tree_of_sum right) ∷ [])))

-- The trees of a model's statements, in order.
abbrev pub trees_of : PlainModel → List Stmt
trees_of model = map tree_of model

-- A tree is of plain form where it is that of a statement.
abbrev pub IsOfPlainForm : Stmt → Type 0
IsOfPlainForm stmt = (statement : Statement) × (tree_of statement ≡ stmt)
