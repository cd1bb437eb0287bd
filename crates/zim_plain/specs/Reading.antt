-- How a statement of plain form is read off its tree.
use Rattle.std.specs.Prelude.{Bool, true, false, List, [], ◌∷◌, Option, Some, None}
use Rattle.zim_fault.specs.declared.faults.Place.{Place}
use Rattle.zim_fault.specs.declared.signs.Sign.TheVariants.{SPlus, SMinus, SStar, SSlash}
use Rattle.zim_fault.specs.declared.tokens.Token.{Token}
use Rattle.zim_fault.specs.declared.tokens.Token.TheVariants as token
use Rattle.zim_fault.specs.declared.tokens.Relation.{Relation}
use Rattle.zim_fault.specs.declared.tokens.Relation.TheVariants as relation
use Rattle.zim_tree.specs.declared.expr.Angle.{Angle}
use Rattle.zim_tree.specs.declared.expr.Body.{Body}
use Rattle.zim_tree.specs.declared.expr.Expr.{Expr, Expr-F, out-Expr}
use Rattle.zim_tree.specs.declared.expr.Index.{Index}
use Rattle.zim_tree.specs.declared.stmt.Stmt.{Stmt}
use Rattle.zim_tree.specs.declared.stmt.Shape.{Shape}
use Rattle.zim_tree.specs.declared.stmt.Shape.TheVariants as shape
use Rattle.zim_tree.specs.Levels.{Operands}
use Rattle.zim_rows.specs.declared.rows.Sense.{Sense}
use Rattle.zim_rows.specs.declared.rows.Sense.TheVariants.{AtMost, AtLeast, Equal}
use Rattle.zim_plain.specs.Statements.{WrittenText, Literal, Coefficient, Item, Constant, Multiple, SignAt, Further, Sum, Head, Statement, Variable, Objective, Constraint}

infixl 10 ◌>>=◌
-- A step after what was read, if something was.
abbrev pub ◌>>=◌ : {A B : Type 0} → Option A → (A → Option B) → Option B
None >>= f = None
(Some x) >>= f = f x

-- One level of an expression.
abbrev pub Layer : Type 0
Layer = Expr-F Body Expr Angle Index

-- ---- operands

-- A number.
abbrev pub literal_in : Layer → Option Literal
literal_in (Expr-F.Number place text) = Some (record { place = place; text = text })
literal_in _ = None

-- An expression that is a number.
unfoldable pub read_literal : Expr → Option Literal
read_literal e = literal_in (out-Expr e)

-- A name, with its place.
abbrev pub named_layer : Layer → Option (Place × WrittenText)
named_layer (Expr-F.Name place name) = Some (place, name)
named_layer _ = None

-- An expression that is a name, with its place.
unfoldable pub read_as_name : Expr → Option (Place × WrittenText)
read_as_name e = named_layer (out-Expr e)

-- The sign before an operand, if it has one, and the operand without it.
abbrev pub signed_in : Expr → Layer → Option SignAt × Expr
signed_in e (Expr-F.Signed place negative operand) = (Some (record { place = place; negative = negative }), operand)
signed_in e _ = (None, e)

-- The sign of an expression, if it begins with one, and the expression behind it.
unfoldable pub read_signed : Expr → Option SignAt × Expr
read_signed e = signed_in e (out-Expr e)

-- ---- items

-- A number over another.
abbrev pub quotient_of : Literal → Place → Literal → Coefficient
quotient_of number slash literal = record { number = number; divisor = Some (record { slash = slash; literal = literal }) }

-- A coefficient times a variable.
abbrev pub multiple : Coefficient → Place → Place × WrittenText → Item
multiple coefficient star name = Multiple (Some (record { coefficient = coefficient; star = star })) name.0 name.1

-- A number with one operand behind it: a divisor, or a name.
abbrev pub behind_one : Literal → Place → Token → Expr → Option Item
behind_one number slash (token.Sign SSlash) divisor = do
  literal ← read_literal divisor
  Some (Constant (quotient_of number slash literal))
behind_one number star (token.Sign SStar) operand = do
  name ← read_as_name operand
  Some (multiple (record { number = number; divisor = None }) star name)
behind_one number place _ operand = None

-- A number with two operands behind it: a divisor and a name.
abbrev pub behind_two : Literal → Place → Token → Expr → Place → Token → Expr → Option Item
behind_two number slash (token.Sign SSlash) divisor star (token.Sign SStar) operand = do
  literal ← read_literal divisor
  name ← read_as_name operand
  Some (multiple (quotient_of number slash literal) star name)
behind_two number slash _ divisor star _ operand = None

-- A number with operands behind it.
unfoldable pub read_product : Literal → Operands → Option Item
read_product number ((place, token, operand) ∷ []) = behind_one number place token operand
read_product number ((slash, quotient_of, divisor) ∷ (star, times, operand) ∷ []) = behind_two number slash quotient_of divisor star times operand
read_product number _ = None

-- A number alone, or a name alone.
abbrev pub operand_in : Layer → Option Item
operand_in (Expr-F.Number place text) = Some (Constant (record { number = record { place = place; text = text }; divisor = None }))
operand_in (Expr-F.Name place name) = Some (Multiple None place name)
operand_in _ = None

-- An expression that is a number alone, or a name alone.
unfoldable pub read_operand : Expr → Option Item
read_operand e = operand_in (out-Expr e)

-- An item that is one operand, with its sign.
abbrev pub operand_item : Option SignAt × Expr → Option (Option SignAt × Item)
operand_item signed = do
  item ← read_operand signed.1
  Some (signed.0, item)

-- An item that is a product, whose first operand has the item's sign.
abbrev pub product_item : Option SignAt × Expr → Operands → Option (Option SignAt × Item)
product_item signed others = do
  number ← read_literal signed.1
  item ← read_product number others
  Some (signed.0, item)

-- An item, with its sign.
abbrev pub item_in : Expr → Layer → Option (Option SignAt × Item)
item_in e (Expr-F.Times first others) = product_item (read_signed first) others
item_in e _ = operand_item (read_signed e)

-- An expression that is an item, with its sign.
unfoldable pub read_item : Expr → Option (Option SignAt × Item)
read_item e = item_in e (out-Expr e)

-- ---- lists

-- A plus or a minus, at a place.
unfoldable pub read_sign : Place → Token → Option SignAt
read_sign place (token.Sign SPlus) = Some (record { place = place; negative = false })
read_sign place (token.Sign SMinus) = Some (record { place = place; negative = true })
read_sign place _ = None

-- An item that has no sign of its own.
abbrev pub unsigned : Option SignAt × Item → Option Item
unsigned (None, item) = Some item
unsigned (Some sign, item) = None

-- An item behind others, with the operator before it.
unfoldable pub read_further : Place × Token × Expr → Option Further
read_further x = do
  sign ← read_sign x.0 x.1
  found ← read_item x.2
  item ← unsigned found
  Some (record { sign = sign; item = item })

-- Items behind others.
unfoldable pub read_others : Operands → Option (List Further)
read_others [] = Some []
read_others (x ∷ rest) = do
  further ← read_further x
  others ← read_others rest
  Some (further ∷ others)

-- A list of a first item and others.
abbrev pub sum_of_items : Option SignAt × Item → List Further → Sum
sum_of_items first others = record { sign = first.0; first = first.1; others = others }

-- A list of at least two items, or one of a single item.
abbrev pub sum_in : Expr → Layer → Option Sum
sum_in e (Expr-F.Plus first []) = None
sum_in e (Expr-F.Plus first (x ∷ rest)) = do
  item ← read_item first
  others ← read_others (x ∷ rest)
  Some (sum_of_items item others)
sum_in e _ = do
  item ← read_item e
  Some (sum_of_items item [])

-- An expression that is a list.
unfoldable pub read_sum : Expr → Option Sum
read_sum e = sum_in e (out-Expr e)

-- ---- statements

-- The relation between two sides.
unfoldable pub read_sense : Relation → Option Sense
read_sense relation.AtMost = Some AtMost
read_sense relation.AtLeast = Some AtLeast
read_sense relation.EqualTo = Some Equal
read_sense _ = None

-- Two lists with a relation between them.
abbrev pub constraint_in : Head → Layer → Option Statement
constraint_in head (Expr-F.Compare left ((at, relation, right) ∷ [])) = do
  left ← read_sum left
  sense ← read_sense relation
  right ← read_sum right
  Some (Constraint head left sense at right)
constraint_in head _ = None

-- A constraint of this name.
unfoldable pub read_constraint : Head → Expr → Option Statement
read_constraint head e = constraint_in head (out-Expr e)

-- An objective of this name.
unfoldable pub read_goal : Bool → Head → Expr → Option Statement
read_goal maximize head e = do
  sum ← read_sum e
  Some (Objective maximize head sum)

-- What a statement of this name says.
abbrev pub shape_of : Head → Shape → Option Statement
shape_of head (shape.Var None None [] None None) = Some (Variable head)
shape_of head (shape.Goal maximize objective) = read_goal maximize head objective
shape_of head (shape.Subto condition) = read_constraint head condition
shape_of head _ = None

-- A statement.
unfoldable pub read_statement : Stmt → Option Statement
read_statement stmt = shape_of (record { word = stmt.first; at = stmt.at; name = stmt.name }) stmt.shape
