-- Plain form: the statements of a model.
use Rattle.std.specs.Prelude.{ℕ, Bool, List, [], ◌∷◌, map, Option, Some, None}
use Rattle.zim_fault.specs.declared.faults.Place.{Place}
use Rattle.zim_rows.specs.declared.rows.Sense.{Sense}

-- A name or a number as it is written, byte by byte.
abbrev pub WrittenText : Type 0
WrittenText = List ℕ

-- A number token, and where it stands.
pub record Literal : Type 0 where
  pub place : Place
  pub text : WrittenText

-- A slash with the number token behind it.
pub record Divisor : Type 0 where
  pub slash : Place
  pub literal : Literal

-- A number, or one over another.
pub record Coefficient : Type 0 where
  pub number : Literal
  pub divisor : Option Divisor

-- A coefficient with the star behind it.
pub record Factor : Type 0 where
  pub coefficient : Coefficient
  pub star : Place

-- An item of a list without its sign: a number, or a name, perhaps with a factor before it.
pub data Item : Type 0 where
  Constant : (coefficient : Coefficient) → Item
  Multiple : (factor : Option Factor) (place : Place) (name : WrittenText) → Item

-- A plus or a minus, and where it stands.
pub record SignAt : Type 0 where
  pub place : Place
  pub negative : Bool

-- An item behind others, with its sign.
pub record Further : Type 0 where
  pub sign : SignAt
  pub item : Item

-- A list: perhaps a sign, an item, and any number of further ones.
pub record Sum : Type 0 where
  pub sign : Option SignAt
  pub first : Item
  pub others : List Further

-- The first word of a statement, and its name.
pub record Head : Type 0 where
  pub word : Place
  pub at : Place
  pub name : WrittenText

-- `var name;`, `minimize name: list;` or `maximize name: list;`, or `subto name: list relation list;` with the place of the relation.
pub data Statement : Type 0 where
  Variable : (head : Head) → Statement
  Objective : (maximize : Bool) (head : Head) (sum : Sum) → Statement
  Constraint : (head : Head) (left : Sum) (sense : Sense) (at : Place) (right : Sum) → Statement

-- A model: its statements, in order.
abbrev pub PlainModel : Type 0
PlainModel = List Statement

-- The first word of a statement, with its name.
abbrev pub head_of : Statement → Head
head_of (Variable head) = head
head_of (Objective maximize head sum) = head
head_of (Constraint head left sense at right) = head

-- The name that a statement gives.
abbrev pub given_name : Statement → WrittenText
given_name statement = (head_of statement).name

-- Whether the sign before a list is a minus.
abbrev pub first_negative : Option SignAt → Bool
first_negative None = Bool.false
first_negative (Some sign) = sign.negative

-- The items of a list with their signs, in order: whether the item is taken away, and the item.
abbrev pub signed_items : Sum → List (Bool × Item)
signed_items sum = (first_negative sum.sign, sum.first) ∷ map (λ (f : Further). (f.sign.negative, f.item)) sum.others

-- The names of the variables, in order.
abbrev pub variables : PlainModel → List WrittenText
variables [] = []
variables (Variable head ∷ rest) = head.name ∷ variables rest
variables (Objective maximize head sum ∷ rest) = variables rest
variables (Constraint head left sense at right ∷ rest) = variables rest
