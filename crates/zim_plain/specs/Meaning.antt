-- What a model of plain form says: when it holds at an assignment, and its objective there.
use Rattle.std.specs.Prelude.{◌≡◌, nat_eq, Bool, false, if◌then◌else◌, List, [], ◌∷◌, map, length, Option, Some, None, ⊤}
use Rattle.std.specs.Cmp.Lexicographic.{pointwise}
use Rattle.std.specs.List.{AllByRecursion}
use Rattle.zim_rational.specs.Rational.{Rational, zero, one, negate, times, over, total, IsAtMost}
use Rattle.zim_decimal.specs.Literal.{digits_of, significand, power_of_ten, scaled}
use Rattle.zim_rows.specs.Points.{Compares}
use Rattle.zim_plain.specs.Statements.{WrittenText, Literal, Divisor, Coefficient, Factor, Item, Constant, Multiple, Sum, Statement, Variable, Objective, Constraint, PlainModel, signed_items, variables}

-- An assignment: the fraction of each declared variable, in order.
abbrev pub VariableValues : Type 0
VariableValues = List Rational

-- One fraction for each variable, and for nothing else.
abbrev pub AreVariableValues : PlainModel → VariableValues → Type 0
AreVariableValues model values = length values ≡ length (variables model)

-- The exact number that a number token writes: its digits, times ten to the power that point and exponent give.
abbrev pub literal_number : Literal → Rational
literal_number literal = scaled (significand (digits_of literal.text)) (power_of_ten literal.text)

-- A number, or one over another.
abbrev pub coefficient_number : Coefficient → Rational
coefficient_number coefficient = divided (literal_number coefficient.number) coefficient.divisor
  where
    divided : Rational → Option Divisor → Rational
    divided q None = q
    divided q (Some divisor) = over q (literal_number divisor.literal)

-- The number of a factor, 1 where none is written.
abbrev pub factor_number : Option Factor → Rational
factor_number None = one
factor_number (Some factor) = coefficient_number factor.coefficient

-- A number or, where it is taken away, its negative.
abbrev pub taken_with_sign : Bool → Rational → Rational
taken_with_sign negative q = if negative then negate q else q

-- The number of an item with its sign, where each name stands for this fraction.
abbrev pub item_number : (WrittenText → Rational) → Bool × Item → Rational
item_number x (negative, Constant coefficient) = taken_with_sign negative (coefficient_number coefficient)
item_number x (negative, Multiple factor place name) = taken_with_sign negative (times (factor_number factor) (x name))

-- The number of a list, where each name stands for this fraction.
unfoldable pub sum_number : (WrittenText → Rational) → Sum → Rational
sum_number x sum = total (map (item_number x) (signed_items sum))

-- The fraction of the variable with this name; 0 for a name that no variable has.
abbrev pub value_of : List WrittenText → VariableValues → WrittenText → Rational
value_of [] values name = zero
value_of (first ∷ names) [] name = zero
value_of (first ∷ names) (value ∷ values) name = if pointwise nat_eq name first then value else value_of names values name

-- A statement holds; only a `subto` asks for something.
abbrev pub Holds : List WrittenText → VariableValues → Statement → Type 0
Holds names values (Variable head) = ⊤
Holds names values (Objective maximize head sum) = ⊤
Holds names values (Constraint head left sense at right) =
    Compares sense (sum_number (value_of names values) left) (sum_number (value_of names values) right)

-- Each variable is from 0 up, and every statement holds.
pub record Satisfies (model : PlainModel) (values : VariableValues) : Type 0 where
  pub nonnegative : AllByRecursion (IsAtMost zero) values
  pub holds : AllByRecursion (Holds (variables model) values) model

-- The number of the first objective among statements, 0 without one.
abbrev pub objective_among : List WrittenText → VariableValues → PlainModel → Rational
objective_among names values [] = zero
objective_among names values (Variable head ∷ rest) = objective_among names values rest
objective_among names values (Objective maximize head sum ∷ rest) = sum_number (value_of names values) sum
objective_among names values (Constraint head left sense at right ∷ rest) = objective_among names values rest

-- The model's objective at an assignment.
abbrev pub plain_objective : PlainModel → VariableValues → Rational
plain_objective model values = objective_among (variables model) values model

-- Whether the first objective among statements is to be maximised; without one it is not.
abbrev pub is_maximised : PlainModel → Bool
is_maximised [] = false
is_maximised (Variable head ∷ rest) = is_maximised rest
is_maximised (Objective maximize head sum ∷ rest) = maximize
is_maximised (Constraint head left sense at right ∷ rest) = is_maximised rest
