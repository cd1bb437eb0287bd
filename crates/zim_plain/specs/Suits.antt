-- When a statement suits those before it: its name is new, its list names declared variables, and it divides by no 0.
use Rattle.std.specs.Prelude.{◌≡◌, ◌≢◌, Bool, true, false, List, Contains, IsTrue, Option, Some, None, ⊤}
use Rattle.std.specs.List.{AllByRecursion}
use Rattle.zim_rational.specs.Rational.{zero}
use Rattle.zim_decimal.specs.Token.{is_number_token}
use Rattle.zim_plain.specs.Statements.{WrittenText, Literal, Divisor, Coefficient, Factor, Item, Constant, Multiple, Sum, Statement, Variable, Objective, Constraint, PlainModel, signed_items, given_name, variables}
use Rattle.zim_plain.specs.Meaning.{literal_number}

-- The text of a number is a number token; the tokens of a text always are.
abbrev pub SuitsLiteral : Literal → Type 0
SuitsLiteral literal = IsTrue (is_number_token literal.text)

-- A divisor is a number token, and isn't 0.
abbrev pub SuitsDivisor : Option Divisor → Type 0
SuitsDivisor None = ⊤
SuitsDivisor (Some divisor) = SuitsLiteral divisor.literal × (literal_number divisor.literal ≢ zero)

-- A coefficient is a number token, perhaps over one that isn't 0.
abbrev pub SuitsCoefficient : Coefficient → Type 0
SuitsCoefficient coefficient = SuitsLiteral coefficient.number × SuitsDivisor coefficient.divisor

-- The same of a factor, where there is one.
abbrev pub SuitsFactor : Option Factor → Type 0
SuitsFactor None = ⊤
SuitsFactor (Some factor) = SuitsCoefficient factor.coefficient

-- The numbers of an item are such, and its name is declared.
abbrev pub SuitsItem : List WrittenText → Bool × Item → Type 0
SuitsItem declared (negative, Constant coefficient) = SuitsCoefficient coefficient
SuitsItem declared (negative, Multiple factor place name) = SuitsFactor factor × Contains declared name

-- Each item of a list does.
abbrev pub SuitsSum : List WrittenText → Sum → Type 0
SuitsSum declared sum = AllByRecursion (SuitsItem declared) (signed_items sum)

-- Whether the statement is a `minimize` or a `maximize`.
abbrev pub is_goal : Statement → Bool
is_goal (Variable head) = false
is_goal (Objective maximize head sum) = true
is_goal (Constraint head left sense at right) = false

-- The lists of a statement have only variables that are declared before and divide by no 0, and there is one objective.
abbrev pub HasSuitedParts : (before : PlainModel) → Statement → Type 0
HasSuitedParts before (Variable head) = ⊤
HasSuitedParts before (Objective maximize head sum) =
    SuitsSum (variables before) sum × AllByRecursion (λ (other : Statement). is_goal other ≡ false) before
HasSuitedParts before (Constraint head left sense at right) = SuitsSum (variables before) left × SuitsSum (variables before) right

-- A statement may follow the statements before it: none of them has its name, and its parts suit them.
pub record MayFollow (before : PlainModel) (statement : Statement) : Type 0 where
  pub name_new : AllByRecursion (λ (other : Statement). given_name other ≢ given_name statement) before
  pub parts : HasSuitedParts before statement
