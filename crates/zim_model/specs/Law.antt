-- The law of a model's statements: the points of the system that they make are the fractions that satisfy them.
use Rattle.std.specs.Prelude.{◌≡◌, ◌⊎◌, List, [], ◌∷◌, ◌++◌, map, None, Ok}
use Rattle.zim_columns.specs.declared.asks.Ask.{Ask}
use Rattle.zim_columns.specs.declared.declared.Declared.{Declared}
use Rattle.zim_model.specs.Encoded.{Encoded, statements_make}
use Rattle.zim_model.specs.Statements.{Stated, asks_of_statements, SatisfyStatements, objective_in, first_goal, goal_number}
use Rattle.zim_rational.specs.Rational.{Rational}
use Rattle.zim_rows.specs.Covered.{IsCovered}
use Rattle.zim_rows.specs.Extending.{IsValid}
use Rattle.zim_rows.specs.Points.{assigned, IsSystemPoint, system_objective_at}
use Rattle.zim_rows.specs.System.{LinearSystem}
use Rattle.zim_typed.specs.Scope.{Scope}
use Rattle.zim_typed.specs.Suits.{SuitsCon}
use Rattle.zim_typed.specs.declared.statement.TShape.{TShape}
use Rattle.zim_typed.specs.declared.statement.TShape.TheVariants as shape

-- a constraint that a shape is suits some scope; of other shapes nothing is asked
abbrev pub ConstraintSuitsScope : TShape → Type 0
ConstraintSuitsScope (shape.Subto c) = (scope : Scope) × SuitsCon scope [] c
ConstraintSuitsScope _ = Unit {0}

-- a statement follows others: the columns before it are theirs, its constraint suits some scope, and it is no second objective
pub record Follows (before : List Stated) (s : Stated) : Type 0 where
  pub asks : s.asks ≡ asks_of_statements before
  pub suits : ConstraintSuitsScope s.stmt.shape
  pub alone : (objective_in s.stmt.shape ≡ None) ⊎ (first_goal before ≡ None)

-- each statement follows those before it
pub data AreInOrder : List Stated → Type 0 where
  no_statement : AreInOrder []
  one_more : (before : List Stated) (s : Stated) → AreInOrder before → Follows before s → AreInOrder (before ++ s ∷ [])

-- a declared column is as it was asked for
pub record IsAsAsked (ask : Ask) (declared : Declared) : Type 0 where
  pub name : declared.name ≡ ask.name
  pub tuple : declared.tuple ≡ ask.tuple
  pub priority : declared.priority ≡ ask.priority
  pub startval : declared.startval ≡ ask.startval

-- the columns that are asked for are these declared ones, in order
abbrev pub AreAsAsked : List Ask → List Declared → Type 0
AreAsAsked [] [] = Unit {0}
AreAsAsked [] (declared ∷ columns) = ⊥
AreAsAsked (ask ∷ more) [] = ⊥
AreAsAsked (ask ∷ more) (declared ∷ columns) = IsAsAsked ask declared × AreAsAsked more columns

-- numbers of all columns, cut down to the declared ones, in order
abbrev pub cut_down : List Declared → List Rational → List Rational
cut_down columns numbers = map (λ (declared : Declared). assigned numbers declared.column) columns

-- numbers are the only point of a system that is cut down to these fractions
pub record IsOnlySystemPoint (system : LinearSystem) (columns : List Declared) (values : List Rational) (numbers : List Rational) : Type 0 where
  pub is : IsSystemPoint system numbers
  pub cut_is : cut_down columns numbers ≡ values
  pub only : (other : List Rational) → IsSystemPoint system other → cut_down columns other ≡ values → other ≡ numbers

-- a system with its declared columns says statements: it is covered, each of its points is cut down to fractions that satisfy the statements, all
-- fractions that do come from exactly one point, and its objective at a point is theirs
pub record SaysStatements (statements : List Stated) (columns : List Declared) (system : LinearSystem) : Type 0 where
  pub valid : IsValid system
  pub covered : IsCovered system
  pub asked : AreAsAsked (asks_of_statements statements) columns
  pub sound : (numbers : List Rational) → IsSystemPoint system numbers → SatisfyStatements statements (cut_down columns numbers)
  pub complete : (values : List Rational) → SatisfyStatements statements values → (numbers : List Rational) × IsOnlySystemPoint system columns values numbers
  pub objective : (numbers : List Rational) → IsSystemPoint system numbers → system_objective_at system numbers ≡ goal_number (first_goal statements) (cut_down columns numbers)

-- what statements in order make says them
abbrev pub StatementsAreSaid : Type 0
StatementsAreSaid = (statements : List Stated) (e : Encoded) → AreInOrder statements → statements_make statements ≡ Ok e → SaysStatements statements e.columns e.system
