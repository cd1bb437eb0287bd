-- The statements of a model with what is known before each, which columns they ask for, and what they say where fractions are put for these. Nothing
-- here knows a form, a column's number or a row.
use Rattle.std.specs.Prelude.{ℕ, Bool, false, if◌then◌else◌, List, [], ◌∷◌, flat_map, Option, None, Some, Ok, Err, IsTrue, is_some, position}
use Rattle.std.specs.List.{AllByRecursion}
use Rattle.zim_answer.specs.Answer.{Answer}
use Rattle.zim_columns.specs.Bounds.{IsAsked}
use Rattle.zim_columns.specs.Names.{are_same}
use Rattle.zim_columns.specs.declared.asks.Ask.{Ask}
use Rattle.zim_fault.specs.declared.faults.Fault.{Fault}
use Rattle.zim_ground.specs.Asking.{asks_answer}
use Rattle.zim_ground.specs.Meaning.{Assignment, number_of_term, truth_of_constraint}
use Rattle.zim_meaning.specs.World.{World}
use Rattle.zim_rational.specs.Rational.{Rational, zero}
use Rattle.zim_typed.specs.declared.constraint.Term.{Term}
use Rattle.zim_typed.specs.declared.statement.TShape.{TShape}
use Rattle.zim_typed.specs.declared.statement.TShape.TheVariants as shape
use Rattle.zim_typed.specs.declared.statement.TStmt.{TStmt}

-- a typed statement, with the world before it and the columns that the statements before it ask for
pub record Stated : Type 0 where
  pub world : World
  pub asks : List Ask
  pub stmt : TStmt

-- ---- the declared columns

-- the columns of an answer; none where it is a fault
abbrev pub answered_asks : Answer (List Ask) Fault → List Ask
answered_asks (Ok asks) = asks
answered_asks (Err fault) = []

-- the columns that a statement asks for, in order
unfoldable pub asks_stated : Stated → List Ask
asks_stated s = answered_asks (asks_answer s.world s.stmt)

-- the columns that statements ask for, in order
abbrev pub asks_of_statements : List Stated → List Ask
asks_of_statements statements = flat_map asks_stated statements

-- there is one fraction for each column that is asked for, and each is one of those that its column takes: between the bounds, and whole where the
-- kind is integer or binary
abbrev pub AreAsked : List Ask → List Rational → Type 0
AreAsked [] [] = Unit {0}
AreAsked [] (v ∷ vs) = ⊥
AreAsked (ask ∷ more) [] = ⊥
AreAsked (ask ∷ more) (v ∷ vs) = IsAsked ask v × AreAsked more vs

-- the fraction that is put for the variable of a name and an index, where the columns that are asked for are these fractions, in order; 0 for what
-- no column was asked for
unfoldable pub assignment_by : List Ask → List Rational → Assignment
assignment_by [] values name tuple = zero
assignment_by (ask ∷ asks) [] name tuple = zero
assignment_by (ask ∷ asks) (v ∷ values) name tuple = if are_same (name, tuple) (ask.name, ask.tuple) then v else assignment_by asks values name tuple

-- ---- what they say

-- what a shape says in a world: a constraint is true, and all others say nothing
abbrev pub ShapeHolds : World → Assignment → TShape → Type 0
ShapeHolds world a (shape.Subto c) = IsTrue (truth_of_constraint world a [] c)
ShapeHolds world a _ = Unit {0}

-- a statement is true where the columns before it are the first of these fractions, in order
abbrev pub IsStatementTrue : List Rational → Stated → Type 0
IsStatementTrue values s = ShapeHolds s.world (assignment_by s.asks values) s.stmt.shape

-- so is every statement
abbrev pub AreStatementsTrue : List Stated → List Rational → Type 0
AreStatementsTrue statements values = AllByRecursion (IsStatementTrue values) statements

-- fractions of the columns satisfy the statements: each is one that its column takes, and every statement is true
pub record SatisfyStatements (statements : List Stated) (values : List Rational) : Type 0 where
  pub columns : AreAsked (asks_of_statements statements) values
  pub truths : AreStatementsTrue statements values

-- ---- the objective

-- the objective that a shape is: whether it is to be maximised, and its term
abbrev pub objective_in : TShape → Option (Bool × Term)
objective_in (shape.Goal maximize term) = Some (maximize, term)
objective_in _ = None

-- an objective with its statement
pub record StatedGoal : Type 0 where
  pub stated : Stated
  pub maximize : Bool
  pub term : Term

-- the objective of a statement, or else another
abbrev pub goal_or : Stated → Option StatedGoal → Option (Bool × Term) → Option StatedGoal
goal_or s other None = other
goal_or s other (Some (maximize, term)) = Some (record { stated = s; maximize = maximize; term = term })

-- the first objective among statements
abbrev pub first_goal : List Stated → Option StatedGoal
first_goal [] = None
first_goal (s ∷ others) = goal_or s (first_goal others) (objective_in s.stmt.shape)

-- the number of an objective where the columns before it are the first of these fractions, in order; 0 where there is none
abbrev pub goal_number : Option StatedGoal → List Rational → Rational
goal_number None values = zero
goal_number (Some goal) values = number_of_term goal.stated.world (assignment_by goal.stated.asks values) [] goal.term

-- whether an objective is to be maximised; not so where there is none
abbrev pub goal_aim : Option StatedGoal → Bool
goal_aim None = false
goal_aim (Some goal) = goal.maximize

-- the position of the first objective among statements, from 0, if there is one
abbrev pub goal_position : List Stated → Option ℕ
goal_position statements = position (λ s. is_some (objective_in s.stmt.shape)) statements
