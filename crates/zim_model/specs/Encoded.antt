-- The columns, rows and objective that the statements of a model make, one after another.
use Rattle.std.specs.Prelude.{ℕ, ◌+◌, List, [], None, Ok}
use Rattle.zim_answer.specs.Answer.{Answer, ◌>>=◌, goes}
use Rattle.zim_columns.specs.Declaring.{declaring}
use Rattle.zim_columns.specs.Names.{column_declared}
use Rattle.zim_columns.specs.declared.asks.Ask.{Ask}
use Rattle.zim_columns.specs.declared.declared.Declared.{Declared}
use Rattle.zim_fault.specs.declared.faults.Fault.{Fault}
use Rattle.zim_ground.specs.Asking.{asks_answer}
use Rattle.zim_ground.specs.Grounding.{constraint_answer, objective_answer}
use Rattle.zim_model.specs.Statements.{Stated}
use Rattle.zim_rows.specs.System.{LinearSystem, empty_system, with_objective}
use Rattle.zim_rows.specs.declared.rows.RowFrom.{RowFrom}
use Rattle.zim_typed.specs.declared.statement.TShape.{TShape}
use Rattle.zim_typed.specs.declared.statement.TShape.TheVariants as shape
use Rattle.zim_vabs.specs.Terms.{makes_term}
use Rattle.zim_vif.specs.Constraints.{makes_constraint}

-- the declared columns and the system that statements made, and how many statements these were
pub record Encoded : Type 0 where
  pub count : ℕ
  pub columns : List Declared
  pub system : LinearSystem

-- before the first statement
abbrev pub nothing_encoded : Encoded
nothing_encoded = record { count = 0; columns = []; system = empty_system }

-- after one statement more
abbrev pub encoded_next : Encoded → List Declared → LinearSystem → Encoded
encoded_next e columns system = record { count = e.count + 1; columns = columns; system = system }

-- columns and a system with the column of one ask more
abbrev pub with_asked : RowFrom → List Declared × LinearSystem → Ask → Answer (List Declared × LinearSystem) Fault
with_asked from (columns, system) ask = declaring columns system from ask

-- what a shape makes under the name at a place: a column for each ask of a variable, a form for an objective, and rows for a constraint. The whole
-- statement is ground before its first column or row
abbrev pub shape_makes : Encoded → Stated → TShape → Answer Encoded Fault
shape_makes e s (shape.Var brackets kind limits priority startval) = do
  asks ← asks_answer s.world s.stmt
  made ← goes (with_asked (record { statement = e.count; place = s.stmt.at })) (e.columns, e.system) asks
  Ok (encoded_next e made.0 made.1)
shape_makes e s (shape.Goal maximize term) = do
  t ← objective_answer s.world (column_declared e.columns) term
  made ← makes_term e.count t e.system
  Ok (encoded_next e e.columns (with_objective made.1 maximize s.stmt.at made.0))
shape_makes e s (shape.Subto constraint) = do
  c ← constraint_answer s.world (column_declared e.columns) constraint
  made ← makes_constraint e.count c None e.system
  Ok (encoded_next e e.columns made.1)
shape_makes e s _ = Ok (encoded_next e e.columns e.system)

-- what a statement makes, or its first fault
abbrev pub statement_makes : Encoded → Stated → Answer Encoded Fault
statement_makes e s = shape_makes e s s.stmt.shape

-- what statements make in their order, or the first fault
unfoldable pub statements_make : List Stated → Answer Encoded Fault
statements_make statements = goes statement_makes nothing_encoded statements
