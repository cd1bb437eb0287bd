-- What the program that was made of a model says, and how the reading of a model's trees answers.
use Rattle.std.specs.Prelude.{◌≡◌, ◌↔◌, ◌++◌, ◌∷◌, [], List, length, map, Some, None, Result, Ok, Err}
use Rattle.zim_fault.specs.declared.faults.Fault.{Fault}
use Rattle.zim_fault.specs.declared.kinds.Kind.TheVariants.{Syntax}
use Rattle.zim_fault.specs.declared.faults.Place.{Place}
use Rattle.zim_tree.specs.declared.stmt.Stmt.{Stmt}
use Rattle.zim_rational.specs.Rational.{times, whole}
use Rattle.zim_rows.specs.System.{LinearSystem}
use Rattle.zim_rows.specs.Points.{IsPoint, objective_at}
use Rattle.zim_rows.specs.Scaled.{scaled_program, first_fault}
use Rattle.zim_rows.specs.Covered.{written_program}
use Rattle.zim_rows.specs.Finished.{program_of}
use Rattle.zim_plain.specs.declared.plain_form.PlainProgram.{PlainProgram}
use Rattle.zim_plain.specs.declared.stop.PlainStop.{PlainStop}
use Rattle.zim_plain.specs.declared.stop.PlainStop.TheVariants as stopped
use Rattle.zim_plain.specs.Statements.{PlainModel, Statement, variables, given_name}
use Rattle.zim_tree.specs.PlainStatement.{replaced_statement}
use Rattle.zim_plain.specs.Trees.{tree_of, trees_of, IsOfPlainForm}
use Rattle.zim_plain.specs.Asks.{variable_columns}
use Rattle.zim_plain.specs.Meaning.{VariableValues, AreVariableValues, Satisfies, plain_objective, is_maximised}
use Rattle.zim_plain.specs.Faults.{fault_at, HasFault, AreFaultless, IsPlain}
use Rattle.zim_plain.specs.Build.{Built, Stands}
use Rattle.zim_plain.specs.Systems.{IsSystemOf, objective_position}

-- The program says the model: it is the model's system with each row and the objective times their factors, no one of which is past; the names
-- are those of all statements, and the declared columns are the variables. Its points, also with the sides that files have, are the assignments
-- that satisfy the model, and the objective at them is the model's times the factor.
pub record TellsModel (model : PlainModel) (read : PlainProgram) : Type 0 where
  pub columns_are : read.columns ≡ variable_columns model
  pub statements : read.statements ≡ map given_name model
  pub objective_is : read.objective ≡ objective_position 0 model
  pub system : LinearSystem
  pub system_is : IsSystemOf model system
  pub faultless : first_fault system ≡ None
  pub program_is : program_of read.system ≡ scaled_program system
  pub columns : length read.system.columns ≡ length (variables model)
  pub aim : read.system.target.maximize ≡ is_maximised model
  pub sides : (values : VariableValues) → IsPoint (written_program (program_of read.system)) values ↔ IsPoint (program_of read.system) values
  pub points : (values : VariableValues) → AreVariableValues model values → IsPoint (written_program (program_of read.system)) values ↔ Satisfies model values
  pub objective : (values : VariableValues) → AreVariableValues model values →
      objective_at (program_of read.system) values ≡ times (whole read.system.target.factor) (plain_objective model values)

-- A model is accepted: it is plain, and no row of its system is past when it is multiplied by its factor, nor is the objective.
pub record IsAccepted (model : PlainModel) : Type 0 where
  pub plain : IsPlain model
  pub system : LinearSystem
  pub system_is : IsSystemOf model system
  pub faultless : first_fault system ≡ None

-- The first fault of statements, statement by statement: of the first that isn't of plain form, `Syntax` at its first token, or the first fault of
-- a statement behind those before it, whichever statement comes first; where there is none, the first fault of the system: a row that is past
-- when it is multiplied by its factor, or the objective.
pub data IsFirstFault (trees : List Stmt) : Fault → Type 0 where
  not_plain : (before : PlainModel) (stmt : Stmt) (after : List Stmt) → trees ≡ trees_of before ++ stmt ∷ after → AreFaultless [] before → ¬ IsOfPlainForm stmt →
      IsFirstFault trees (fault_at Syntax stmt.first)
  stated : (before : PlainModel) (statement : Statement) (after : List Stmt) (fault : Fault) → trees ≡ trees_of before ++ tree_of statement ∷ after → AreFaultless [] before →
      HasFault before statement fault → IsFirstFault trees fault
  finished : (model : PlainModel) (system : LinearSystem) (fault : Fault) → trees ≡ trees_of model → IsPlain model → IsSystemOf model system → first_fault system ≡ Some fault →
      IsFirstFault trees fault

-- The statements are those of a plain model, for which what was built stands; or they have a first fault. Want of memory is free.
abbrev pub BuildsFrom : {V : Type 0} → (V → Built) → List Stmt → Result V PlainStop → Type 0
BuildsFrom view trees (Ok made) = (model : PlainModel) × (trees ≡ trees_of model) × Stands model (view made)
BuildsFrom view trees (Err (stopped.Fault fault)) = IsFirstFault trees fault
BuildsFrom view trees (Err stopped.Memory) = Unit {0}

-- What was built is finished as a program that says each plain model for which it stands, or its system has a first fault. Want of memory is
-- free.
abbrev pub FinishedAnswer : Built → Result PlainProgram PlainStop → Type 0
FinishedAnswer b (Ok read) = (model : PlainModel) → IsPlain model → Stands model b → TellsModel model read
FinishedAnswer b (Err (stopped.Fault fault)) = first_fault b.system ≡ Some fault
FinishedAnswer b (Err stopped.Memory) = Unit {0}

-- The statements are those of a plain model, which the program says; or they have a first fault. Want of memory is free.
abbrev pub PlainAnswer : List Stmt → Result PlainProgram PlainStop → Type 0
PlainAnswer trees (Ok read) = (model : PlainModel) × (trees ≡ trees_of model) × IsPlain model × TellsModel model read
PlainAnswer trees (Err (stopped.Fault fault)) = IsFirstFault trees fault
PlainAnswer trees (Err stopped.Memory) = Unit {0}

-- Trees are those of one model at most.
abbrev pub HasOneModel : List Stmt → Type 0
HasOneModel trees = (one other : PlainModel) → trees ≡ trees_of one → trees ≡ trees_of other → one ≡ other

-- Statements have one first fault at most.
abbrev pub HasOneFault : List Stmt → Type 0
HasOneFault trees = (one other : Fault) → IsFirstFault trees one → IsFirstFault trees other → one ≡ other

-- The statements of an accepted model have no first fault.
abbrev pub HasNoFaultAsModel : PlainModel → Type 0
HasNoFaultAsModel model = (fault : Fault) → IsAccepted model → ¬ IsFirstFault (trees_of model) fault

-- Statements are those of an accepted model, or they have a first fault.
pub data HaveAnswer (trees : List Stmt) : Type 0 where
  accepted : (model : PlainModel) → trees ≡ trees_of model → IsAccepted model → HaveAnswer trees
  refused : (fault : Fault) → IsFirstFault trees fault → HaveAnswer trees

-- Each map of places that keeps the statements keeps the place of their first fault: so that place is one that stands in them.
abbrev pub HasPlaceOfStatements : List Stmt → Fault → Type 0
HasPlaceOfStatements trees fault = (g : Place → Place) → map (replaced_statement g) trees ≡ trees → g fault.place ≡ fault.place

-- A model has one program at most.
abbrev pub HasOneProgram : PlainModel → Type 0
HasOneProgram model = (one other : PlainProgram) → TellsModel model one → TellsModel model other → program_of one.system ≡ program_of other.system
