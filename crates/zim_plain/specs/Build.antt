-- What is built from the statements so far, and what it has to do with them.
use Rattle.std.specs.Prelude.{◌≡◌, ℕ, ◌+◌, ◌<◌, ◌≤◌, false, nat_eq, if◌then◌else◌, List, [], ◌∷◌, ◌++◌, length, map, is_some, Option, Result, Ok, Err}
use Rattle.std.specs.List.{list_any}
use Rattle.std.specs.Cmp.Lexicographic.{pointwise}
use Rattle.zim_fault.specs.declared.faults.Place.{Place}
use Rattle.zim_fault.specs.declared.kinds.Kind.TheVariants.{TooManyRows, TooManyColumns}
use Rattle.zim_rows.specs.System.{LinearSystem, with_column}
use Rattle.zim_rows.specs.declared.faults.RowFault.{RowFault}
use Rattle.zim_rows.specs.declared.faults.RowFault.TheVariants as fault
use Rattle.zim_columns.specs.declared.declared.Declared.{Declared}
use Rattle.zim_columns.specs.Declaring.{next_column, declared_as}
use Rattle.zim_plain.specs.declared.builder.Builder.{Builder}
use Rattle.zim_plain.specs.declared.stop.PlainStop.{PlainStop}
use Rattle.zim_plain.specs.declared.stop.PlainStop.TheVariants as stopped
use Rattle.zim_plain.specs.Statements.{WrittenText, Statement, Variable, Objective, Constraint, PlainModel, variables, given_name}
use Rattle.zim_plain.specs.Asks.{ask_of, columns_from, variable_columns}
use Rattle.zim_plain.specs.Faults.{fault_at, AreFaultless, HasFault}
use Rattle.zim_plain.specs.Systems.{AreRowsOf, objective_position, HasObjectiveOf, nonnegative}

-- The names of the variables and their declared columns, the other names, the names of all statements, the position of the objective among
-- them, and the system so far.
pub record Built : Type 0 where
  pub variables : List WrittenText
  pub columns : List Declared
  pub others : List WrittenText
  pub statements : List WrittenText
  pub objective : Option ℕ
  pub system : LinearSystem

-- The same of the code's builder.
abbrev pub built : Builder → Built
built b = record {
  variables = b.variables.keys;
  columns = b.columns;
  others = b.others.keys;
  statements = b.statements;
  objective = b.objective;
  system = b.system;
}

-- The names of statements that declare no variable.
abbrev pub other_names : PlainModel → List WrittenText
other_names [] = []
other_names (Variable head ∷ rest) = other_names rest
other_names (Objective maximize head sum ∷ rest) = head.name ∷ other_names rest
other_names (Constraint head left sense at right ∷ rest) = head.name ∷ other_names rest

-- What was built stands for the statements before, also where further variables follow.
pub record Stands (before : PlainModel) (b : Built) : Type 0 where
  pub faultless : AreFaultless [] before
  pub names : b.variables ≡ variables before
  pub declared : b.columns ≡ variable_columns before
  pub others : b.others ≡ other_names before
  pub statements : b.statements ≡ map given_name before
  pub position : b.objective ≡ objective_position 0 before
  pub columns : b.system.columns ≡ map (λ (_ : WrittenText). nonnegative) (variables before)
  pub rows : (more : List WrittenText) → AreRowsOf (variables before ++ more) 0 before b.system.rows
  pub objective : (more : List WrittenText) → HasObjectiveOf (variables before ++ more) before b.system.objective

-- There are a column for each variable, which is declared with the variable's name, and at most 1,000,000 of them and of rows; a statement is one of these or the objective.
pub record IsSmall (b : Built) : Type 0 where
  pub columns : length b.system.columns ≡ length b.variables
  pub declared : b.columns ≡ columns_from 1 b.variables
  pub variables : length b.variables ≤ 1000000
  pub rows : length b.system.rows ≤ 1000000
  pub statements : length b.statements ≤ length b.variables + length b.system.rows + (if is_some b.objective then 1 else 0)

-- A row that was not added, told at a place.
abbrev pub stop_of_row : Place → RowFault → PlainStop
stop_of_row place fault.TooManyRows = stopped.Fault (fault_at TooManyRows place)
stop_of_row place fault.TooManyColumns = stopped.Fault (fault_at TooManyColumns place)
stop_of_row place fault.Memory = stopped.Memory

-- A new variable may be declared with these columns of names in the system, whose rows are few.
pub record MayDeclare (columns : List Declared) (system : LinearSystem) (name : WrittenText) : Type 0 where
  pub names : List WrittenText
  pub columns_are : columns ≡ columns_from 1 names
  pub counted : length system.columns ≡ length names
  pub rows : length system.rows ≤ 1000000
  pub is_new : list_any (pointwise nat_eq name) names ≡ false

-- A variable was declared, at the ends of the columns and of the system, or there are too many columns. Want of memory is free.
abbrev pub VariableAnswer : List Declared → LinearSystem → Place → WrittenText → List Declared → LinearSystem → Result Unit PlainStop → Type 0
VariableAnswer columns system place name after new (Ok _) =
    (length system.columns < 1000000) × (after ≡ columns ++ declared_as (next_column system) (ask_of name) ∷ []) × (new ≡ with_column system nonnegative)
VariableAnswer columns system place name after new (Err (stopped.Fault fault)) = (1000000 ≤ length system.columns) × (fault ≡ fault_at TooManyColumns place)
VariableAnswer columns system place name after new (Err stopped.Memory) = Unit {0}

-- A statement was added, or it has a fault behind those before it. Want of memory is free.
abbrev pub AddAnswer : PlainModel → Statement → Built → Result Unit PlainStop → Type 0
AddAnswer before statement after (Ok x) = Stands (before ++ statement ∷ []) after
AddAnswer before statement after (Err (stopped.Fault fault)) = HasFault before statement fault
AddAnswer before statement after (Err stopped.Memory) = Unit {0}

-- Adding a statement to what stands for statements before answers so.
abbrev pub Adds : Built → Statement → Built → Result Unit PlainStop → Type 0
Adds old statement after result = (before : PlainModel) → Stands before old → AddAnswer before statement after result
