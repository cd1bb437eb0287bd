-- The system of a model: a column for each variable, a row for each `subto` and the objective, with exact numbers.
use Rattle.std.specs.Prelude.{◌≡◌, ℕ, suc, ◌+◌, nat_eq, false, Bool, if◌then◌else◌, List, [], ◌∷◌, map, length, Option, Some, None, option_map, unwrap_or}
use Rattle.std.specs.Cmp.Lexicographic.{pointwise}
use Rattle.zim_fault.specs.declared.faults.Place.{Place}
use Rattle.zim_rational.specs.Rational.{Rational, zero, minus, negate}
use Rattle.zim_linear.specs.Forms.{ColumnNumbers, LinearForm, AreTerms, AreColumns, number_at}
use Rattle.zim_rows.specs.declared.rows.Column.{Column}
use Rattle.zim_rows.specs.declared.rows.GivenRow.{GivenRow}
use Rattle.zim_rows.specs.declared.rows.Objective as rows
use Rattle.zim_rows.specs.declared.rows.RowKind.TheVariants.{One}
use Rattle.zim_rows.specs.declared.rows.Sense.{Sense}
use Rattle.zim_rows.specs.System.{LinearSystem, column_of}
use Rattle.zim_plain.specs.Statements.{WrittenText, Sum, Variable, Objective, Constraint, PlainModel, variables}
use Rattle.zim_plain.specs.Meaning.{sum_number}

-- The place of a name among names, from 0.
abbrev pub place_of : List WrittenText → WrittenText → Option ℕ
place_of [] name = None
place_of (first ∷ names) name = if pointwise nat_eq name first then Some 0 else option_map suc (place_of names name)

-- The number of a name's column, from 1; 0 for a name that no column has.
abbrev pub column_of_name : List WrittenText → WrittenText → ℕ
column_of_name names name = unwrap_or (option_map suc (place_of names name)) 0

-- What each name is where the columns are these numbers.
abbrev pub by_column : List WrittenText → ColumnNumbers → WrittenText → Rational
by_column names x name = x (column_of_name names name)

-- A form over the columns of names, that has this number at every assignment of the columns.
pub record IsForm (names : List WrittenText) (number : (WrittenText → Rational) → Rational) (form : LinearForm) : Type 0 where
  pub is : (x : ColumnNumbers) → number_at x form ≡ number (by_column names x)
  pub terms : AreTerms form.terms
  pub columns : AreColumns (length names) form.terms

-- A row of the statement at a position: the terms of the left side less the right one, the relation, and the other constant.
pub record IsRowOf (names : List WrittenText) (position : ℕ) (left : Sum) (sense : Sense) (at : Place) (right : Sum) (row : GivenRow) : Type 0 where
  pub statement : row.from.statement ≡ position
  pub place : row.from.place ≡ at
  pub form : LinearForm
  pub form_is : IsForm names (λ x. minus (sum_number x left) (sum_number x right)) form
  pub terms : row.terms ≡ form.terms
  pub kind : row.kind ≡ One sense (negate form.constant)

-- One row for each `subto` of some statements, in their order; the first of the statements has this position.
abbrev pub AreRowsOf : List WrittenText → ℕ → PlainModel → List GivenRow → Type 0
AreRowsOf names position [] rows = rows ≡ []
AreRowsOf names position (Variable head ∷ rest) rows = AreRowsOf names (position + 1) rest rows
AreRowsOf names position (Objective maximize head sum ∷ rest) rows = AreRowsOf names (position + 1) rest rows
AreRowsOf names position (Constraint head left sense at right ∷ rest) [] = ⊥
AreRowsOf names position (Constraint head left sense at right ∷ rest) (row ∷ rows) =
    IsRowOf names position left sense at right row × AreRowsOf names (position + 1) rest rows

-- The position of the first objective among statements, of which the first has this position.
abbrev pub objective_position : ℕ → PlainModel → Option ℕ
objective_position position [] = None
objective_position position (Variable head ∷ rest) = objective_position (position + 1) rest
objective_position position (Objective maximize head sum ∷ rest) = Some position
objective_position position (Constraint head left sense at right ∷ rest) = objective_position (position + 1) rest

-- An objective with this aim, at the name of its statement, whose form has the number of the list.
pub record IsObjectiveOf (names : List WrittenText) (maximize : Bool) (place : Place) (sum : Sum) (objective : rows.Objective) : Type 0 where
  pub aim : objective.maximize ≡ maximize
  pub place_is : objective.place ≡ place
  pub form_is : IsForm names (λ x. sum_number x sum) objective.form

-- The first objective among statements; without one there is none.
abbrev pub HasObjectiveOf : List WrittenText → PlainModel → Option rows.Objective → Type 0
HasObjectiveOf names [] objective = objective ≡ None
HasObjectiveOf names (Variable head ∷ rest) objective = HasObjectiveOf names rest objective
HasObjectiveOf names (Objective maximize head sum ∷ rest) None = ⊥
HasObjectiveOf names (Objective maximize head sum ∷ rest) (Some objective) = IsObjectiveOf names maximize head.at sum objective
HasObjectiveOf names (Constraint head left sense at right ∷ rest) objective = HasObjectiveOf names rest objective

-- A real column from 0 up.
abbrev pub nonnegative : Column
nonnegative = column_of false (record { low = Some zero; high = None })

-- The system of a model: a real column from 0 up for each variable in order, a row for each `subto` in order, and the objective.
pub record IsSystemOf (model : PlainModel) (system : LinearSystem) : Type 0 where
  pub columns : system.columns ≡ map (λ (_ : WrittenText). nonnegative) (variables model)
  pub rows : AreRowsOf (variables model) 0 model system.rows
  pub objective : HasObjectiveOf (variables model) model system.objective
