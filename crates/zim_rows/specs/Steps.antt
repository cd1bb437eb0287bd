-- Encoding steps: the columns and rows that a step puts at the end of a system, where there is room, and how steps follow each other.
use Rattle.std.specs.Prelude.{ℕ, ◌+◌, true, cond, nat_le, List, ◌++◌, length, map, Some, Result, Ok, Err}
use Rattle.zim_answer.specs.Answer.{◌>>=◌}
use Rattle.zim_answer.specs.Gives.{Cause, NoMemory, Met, Gives}
use Rattle.zim_fault.specs.declared.faults.Fault.{Fault}
use Rattle.zim_fault.specs.declared.faults.Place.{Place}
use Rattle.zim_fault.specs.declared.kinds.Kind.{Kind}
use Rattle.zim_fault.specs.declared.kinds.Kind.TheVariants.{TooManyRows, TooManyColumns}
use Rattle.zim_rational.specs.Rational.{zero, one}
use Rattle.zim_linear.specs.Forms.{AreColumns}
use Rattle.zim_rows.specs.declared.rows.Column.{Column}
use Rattle.zim_rows.specs.declared.rows.GivenRow.{GivenRow}
use Rattle.zim_rows.specs.declared.steps.NewRow.{NewRow}
use Rattle.zim_rows.specs.declared.faults.RowFault.{RowFault}
use Rattle.zim_rows.specs.declared.faults.RowFault.TheVariants as refusal
use Rattle.zim_rows.specs.declared.faults.EncodeFault.{EncodeFault}
use Rattle.zim_rows.specs.declared.faults.EncodeFault.TheVariants as encode
use Rattle.zim_rows.specs.System.{LinearSystem, column_of, row_of, most_in_system, IsKind}

-- A fault of this kind at a place.
abbrev pub fault_here : Kind → Place → Fault
fault_here kind place = record { place = place; kind = kind }

-- The columns that a step makes, and its rows.
pub record Step : Type 0 where
  pub columns : List Column
  pub rows : List GivenRow

-- The system with the columns and the rows of a step at the ends of its own.
abbrev pub with_step : LinearSystem → Step → LinearSystem
with_step system step = record {
  columns = system.columns ++ step.columns;
  rows = system.rows ++ step.rows;
  objective = system.objective;
}

-- The same where there is room. The limit of columns is met before that of rows, both at the place.
unfoldable pub step_placed : Place → LinearSystem → Step → Result LinearSystem Fault
step_placed place system step =
    cond
    (nat_le (length system.columns + length step.columns) most_in_system)
    (cond (nat_le (length system.rows + length step.rows) most_in_system) (Ok (with_step system step)) (Err (fault_here TooManyRows place)))
    (Err (fault_here TooManyColumns place))

-- The column of a helper that is called binary: a whole number from 0 to 1.
abbrev pub binary : Column
binary = column_of true (record { low = Some zero; high = Some one })

-- An encoding goes from a system to a value and the system after it, or stops at its first fault.
abbrev pub Encoding : Type 0 → Type 0
Encoding A = LinearSystem → Result (A × LinearSystem) Fault

infixl 10 ◌then◌
-- One encoding, and on the system after it another, which may depend on the value of the first.
abbrev pub ◌then◌ : {A B : Type 0} → Encoding A → (A → Encoding B) → Encoding B
(first then next) system = first system >>= λ made. next made.0 made.1

-- A value alone: the system stays.
abbrev pub gives : {A : Type 0} → A → Encoding A
gives value system = Ok (value, system)

-- What an error of a call that encodes tells.
abbrev pub encode_cause : EncodeFault → Cause Fault
encode_cause (encode.Fault fault) = Met fault
encode_cause encode.Memory = NoMemory

-- A call's value, seen by `view`, and the system as it leaves it are what the encoding gives on the system as it was; a fault is the first
-- of the encoding. Want of memory is free.
abbrev pub Encodes : {V A : Type 0} → (V → A) → Encoding A → LinearSystem → LinearSystem → Result V EncodeFault → Type 0
Encodes view encoding old new result = Gives (λ value. (view value, new)) encode_cause (encoding old) result

-- A call leaves the system that the answer says, and its fault is the answer's. Want of memory is free.
abbrev pub Leaves : Result LinearSystem Fault → LinearSystem → Result Unit EncodeFault → Type 0
Leaves answer new result = Gives (λ _. new) encode_cause answer result

-- A refusal of a column or a row as a fault at a place.
abbrev pub refused_at : Place → RowFault → EncodeFault
refused_at place refusal.TooManyRows = encode.Fault (fault_here TooManyRows place)
refused_at place refusal.TooManyColumns = encode.Fault (fault_here TooManyColumns place)
refused_at place refusal.Memory = encode.Memory

-- A new row as a system has it.
abbrev pub given_row : NewRow → GivenRow
given_row row = row_of row.from row.form.terms row.kind

-- The step of new columns and rows.
abbrev pub step_of : List Column → List NewRow → Step
step_of columns rows = record { columns = columns; rows = map given_row rows }

-- A new row is over n columns, and a range's low side is below its high one.
pub record IsNewRow (n : ℕ) (row : NewRow) : Type 0 where
  pub columns : AreColumns n row.form.terms
  pub kind : IsKind row.kind
