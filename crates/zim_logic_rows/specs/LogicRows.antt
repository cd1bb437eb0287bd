-- Rows by forms, the next column of a system, and where the numbers of a step are past.
use Rattle.std.specs.Prelude.{ℕ, ◌+◌, List, [], ◌∷◌, length, Result, Ok, Err}
use Rattle.zim_answer.specs.Answer.{◌>>=◌}
use Rattle.zim_fault.specs.declared.faults.Fault.{Fault}
use Rattle.zim_fault.specs.declared.faults.Place.{Place}
use Rattle.zim_fault.specs.declared.kinds.Kind.TheVariants.{Past as PastNumber}
use Rattle.zim_rational.specs.Rational.{Rational, plus, negate}
use Rattle.zim_fraction.specs.declared.fault.Past.{Past}
use Rattle.zim_linear.specs.Forms.{LinearForm}
use Rattle.zim_rows.specs.declared.rows.GivenRow.{GivenRow}
use Rattle.zim_rows.specs.declared.rows.RowFrom.{RowFrom}
use Rattle.zim_rows.specs.declared.rows.RowKind.TheVariants.{One}
use Rattle.zim_rows.specs.declared.rows.Sense.{Sense}
use Rattle.zim_rows.specs.System.{LinearSystem, row_of}
use Rattle.zim_rows.specs.Steps.{Encoding, step_placed, binary, fault_here}

-- The row that compares a form with a number: the form's constant goes to the right side.
abbrev pub compared_row : RowFrom → LinearForm → Sense → Rational → GivenRow
compared_row source f sense right = row_of source f.terms (One sense (plus right (negate f.constant)))

-- The number of the column that is made next.
abbrev pub next_number : LinearSystem → ℕ
next_number system = length system.columns + 1

-- What is past is a fault at the place.
abbrev pub past_at : {A : Type 0} → Place → Result A Past → Result A Fault
past_at place (Ok value) = Ok value
past_at place (Err past) = Err (fault_here PastNumber place)

-- An answer that makes no column and no row.
abbrev pub lifted : {A : Type 0} → Result A Fault → Encoding A
lifted answer system = answer >>= λ value. Ok (value, system)

-- One binary column and the rows that its number gives, at the place; the value is the number.
unfoldable pub with_binary : Place → (ℕ → List GivenRow) → Encoding ℕ
with_binary place rows system =
    step_placed place system (record { columns = binary ∷ []; rows = rows (next_number system) }) >>= λ after. Ok (next_number system, after)

-- Rows, and no column, at the place.
unfoldable pub with_rows : Place → List GivenRow → Encoding (Unit {0})
with_rows place rows system =
    step_placed place system (record { columns = []; rows = rows }) >>= λ after. Ok (tt, after)
