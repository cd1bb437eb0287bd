-- Rows as code makes them, and what an error of a call on forms is as a refusal of a step.
use Rattle.zim_fault.specs.declared.faults.Place.{Place}
use Rattle.zim_fault.specs.declared.kinds.Kind.TheVariants.{Past as PastNumber}
use Rattle.zim_rational.specs.Rational.{Rational}
use Rattle.zim_linear.specs.Forms.{LinearForm}
use Rattle.zim_linear.specs.declared.faults.LinFault.{LinFault}
use Rattle.zim_linear.specs.declared.faults.LinFault.TheVariants.{Past, Memory}
use Rattle.zim_rows.specs.declared.faults.EncodeFault.{EncodeFault}
use Rattle.zim_rows.specs.declared.faults.EncodeFault.TheVariants as refusal
use Rattle.zim_rows.specs.declared.rows.GivenRow.{GivenRow}
use Rattle.zim_rows.specs.declared.rows.RowFrom.{RowFrom}
use Rattle.zim_rows.specs.declared.rows.RowKind.TheVariants.{One}
use Rattle.zim_rows.specs.declared.rows.Sense.{Sense}
use Rattle.zim_rows.specs.System.{row_of}
use Rattle.zim_rows.specs.Steps.{fault_here}

-- The row that compares the terms of a form with a right side. The form's constant isn't used.
abbrev pub terms_row : RowFrom → LinearForm → Sense → Rational → GivenRow
terms_row source f sense right = row_of source f.terms (One sense right)

-- A number that is past is refused at the place.
abbrev pub past_refused : Place → LinFault → EncodeFault
past_refused place Past = refusal.Fault (fault_here PastNumber place)
past_refused place Memory = refusal.Memory
