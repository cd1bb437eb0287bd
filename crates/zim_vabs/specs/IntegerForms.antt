-- Integer forms: a form that may stand in a condition or under an absolute value, as the least multiple with whole numbers, and its ends.
use Rattle.std.specs.Prelude.{pos, ◌&&◌, cond, nat_le, List, [], ◌∷◌, map, Option, Some, None, Result, Ok, Err}
use Rattle.std.specs.Option.{is_some}
use Rattle.zim_answer.specs.Answer.{◌>>=◌}
use Rattle.zim_fault.specs.declared.faults.Fault.{Fault}
use Rattle.zim_fault.specs.declared.faults.Place.{Place}
use Rattle.zim_fault.specs.declared.kinds.Kind.{Kind}
use Rattle.zim_fault.specs.declared.kinds.Kind.TheVariants.{CondReal, CondUnbounded}
use Rattle.zim_rational.specs.Rational.{zero, whole}
use Rattle.zim_rational.specs.Rational.{Rational}
use Rattle.zim_fraction.specs.Limit.{limit}
use Rattle.zim_fraction.specs.declared.fault.Past.{Past}
use Rattle.zim_linear.specs.Forms.{Term, LinearForm}
use Rattle.zim_linear.specs.Integers.{common_multiple}
use Rattle.zim_linear.specs.declared.sides.Sides.{Sides}
use Rattle.zim_forms.specs.Exact.{Exact, ◌⊞◌, of_two}
use Rattle.zim_forms.specs.Algebra.{form_times}
use Rattle.zim_forms.specs.FormEnds.{both_ends}
use Rattle.zim_rows.specs.declared.rows.Column.{Column}
use Rattle.zim_rows.specs.System.{column_at}
use Rattle.zim_rows.specs.Steps.{fault_here}
use Rattle.zim_logic_rows.specs.declared.Ranged.{Ranged}
use Rattle.zim_logic_rows.specs.LogicRows.{past_at}

-- A column serves where it is integer and has both sides; else this is why it doesn't.
abbrev pub column_offence : Column → Option Kind
column_offence column =
    cond column.integer (cond (is_some column.sides.low && is_some column.sides.high) None (Some CondUnbounded)) (Some CondReal)

-- The first answer that there is.
abbrev pub first_kind : Option Kind → Option Kind → Option Kind
first_kind None next = next
first_kind (Some kind) next = Some kind

-- Why the first column of the terms, by number, that doesn't serve in a condition doesn't.
unfoldable pub offence : List Column → List Term → Option Kind
offence columns [] = None
offence columns (t ∷ ts) = first_kind (column_offence (column_at columns t.0)) (offence columns ts)

-- The form times the least common multiple of the denominators of its numbers, past where the multiple or a product is.
unfoldable pub whole_multiple : LinearForm → Result LinearForm Past
whole_multiple f =
    cond (nat_le (common_multiple f) limit) (form_times f (whole (pos (common_multiple f)))) (Err (record {}))

-- A finite end as a number; 0 stands where there is none, which the columns of an integer form don't allow.
abbrev pub finite_end : Option Rational → Exact
finite_end None = Ok zero
finite_end (Some end) = Ok end

-- A form with whole numbers and its ends over the sides, the constant added last.
abbrev pub with_ends : LinearForm → Sides → Result Ranged Past
with_ends t ends =
    of_two
    (finite_end ends.low ⊞ Ok t.constant)
    (finite_end ends.high ⊞ Ok t.constant)
    (λ low high. record { form = t; low = low; high = high })

-- The least multiple of a form with its ends, past where one of the numbers on the way is.
unfoldable pub ranged : List Column → LinearForm → Result Ranged Past
ranged columns f =
    whole_multiple f >>= λ t. both_ends (map (λ c. c.sides) columns) t.terms >>= λ ends. with_ends t ends

-- An answer where nothing offends; else that kind of fault at the place.
abbrev pub unless_offends : {A : Type 0} → Place → Option Kind → Result A Fault → Result A Fault
unless_offends place None answer = answer
unless_offends place (Some kind) answer = Err (fault_here kind place)

-- A form in a condition or under an absolute value, refused at the place: first where a column doesn't serve, then where a number is past.
unfoldable pub ranged_at : Place → LinearForm → List Column → Result Ranged Fault
ranged_at place f columns = unless_offends place (offence columns f.terms) (past_at place (ranged columns f))
