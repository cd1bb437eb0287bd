-- Terms as forms: what a ground term makes, one step after another, and its form.
use Rattle.std.specs.Prelude.{ℕ, pos, Bool, if◌then◌else◌, Option, Some, None, Result, Ok}
use Rattle.zim_answer.specs.Answer.{◌>>=◌, goes}
use Rattle.zim_fault.specs.declared.faults.Fault.{Fault}
use Rattle.zim_fault.specs.declared.faults.Place.{Place}
use Rattle.zim_rational.specs.Rational.{Rational, zero, one, whole}
use Rattle.zim_linear.specs.Forms.{LinearForm}
use Rattle.zim_linear.specs.Sums.{negated_form}
use Rattle.zim_linear.specs.Integers.{common_multiple}
use Rattle.zim_formula.specs.declared.ground.GTerm.{GTerm, GTerm-F, fold-GTerm}
use Rattle.zim_forms.specs.Exact.{exact_quotient}
use Rattle.zim_forms.specs.Algebra.{◌⊙◌, known, the, form_sum, form_times}
use Rattle.zim_rows.specs.declared.rows.RowFrom.{RowFrom}
use Rattle.zim_rows.specs.System.{LinearSystem}
use Rattle.zim_rows.specs.Steps.{Step, Encoding, ◌then◌, gives, step_placed}
use Rattle.zim_logic_rows.specs.LogicRows.{past_at, lifted, next_number}
use Rattle.zim_logic_rows.specs.Absolute.{absolute_step}
use Rattle.zim_vabs.specs.IntegerForms.{ranged_at}

-- The rows of a statement from a place.
abbrev pub from_place : ℕ → Place → RowFrom
from_place statement place = record { statement = statement; place = place }

-- ---- absolute values

-- The step of an absolute value and the share 1/k that its column has in the value, k being the least common multiple; past where a number is.
abbrev pub absolute_numbers : RowFrom → LinearForm → LinearSystem → Result (Rational × Step) Fault
absolute_numbers source f system =
    ranged_at source.place f system.columns >>= λ t.
    past_at source.place (
    exact_quotient one (whole (pos (common_multiple f))) >>= λ share.
    absolute_step source t (next_number system) >>= λ step.
    Ok (share, step))

-- The absolute value of a form: the step is placed, and the value is the form of its first column times the share.
unfoldable pub absolute_of : RowFrom → LinearForm → Encoding LinearForm
absolute_of source f system =
    absolute_numbers source f system >>= λ made.
    step_placed source.place system made.1 >>= λ after.
    Ok (made.0 ⊙ the (next_number system), after)

-- ---- sums and products

-- A form so far, and the system after what was made for it.
abbrev pub Made : Type 0
Made = LinearForm × LinearSystem

-- One operand more of a sum, which is taken from it where the flag is set.
abbrev pub sum_turn : Made → Place × Bool × Encoding LinearForm → Result Made Fault
sum_turn so_far operand =
    operand.2 so_far.1 >>= λ made.
    past_at operand.0 (form_sum so_far.0 (if operand.1 then negated_form made.0 else made.0)) >>= λ sum.
    Ok (sum, made.1)

-- One member more of a sum at a place.
abbrev pub member_turn : Place → Made → Encoding LinearForm → Result Made Fault
member_turn place so_far member =
    member so_far.1 >>= λ made. past_at place (form_sum so_far.0 made.0) >>= λ sum. Ok (sum, made.1)

-- One number more by which a form is multiplied, or divided where the flag is set.
abbrev pub product_turn : LinearForm → Place × Bool × Rational → Result LinearForm Fault
product_turn form factor =
    past_at factor.0 ((if factor.1 then exact_quotient one factor.2 else Ok factor.2) >>= λ q. form_times form q)

-- The factor before a term, where there is one.
abbrev pub factor_turn : Option (Rational × Place) → LinearForm → Result LinearForm Fault
factor_turn None form = Ok form
factor_turn (Some factor) form = past_at factor.1 (form_times form factor.0)

-- ---- terms

-- What a term makes whose parts are what they make.
abbrev pub term_makes : ℕ → GTerm-F (Encoding LinearForm) → Encoding LinearForm
term_makes statement (GTerm-F.Known q) = gives (known q)
term_makes statement (GTerm-F.Column j) = gives (the j)
term_makes statement (GTerm-F.Sum first others) = first then λ form system. goes sum_turn (form, system) others
term_makes statement (GTerm-F.Product factor term others) =
    term then λ form. lifted (factor_turn factor form >>= λ product. goes product_turn product others)
term_makes statement (GTerm-F.Minus place term) = term then λ form. gives (negated_form form)
term_makes statement (GTerm-F.SumOver place terms) = λ system. goes (member_turn place) (known zero, system) terms
term_makes statement (GTerm-F.Abs place term) = term then λ form. absolute_of (from_place statement place) form

-- What a term makes, and its form.
abbrev pub makes_term : ℕ → GTerm → Encoding LinearForm
makes_term statement = fold-GTerm (Encoding LinearForm) (term_makes statement)

-- The absolute value of a term, at the place of `source`.
abbrev pub makes_absolute : RowFrom → GTerm → Encoding LinearForm
makes_absolute source term = makes_term source.statement term then λ form. absolute_of source form
