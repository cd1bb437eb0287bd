-- Truth columns: a binary column that is 1 exactly where T is at least c.
use Rattle.std.specs.Prelude.{ℕ, [], ◌∷◌, Result, Ok}
use Rattle.zim_answer.specs.Answer.{◌>>=◌}
use Rattle.zim_rational.specs.Rational.{Rational, zero, one, negate, minus}
use Rattle.zim_fraction.specs.declared.fault.Past.{Past}
use Rattle.zim_linear.specs.Forms.{LinearForm}
use Rattle.zim_linear.specs.Sums.{negated_form}
use Rattle.zim_forms.specs.Exact.{◌⊞◌, ◌⊟◌, of_four}
use Rattle.zim_forms.specs.Algebra.{◌⊖◌, ◌⊙◌, known, the}
use Rattle.zim_rows.specs.declared.rows.RowFrom.{RowFrom}
use Rattle.zim_rows.specs.declared.rows.Sense.TheVariants.{AtLeast, AtMost}
use Rattle.zim_rows.specs.Steps.{Step, Encoding, step_placed, binary}
use Rattle.zim_logic_rows.specs.declared.Ranged.{Ranged}
use Rattle.zim_logic_rows.specs.LogicRows.{compared_row, past_at, next_number}

-- Column b and its two rows, `T - rise b >= low` and `T - fall b <= down`. A coefficient 0 is no term.
abbrev pub truth_made : RowFrom → LinearForm → ℕ → Rational → Rational → Rational → Rational → Step
truth_made source t b rise low fall down = record {
  columns = binary ∷ [];
  rows = compared_row source (t ⊖ rise ⊙ the b) AtLeast low ∷ compared_row source (t ⊖ fall ⊙ the b) AtMost down ∷ [];
}

-- Column b, which is to be the next one, and its rows `T - (c - low) b >= low` and `T - (high - c + 1) b <= c - 1`. Past where one of their numbers
-- is, each of which is computed from left to right; the right sides are those with the constant of T taken from them.
unfoldable pub truth_step : RowFrom → Ranged → Rational → ℕ → Result Step Past
truth_step source t c b =
    of_four
    (Ok c ⊟ Ok t.low)
    (Ok t.low ⊟ Ok t.form.constant)
    (Ok t.high ⊟ Ok c ⊞ Ok one)
    (Ok c ⊟ Ok one ⊟ Ok t.form.constant)
    (λ rise first fall second. truth_made source t.form b rise t.low fall (minus c one))

-- The truth column of `T >= c`; the value is its number.
unfoldable pub truth_column : RowFrom → Rational → Ranged → Encoding ℕ
truth_column source c t system =
    past_at source.place (truth_step source t c (next_number system)) >>= λ step.
    step_placed source.place system step >>= λ after.
    Ok (next_number system, after)

-- -T with its ends.
abbrev pub opposite : Ranged → Ranged
opposite t = record { form = negated_form t.form; low = negate t.high; high = negate t.low }

-- The form 0 with its ends.
abbrev pub nought : Ranged
nought = record { form = known zero; low = zero; high = zero }
