-- Absolute values: an integer column that is T without its sign, and a binary one that tells the sign.
use Rattle.std.specs.Prelude.{ℕ, pos, true, neg_ℤ, ◌+◌, List, [], ◌∷◌, ◌++◌, Some, Result, Ok}
use Rattle.zim_answer.specs.Answer.{◌>>=◌}
use Rattle.zim_rational.specs.Rational.{Rational, zero, whole, negate}
use Rattle.zim_rational.specs.Rounding.{larger}
use Rattle.zim_fraction.specs.Answers.{sum_answer, product_answer}
use Rattle.zim_fraction.specs.declared.fault.Past.{Past}
use Rattle.zim_forms.specs.Algebra.{◌⊕◌, ◌⊖◌, ◌⊙◌, the}
use Rattle.zim_rows.specs.declared.rows.Column.{Column}
use Rattle.zim_rows.specs.declared.rows.GivenRow.{GivenRow}
use Rattle.zim_rows.specs.declared.rows.RowFrom.{RowFrom}
use Rattle.zim_rows.specs.declared.rows.Sense.TheVariants.{AtLeast, AtMost}
use Rattle.zim_rows.specs.System.{column_of}
use Rattle.zim_rows.specs.Steps.{Step}
use Rattle.zim_logic_rows.specs.declared.Ranged.{Ranged}
use Rattle.zim_logic_rows.specs.LogicRows.{compared_row}
use Rattle.zim_logic_rows.specs.Truth.{truth_step}

-- The column of an absolute value: an integer one from 0 to the larger of -low and high.
abbrev pub size_column : Ranged → Column
size_column t = column_of true (record { low = Some zero; high = Some (larger (negate t.low) t.high) })

-- The rows of the column p, where s is 1 exactly where T is at least 0: `p - T >= 0`, `p + T >= 0`, `p - T + a s <= a` and `p + T - b s <= 0`.
abbrev pub size_rows : RowFrom → Ranged → ℕ → ℕ → Rational → Rational → List GivenRow
size_rows source t p s a b =
    compared_row source (the p ⊖ t.form) AtLeast zero
    ∷ compared_row source (the p ⊕ t.form) AtLeast zero
    ∷ compared_row source (the p ⊖ t.form ⊕ a ⊙ the s) AtMost a
    ∷ compared_row source (the p ⊕ t.form ⊖ b ⊙ the s) AtMost zero
    ∷ []

-- The integer column p, and behind it the columns of the step that makes the truth column of `T >= 0`; the rows of that step, and those of p.
abbrev pub absolute_made : RowFrom → Ranged → ℕ → Step → Rational → Rational → Step
absolute_made source t p sign a b = record {
  columns = size_column t ∷ sign.columns;
  rows = sign.rows ++ size_rows source t p (p + 1) a b;
}

-- The step whose first column p, which is to be the next one, is the absolute value of T, with a the larger of 0 and -2 low, and b that of 0 and
-- 2 high. Past where one of its numbers is: those of the truth column, -2 low, 2 high, and the right side a with the constant of T.
unfoldable pub absolute_step : RowFrom → Ranged → ℕ → Result Step Past
absolute_step source t p =
    truth_step source t zero (p + 1) >>= λ sign.
    product_answer (whole (neg_ℤ (pos 2))) t.low >>= λ low.
    product_answer (whole (pos 2)) t.high >>= λ high.
    sum_answer (larger zero low) t.form.constant >>= λ right.
    Ok (absolute_made source t p sign (larger zero low) (larger zero high))
