-- Guarded rows: a comparison that is asked only where a literal is true.
use Rattle.std.specs.Prelude.{List, [], ◌∷◌, Option, Some, None, Result, Ok, Err}
use Rattle.zim_answer.specs.Answer.{◌>>=◌}
use Rattle.zim_fault.specs.declared.faults.Fault.{Fault}
use Rattle.zim_fault.specs.declared.faults.Place.{Place}
use Rattle.zim_fault.specs.declared.kinds.Kind.TheVariants.{GuardUnbounded}
use Rattle.zim_rational.specs.Rational.{Rational}
use Rattle.zim_fraction.specs.Answers.{difference_answer}
use Rattle.zim_fraction.specs.declared.fault.Past.{Past}
use Rattle.zim_linear.specs.Forms.{LinearForm}
use Rattle.zim_linear.specs.declared.sides.Sides.{Sides}
use Rattle.zim_forms.specs.Algebra.{◌⊙◌, form_sum}
use Rattle.zim_rows.specs.declared.rows.GivenRow.{GivenRow}
use Rattle.zim_rows.specs.declared.rows.RowFrom.{RowFrom}
use Rattle.zim_rows.specs.declared.rows.Sense.TheVariants.{AtLeast, AtMost}
use Rattle.zim_rows.specs.Steps.{fault_here}
use Rattle.zim_logic_rows.specs.declared.Literal.{Literal}
use Rattle.zim_logic_rows.specs.LogicRows.{compared_row, past_at}
use Rattle.zim_logic_rows.specs.Literals.{is}

-- The end that a guarded row needs; without it the guard has no finite row.
abbrev pub needed_end : {A : Type 0} → Place → Option Rational → (Rational → Result A Fault) → Result A Fault
needed_end place None next = Err (fault_here GuardUnbounded place)
needed_end place (Some end) next = next end

-- `c <= v` where the literal is true: `c + (high - v) b <= high`, b being its form; past where `high - v` is, or the sum of the forms.
abbrev pub under_most : RowFrom → LinearForm → Literal → Rational → Rational → Result GivenRow Past
under_most source c guard v high =
    difference_answer high v >>= λ slack. form_sum c (slack ⊙ is guard) >>= λ f. Ok (compared_row source f AtMost high)

-- `c >= v` where the literal is true: `c + (low - v) b >= low`; past where `low - v` is, or the sum of the forms.
abbrev pub under_least : RowFrom → LinearForm → Literal → Rational → Rational → Result GivenRow Past
under_least source c guard v low =
    difference_answer low v >>= λ slack. form_sum c (slack ⊙ is guard) >>= λ f. Ok (compared_row source f AtLeast low)

-- `low <= c <= high` under a guard: the row `>=` and then the row `<=`. Both ends are needed before a number of a row is computed.
abbrev pub under_both : RowFrom → LinearForm → Literal → Rational → Rational → Sides → Result (List GivenRow) Fault
under_both source c guard low high ends =
    needed_end source.place ends.low (λ least.
    needed_end source.place ends.high (λ greatest.
    past_at source.place (
    under_least source c guard low least >>= λ first.
    under_most source c guard high greatest >>= λ second.
    Ok (first ∷ second ∷ []))))
