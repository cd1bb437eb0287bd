-- What the calls make on the way to the rows of a comparison; these words serve their own contracts alone.
use Rattle.std.specs.Prelude.{List, [], ◌∷◌, Option, Result, Ok}
use Rattle.zim_answer.specs.Answer.{◌>>=◌}
use Rattle.zim_fault.specs.declared.faults.Fault.{Fault}
use Rattle.zim_rational.specs.Rational.{Rational}
use Rattle.zim_fraction.specs.Answers.{difference_answer}
use Rattle.zim_fraction.specs.declared.fault.Past.{Past}
use Rattle.zim_linear.specs.Forms.{LinearForm}
use Rattle.zim_forms.specs.Algebra.{◌⊙◌, form_sum}
use Rattle.zim_forms.specs.Exact.{◌⊟◌}
use Rattle.zim_rows.specs.declared.rows.GivenRow.{GivenRow}
use Rattle.zim_rows.specs.declared.rows.RowFrom.{RowFrom}
use Rattle.zim_rows.specs.declared.rows.Sense.{Sense}
use Rattle.zim_logic_rows.specs.declared.Literal.{Literal}
use Rattle.zim_logic_rows.specs.LogicRows.{compared_row, past_at}
use Rattle.zim_logic_rows.specs.Literals.{is}
use Rattle.zim_logic_rows.specs.Guards.{needed_end, under_most, under_least}
use Rattle.zim_vif.specs.Constraints.{terms_of}

-- The row `c + (end - v) l`, compared with the end as the sense says.
abbrev pub row_at_end : RowFrom → LinearForm → Literal → Sense → Rational → Rational → Result GivenRow Past
row_at_end source c l sense v end =
    difference_answer end v >>= λ slack. form_sum c (slack ⊙ is l) >>= λ f. Ok (compared_row source f sense end)

-- The same alone, where the end is there.
abbrev pub rows_at_end : RowFrom → LinearForm → Literal → Sense → Rational → Option Rational → Result (List GivenRow) Fault
rows_at_end source c l sense v end =
    needed_end source.place end (λ found. past_at source.place (row_at_end source c l sense v found >>= λ row. Ok (row ∷ [])))

-- The rows `c >= v` and `c <= w` where a literal is 1, by the ends of c.
abbrev pub both_rows : RowFrom → LinearForm → Literal → Rational → Rational → Rational → Rational → Result (List GivenRow) Past
both_rows source c l v w least greatest =
    under_least source c l v least >>= λ first. under_most source c l w greatest >>= λ second. Ok (first ∷ second ∷ [])

-- The same for the sides of a range, from which the form's constant is taken.
abbrev pub range_between : RowFrom → LinearForm → Literal → Rational → Rational → Rational → Rational → Result (List GivenRow) Past
range_between source f l low high least greatest =
    (Ok low ⊟ Ok f.constant) >>= λ v. (Ok high ⊟ Ok f.constant) >>= λ w. both_rows source (terms_of f) l v w least greatest
