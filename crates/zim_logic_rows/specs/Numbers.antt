-- The numbers in the rows of a truth column and of an absolute value, in the order in which they are computed.
use Rattle.std.specs.Prelude.{pos, neg_ℤ, Result, Ok}
use Rattle.zim_answer.specs.Answer.{◌>>=◌}
use Rattle.zim_rational.specs.Rational.{Rational, zero, one, whole}
use Rattle.zim_rational.specs.Rounding.{larger}
use Rattle.zim_fraction.specs.Answers.{sum_answer, product_answer}
use Rattle.zim_fraction.specs.declared.fault.Past.{Past}
use Rattle.zim_forms.specs.Exact.{◌⊞◌, ◌⊟◌, of_four}
use Rattle.zim_logic_rows.specs.declared.Ranged.{Ranged}
use Rattle.zim_logic_rows.specs.declared.truth.TruthNumbers.{TruthNumbers}
use Rattle.zim_logic_rows.specs.declared.sizes.SizeNumbers.{SizeNumbers}

-- The numbers of the truth column of `T >= c`; past where one of them is.
abbrev pub truth_numbers : Ranged → Rational → Result TruthNumbers Past
truth_numbers t c =
    of_four
    (Ok c ⊟ Ok t.low)
    (Ok t.low ⊟ Ok t.form.constant)
    (Ok t.high ⊟ Ok c ⊞ Ok one)
    (Ok c ⊟ Ok one ⊟ Ok t.form.constant)
    (λ p q r s. record { rise = p; first = q; fall = r; second = s })

-- The numbers of the rows of an absolute value beside those of its sign; past where one of them is.
abbrev pub size_numbers : Ranged → Result SizeNumbers Past
size_numbers t =
    product_answer (whole (neg_ℤ (pos 2))) t.low >>= λ low.
    product_answer (whole (pos 2)) t.high >>= λ high.
    sum_answer (larger zero low) t.form.constant >>= λ right.
    Ok (record { above = larger zero low; under = larger zero high; right = right })
