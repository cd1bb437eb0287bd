-- A term that is added to the terms of a form, under the limit.
use Rattle.std.specs.Prelude.{Bool, not, ◌||◌, cond, nat_eq, List, Option, None, Some, Result, Ok, Err}
use Rattle.std.specs.List.{list_all}
use Rattle.zim_rational.specs.Rational.{Rational}
use Rattle.zim_fraction.specs.Answers.{sum_answer}
use Rattle.zim_fraction.specs.Limit.{is_sum_within}
use Rattle.zim_fraction.specs.declared.fault.Past.{Past}
use Rattle.zim_linear.specs.Forms.{Term}
use Rattle.zim_forms.specs.Algebra.{with_term}

-- The coefficient of a column with a further one, past where the sum is; a column that had none takes the further one.
abbrev pub coefficient_sum : Option Rational → Rational → Result Rational Past
coefficient_sum None more = Ok more
coefficient_sum (Some coefficient) more = sum_answer coefficient more

-- Where two terms are of one column, the sum of their coefficients is within the limit.
abbrev pub one_within : Term → Term → Bool
one_within s t = not (nat_eq s.0 t.0) || is_sum_within s.1 t.1

-- Terms with a further one, past where the sum of its coefficient with that of its column is.
unfoldable pub term_added : List Term → Term → Result (List Term) Past
term_added terms t = cond (list_all (λ (s : Term). one_within s t) terms) (Ok (with_term t terms)) (Err (record {}))
