-- Numbers on the way of a step: each is a fraction, or past; what is computed from one that is past is past.
use Rattle.std.specs.Prelude.{cond, Result, Ok, Err}
use Rattle.zim_answer.specs.Answer.{◌>>=◌}
use Rattle.zim_rational.specs.Rational.{Rational, over}
use Rattle.zim_fraction.specs.Answers.{sum_answer, difference_answer}
use Rattle.zim_fraction.specs.Limit.{is_number}
use Rattle.zim_fraction.specs.declared.fault.Past.{Past}

-- A number that is computed under the limit: a fraction, or past.
abbrev pub Exact : Type 0
Exact = Result Rational Past

-- The sum of two numbers, past where one of them or the sum is.
unfoldable pub exact_sum : Exact → Exact → Exact
exact_sum a b = a >>= λ p. b >>= λ q. sum_answer p q

infixl 20 ◌⊞◌
-- The same as an operator.
abbrev pub ◌⊞◌ : Exact → Exact → Exact
a ⊞ b = exact_sum a b

-- The difference of two numbers, past where one of them or the difference is.
unfoldable pub exact_difference : Exact → Exact → Exact
exact_difference a b = a >>= λ p. b >>= λ q. difference_answer p q

infixl 20 ◌⊟◌
-- The same as an operator.
abbrev pub ◌⊟◌ : Exact → Exact → Exact
a ⊟ b = exact_difference a b

-- The quotient of two numbers, past where its lowest terms pass the limit.
unfoldable pub exact_quotient : Rational → Rational → Exact
exact_quotient a b = cond (is_number (over a b)) (Ok (over a b)) (Err (record {}))

-- What is made of two numbers, past where one of them is.
abbrev pub of_two : {A : Type 0} → Exact → Exact → (Rational → Rational → A) → Result A Past
of_two a b make = a >>= λ p. b >>= λ q. Ok (make p q)

-- What is made of four numbers, past where one of them is.
abbrev pub of_four : {A : Type 0} → Exact → Exact → Exact → Exact → (Rational → Rational → Rational → Rational → A) → Result A Past
of_four a b c d make = a >>= λ p. b >>= λ q. c >>= λ r. d >>= λ s. Ok (make p q r s)
