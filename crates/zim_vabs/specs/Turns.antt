-- The turns of sums and products over ground terms.
use Rattle.std.specs.Prelude.{ℕ, Bool, not, ◌&&◌, List, map, Option, Result}
use Rattle.zim_answer.specs.Answer.{◌>>=◌, goes}
use Rattle.zim_fault.specs.declared.faults.Fault.{Fault}
use Rattle.zim_fault.specs.declared.faults.Place.{Place}
use Rattle.zim_rational.specs.Rational.{Rational, zero, same}
use Rattle.zim_linear.specs.Forms.{LinearForm}
use Rattle.zim_formula.specs.declared.ground.GTerm.{GTerm}
use Rattle.zim_formula.specs.GroundRules.{operands_hold, is_term_over}
use Rattle.zim_forms.specs.Algebra.{known}
use Rattle.zim_rows.specs.Steps.{Encoding, ◌then◌}
use Rattle.zim_vabs.specs.Terms.{Made, sum_turn, member_turn, product_turn, factor_turn, makes_term}

-- One operand more of a sum: what it makes, and the form so far with its form added or taken from it.
unfoldable pub multiplying_turn : ℕ → Made → Place × Bool × GTerm → Result Made Fault
multiplying_turn statement so_far operand = sum_turn so_far (operand.0, operand.1, makes_term statement operand.2)

-- The operands of a sum, one after another.
abbrev pub term_sum : ℕ → Made → List (Place × Bool × GTerm) → Result Made Fault
term_sum statement = goes (multiplying_turn statement)

-- One member more of a sum at a place.
unfoldable pub further_member : ℕ → Place → Made → GTerm → Result Made Fault
further_member statement place so_far term = member_turn place so_far (makes_term statement term)

-- The members of a sum, one after another.
abbrev pub members_of : ℕ → Place → Made → List GTerm → Result Made Fault
members_of statement place = goes (further_member statement place)

-- A form times the factor before it, where there is one.
unfoldable pub term_multiplied : Option (Rational × Place) → LinearForm → Result LinearForm Fault
term_multiplied factor form = factor_turn factor form

-- One number more by which a form is multiplied or divided.
unfoldable pub further_factor : LinearForm → Place × Bool × Rational → Result LinearForm Fault
further_factor form factor = product_turn form factor

-- A form times the factor before it and the numbers behind it, one after another.
abbrev pub term_product : Option (Rational × Place) → List (Place × Bool × Rational) → LinearForm → Result LinearForm Fault
term_product factor others form = term_multiplied factor form >>= λ product. goes further_factor product others

-- A first operand of a sum and those that are added to it or taken from it.
abbrev pub sum_makes : ℕ → GTerm → List (Place × Bool × GTerm) → Encoding LinearForm
sum_makes statement first others = makes_term statement first then λ form system. term_sum statement (form, system) others

-- The sum of members at a place, from 0.
abbrev pub sum_over_makes : ℕ → Place → List GTerm → Encoding LinearForm
sum_over_makes statement place members = λ system. members_of statement place (known zero, system) members

-- Each operand of a sum is over the columns from 1 to n and divides by no 0.
abbrev pub operands_over : ℕ → List (Place × Bool × GTerm) → Bool
operands_over n operands = operands_hold (map (λ (t : Place × Bool × GTerm). (t.0, t.1, is_term_over n t.2)) operands)

-- A number that a product is divided by isn't 0.
abbrev pub is_divisor : Place × Bool × Rational → Bool
is_divisor factor = not (factor.1 && same factor.2 zero)
