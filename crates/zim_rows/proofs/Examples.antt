-- Factors and scaled numbers of small rows, computed from the definitions; the values are worked by hand.
use Rattle.std.proofs.Common.{pos, negsuc, ◌≡◌, true, false, [], ◌∷◌, refl}
use Rattle.zim_rational.specs.Gcd.{gcd, lcm, euclid}
use Rattle.zim_rational.specs.Rational.{Rational, zero, one, whole, ratio, plus, negate, minus, times, at_most, same_from_parts}
use Rattle.zim_fraction.specs.Limit.{is_sum_within}
use Rattle.zim_decimal.specs.Short.{part, is_short}
use Rattle.zim_linear.specs.Forms.{form_of, sum_at}
use Rattle.zim_rows.specs.declared.rows.RowKind.TheVariants.{One, Range}
use Rattle.zim_rows.specs.declared.rows.Sense.TheVariants.{AtLeast, AtMost}
use Rattle.zim_rows.specs.Points.{KeepsKind}
use Rattle.zim_rows.specs.Factors.{factor_from, row_factor, form_factor, times_factor, kind_within}
use Rattle.zim_linear.specs.Forms.{ColumnNumbers}
use Rattle.zim_rational.specs.Rational.{total}

abbrev third : Rational
third = ratio (pos 1) 3

abbrev half : Rational
half = ratio (pos 1) 2

abbrev seventh : Rational
seventh = ratio (pos 1) 7

-- 1/3 x + 1/2 y <= 1/7 has the factor 21, and is 7 x + 21/2 y <= 3
three_fractions : row_factor ((1, third) ∷ ((2, half) ∷ [])) (One AtMost seventh) ≡ 21
unfolding factor_from part ratio gcd lcm euclid
three_fractions = refl

first_coefficient : times_factor 21 third ≡ whole (pos 7)
unfolding times_factor times whole ratio gcd euclid
first_coefficient = same_from_parts _ _ refl refl

second_coefficient : times_factor 21 half ≡ ratio (pos 21) 2
unfolding times_factor times whole ratio gcd euclid
second_coefficient = same_from_parts _ _ refl refl

right_side : times_factor 21 seventh ≡ whole (pos 3)
unfolding times_factor times whole ratio gcd euclid
right_side = same_from_parts _ _ refl refl

-- 2/3 x + 5 has the factor 3, and is 2 x + 15
objective_factor : form_factor (form_of ((1, ratio (pos 2) 3) ∷ []) (whole (pos 5))) ≡ 3
unfolding factor_from part whole ratio gcd lcm euclid
objective_factor = refl

objective_constant : times_factor 3 (whole (pos 5)) ≡ whole (pos 15)
unfolding times_factor times whole ratio gcd euclid
objective_constant = same_from_parts _ _ refl refl

-- the constant 1/3 alone has the factor 3, and is 1
constant_factor : form_factor (form_of [] third) ≡ 3
unfolding factor_from part ratio gcd lcm euclid
constant_factor = refl

constant_alone : times_factor 3 third ≡ one
unfolding times_factor times one whole ratio gcd euclid
constant_alone = same_from_parts _ _ refl refl

-- x >= 1/3 has the factor 3; 1/3 itself isn't short
bound_factor : row_factor ((1, one) ∷ []) (One AtLeast third) ≡ 3
unfolding factor_from part one whole ratio gcd lcm euclid
bound_factor = refl

bound_is_long : is_short third ≡ false
unfolding is_short ratio gcd euclid
bound_is_long = refl

-- a row without terms stays one, and nothing keeps that 0 is at most -1
no_terms : row_factor [] (One AtMost (whole (negsuc 0))) ≡ 1
unfolding factor_from part whole gcd lcm euclid
no_terms = refl

no_point : (x : ColumnNumbers) → ¬ KeepsKind (One AtMost (whole (negsuc 0))) (sum_at x [])
unfolding sum_at total zero at_most whole
no_point x h = cc

-- a range from 2 to 8 has the factor 1, and the difference of its sides is 6
range_factor : row_factor ((1, one) ∷ ((2, one) ∷ [])) (Range (whole (pos 2)) (whole (pos 8))) ≡ 1
unfolding factor_from part one whole gcd lcm euclid
range_factor = refl

range_difference : minus (times_factor 1 (whole (pos 8))) (times_factor 1 (whole (pos 2))) ≡ whole (pos 6)
unfolding minus plus negate times_factor times whole ratio gcd euclid
range_difference = same_from_parts _ _ refl refl

range_within : kind_within 1 (Range (whole (pos 2)) (whole (pos 8))) ≡ true
unfolding kind_within is_sum_within negate times_factor times whole ratio gcd lcm euclid
range_within = refl
