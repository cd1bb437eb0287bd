-- Small numbers computed from the definitions.
use Rattle.std.proofs.Common.{pos, negsuc, ◌≡◌, [], ◌∷◌, refl}
use Rattle.zim_rational.specs.Gcd.{gcd, lcm, euclid}
use Rattle.zim_rational.specs.Rational.{zero, one, whole, ratio, plus, negate, times, reciprocal, over, at_most, total, same_from_parts}
use Rattle.zim_rational.specs.Rounding.{floor, ceil, round, half, product_of, power}

-- 6/4 is 3/2, and -6/4 is -3/2
lowest_terms : ratio (pos 6) 4 ≡ ratio (pos 3) 2
unfolding ratio gcd euclid
lowest_terms = same_from_parts _ _ refl refl

-- 1/2 + 1/3 + 1/6 is 1
adds_up : total (ratio (pos 1) 2 ∷ ratio (pos 1) 3 ∷ ratio (pos 1) 6 ∷ []) ≡ one
unfolding total plus zero one whole ratio gcd euclid
adds_up = same_from_parts _ _ refl refl

-- 3/4 over -3/2 is -1/2
divides : over (ratio (pos 3) 4) (ratio (negsuc 2) 2) ≡ ratio (negsuc 0) 2
unfolding over times reciprocal ratio gcd euclid
divides = same_from_parts _ _ refl refl

-- 5/2 rounds to 3 and -5/2 to -3; -5/2 lies between -3 and -2
rounds_up : round (ratio (pos 5) 2) ≡ whole (pos 3)
unfolding round floor ceil half at_most plus negate zero whole ratio gcd euclid
rounds_up = same_from_parts _ _ refl refl

rounds_down : round (ratio (negsuc 4) 2) ≡ whole (negsuc 2)
unfolding round floor ceil half at_most plus negate zero whole ratio gcd euclid
rounds_down = same_from_parts _ _ refl refl

has_ceiling : ceil (ratio (negsuc 4) 2) ≡ whole (negsuc 1)
unfolding ceil floor negate whole ratio gcd euclid
has_ceiling = same_from_parts _ _ refl refl

-- 0^0 is 1, and (2/3)^-2 is 9/4
no_factor : power zero (pos 0) ≡ one
unfolding power product_of
no_factor = same_from_parts _ _ refl refl

raised : power (ratio (pos 2) 3) (negsuc 1) ≡ ratio (pos 9) 4
unfolding power product_of reciprocal times one whole ratio gcd euclid
raised = same_from_parts _ _ refl refl

-- of 4 and 6 the least common multiple is 12
multiple : lcm 4 6 ≡ 12
unfolding lcm gcd euclid
multiple = refl
