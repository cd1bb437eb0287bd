-- The quotient of two whole numbers cut towards zero, and its rest, are those by which computers divide.
use Rattle.std.proofs.Common.{ℕ, ℤ, pos, negsuc, neg_ℤ, zero as none, suc, ◌≡◌, ◌+◌, ◌*◌, ◌/◌, ◌%◌, ◌<◌, ◌*ℤ◌, unsigned_abs, true, false, arith, sym, ap, ap₂, subst, ◌∙◌, zero-lt-suc, div-add-mod', mod-lt}
use Rattle.std.specs.Prelude.{int_div, int_rem}
use Rattle.std.proofs.lemmas.Bool.{cond-true, cond-false, false_from_ne_true}
use Rattle.std.proofs.lemmas.Int.{quot-rem}
use native.Mathlib.Nat.{zero-div}
use borrow.Author.Differences.{neg_is}
use Rattle.zim_functions.specs.Numbers.{truncated, truncated_quotient, truncated_rest}
use Rattle.zim_rational.specs.Rational.{Rational, zero, one, whole, ratio, plus, negate, minus, times, over, at_most, IsBelow}
use Rattle.zim_rational.specs.Rounding.{floor, ceil}
use Rattle.zim_rational.proofs.Fraction.{IsFraction, one_fraction, ratio-is, moved, whole-is, zero-is, times-is, negate-is, at_most-is, below-is}
use Rattle.zim_rational.proofs.Parts.{whole_different}
use Rattle.zim_rational.proofs.Ring.{plus_comm, plus_minus, times_comm}
use Rattle.zim_rational.proofs.Rounding.{floor_unique}
use Rattle.zim_rational.proofs.Whole.{whole_plus, whole_times, whole_negate, ratio_times, over_unique}

-- ---- ratios cut towards zero

whole_over : (q d : ℕ) → 0 < d → IsFraction (whole (pos q)) (q * d) 0 d
whole_over q d some = moved (whole (pos q)) q 0 1 (q * d) 0 d (whole-is (pos q)) some (omega arith)

zero_over : (d : ℕ) → 0 < d → IsFraction zero 0 0 d
zero_over d some = moved zero 0 0 1 0 0 d zero-is some (omega arith)

floor_of : (a d q r : ℕ) → q * d + r ≡ a → r < d → floor (ratio (pos a) d) ≡ whole (pos q)
unfolding one
floor_of a d q r e below =
    let some : 0 < d = omega arith in
    let own : IsFraction (ratio (pos a) d) a 0 d = ratio-is (pos a) d some in
    floor_unique
    (ratio (pos a) d)
    (pos q)
    ((at_most-is _ _ _ _ _ _ _ (whole_over q d some) own).1 (omega arith))
    (subst
    (λ (r : Rational). IsBelow (ratio (pos a) d) r)
    (sym (whole_plus (pos q) (pos 1)))
    ((below-is _ _ _ _ _ _ _ own (whole_over (q + 1) d some)).1 (omega arith)))

floor_ratio : (a d : ℕ) → 0 < d → floor (ratio (pos a) d) ≡ whole (pos (a / d))
floor_ratio a d some = floor_of a d (a / d) (a % d) (div-add-mod' a d) (mod-lt a some)

truncated_up : (a d : ℕ) → 0 < d → truncated (ratio (pos a) d) ≡ whole (pos (a / d))
unfolding truncated
truncated_up a d some =
    let sign : at_most zero (ratio (pos a) d) ≡ true = (at_most-is _ _ _ _ _ _ _ (zero_over d some) (ratio-is (pos a) d some)).1 (omega arith) in
    cond-true _ _ _ sign ∙ floor_ratio a d some

turned : (a d : ℕ) → 0 < d → negate (ratio (negsuc a) d) ≡ ratio (pos (suc a)) d
turned a d some =
    one_fraction _ _ _ _ _ _ _ _ (negate-is _ _ _ _ (ratio-is (negsuc a) d some)) (ratio-is (pos (suc a)) d some) (omega arith)

truncated_down : (a d : ℕ) → 0 < d → truncated (ratio (negsuc a) d) ≡ whole (neg_ℤ (pos (suc a / d)))
unfolding truncated ceil
truncated_down a d some =
    let sign : at_most zero (ratio (negsuc a) d) ≡ false =
    false_from_ne_true
    (at_most zero (ratio (negsuc a) d))
    (λ t. absurd (let le = (at_most-is _ _ _ _ _ _ _ (zero_over d some) (ratio-is (negsuc a) d some)).0 t in omega arith)) in
    cond-false _ _ _ sign ∙ ap negate (ap floor (turned a d some) ∙ floor_ratio (suc a) d some) ∙ whole_negate (pos (suc a / d))

-- ---- quotients as ratios

over_up : (m : ℤ) (d : ℕ) → 0 < d → over (whole m) (whole (pos d)) ≡ ratio m d
over_up m d some =
    sym (over_unique (whole m) (whole (pos d)) (ratio m d) (whole_different (pos d) some) (ratio_times m d some))

turned_times : (m : ℤ) (b : ℕ) → times (ratio (neg_ℤ m) (suc b)) (whole (negsuc b)) ≡ whole m
turned_times m b =
    let e = neg_is m in
    one_fraction _ _ _ _ _ _ _ _ (times-is _ _ _ _ _ _ _ _ (ratio-is (neg_ℤ m) (suc b) (zero-lt-suc b)) (whole-is (negsuc b))) (whole-is m) (rw (e.0, e.1) (omega arith))

over_down : (m : ℤ) (b : ℕ) → over (whole m) (whole (negsuc b)) ≡ ratio (neg_ℤ m) (suc b)
over_down m b =
    sym (over_unique (whole m) (whole (negsuc b)) (ratio (neg_ℤ m) (suc b)) (whole_different (negsuc b) (zero-lt-suc b)) (turned_times m b))

-- ---- whole numbers

pub quotient_is : (m n : ℤ) → 0 < unsigned_abs n → truncated_quotient (whole m) (whole n) ≡ whole (int_div m n)
unfolding truncated_quotient
quotient_is (pos a) (pos b) some = ap truncated (over_up (pos a) b some) ∙ truncated_up a b some
quotient_is (negsuc a) (pos b) some = ap truncated (over_up (negsuc a) b some) ∙ truncated_down a b some
quotient_is (pos none) (negsuc b) some =
    ap truncated (over_down (pos none) b) ∙ truncated_up 0 (suc b) (zero-lt-suc b) ∙ ap (λ (q : ℕ). whole (pos q)) (zero-div (suc b)) ∙ sym (ap (λ (q : ℕ). whole (neg_ℤ (pos q))) (zero-div (suc b)))
quotient_is (pos (suc a)) (negsuc b) some =
    ap truncated (over_down (pos (suc a)) b) ∙ truncated_down a (suc b) (zero-lt-suc b)
quotient_is (negsuc a) (negsuc b) some =
    ap truncated (over_down (negsuc a) b) ∙ truncated_up (suc a) (suc b) (zero-lt-suc b)

pub rest_is : (m n : ℤ) → 0 < unsigned_abs n → truncated_rest (whole m) (whole n) ≡ whole (int_rem m n)
unfolding truncated_rest
rest_is m n some =
    let q : ℤ = int_div m n in
    let r : ℤ = int_rem m n in
    let all : whole m ≡ plus (whole r) (whole (q *ℤ n)) = sym (ap whole (quot-rem m n)) ∙ sym (whole_plus (q *ℤ n) r) ∙ plus_comm (whole (q *ℤ n)) (whole r) in
    let taken : times (whole n) (truncated_quotient (whole m) (whole n)) ≡ whole (q *ℤ n) = ap (times (whole n)) (quotient_is m n some) ∙ times_comm (whole n) (whole q) ∙ whole_times q n in
    ap₂ minus all taken ∙ plus_minus (whole r) (whole (q *ℤ n))
