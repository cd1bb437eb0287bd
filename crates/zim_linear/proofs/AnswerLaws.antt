-- What the answer of a call on numbers tells: whether the numbers that it meets are within the limit.
use Rattle.std.proofs.Common.{◌≡◌, IsTrue, Bool, true, false, cond, Ok, Err, refl}
use Rattle.zim_fraction.specs.Limit.{is_number, is_sum_within}
use Rattle.zim_fraction.specs.Answers.{sum_answer, product_answer}
use Rattle.zim_fraction.specs.declared.fault.Past.{Past}
use Rattle.zim_rational.specs.Rational.{Rational, plus, times}

ok_by : (t : Bool) (q r : Rational) (p : Past) → Ok q ≡ cond t (Ok r) (Err p) → IsTrue t
ok_by true q r p e = refl
ok_by false q r p e = cc

past_by : (t : Bool) (r : Rational) (p o : Past) → Err o ≡ cond t (Ok r) (Err p) → ¬ IsTrue t
past_by true r p o e = cc
past_by false r p o e = λ t. cc

pub sum_ok : (a b q : Rational) → Ok q ≡ sum_answer a b → IsTrue (is_sum_within a b)
unfolding sum_answer
sum_ok a b q e = ok_by _ _ _ _ e

pub sum_past : (a b : Rational) (p : Past) → Err p ≡ sum_answer a b → ¬ IsTrue (is_sum_within a b)
unfolding sum_answer
sum_past a b p e = past_by _ _ _ _ e

pub product_ok : (a b q : Rational) → Ok q ≡ product_answer a b → IsTrue (is_number (times a b))
unfolding product_answer
product_ok a b q e = ok_by _ _ _ _ e

pub product_past : (a b : Rational) (p : Past) → Err p ≡ product_answer a b → ¬ IsTrue (is_number (times a b))
unfolding product_answer
product_past a b p e = past_by _ _ _ _ e

value_by : (t : Bool) (q r : Rational) (p : Past) → Ok q ≡ cond t (Ok r) (Err p) → q ≡ r
value_by true q r p e = cc
value_by false q r p e = cc

pub product_value : (a b q : Rational) → Ok q ≡ product_answer a b → q ≡ times a b
unfolding product_answer
product_value a b q e = value_by _ _ _ _ e

pub sum_value : (a b q : Rational) → Ok q ≡ sum_answer a b → q ≡ plus a b
unfolding sum_answer
sum_value a b q e = value_by _ _ _ _ e
