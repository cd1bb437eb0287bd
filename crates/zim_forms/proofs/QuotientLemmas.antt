-- A quotient is past exactly where `div` says so; there is no divisor 0.
use Rattle.std.proofs.Common.{◌≡◌, ◌≢◌, Bool, true, false, cond, IsTrue, Result, Ok, Err, refl}
use Rattle.zim_rational.specs.Rational.{Rational, zero, over, same}
use Rattle.zim_rational.proofs.Whole.{same_Decides}
use Rattle.zim_fraction.specs.Limit.{is_number}
use Rattle.zim_fraction.specs.Answers.{number_answer, quotient_answer}
use Rattle.zim_fraction.specs.declared.fault.NumFault.{NumFault}
use Rattle.zim_fraction.specs.declared.fault.NumFault.TheVariants as fault
use Rattle.zim_fraction.specs.declared.fault.Past.{Past}
use Rattle.zim_forms.specs.Exact.{exact_quotient}

abbrev by_tests : Bool → Bool → Rational → Result Rational NumFault
by_tests s t q = cond s (Err fault.DivZero) (cond t (Ok q) (Err fault.Past))

ok_by : (s t : Bool) (p q : Rational) (past : Past) → Ok p ≡ by_tests s t q → ◌≡◌ {A = Result Rational Past} (Ok p) (cond t (Ok q) (Err past))
ok_by true t p q past h = cc
ok_by false true p q past h = cc
ok_by false false p q past h = cc

past_by : (s t : Bool) (q : Rational) (past : Past) → Err fault.Past ≡ by_tests s t q → ◌≡◌ {A = Result Rational Past} (Err past) (cond t (Ok q) (Err past))
past_by true t q past h = cc
past_by false true q past h = cc
past_by false false q past h = refl

zero_by : (s t : Bool) (q : Rational) → Err fault.DivZero ≡ by_tests s t q → IsTrue s
zero_by true t q h = refl
zero_by false true q h = cc
zero_by false false q h = cc

pub quotient_ok : (a b q : Rational) → Ok q ≡ quotient_answer a b → Ok q ≡ exact_quotient a b
unfolding quotient_answer number_answer exact_quotient
quotient_ok a b q h = ok_by (same b zero) (is_number (over a b)) q (over a b) (record {}) h

pub quotient_past : (a b : Rational) → Err fault.Past ≡ quotient_answer a b → Err (record {}) ≡ exact_quotient a b
unfolding quotient_answer number_answer exact_quotient
quotient_past a b h = past_by (same b zero) (is_number (over a b)) (over a b) (record {}) h

pub quotient_zero : (a b : Rational) → b ≢ zero → Err fault.DivZero ≡ quotient_answer a b → ⊥
unfolding quotient_answer number_answer
quotient_zero a b some h = some ((same_Decides b zero).0 (zero_by (same b zero) (is_number (over a b)) (over a b) h))
