-- Forms with whole numbers: their number at whole assignments, and which multiples of a form have whole numbers.
use Rattle.std.proofs.Common.{ℕ, suc, ℤ, pos, ◌≡◌, ◌≤◌, ◌*◌, ◌/◌, ◌*ℤ◌, ◌≤ℤ◌, Bool, true, false, Ok, cond, nat_eq, unsigned_abs, List, [], ◌∷◌, IsTrue, arith, ap, ap₂, sym, ◌∙◌, subst, mul_comm}
use Rattle.std.specs.Int.{◌∣◌}
use Rattle.std.proofs.lemmas.Bool.{and_parts, eqb-true}
use Rattle.std.proofs.lemmas.Int.{unsigned_abs-mul, ints}
use Rattle.std.proofs.lemmas.Nat.Gcd.{le_of_dvd}
use native.Mathlib.Nat.{dvd-mul_left, mul-div_cancel'}
use Rattle.zim_rational.specs.Gcd.{divides_other}
use Rattle.zim_rational.specs.Rational.{Rational, zero, one, whole, plus, minus, negate, times, is_whole, ratio_parts}
use Rattle.zim_rational.proofs.Fraction.{denom-pos}
use Rattle.zim_rational.proofs.Ring.{zero_plus, plus_minus, minus_is, plus_times, times_assoc, zero_times}
use Rattle.zim_rational.proofs.Whole.{whole_plus, whole_times, whole_negate, whole_same, is_whole_whole, whole_is_whole, ratio_times}
use Rattle.zim_linear.specs.Forms.{Term, LinearForm, ColumnNumbers, AreTermsFrom, AreTerms, sum_at, number_at}
use Rattle.zim_linear.specs.Multiples.{IsMultipleOf}
use Rattle.zim_linear.specs.Integers.{AllDivide, common_multiple, IsLeastMultiple, AreWhole, HasWholeNumbers, IsWholeAt, AreWholeTimes, HasWholeMultiple, IsLeastWhole, IntegerAnswer}
use Rattle.zim_linear.specs.declared.integers.IntegerForm.{IntegerForm}
use Rattle.zim_linear.proofs.FormLaws.{sum_at_none, sum_at_more}
use Rattle.zim_linear.proofs.ProbeLaws.{only, nowhere, sum_nowhere, sum_first, sum_rest}
use Rattle.zim_linear.proofs.ScaleLaws.{scaled_times}
use Rattle.zim_linear.proofs.IntegerLemmas.{common_is_least}

abbrev IsWholeNumber : Rational → Type 0
IsWholeNumber q = IsTrue (is_whole q)

-- ---- sums, differences and products of whole numbers

whole_sum : (a b : Rational) → IsWholeNumber a → IsWholeNumber b → IsWholeNumber (plus a b)
whole_sum a b p q =
    subst IsWholeNumber (sym (ap₂ plus (is_whole_whole a p) (is_whole_whole b q) ∙ whole_plus a.numer b.numer)) (whole_is_whole _)

whole_product : (a b : Rational) → IsWholeNumber a → IsWholeNumber b → IsWholeNumber (times a b)
whole_product a b p q =
    subst IsWholeNumber (sym (ap₂ times (is_whole_whole a p) (is_whole_whole b q) ∙ whole_times a.numer b.numer)) (whole_is_whole _)

whole_negated : (a : Rational) → IsWholeNumber a → IsWholeNumber (negate a)
whole_negated a p =
    subst IsWholeNumber (sym (ap negate (is_whole_whole a p) ∙ whole_negate a.numer)) (whole_is_whole _)

whole_difference : (a b : Rational) → IsWholeNumber a → IsWholeNumber b → IsWholeNumber (minus a b)
whole_difference a b p q =
    subst IsWholeNumber (sym (minus_is a b)) (whole_sum a (negate b) p (whole_negated b q))

whole_zero : IsWholeNumber zero
unfolding zero
whole_zero = whole_is_whole (pos 0)

whole_one : IsWholeNumber one
unfolding one
whole_one = whole_is_whole (pos 1)

-- ---- a form with whole numbers is whole at whole assignments

sum_whole : (x : ColumnNumbers) (ts : List Term) → IsWholeAt x → AreWhole ts → IsWholeNumber (sum_at x ts)
sum_whole x [] at all = subst IsWholeNumber (sym (sum_at_none x)) whole_zero
sum_whole x (t ∷ ts) at all =
    subst IsWholeNumber (sym (sum_at_more x t ts)) (whole_sum _ _ (whole_product t.1 (x t.0) all.0 (at t.0)) (sum_whole x ts at all.1))

pub number_whole : (x : ColumnNumbers) (form : LinearForm) → IsWholeAt x → HasWholeNumbers form → IsWholeNumber (number_at x form)
unfolding number_at
number_whole x form at all = whole_sum _ _ (sum_whole x form.terms at all.coefficients) all.constant

-- ---- and a form that is whole at all whole assignments has whole numbers

nowhere_whole : IsWholeAt nowhere
unfolding nowhere
nowhere_whole j = whole_zero

whole_by_test : (b : Bool) → IsWholeNumber (cond b one zero)
whole_by_test true = whole_one
whole_by_test false = whole_zero

only_whole : (j : ℕ) → IsWholeAt (only j)
unfolding only
only_whole j i = whole_by_test (nat_eq i j)

coefficients_whole : (n : ℕ) (ts : List Term) → AreTermsFrom n ts → ((x : ColumnNumbers) → IsWholeAt x → IsWholeNumber (sum_at x ts)) → AreWhole ts
coefficients_whole n [] terms h = tt
coefficients_whole n (t ∷ ts) terms h =
    let first : IsWholeNumber t.1 = subst IsWholeNumber (sum_first n t ts terms) (h (only t.0) (only_whole t.0)) in
    (first, coefficients_whole (suc t.0) ts terms.2 (λ x at. subst IsWholeNumber (sum_rest x t ts) (whole_difference _ _ (h x at) (whole_product t.1 (x t.0) first (at t.0)))))

pub numbers_from_assignments : (form : LinearForm) → AreTerms form.terms → ((x : ColumnNumbers) → IsWholeAt x → IsWholeNumber (number_at x form)) → HasWholeNumbers form
unfolding number_at
numbers_from_assignments form terms h =
    let constant : IsWholeNumber form.constant = subst IsWholeNumber (ap (λ (n : Rational). plus n form.constant) (sum_nowhere form.terms) ∙ zero_plus form.constant) (h nowhere nowhere_whole) in
    record {
      coefficients = coefficients_whole 0 form.terms terms (λ x at. subst IsWholeNumber (plus_minus (sum_at x form.terms) form.constant) (whole_difference _ _ (h x at) constant));
      constant = constant;
    }

-- ---- which multiples of a number are whole

times_denom : (q : Rational) → times q (whole (pos q.denom)) ≡ whole q.numer
times_denom q = ap (λ (r : Rational). times r (whole (pos q.denom))) (sym (ratio_parts q)) ∙ ratio_times q.numer q.denom (denom-pos q)

pub whole_from_divides : (q : Rational) (m : ℕ) → q.denom ∣ m → IsWholeNumber (times q (whole (pos m)))
whole_from_divides q m d =
    let c : ℕ = m / q.denom in
    let e : m ≡ q.denom * c = sym (mul-div_cancel' q.denom d) in
    subst
    IsWholeNumber
    (sym (ap (λ (k : ℕ). times q (whole (pos k))) e ∙ ap (times q) (sym (whole_times (pos q.denom) (pos c))) ∙ sym (times_assoc q (whole (pos q.denom)) (whole (pos c))) ∙ ap (λ (r : Rational). times r (whole (pos c))) (times_denom q)))
    (whole_product (whole q.numer) (whole (pos c)) (whole_is_whole q.numer) (whole_is_whole (pos c)))

-- the products across of a whole multiple
across : (q : Rational) (m : ℕ) (n : ℤ) → times q (whole (pos m)) ≡ whole n → n *ℤ pos q.denom ≡ q.numer *ℤ pos m
across q m n e =
    whole_same _ _ (sym (whole_times n (pos q.denom)) ∙ ap (λ (r : Rational). times r (whole (pos q.denom))) (sym e) ∙ scaled_times q (whole (pos m)) (whole (pos q.denom)) ∙ ap (λ (r : Rational). times r (whole (pos m))) (times_denom q) ∙ whole_times q.numer (pos m))

pub divides_from_whole : (q : Rational) (m : ℕ) → IsWholeNumber (times q (whole (pos m))) → q.denom ∣ m
divides_from_whole q m h =
    let n : ℤ = (times q (whole (pos m))).numer in
    let e : n *ℤ pos q.denom ≡ q.numer *ℤ pos m = across q m n (is_whole_whole _ h) in
    let sizes : unsigned_abs n * q.denom ≡ unsigned_abs q.numer * m = sym (unsigned_abs-mul n (pos q.denom)) ∙ ap unsigned_abs e ∙ unsigned_abs-mul q.numer (pos m) in
    divides_other
    (unsigned_abs q.numer)
    q.denom
    m
    (eqb-true _ 1 ((and_parts _ _ q.lowest).1))
    (subst (λ (k : ℕ). q.denom ∣ k) (sizes ∙ mul_comm (unsigned_abs q.numer) m) (dvd-mul_left q.denom (unsigned_abs n)))

-- ---- the least multiple of a form with whole numbers

all_whole : (ts : List Term) (k : ℕ) → AllDivide ts k → AreWholeTimes k ts
all_whole [] k all = tt
all_whole (t ∷ ts) k all = (whole_from_divides t.1 k all.0, all_whole ts k all.1)

all_divide : (ts : List Term) (m : ℕ) → AreWholeTimes m ts → AllDivide ts m
all_divide [] m all = tt
all_divide (t ∷ ts) m all = (divides_from_whole t.1 m all.0, all_divide ts m all.1)

sum_times_whole : (x : ColumnNumbers) (ts : List Term) (m : ℕ) → IsWholeAt x → AreWholeTimes m ts → IsWholeNumber (times (sum_at x ts) (whole (pos m)))
sum_times_whole x [] m at all =
    subst IsWholeNumber (sym (ap (λ (n : Rational). times n (whole (pos m))) (sum_at_none x) ∙ zero_times (whole (pos m)))) whole_zero
sum_times_whole x (t ∷ ts) m at all =
    subst
    IsWholeNumber
    (sym (ap (λ (n : Rational). times n (whole (pos m))) (sum_at_more x t ts) ∙ plus_times _ _ (whole (pos m)) ∙ ap (λ (n : Rational). plus n (times (sum_at x ts) (whole (pos m)))) (sym (scaled_times t.1 (whole (pos m)) (x t.0)))))
    (whole_sum _ _ (whole_product _ (x t.0) all.0 (at t.0)) (sum_times_whole x ts m at all.1))

number_times_whole : (x : ColumnNumbers) (a : LinearForm) (m : ℕ) → IsWholeAt x → HasWholeMultiple a m → IsWholeNumber (times (number_at x a) (whole (pos m)))
unfolding number_at
number_times_whole x a m at all =
    subst
    IsWholeNumber
    (sym (plus_times (sum_at x a.terms) a.constant (whole (pos m))))
    (whole_sum _ _ (sum_times_whole x a.terms m at all.coefficients) all.constant)

pos_at_most : (a b : ℕ) → a ≤ b → pos a ≤ℤ pos b
pos_at_most a b le = omega (arith, ints)

pub least_whole : (a : LinearForm) (made : IntegerForm) → made.k ≡ pos (common_multiple a) → IsMultipleOf a (whole made.k) made.form → IsLeastWhole a made
least_whole a made e multiple =
    let least : IsLeastMultiple a (common_multiple a) = common_is_least a in
    let all : HasWholeMultiple a (common_multiple a) = record { coefficients = all_whole a.terms _ least.coefficients; constant = whole_from_divides a.constant _ least.constant } in
    let at_whole : (x : ColumnNumbers) → IsWholeAt x → IsWholeNumber (number_at x made.form) =
    λ x at. subst IsWholeNumber (sym (multiple.number x ∙ ap (λ (k : ℤ). times (number_at x a) (whole k)) e)) (number_times_whole x a (common_multiple a) at all) in
    record {
      numbers = numbers_from_assignments made.form multiple.terms at_whole;
      at_whole = at_whole;
      least =
          λ m some whole.
          subst (λ (k : ℤ). k ≤ℤ pos m) (sym e) (pos_at_most _ m (le_of_dvd some (least.least m (divides_from_whole a.constant m whole.constant) (all_divide a.terms m whole.coefficients))));
    }

-- the multiple that is made has whole numbers, and no lower one has
pub whole_answer : (a : LinearForm) (made : IntegerForm) → IntegerAnswer a (Ok made) → IsLeastWhole a made
whole_answer a made answer = least_whole a made answer.1 answer.2
