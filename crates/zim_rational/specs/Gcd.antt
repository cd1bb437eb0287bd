-- The greatest common divisor of two numbers, and the laws of divisors by which lowest terms are unique.
use Rattle.std.specs.Prelude.{ℕ, zero, suc, ◌≡◌, ◌+◌, ◌*◌, ◌/◌, ◌%◌, ◌<◌, ◌≤◌}
use Rattle.std.specs.Int.{IsGcd, ◌∣◌}
use Rattle.std.proofs.Common.{arith, subst, sym, ap, ◌∙◌, refl, subst₂, mul_comm, mul-one, pos_of_ne-zero, ne_of_gt, mul-zero, eq-zero-or-pos, ⊎_elim}
use Rattle.std.proofs.lemmas.Nat.Gcd.{le_of_dvd, IsGcd-from_zero, IsGcd-from_mod, dvd-zero, dvd_antisymm, same_from_IsGcd}
use native.Mathlib.Nat.{mul-div-mul_left, div-add-mod, add_left_cancel, dvd-mul_left, mul-div_cancel', eq_of_mul-eq-mul_right, eq_of_mul-eq-mul_left, pos_of_dvd_of_pos, mod-one}

-- division with remainder until the remainder is 0, of which the first number bounds the steps
unfoldable pub euclid : ℕ → ℕ → ℕ → ℕ
euclid zero a b = a
euclid (suc k) a zero = a
euclid (suc k) a (suc b) = euclid k (suc b) (a % suc b)

-- the greatest common divisor of a and b, which is 0 where both are
unfoldable pub gcd : ℕ → ℕ → ℕ
gcd a b = euclid b a b

-- the least common multiple of a and b, which is 0 where one of them is
unfoldable pub lcm : ℕ → ℕ → ℕ
lcm a b = a * b / gcd a b

euclid-is : (k a b : ℕ) → b ≤ k → IsGcd a b (euclid k a b)
unfolding euclid
euclid-is zero a b h = IsGcd-from_zero a b (omega arith)
euclid-is (suc k) a zero h = IsGcd-from_zero a zero refl
euclid-is (suc k) a (suc b) h =
    IsGcd-from_mod a (suc b) _ (euclid-is k (suc b) (a % suc b) (omega arith))

-- gcd a b divides both, and each common divisor divides it
pub gcd-is : (a b : ℕ) → IsGcd a b (gcd a b)
unfolding gcd
gcd-is a b = euclid-is b a b (omega arith)

scaled-mod : (c a b : ℕ) → 0 < c → (c * a) % (c * b) ≡ c * (a % b)
scaled-mod c a b h =
    add_left_cancel
    (c * b * (a / b))
    (subst
    (λ (q : ℕ). c * b * q + (c * a) % (c * b) ≡ c * b * (a / b) + c * (a % b))
    (mul-div-mul_left a b h)
    (div-add-mod (c * a) (c * b) ∙ ap (λ n. c * n) (sym (div-add-mod a b)) ∙ omega arith))

scaled_euclid : (c k a b : ℕ) → 0 < c → b ≤ k → IsGcd (c * a) (c * b) (c * euclid k a b)
unfolding euclid
scaled_euclid c zero a b p h = IsGcd-from_zero (c * a) (c * b) (let e : b ≡ 0 = omega arith in ap (λ n. c * n) e ∙ mul-zero c)
scaled_euclid c (suc k) a zero p h = IsGcd-from_zero (c * a) (c * zero) (mul-zero c)
scaled_euclid c (suc k) a (suc b) p h =
    IsGcd-from_mod
    (c * a)
    (c * suc b)
    _
    (subst
    (λ (r : ℕ). IsGcd (c * suc b) r (c * euclid k (suc b) (a % suc b)))
    (sym (scaled-mod c a (suc b) p))
    (scaled_euclid c k (suc b) (a % suc b) p (omega arith)))

pub gcd-mul : (c a b : ℕ) → 0 < c → IsGcd (c * a) (c * b) (c * gcd a b)
unfolding gcd
gcd-mul c a b p = scaled_euclid c b a b p (omega arith)

pub gcd-pos : (a b : ℕ) → 0 < b → 0 < gcd a b
gcd-pos a b h = pos_of_dvd_of_pos ((gcd-is a b).1) h

pub gcd_le : (a b : ℕ) → 0 < b → gcd a b ≤ b
gcd_le a b h = le_of_dvd h ((gcd-is a b).1)

-- the two numbers over their greatest common divisor have no common divisor but 1
pub gcd_lowest : (a b : ℕ) → 0 < b → gcd (a / gcd a b) (b / gcd a b) ≡ 1
gcd_lowest a b h =
    let g : ℕ = gcd a b in
    let some : 0 < g = gcd-pos a b h in
    let left : g * (a / g) ≡ a = mul-div_cancel' g ((gcd-is a b).0) in
    let right : g * (b / g) ≡ b = mul-div_cancel' g ((gcd-is a b).1) in
    let scaled : IsGcd (g * (a / g)) (g * (b / g)) (g * gcd (a / g) (b / g)) =
    gcd-mul g (a / g) (b / g) some in
    let there : IsGcd a b (g * gcd (a / g) (b / g)) =
    subst₂ (λ (m n : ℕ). IsGcd m n (g * gcd (a / g) (b / g))) left right scaled in
    eq_of_mul-eq-mul_left
    g
    some
    (gcd (a / g) (b / g))
    1
    (same_from_IsGcd a b (g * gcd (a / g) (b / g)) g there (gcd-is a b) ∙ sym (mul-one g))

-- a divisor of a product that has nothing in common with one factor divides the other
pub divides_other : (a d c : ℕ) → gcd a d ≡ 1 → d ∣ c * a → d ∣ c
divides_other a d c lowest h =
    ⊎_elim
    (λ none. subst (λ (n : ℕ). d ∣ n) (sym none) (dvd-zero d))
    (λ some.
    subst
    (λ (n : ℕ). d ∣ n)
    (ap (λ g. c * g) lowest ∙ mul-one c)
    ((gcd-mul c a d some).2 d h (dvd-mul_left d c)))
    (eq-zero-or-pos c)

-- of one ratio there is one pair in lowest terms
pub one_lowest : (a d b e : ℕ) → gcd a d ≡ 1 → gcd b e ≡ 1 → 0 < d → 0 < e → a * e ≡ b * d → (a ≡ b) × (d ≡ e)
one_lowest a d b e p q some more h =
    let there : d ∣ e = divides_other a d e p (subst (λ (n : ℕ). d ∣ n) (sym h ∙ mul_comm a e) (dvd-mul_left d b)) in
    let back : e ∣ d = divides_other b e d q (subst (λ (n : ℕ). e ∣ n) (h ∙ mul_comm b d) (dvd-mul_left e a)) in
    let same : d ≡ e = dvd_antisymm there back in
    (eq_of_mul-eq-mul_right e more a b (h ∙ ap (λ n. b * n) same), same)

pub div_gcd-pos : (a b : ℕ) → 0 < b → 0 < b / gcd a b
div_gcd-pos a b h =
    pos_of_ne-zero
    (λ none.
    ne_of_gt
    h
    (sym (mul-div_cancel' (gcd a b) ((gcd-is a b).1)) ∙ ap (λ n. gcd a b * n) none ∙ mul-zero (gcd a b)))

euclid-one : (k n : ℕ) → euclid (suc k) n 1 ≡ 1
unfolding euclid
euclid-one zero n = refl
euclid-one (suc k) n = ap (λ r. euclid (suc k) 1 r) (mod-one n)

pub gcd-one : (n : ℕ) → gcd n 1 ≡ 1
unfolding gcd
gcd-one n = euclid-one 0 n
