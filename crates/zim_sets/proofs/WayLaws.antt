-- How many ways there are to choose: what one more item to choose makes of the number, and that it doesn't fall.
use Rattle.std.proofs.Common.{ℕ, zero, suc, ◌≡◌, ◌≤◌, ◌<◌, ◌+◌, ◌-◌, ◌*◌, refl, sym, ap, ◌∙◌, arith, add-zero, add-suc, add-one, zero-lt-suc, ◌/◌, true, false, nat_le}
use Rattle.std.proofs.Math.Nat.{div-eq_of_eq-mul_left}
use Rattle.std.proofs.lemmas.Bool.{le-leb, lt-leb}
use Rattle.zim_sets.specs.Choices.{ways}
use Rattle.zim_sets.specs.Sets.{most}

pub ways-zero : (size : ℕ) → ways size 0 ≡ 1
unfolding ways
ways-zero zero = refl
ways-zero (suc size) = refl

ways-suc : (size n : ℕ) → ways (suc size) (suc n) ≡ ways size n + ways size (suc n)
unfolding ways
ways-suc size n = refl

ways_none : (n : ℕ) → ways 0 (suc n) ≡ 0
unfolding ways
ways_none n = refl

polynomial : (a n p q after : ℕ) → (p + q) * (n + 1) ≡ (a + 1) * p → after * (n + 1 + 1) ≡ (a + 1) * q → (p + q + after) * (n + 1 + 1) ≡ (a + 1 + 1) * (p + q)
polynomial a n p q after first second = omega arith

by_parts : (a n p q after : ℕ) → (p + q) * suc n ≡ suc a * p → after * suc (suc n) ≡ suc a * q → (p + q + after) * suc (suc n) ≡ suc (suc a) * (p + q)
by_parts a n p q after first second =
    let with : (p + q) * (n + 1) ≡ (a + 1) * p = simp add-one first in
    let without : after * (n + 1 + 1) ≡ (a + 1) * q = simp add-one second in
    let all = polynomial a n p q after with without in
    simp add-one at all

-- one item more to choose among one more
pub ways_next : (a n : ℕ) → ways (suc a) (suc n) * suc n ≡ suc a * ways a n
ways_next zero zero = let sum = ways-suc 0 0 in let none = ways_none 0 in let one = ways-zero 0 in omega arith
ways_next zero (suc n) =
    let sum = ways-suc 0 (suc n) in
    let none = ways_none n in
    let more = ways_none (suc n) in
    let nothing : ways 1 (suc (suc n)) ≡ 0 = omega arith in
    rw (nothing, none) (omega arith)
ways_next (suc a) zero =
    let sum = ways-suc (suc a) 0 in
    let before : ways (suc a) 1 * 1 ≡ suc a * 1 = ways_next a 0 ∙ ap (λ w. suc a * w) (ways-zero a) in
    let one = ways-zero (suc a) in
    rw one (omega arith)
ways_next (suc a) (suc n) =
    let p = ways a n in
    let q = ways a (suc n) in
    let after = ways (suc a) (suc (suc n)) in
    let with : (p + q) * suc n ≡ suc a * p = ap (λ w. w * suc n) (sym (ways-suc a n)) ∙ ways_next a n in
    ap (λ w. w * suc (suc n)) (ways-suc (suc a) (suc n))
    ∙ ap (λ w. (w + after) * suc (suc n)) (ways-suc a n)
    ∙ by_parts a n p q after with (ways_next a (suc n))
    ∙ ap (λ w. suc (suc a) * w) (sym (ways-suc a n))

-- one more of both is no fewer ways
pub ways_grow : (a n : ℕ) → ways a n ≤ ways (suc a) (suc n)
ways_grow a n = let sum = ways-suc a n in omega arith

-- so many more of both
pub ways_grow_by : (a n more : ℕ) → ways a n ≤ ways (a + more) (n + more)
ways_grow_by a n zero = simp add-zero (omega arith)
ways_grow_by a n (suc more) =
    let before = ways_grow_by a n more in
    let last = ways_grow (a + more) (n + more) in
    simp add-suc (omega arith)

-- no way to choose more than there are
pub ways_many : (size n : ℕ) → size < n → ways size n ≡ 0
ways_many size zero more = absurd (omega arith)
ways_many zero (suc n) more = ways_none n
ways_many (suc size) (suc n) more =
    ways-suc size n ∙ (let with = ways_many size n (omega arith) in let without = ways_many size (suc n) (omega arith) in omega arith)

divided : (x y q : ℕ) → q * suc y ≡ x → x / suc y ≡ q
divided x y q e = div-eq_of_eq-mul_left (zero-lt-suc y) (sym e)

-- the number of ways by one multiplication and one division more
pub ways_counted : (left_out chosen count : ℕ) → count ≡ ways (left_out + chosen) chosen → count * (left_out + chosen + 1) / (chosen + 1) ≡ ways (left_out + (chosen + 1)) (chosen + 1)
ways_counted left_out chosen count so_far =
    let next = ways_next (left_out + chosen) chosen in
    let whole : ways (suc (left_out + chosen)) (suc chosen) * suc chosen ≡ count * suc (left_out + chosen) = next ∙ ap (λ w. suc (left_out + chosen) * w) (sym so_far) ∙ omega arith in
    simp (add-one, add-suc) (divided (count * suc (left_out + chosen)) chosen (ways (suc (left_out + chosen)) (suc chosen)) whole)

-- with some of the chosen left out of both there are no more
pub ways_fewer : (size n chosen : ℕ) → n ≤ size → chosen < n → ways (size - n + (chosen + 1)) (chosen + 1) ≤ ways size n
ways_fewer size n chosen within fewer =
    let some = size - n + (chosen + 1) in
    let more = n - (chosen + 1) in
    let grow = ways_grow_by some (chosen + 1) more in
    let all : some + more ≡ size = omega arith in
    let picked : chosen + 1 + more ≡ n = omega arith in
    let same : ways (some + more) (chosen + 1 + more) ≡ ways size n = (λ i. ways (all i) (picked i)) in
    omega arith

pub few_ways : (size n : ℕ) → ways size n ≤ most → true ≡ nat_le (ways size n) most
few_ways size n few = sym (le-leb (ways size n) most few)

pub many_ways : (size n : ℕ) → most < ways size n → false ≡ nat_le (ways size n) most
many_ways size n many = sym (lt-leb (ways size n) most many)
