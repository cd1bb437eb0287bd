-- Ranges: how many numbers are left after a step, that a step stays within 128 bits, and that a range has no repeats.
use Rattle.std.proofs.Common.{ℕ, ℤ, zero, suc, pos, negsuc, ◌≡◌, ◌≤◌, ◌<◌, ◌+◌, ◌-◌, ◌/◌, ◌+ℤ◌, ◌-ℤ◌, ◌≤ℤ◌, ◌<ℤ◌, Bool, true, false, ◌&&◌, List, [], ◌∷◌, ◌++◌, length, map, Ok, Err, unsigned_abs, FitsSigned, of_z, refl, sym, ap, ◌∙◌, arith, append_assoc, append-nil, length-append}
use Rattle.std.proofs.Math.Nat.{div-eq-sub-div, le-mul_of_pos_right}
use Rattle.std.proofs.lemmas.Bool.Decides.{Decides-int_eq}
use Rattle.std.proofs.lemmas.Int.{ints}
use Rattle.std.proofs.lemmas.List.{length-map}
use Rattle.std.specs.Int.{w128}
use Rattle.std.specs.List.{AllByRecursion, IsDistinct, list_all}
use Rattle.std.specs.Ordering.{int_eq}
use Rattle.zim_fraction.specs.Limit.{limit}
use Rattle.zim_rational.proofs.Whole.{same_Decides, whole_same}
use Rattle.zim_rational.specs.Rational.{whole}
use Rattle.zim_rational.specs.Rational as rational
use Rattle.zim_sets.proofs.SetLemmas.{one_shape_from, sized_few, sized_many}
use Rattle.zim_sets.specs.Ranges.{progression, distance, multiples_within, range_count, single, range_tuples, range_of}
use Rattle.zim_sets.specs.Sets.{same_shape, same_tuple, most, IsSet}
use Rattle.zim_fault.specs.declared.kinds.Kind.TheVariants.{StepZero, SetSize}
use Rattle.zim_tuples.specs.declared.elements.Elem.{Elem}

-- one step nearer
pub distance_next : (x m s : ℤ) → distance (x +ℤ s) m s +ℤ pos (unsigned_abs s) ≡ distance x m s
distance_next x m (pos a) = omega (arith, ints)
distance_next x m (negsuc a) = omega (arith, ints)

step_within : (d step : ℕ) → 0 < step → 1 ≤ d / step → step ≤ d
step_within d step some many = let times = le-mul_of_pos_right {m = d / step} step many in omega arith

multiples_next : (d e : ℤ) (step : ℕ) → e +ℤ pos step ≡ d → 0 < step → 2 ≤ multiples_within d step → multiples_within e step + 1 ≡ multiples_within d step
multiples_next (pos d) e step near some many =
    let le = step_within d step some (omega arith) in
    let here : e ≡ pos (d - step) = omega (arith, ints) in
    ap (λ z. multiples_within z step + 1) here ∙ ap (λ k. k + 1) (sym (div-eq-sub-div some le))
multiples_next (negsuc d) e step near some many = absurd (omega arith)

-- after a step one number less is left
pub count_next : (x m s : ℤ) → 0 < unsigned_abs s → 2 ≤ range_count x m s → range_count (x +ℤ s) m s + 1 ≡ range_count x m s
unfolding range_count
count_next x m s some many =
    multiples_next (distance x m s) (distance (x +ℤ s) m s) (unsigned_abs s) (distance_next x m s) some many

far_enough : (d : ℤ) (step : ℕ) → 0 < step → 2 ≤ multiples_within d step → pos step ≤ℤ d
far_enough (pos d) step some many = let le = step_within d step some (omega arith) in omega (arith, ints)
far_enough (negsuc d) step some many = absurd (omega arith)

-- where two numbers are left, the second is within the limits of both ends
pub next_within : (x m s : ℤ) (limit : ℕ) → 0 < unsigned_abs s → 2 ≤ range_count x m s → unsigned_abs x ≤ limit → unsigned_abs m ≤ limit → unsigned_abs (x +ℤ s) ≤ limit
unfolding range_count
next_within x m (pos a) limit some many low high = let far = far_enough (m -ℤ x) a some many in omega (arith, ints)
next_within x m (negsuc a) limit some many low high = let far = far_enough (x -ℤ m) (suc a) some many in omega (arith, ints)

length-progression : (x s : ℤ) (n : ℕ) → length (progression x s n) ≡ n
unfolding progression
length-progression x s zero = refl
length-progression x s (suc n) = let rest = length-progression (x +ℤ s) s n in omega arith

pub length-ranged : (n m s : ℤ) → length (range_tuples n m s) ≡ range_count n m s
length-ranged n m s = length-map (progression n s (range_count n m s)) single ∙ length-progression n s (range_count n m s)

single_shape : (x : ℤ) (zs : List ℤ) → list_all (same_shape (single x)) (map single zs) ≡ true
single_shape x [] = refl
single_shape x (z ∷ zs) = single_shape x zs

unlike_by : (p : Bool) → (p ≡ true → ⊥) → p ≡ false
unlike_by p differs = (elim p as (λ q. p ≡ q → q ≡ false) [ true ↦ λ e. absurd (differs e) | false ↦ λ e. refl ]) refl

apart : (x z : ℤ) → (x ≡ z → ⊥) → same_tuple (single x) (single z) ≡ false
apart x z unequal =
    (λ i. unlike_by (rational.same (whole x) (whole z)) (λ e. unequal (whole_same x z ((same_Decides (whole x) (whole z)).0 e))) i && true)

above : (x y : ℤ) (a n : ℕ) → x <ℤ y → AllByRecursion (λ w. same_tuple (single x) w ≡ false) (map single (progression y (pos a) n))
unfolding progression
above x y a zero less = tt
above x y a (suc n) less = (apart x y (λ e. omega (arith, ints)), above x (y +ℤ pos a) a n (omega (arith, ints)))

below : (x y : ℤ) (a n : ℕ) → y <ℤ x → AllByRecursion (λ w. same_tuple (single x) w ≡ false) (map single (progression y (negsuc a) n))
unfolding progression
below x y a zero less = tt
below x y a (suc n) less = (apart x y (λ e. omega (arith, ints)), below x (y +ℤ negsuc a) a n (omega (arith, ints)))

progression_distinct : (x s : ℤ) (n : ℕ) → 0 < unsigned_abs s → IsDistinct same_tuple (map single (progression x s n))
unfolding progression IsDistinct
progression_distinct x s zero some = tt
progression_distinct x (pos a) (suc n) some =
    (above x (x +ℤ pos a) a n (omega (arith, ints)), progression_distinct (x +ℤ pos a) (pos a) n some)
progression_distinct x (negsuc a) (suc n) some =
    (below x (x +ℤ negsuc a) a n (omega (arith, ints)), progression_distinct (x +ℤ negsuc a) (negsuc a) n some)

-- a range that isn't too long is a set
pub ranged_set : (n m s : ℤ) → 0 < unsigned_abs s → range_count n m s ≤ most → IsSet (range_tuples n m s)
ranged_set n m s some few = record {
  few = rw (length-ranged n m s) few;
  one_shape = one_shape_from (single n) (range_tuples n m s) (single_shape n (progression n s (range_count n m s)));
  distinct = progression_distinct n s (range_count n m s) some;
}

moves : (s : ℤ) → 0 < unsigned_abs s → int_eq s (pos 0) ≡ false
moves s some = unlike_by (int_eq s (pos 0)) (λ e. let none = ap unsigned_abs ((Decides-int_eq s (pos 0)).0 e) in omega arith)

pub range_few : (n m s : ℤ) → 0 < unsigned_abs s → range_count n m s ≤ most → range_of n m s ≡ Ok (range_tuples n m s)
unfolding range_of
range_few n m s some few = rw (moves s some) (sized_few (range_tuples n m s) (rw (length-ranged n m s) few))

pub range_many : (n m s : ℤ) → 0 < unsigned_abs s → most < range_count n m s → range_of n m s ≡ Err SetSize
unfolding range_of
range_many n m s some many = rw (moves s some) (sized_many (range_tuples n m s) (rw (length-ranged n m s) many))

pub range_stands : (n m s : ℤ) → s ≡ pos 0 → range_of n m s ≡ Err StepZero
unfolding range_of
range_stands n m s none = rw ((Decides-int_eq s (pos 0)).1 none) refl

-- a step whose bits aren't 0 has a size
pub some_from_bits : (s : ℤ) → (of_z w128 s ≡ 0 → ⊥) → 0 < unsigned_abs s
some_from_bits (pos zero) some = absurd (some refl)
some_from_bits (pos (suc n)) some = omega arith
some_from_bits (negsuc n) some = omega arith

-- the numbers from one on, when the first is taken
pub progression_first : (x s : ℤ) (n : ℕ) → 0 < n → map single (progression x s n) ≡ single x ∷ map single (progression (x +ℤ s) s (n - 1))
unfolding progression
progression_first x s zero some = absurd (omega arith)
progression_first x s (suc n) some = ap (λ k. single x ∷ map single (progression (x +ℤ s) s k)) (let e : n ≡ suc n - 1 = omega arith in e)

-- the count of a range that leads on, by the ends' difference
pub count_up : (n m s : ℤ) → pos 0 ≤ℤ s → n ≤ℤ m → unsigned_abs (n -ℤ m) / unsigned_abs s + 1 ≡ range_count n m s
unfolding range_count
count_up n m (pos a) sign order =
    let far : m -ℤ n ≡ pos (unsigned_abs (n -ℤ m)) = omega (arith, ints) in
    ap (λ d. multiples_within d a) (sym far)
count_up n m (negsuc a) sign order = absurd (omega (arith, ints))

pub count_down : (n m s : ℤ) → s <ℤ pos 0 → m ≤ℤ n → unsigned_abs (n -ℤ m) / unsigned_abs s + 1 ≡ range_count n m s
unfolding range_count
count_down n m (pos a) sign order = absurd (omega (arith, ints))
count_down n m (negsuc a) sign order =
    let far : n -ℤ m ≡ pos (unsigned_abs (n -ℤ m)) = omega (arith, ints) in
    ap (λ d. multiples_within d (suc a)) (sym far)

none_within : (d : ℤ) (step : ℕ) → d <ℤ pos 0 → multiples_within d step ≡ 0
none_within (pos d) step less = absurd (omega (arith, ints))
none_within (negsuc d) step less = refl

-- and of one that leads away
pub count_up_none : (n m s : ℤ) → pos 0 ≤ℤ s → m <ℤ n → range_count n m s ≡ 0
unfolding range_count
count_up_none n m (pos a) sign order = none_within (m -ℤ n) a (omega (arith, ints))
count_up_none n m (negsuc a) sign order = absurd (omega (arith, ints))

pub count_down_none : (n m s : ℤ) → s <ℤ pos 0 → n <ℤ m → range_count n m s ≡ 0
unfolding range_count
count_down_none n m (pos a) sign order = absurd (omega (arith, ints))
count_down_none n m (negsuc a) sign order = none_within (n -ℤ m) (suc a) (omega (arith, ints))

-- the list that the first number begins
pub ranged_begins : (made : List (List Elem)) (n m s : ℤ) (count : ℕ) → count ≡ range_count n m s → 0 < count → made ≡ single n ∷ [] → made ++ map single (progression (n +ℤ s) s (count - length made)) ≡ range_tuples n m s
ranged_begins made n m s count all some first =
    (λ i. first i ++ map single (progression (n +ℤ s) s (count - length (first i)))) ∙ sym (progression_first n s count some) ∙ ap (λ k. map single (progression n s k)) all

-- and goes on with the next
pub ranged_next : (made more : List (List Elem)) (x s : ℤ) (count : ℕ) (whole_list : List (List Elem)) → length made < count → more ≡ made ++ single (x +ℤ s) ∷ [] → made ++ map single (progression (x +ℤ s) s (count - length made)) ≡ whole_list → more ++ map single (progression ((x +ℤ s) +ℤ s) s (count - length more)) ≡ whole_list
ranged_next made more x s count whole_list within next listed =
    let y = x +ℤ s in
    let long : length more ≡ length made + 1 = ap length next ∙ length-append made (single y ∷ []) in
    let left : count - length more ≡ count - length made - 1 = omega arith in
    (λ i. next i ++ map single (progression (y +ℤ s) s (left i)))
    ∙ append_assoc made (single y ∷ []) (map single (progression (y +ℤ s) s (count - length made - 1)))
    ∙ ap (λ rest. made ++ rest) (sym (progression_first y s (count - length made) (omega arith)))
    ∙ listed

-- and ends
pub ranged_ends : (made : List (List Elem)) (x s : ℤ) (count : ℕ) (whole_list : List (List Elem)) → count ≤ length made → made ++ map single (progression (x +ℤ s) s (count - length made)) ≡ whole_list → made ≡ whole_list
unfolding progression
ranged_ends made x s count whole_list done listed =
    let none : count - length made ≡ 0 = omega arith in
    sym (append-nil made) ∙ sym (ap (λ k. made ++ map single (progression (x +ℤ s) s k)) none) ∙ listed

pub ranged_none : (n m s : ℤ) → range_count n m s ≡ 0 → range_tuples n m s ≡ []
unfolding progression
ranged_none n m s none = ap (λ k. map single (progression n s k)) none

-- a number within the limit fits 128 bits
pub limit_fits : (z : ℤ) → unsigned_abs z ≤ limit → FitsSigned w128 z
limit_fits (pos n) within = record { sfits = omega arith }
limit_fits (negsuc n) within = record { sfits = omega arith }
