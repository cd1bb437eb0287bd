-- What the rows of an encoding say: guarded rows, truth columns, joins of truth values and absolute values.
use Rattle.std.proofs.Common.{ℕ, ℤ, pos, ◌≡◌, ◌≢◌, ◌<◌, ◌≤◌, ◌↔◌, inl, inr, not, IsTrue, IsFalse, arith, sym, ap, subst, subst₂, neg_ℤ, ◌+ℤ◌, lit<, lit≤, ◌∙◌}
use Rattle.zim_rational.specs.Rational.{Rational, zero, one, plus, minus, negate, times, at_most, below, IsAtMost, IsBelow, is_whole, IsBinary, whole}
use Rattle.zim_rational.specs.Rounding.{absolute}
use Rattle.std.proofs.lemmas.Bool.{cond-true, cond-false, false_from_ne_true}
use Rattle.zim_rational.proofs.Fraction.{fraction, fractions, zero_fraction, one_fraction_of, common2, common3, common4}
use Rattle.zim_rational.proofs.Ring.{times_zero, times_one, plus_zero, minus_zero, minus_is}
use Rattle.zim_rational.proofs.Whole.{one_different, is_whole_whole, whole_plus, whole_negate, whole_at_most}
use Rattle.std.proofs.lemmas.Int.{ints, by_lt_z}

-- ---- guarded rows

at_one : (c v up : Rational) → IsAtMost (plus c (minus up v)) up ↔ IsAtMost c v
at_one =
    common3
    (λ c v up. IsAtMost (plus c (minus up v)) up ↔ IsAtMost c v)
    (λ x y u v s t d some. simp fractions (omega arith))

-- c + (up - v) b <= up says c <= v where b is 1, and nothing where b is 0
pub guarded_at_most : (c v up b : Rational) → IsBinary b → IsAtMost c up → IsAtMost (plus c (times (minus up v) b)) up ↔ (b ≡ one → IsAtMost c v)
guarded_at_most c v up b (inl none) under =
    let row : plus c (times (minus up v) b) ≡ c =
    ap (λ n. plus c (times (minus up v) n)) none ∙ ap (plus c) (times_zero (minus up v)) ∙ plus_zero c in (
      λ _ set. absurd (one_different (sym set ∙ none)),
      λ _. subst (λ (n : Rational). IsAtMost n up) (sym row) under,
    )
guarded_at_most c v up b (inr set) under =
    let row : plus c (times (minus up v) b) ≡ plus c (minus up v) =
    ap (λ n. plus c (times (minus up v) n)) set ∙ ap (plus c) (times_one (minus up v)) in (
      λ h _. (at_one c v up).0 (subst (λ (n : Rational). IsAtMost n up) row h),
      λ h. subst (λ (n : Rational). IsAtMost n up) (sym row) ((at_one c v up).1 (h set)),
    )

at_one_low : (c v lo : Rational) → IsAtMost lo (plus c (minus lo v)) ↔ IsAtMost v c
at_one_low =
    common3
    (λ c v lo. IsAtMost lo (plus c (minus lo v)) ↔ IsAtMost v c)
    (λ x y u v s t d some. simp fractions (omega arith))

-- c + (lo - v) b >= lo says c >= v where b is 1, and nothing where b is 0
pub guarded_at_least : (c v lo b : Rational) → IsBinary b → IsAtMost lo c → IsAtMost lo (plus c (times (minus lo v) b)) ↔ (b ≡ one → IsAtMost v c)
guarded_at_least c v lo b (inl none) above =
    let row : plus c (times (minus lo v) b) ≡ c =
    ap (λ n. plus c (times (minus lo v) n)) none ∙ ap (plus c) (times_zero (minus lo v)) ∙ plus_zero c in (
      λ _ set. absurd (one_different (sym set ∙ none)),
      λ _. subst (λ (n : Rational). IsAtMost lo n) (sym row) above,
    )
guarded_at_least c v lo b (inr set) above =
    let row : plus c (times (minus lo v) b) ≡ plus c (minus lo v) =
    ap (λ n. plus c (times (minus lo v) n)) set ∙ ap (plus c) (times_one (minus lo v)) in (
      λ h _. (at_one_low c v lo).0 (subst (λ (n : Rational). IsAtMost lo n) row h),
      λ h. subst (λ (n : Rational). IsAtMost lo n) (sym row) ((at_one_low c v lo).1 (h set)),
    )

off_one : (c v up : Rational) → IsAtMost c up → IsAtMost (minus c (minus up v)) v
off_one =
    common3
    (λ c v up. IsAtMost c up → IsAtMost (minus c (minus up v)) v)
    (λ x y u v s t d some. simp fractions (λ h. omega arith))

off_one_low : (c v lo : Rational) → IsAtMost lo c → IsAtMost v (minus c (minus lo v))
off_one_low =
    common3
    (λ c v lo. IsAtMost lo c → IsAtMost v (minus c (minus lo v)))
    (λ x y u v s t d some. simp fractions (λ h. omega arith))

-- the same rows under 1 - b: they say something where b is 0
pub unguarded_at_most : (c v up b : Rational) → IsBinary b → IsAtMost c up → IsAtMost (minus c (times (minus up v) b)) v ↔ (b ≡ zero → IsAtMost c v)
unguarded_at_most c v up b (inl none) under =
    let row : minus c (times (minus up v) b) ≡ c =
    ap (λ n. minus c (times (minus up v) n)) none ∙ ap (minus c) (times_zero (minus up v)) ∙ minus_zero c in (
      λ h _. subst (λ (n : Rational). IsAtMost n v) row h,
      λ h. subst (λ (n : Rational). IsAtMost n v) (sym row) (h none),
    )
unguarded_at_most c v up b (inr set) under =
    let row : minus c (times (minus up v) b) ≡ minus c (minus up v) =
    ap (λ n. minus c (times (minus up v) n)) set ∙ ap (minus c) (times_one (minus up v)) in (
      λ _ none. absurd (one_different (sym set ∙ none)),
      λ _. subst (λ (n : Rational). IsAtMost n v) (sym row) (off_one c v up under),
    )

pub unguarded_at_least : (c v lo b : Rational) → IsBinary b → IsAtMost lo c → IsAtMost v (minus c (times (minus lo v) b)) ↔ (b ≡ zero → IsAtMost v c)
unguarded_at_least c v lo b (inl none) above =
    let row : minus c (times (minus lo v) b) ≡ c =
    ap (λ n. minus c (times (minus lo v) n)) none ∙ ap (minus c) (times_zero (minus lo v)) ∙ minus_zero c in (
      λ h _. subst (λ (n : Rational). IsAtMost v n) row h,
      λ h. subst (λ (n : Rational). IsAtMost v n) (sym row) (h none),
    )
unguarded_at_least c v lo b (inr set) above =
    let row : minus c (times (minus lo v) b) ≡ minus c (minus lo v) =
    ap (λ n. minus c (times (minus lo v) n)) set ∙ ap (minus c) (times_one (minus lo v)) in (
      λ _ none. absurd (one_different (sym set ∙ none)),
      λ _. subst (λ (n : Rational). IsAtMost v n) (sym row) (off_one_low c v lo above),
    )

-- ---- joins of truth values

binary_over : (b : Rational) → IsBinary b → (x : ℕ) × (x ≤ 1) × (b ≡ fraction x 0 1)
binary_over b (inl none) = (0, lit≤ tt, none ∙ zero_fraction 1 (lit< tt))
binary_over b (inr set) = (1, lit≤ tt, set ∙ one_fraction_of 1 (lit< tt))

-- what holds of all x/1 with x at most 1 holds of all binary numbers
pub binary3 : (P : Rational → Rational → Rational → Type 0) → ((x y z : ℕ) → x ≤ 1 → y ≤ 1 → z ≤ 1 → P (fraction x 0 1) (fraction y 0 1) (fraction z 0 1)) → (p q r : Rational) → IsBinary p → IsBinary q → IsBinary r → P p q r
binary3 P each p q r f g h =
    let x = binary_over p f in
    let y = binary_over q g in
    let z = binary_over r h in rw (x.2, y.2, z.2) (each x.0 y.0 z.0 x.1 y.1 z.1)

-- 2r - p - q <= 0 and r - p - q >= -1: r is 1 exactly where p and q are
pub and_rows : (p q r : Rational) → IsBinary p → IsBinary q → IsBinary r → (IsAtMost (minus (minus (plus r r) p) q) zero × IsAtMost (negate one) (minus (minus r p) q)) ↔ ((r ≡ one) ↔ ((p ≡ one) × (q ≡ one)))
and_rows =
    binary3
    (λ p q r. (IsAtMost (minus (minus (plus r r) p) q) zero × IsAtMost (negate one) (minus (minus r p) q)) ↔ ((r ≡ one) ↔ ((p ≡ one) × (q ≡ one))))
    (λ x y z f g h.
    let unit : 0 < 1 = lit< tt in simp (zero_fraction 1 unit, one_fraction_of 1 unit, fractions) (grind arith))

-- 2r - p - q >= 0 and r - p - q <= 0: r is 0 exactly where p and q are
pub or_rows : (p q r : Rational) → IsBinary p → IsBinary q → IsBinary r → (IsAtMost zero (minus (minus (plus r r) p) q) × IsAtMost (minus (minus r p) q) zero) ↔ ((r ≡ zero) ↔ ((p ≡ zero) × (q ≡ zero)))
or_rows =
    binary3
    (λ p q r. (IsAtMost zero (minus (minus (plus r r) p) q) × IsAtMost (minus (minus r p) q) zero) ↔ ((r ≡ zero) ↔ ((p ≡ zero) × (q ≡ zero))))
    (λ x y z f g h.
    let unit : 0 < 1 = lit< tt in simp (zero_fraction 1 unit, fractions) (grind arith))

-- r - p - q <= 0, r - p + q >= 0, r + p - q >= 0 and r + p + q <= 2: r is 1 exactly where p and q differ
pub xor_rows : (p q r : Rational) → IsBinary p → IsBinary q → IsBinary r → (IsAtMost (minus (minus r p) q) zero × IsAtMost zero (plus (minus r p) q) × IsAtMost zero (minus (plus r p) q) × IsAtMost (plus (plus r p) q) (plus one one)) ↔ ((r ≡ one) ↔ (p ≢ q))
xor_rows =
    binary3
    (λ p q r. (IsAtMost (minus (minus r p) q) zero × IsAtMost zero (plus (minus r p) q) × IsAtMost zero (minus (plus r p) q) × IsAtMost (plus (plus r p) q) (plus one one)) ↔ ((r ≡ one) ↔ (p ≢ q)))
    (λ x y z f g h.
    let unit : 0 < 1 = lit< tt in simp (zero_fraction 1 unit, one_fraction_of 1 unit, fractions) (grind arith))

-- e - g - l = -1 where g or l is 1: e is 1 exactly where both are
pub equal_row : (g l e : Rational) → IsBinary g → IsBinary l → IsBinary e → ((g ≡ zero) → (l ≡ zero) → ⊥) → (minus (minus e g) l ≡ negate one) ↔ ((e ≡ one) ↔ ((g ≡ one) × (l ≡ one)))
equal_row =
    binary3
    (λ g l e. ((g ≡ zero) → (l ≡ zero) → ⊥) → (minus (minus e g) l ≡ negate one) ↔ ((e ≡ one) ↔ ((g ≡ one) × (l ≡ one))))
    (λ x y z f g h.
    let unit : 0 < 1 = lit< tt in simp (zero_fraction 1 unit, one_fraction_of 1 unit, fractions) (grind arith))

-- ---- truth columns

gap_of_wholes : (m n : ℤ) → (IsAtMost (whole n) (whole m) → ⊥) → IsAtMost (whole m) (minus (whole n) one)
unfolding one
gap_of_wholes m n apart =
    let before : minus (whole n) (whole (pos 1)) ≡ whole (n +ℤ neg_ℤ (pos 1)) =
    minus_is (whole n) (whole (pos 1)) ∙ ap (plus (whole n)) (whole_negate (pos 1)) ∙ whole_plus n (neg_ℤ (pos 1)) in
    subst
    (λ (q : Rational). IsAtMost (whole m) q)
    (sym before)
    ((whole_at_most m (n +ℤ neg_ℤ (pos 1))).1 (by_lt_z m n (λ less. omega (arith, ints)) (λ most. absurd (apart ((whole_at_most n m).1 most)))))

-- whole numbers that are not at least c are at most c - 1
pub whole_gap : (t c : Rational) → IsTrue (is_whole t) → IsTrue (is_whole c) → (IsAtMost c t → ⊥) → IsAtMost t (minus c one)
whole_gap t c f g apart =
    let e = is_whole_whole t f in
    let h = is_whole_whole c g in
    subst₂ (λ (p q : Rational). IsAtMost p (minus q one)) (sym e) (sym h) (gap_of_wholes t.numer c.numer (subst₂ (λ (p q : Rational). IsAtMost q p → ⊥) e h apart))

no_gap : (t c : Rational) → IsAtMost t (minus c one) → IsAtMost c t → ⊥
no_gap =
    common2
    (λ t c. IsAtMost t (minus c one) → IsAtMost c t → ⊥)
    (λ x y u v d some. simp (one_fraction_of d some, fractions) (λ h k. omega arith))

-- the two rows of a truth column at 1
set_low : (t c lo : Rational) → IsAtMost lo (minus t (minus c lo)) ↔ IsAtMost c t
set_low =
    common3
    (λ t c lo. IsAtMost lo (minus t (minus c lo)) ↔ IsAtMost c t)
    (λ x y u v s w d some. simp fractions (omega arith))

set_high : (t c up : Rational) → IsAtMost t up → IsAtMost (minus t (plus (minus up c) one)) (minus c one)
set_high =
    common3
    (λ t c up. IsAtMost t up → IsAtMost (minus t (plus (minus up c) one)) (minus c one))
    (λ x y u v s w d some. simp (one_fraction_of d some, fractions) (λ h. omega arith))

-- t - (c - lo) b >= lo and t - (up - c + 1) b <= c - 1: b is 1 exactly where t >= c
pub truth_rows : (t c lo up b : Rational) → IsTrue (is_whole t) → IsTrue (is_whole c) → IsBinary b → IsAtMost lo t → IsAtMost t up → (IsAtMost lo (minus t (times (minus c lo) b)) × IsAtMost (minus t (times (plus (minus up c) one) b)) (minus c one)) ↔ ((b ≡ one) ↔ IsAtMost c t)
truth_rows t c lo up b f g (inl none) above under =
    let low : minus t (times (minus c lo) b) ≡ t =
    ap (λ n. minus t (times (minus c lo) n)) none ∙ ap (minus t) (times_zero (minus c lo)) ∙ minus_zero t in
    let high : minus t (times (plus (minus up c) one) b) ≡ t =
    ap (λ n. minus t (times (plus (minus up c) one) n)) none ∙ ap (minus t) (times_zero (plus (minus up c) one)) ∙ minus_zero t in (
      λ rows. (
        λ set. absurd (one_different (sym set ∙ none)),
        λ most. absurd (no_gap t c (subst (λ (n : Rational). IsAtMost n (minus c one)) high rows.1) most),
      ),
      λ says. (
        subst (λ (n : Rational). IsAtMost lo n) (sym low) above,
        subst (λ (n : Rational). IsAtMost n (minus c one)) (sym high) (whole_gap t c f g (λ most. one_different (sym (says.1 most) ∙ none))),
      ),
    )
truth_rows t c lo up b f g (inr set) above under =
    let low : minus t (times (minus c lo) b) ≡ minus t (minus c lo) =
    ap (λ n. minus t (times (minus c lo) n)) set ∙ ap (minus t) (times_one (minus c lo)) in
    let high : minus t (times (plus (minus up c) one) b) ≡ minus t (plus (minus up c) one) =
    ap (λ n. minus t (times (plus (minus up c) one) n)) set ∙ ap (minus t) (times_one (plus (minus up c) one)) in (
      λ rows. (λ _. (set_low t c lo).0 (subst (λ (n : Rational). IsAtMost lo n) low rows.0), λ _. set),
      λ says. (
        subst (λ (n : Rational). IsAtMost lo n) (sym low) ((set_low t c lo).1 (says.0 set)),
        subst (λ (n : Rational). IsAtMost n (minus c one)) (sym high) (set_high t c up under),
      ),
    )

-- ---- absolute values

above_rows : (t p a b : Rational) → IsAtMost zero t → IsAtMost (plus t t) b → (IsAtMost zero (minus p t) × IsAtMost zero (plus p t) × IsAtMost (plus (minus p t) a) a × IsAtMost (minus (plus p t) b) zero) ↔ (p ≡ t)
above_rows =
    common4
    (λ t p a b. IsAtMost zero t → IsAtMost (plus t t) b → (IsAtMost zero (minus p t) × IsAtMost zero (plus p t) × IsAtMost (plus (minus p t) a) a × IsAtMost (minus (plus p t) b) zero) ↔ (p ≡ t))
    (λ x y u v s w e f d some. simp (zero_fraction d some, fractions) (λ h k. omega arith))

under_rows : (t p a b : Rational) → IsBelow t zero → IsAtMost (negate (plus t t)) a → (IsAtMost zero (minus p t) × IsAtMost zero (plus p t) × IsAtMost (minus p t) a × IsAtMost (plus p t) zero) ↔ (p ≡ negate t)
under_rows =
    common4
    (λ t p a b. IsBelow t zero → IsAtMost (negate (plus t t)) a → (IsAtMost zero (minus p t) × IsAtMost zero (plus p t) × IsAtMost (minus p t) a × IsAtMost (plus p t) zero) ↔ (p ≡ negate t))
    (λ x y u v s w e f d some. simp (zero_fraction d some, fractions) (λ h k. omega arith))

absolute_above : (t : Rational) → IsAtMost zero t → absolute t ≡ t
unfolding absolute
absolute_above t h = cond-true (at_most zero t) t (negate t) h

absolute_under : (t : Rational) → IsFalse (at_most zero t) → absolute t ≡ negate t
unfolding absolute
absolute_under t h = cond-false (at_most zero t) t (negate t) h

is_under : (t : Rational) → IsFalse (at_most zero t) → IsBelow t zero
unfolding below
is_under t e = ap not e

-- p - t >= 0, p + t >= 0, p - t + a s <= a and p + t - b s <= 0, where s is 1 exactly where t >= 0: p is |t|
pub absolute_rows : (t p a b s : Rational) → IsBinary s → ((s ≡ one) ↔ IsAtMost zero t) → IsAtMost (negate (plus t t)) a → IsAtMost (plus t t) b → (IsAtMost zero (minus p t) × IsAtMost zero (plus p t) × IsAtMost (plus (minus p t) (times a s)) a × IsAtMost (minus (plus p t) (times b s)) zero) ↔ (p ≡ absolute t)
absolute_rows t p a b s (inl none) sign low high =
    let down : IsFalse (at_most zero t) =
    false_from_ne_true (at_most zero t) (λ h. one_different (sym (sign.1 h) ∙ none)) in
    let left : plus (minus p t) (times a s) ≡ minus p t =
    ap (λ n. plus (minus p t) (times a n)) none ∙ ap (plus (minus p t)) (times_zero a) ∙ plus_zero (minus p t) in
    let right : minus (plus p t) (times b s) ≡ plus p t =
    ap (λ n. minus (plus p t) (times b n)) none ∙ ap (minus (plus p t)) (times_zero b) ∙ minus_zero (plus p t) in
    rw (left, right, absolute_under t down) (under_rows t p a b (is_under t down) low)
absolute_rows t p a b s (inr set) sign low high =
    let up : IsAtMost zero t = sign.0 set in
    let left : times a s ≡ a = ap (times a) set ∙ times_one a in
    let right : times b s ≡ b = ap (times b) set ∙ times_one b in
    rw (left, right, absolute_above t up) (above_rows t p a b up high)
