-- One more digit behind others, and the zeros at their end.
use Rattle.std.proofs.Common.{ℕ, suc, ◌≡◌, ◌≢◌, ◌<◌, ◌≤◌, ◌+◌, ◌-◌, ◌*◌, ◌^◌, ◌++◌, ◌==◌, Bool, true, false, cond, List, [], ◌∷◌, length, Option, Some, None, inl, inr, arith, refl, sym, ap, ap₂, subst, ◌∙◌, nat_le, nat_eq, eq-eqb, ne_eqb, pow-suc, add-one, take, get_or, append_assoc, length-append}
use Rattle.std.specs.Prelude.{if◌then◌else◌}
use Rattle.std.proofs.lemmas.Bool.Decides.{nat_tests}
use Rattle.std.proofs.Math.Nat.{sub-zero, one-le-pow, le-mul_of_pos_right, pow-le-pow_right}
use Rattle.std.proofs.lemmas.List.{take_more}
use borrow.Author.Tests.{leb-false}
use Rattle.std.specs.Char.{digit_value, is_ascii_digit}
use Rattle.std.specs.Str.Parse.{digits_value, digits_value_after}
use Rattle.std.proofs.lemmas.Bool.{cases_eq, cond-false, lt-leb}
use Rattle.std.proofs.lemmas.Int.Digits.{digits_value_push}
use Rattle.zim_fraction.specs.Limit.{limit}
use Rattle.zim_decimal.specs.Literal.{before_others, without_last_zeros, significand, last_zeros}
use Rattle.zim_decimal.specs.Digits.{within, IsCounted}

-- a zero at the end is dropped
trimmed_zero : (ds : List ℕ) → without_last_zeros (ds ++ (48 ∷ [])) ≡ without_last_zeros ds
unfolding without_last_zeros before_others
trimmed_zero [] = refl
trimmed_zero (d ∷ ds) = ap (before_others d) (trimmed_zero ds)

before_some : (x : ℕ) (xs : List ℕ) (d : ℕ) → before_others x (xs ++ (d ∷ [])) ≡ x ∷ (xs ++ (d ∷ []))
unfolding before_others
before_some x [] d = refl
before_some x (y ∷ ys) d = refl

-- another digit at the end keeps all
trimmed_other : (ds : List ℕ) (d : ℕ) → d ≢ 48 → without_last_zeros (ds ++ (d ∷ [])) ≡ ds ++ (d ∷ [])
unfolding without_last_zeros before_others
trimmed_other [] d other = cond-false (nat_eq d 48) _ _ (ne_eqb d 48 other)
trimmed_other (x ∷ xs) d other = ap (before_others x) (trimmed_other xs d other) ∙ before_some x xs d

before_length : (x : ℕ) (ts : List ℕ) → length (before_others x ts) ≤ length ts + 1
unfolding before_others
before_length x [] =
    elim (x == 48) as (λ b. length (if b then [] else (x ∷ [])) ≤ 1) [ true ↦ omega arith | false ↦ omega arith ]
before_length x (t ∷ ts) = omega arith

trimmed_length : (ds : List ℕ) → length (without_last_zeros ds) ≤ length ds
unfolding without_last_zeros
trimmed_length [] = omega arith
trimmed_length (d ∷ ds) = let a = before_length d (without_last_zeros ds) in let b = trimmed_length ds in omega arith

times_one : (v : ℕ) → v ≡ v * 1
times_one v = omega arith

ten_more : (v n : ℕ) → (v * 10 + 0) * 10 ^ n ≡ v * 10 ^ suc n
ten_more v n = let e : 10 ^ suc n ≡ 10 ^ n * 10 = pow-suc 10 n in rw e (omega arith)

-- one digit before others, whose zeros at the end are counted
one_before : (v x n : ℕ) (ts : List ℕ) → length ts ≤ n → digits_value_after 10 (v * 10 + digit_value x) ts * 10 ^ (n - length ts) ≡ digits_value_after 10 v (before_others x ts) * 10 ^ (suc n - length (before_others x ts))
unfolding before_others
one_before v x n [] h =
    elim (cases_eq x 48) [
      | inl e ↦ rw (eq-eqb x 48 e, e, sub-zero n, sub-zero (suc n)) (ten_more v n)
      | inr e ↦ rw (ne_eqb x 48 e) (ap (λ k. (v * 10 + digit_value x) * 10 ^ k) (omega arith))
    ]
one_before v x n (t ∷ ts) h =
    ap (λ k. digits_value_after 10 (v * 10 + digit_value x) (t ∷ ts) * 10 ^ k) (omega arith)

-- digits are those without the zeros at their end, times a power of ten for these
value_trimmed : (v : ℕ) (ds : List ℕ) → digits_value_after 10 v ds ≡ digits_value_after 10 v (without_last_zeros ds) * 10 ^ last_zeros ds
unfolding without_last_zeros
value_trimmed v [] = times_one v
value_trimmed v (d ∷ ds) =
    value_trimmed (v * 10 + digit_value d) ds ∙ one_before v d (length ds) (without_last_zeros ds) (trimmed_length ds)

pub nothing_counted : IsCounted [] (Some 0) 0
unfolding without_last_zeros
nothing_counted = record { value_is = refl; zeros_are = refl }

pub counted_zero : (ds : List ℕ) (v : Option ℕ) (z d : ℕ) → d ≡ 48 → IsCounted ds v z → IsCounted (ds ++ (d ∷ [])) v (z + 1)
counted_zero ds v z d is h =
    let e : without_last_zeros (ds ++ (d ∷ [])) ≡ without_last_zeros ds = ap (λ b. without_last_zeros (ds ++ (b ∷ []))) is ∙ trimmed_zero ds in
    let long = ap length e in
    let below = trimmed_length ds in
    let count = h.zeros_are in
    record {
      value_is = h.value_is ∙ ap (λ xs. within (digits_value 10 xs)) (sym e);
      zeros_are = omega (arith, length-append ds (d ∷ []));
    }

pub digit_value_of : (d : ℕ) → is_ascii_digit d ≡ true → digit_value d ≡ d - 48
digit_value_of d h = grind (arith, nat_tests)

-- the significand with another digit
significand_other : (ds : List ℕ) (z d : ℕ) → is_ascii_digit d ≡ true → d ≢ 48 → z ≡ last_zeros ds → significand (ds ++ (d ∷ [])) ≡ significand ds * 10 ^ (z + 1) + (d - 48)
significand_other ds z d digit other zeros =
    let e : 10 ^ (z + 1) ≡ 10 ^ z * 10 = ap (λ k. 10 ^ k) (add-one z) ∙ pow-suc 10 z in
    let split : digits_value 10 ds ≡ significand ds * 10 ^ z = value_trimmed 0 ds ∙ ap (λ k. significand ds * 10 ^ k) (sym zeros) in
    ap (digits_value 10) (trimmed_other ds d other)
    ∙ digits_value_push 10 ds d
    ∙ ap₂ (λ (m n : ℕ). m * 10 + n) split (digit_value_of d digit)
    ∙ rw e (omega arith)

no_zeros : (ds : List ℕ) (d : ℕ) → d ≢ 48 → 0 ≡ last_zeros (ds ++ (d ∷ []))
no_zeros ds d other = let long = ap length (trimmed_other ds d other) in omega arith

pub some_within : (n m : ℕ) → Some m ≡ within n → m ≡ n
some_within n m e = chosen (nat_le n limit) n m e
  where
    chosen : (b : Bool) (n m : ℕ) → Some m ≡ cond b (Some n) None → m ≡ n
    chosen true n m e = cc
    chosen false n m e = cc

pub none_within : (n : ℕ) → None ≡ within n → limit < n
none_within n e = leb-false n limit (missed (nat_le n limit) n e)
  where
    missed : (b : Bool) (n : ℕ) → None ≡ cond b (Some n) None → b ≡ false
    missed true n e = cc
    missed false n e = refl

pub past_within : (n : ℕ) → limit < n → None ≡ within n
past_within n h = sym (cond-false (nat_le n limit) _ _ (lt-leb n limit h))

pub counted_some : (ds : List ℕ) (v r : Option ℕ) (m z d : ℕ) → v ≡ Some m → r ≡ within (m * 10 ^ (z + 1) + (d - 48)) → is_ascii_digit d ≡ true → d ≢ 48 → IsCounted ds v z → IsCounted (ds ++ (d ∷ [])) r 0
counted_some ds v r m z d some next digit other h =
    let same : m ≡ significand ds = some_within (significand ds) m (sym some ∙ h.value_is) in
    record {
      value_is =
          next ∙ ap (λ n. within (n * 10 ^ (z + 1) + (d - 48))) same
          ∙ ap within (sym (significand_other ds z d digit other h.zeros_are));
      zeros_are = no_zeros ds d other;
    }

pub grows : (n p g : ℕ) → 0 < p → n ≤ n * p + g
grows n p g some = let up = le-mul_of_pos_right n some in omega arith

pub counted_none : (ds : List ℕ) (v : Option ℕ) (z d : ℕ) → v ≡ None → is_ascii_digit d ≡ true → d ≢ 48 → IsCounted ds v z → IsCounted (ds ++ (d ∷ [])) None 0
counted_none ds v z d none digit other h =
    let large : limit < significand ds = none_within (significand ds) (sym none ∙ h.value_is) in
    let more = grows (significand ds) (10 ^ (z + 1)) (d - 48) (one-le-pow (z + 1) 10 (omega arith)) in
    record {
      value_is = past_within (significand (ds ++ (d ∷ []))) (rw (significand_other ds z d digit other h.zeros_are) (omega arith));
      zeros_are = no_zeros ds d other;
    }

-- a digit that a loop reads
pub counted_next : (before ds : List ℕ) (v w : Option ℕ) (y z i d : ℕ) → i < length ds → d ≡ get_or ds i 0 → ((xs : List ℕ) → IsCounted xs v y → IsCounted (xs ++ (d ∷ [])) w z) → IsCounted (before ++ take i ds) v y → IsCounted (before ++ take (i + 1) ds) w z
counted_next before ds v w y z i d room is step h =
    subst
    (λ (xs : List ℕ). IsCounted xs w z)
    (append_assoc before (take i ds) (d ∷ []) ∙ ap (λ xs. before ++ xs) (ap (λ b. take i ds ++ (b ∷ [])) is ∙ sym (take_more ds i 0 room)))
    (step (before ++ take i ds) h)

-- ---- powers of ten that the code takes

pub ten_at_least : (j k : ℕ) → j ≤ k → 10 ^ j ≤ 10 ^ k
ten_at_least j k h = let some : 0 < 10 = omega arith in pow-le-pow_right some h

pub many_zeros : (v z g : ℕ) → v ≢ 0 → 38 ≤ z → None ≡ within (v * 10 ^ (z + 1) + g)
many_zeros v z g some h =
    let p : ℕ = 10 ^ (z + 1) in
    let large : 10 ^ 39 ≤ p = ten_at_least 39 (z + 1) (omega arith) in
    let v_pos : 0 < v = omega arith in
    let times : p ≤ p * v = le-mul_of_pos_right p v_pos in
    past_within (v * p + g) (omega arith)

pub few_zeros : (k : ℕ) → k ≤ 38 → 10 ^ k < 2 ^ 128
few_zeros k h = let small = ten_at_least k 38 h in omega arith
