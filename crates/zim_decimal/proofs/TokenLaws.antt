-- Where a text is cut, and what the parts of a number token say of the whole.
use Rattle.std.proofs.Common.{ℕ, zero, suc, ◌≡◌, ◌≢◌, ◌<◌, ◌≤◌, ◌+◌, ◌-◌, ◌&&◌, Bool, true, false, cond, not, nat_lt, List, [], ◌∷◌, length, take, drop, get_or, Some, None, arith, refl, sym, ap, ◌∙◌, add-one, drop-cons}
use Rattle.std.specs.Prelude.{position}
use Rattle.std.specs.List.{position_or_len, list_all, before_first}
use Rattle.std.specs.Char.{is_ascii_digit}
use Rattle.std.proofs.lemmas.List.{take_all, length-drop, drop-drop}
use Rattle.std.proofs.Math.Seq.{take-length, drop-length}
use Rattle.std.proofs.lemmas.List.Sums.{prefix_len-le-length}
use borrow.Author.Tests.{ltb-false}
use Rattle.zim_decimal.specs.Token.{are_digits, are_parts, is_point, is_mark, is_mantissa, is_exponent, is_number_token, mantissa, from_first}
use Rattle.std.specs.Str.Parse.{without_leading_sign}
use Rattle.std.proofs.lemmas.Bool.{and_parts}

pub found_at : (p : ℕ → Bool) (text : List ℕ) (i : ℕ) → Some i ≡ position p text → i ≡ position_or_len p text
found_at p text i e = chosen (nat_lt (position_or_len p text) (length text)) (position_or_len p text) i e
  where
    chosen : (b : Bool) (n i : ℕ) → Some i ≡ cond b (Some n) None → i ≡ n
    chosen true n i e = cc
    chosen false n i e = cc

pub found_none : (p : ℕ → Bool) (text : List ℕ) → None ≡ position p text → length text ≡ position_or_len p text
found_none p text e =
    let below = prefix_len-le-length (λ x. not (p x)) text in
    let far : length text ≤ position_or_len p text = ltb-false _ _ (missed (nat_lt (position_or_len p text) (length text)) (position_or_len p text) e) in
    omega arith
  where
    missed : (b : Bool) (n : ℕ) → None ≡ cond b (Some n) None → b ≡ false
    missed true n e = cc
    missed false n e = refl

parts_none : (text : List ℕ) (n : ℕ) → n ≡ length text → are_digits text ≡ are_parts (take n text) (drop n text)
parts_none text n e = rw (e, take-length, drop-length) refl

parts_some : (text : List ℕ) (n : ℕ) → n < length text → are_parts (take n text) (drop n text) ≡ (list_all is_ascii_digit (take n text) && are_digits (drop (n + 1) text))
parts_some text n h = rw (drop-cons text n 0, add-one) refl

-- a part that reaches to the end of the text
pub to_end : (text : List ℕ) (n : ℕ) → take (length text - n) (drop n text) ≡ drop n text
to_end text n = take_all (length text - n) (drop n text) (omega (arith, length-drop n text))

both_true : (a b r : Bool) → a ≡ true → r ≡ b → r ≡ (a && b)
both_true true b r t e = e
both_true false b r t e = cc

first_false : (a b : Bool) → a ≡ false → a ≡ (a && b)
first_false true b t = cc
first_false false b t = refl

point_there : (text : List ℕ) (n : ℕ) → n ≡ position_or_len is_point text → n ≢ length text → n < length text
point_there text n at other =
    let below = prefix_len-le-length (λ x. not (is_point x)) text in omega arith

-- without a point the text is digits
pub mantissa_whole : (text : List ℕ) (n : ℕ) (r : Bool) → n ≡ position_or_len is_point text → n ≡ length text → r ≡ are_digits text → r ≡ is_mantissa text
unfolding is_mantissa
mantissa_whole text n r at end e =
    e ∙ parts_none text n end ∙ ap (λ m. are_parts (take m text) (drop m text)) at

pub mantissa_parts : (text : List ℕ) (n : ℕ) (a r : Bool) → n ≡ position_or_len is_point text → n ≢ length text → a ≡ list_all is_ascii_digit (take n text) → a ≡ true → r ≡ are_digits (take (length text - (n + 1)) (drop (n + 1) text)) → r ≡ is_mantissa text
unfolding is_mantissa
mantissa_parts text n a r at other all t e =
    both_true (list_all is_ascii_digit (take n text)) (are_digits (drop (n + 1) text)) r (sym all ∙ t) (e ∙ ap are_digits (to_end text (n + 1)))
    ∙ sym (parts_some text n (point_there text n at other)) ∙ ap (λ m. are_parts (take m text) (drop m text)) at

pub mantissa_other : (text : List ℕ) (n : ℕ) (a : Bool) → n ≡ position_or_len is_point text → n ≢ length text → a ≡ list_all is_ascii_digit (take n text) → a ≡ false → a ≡ is_mantissa text
unfolding is_mantissa
mantissa_other text n a at other all t =
    all ∙ first_false (list_all is_ascii_digit (take n text)) (are_digits (drop (n + 1) text)) (sym all ∙ t)
    ∙ sym (parts_some text n (point_there text n at other)) ∙ ap (λ m. are_parts (take m text) (drop m text)) at

-- a number token is a number and the exponent
pub number_parts : (text : List ℕ) (n : ℕ) (a r : Bool) → n ≡ position_or_len is_mark text → a ≡ is_mantissa (take n text) → a ≡ true → r ≡ is_exponent (take (length text - n) (drop n text)) → r ≡ is_number_token text
unfolding is_number_token
number_parts text n a r at all t e =
    both_true (is_mantissa (take n text)) (is_exponent (drop n text)) r (sym all ∙ t) (e ∙ ap is_exponent (to_end text n))
    ∙ ap (λ m. is_mantissa (take m text) && is_exponent (drop m text)) at

pub number_other : (text : List ℕ) (n : ℕ) (a : Bool) → n ≡ position_or_len is_mark text → a ≡ is_mantissa (take n text) → a ≡ false → a ≡ is_number_token text
unfolding is_number_token
number_other text n a at all t =
    all ∙ first_false (is_mantissa (take n text)) (is_exponent (drop n text)) (sym all ∙ t)
    ∙ ap (λ m. is_mantissa (take m text) && is_exponent (drop m text)) at

-- what stands behind a byte
pub after_some : (text : List ℕ) (n : ℕ) → take (length text - (n + 1)) (drop (n + 1) text) ≡ drop 1 (drop n text)
after_some text n = to_end text (n + 1) ∙ one_further text n
  where
    one_further : (xs : List ℕ) (n : ℕ) → drop (n + 1) xs ≡ drop 1 (drop n xs)
    one_further xs n = rw drop-drop (ap (λ k. drop k xs) (omega arith))

-- where the first byte that passes p stands, the text doesn't end before
pub place_bound : (p : ℕ → Bool) (text : List ℕ) (n : ℕ) → n ≡ position_or_len p text → n ≤ length text
place_bound p text n at = let below = prefix_len-le-length (λ x. not (p x)) text in omega arith

-- ---- the digits of a number token

pub all_digits : (xs : List ℕ) → are_digits xs ≡ true → list_all is_ascii_digit xs ≡ true
all_digits [] some = refl
all_digits (x ∷ xs) some = some

parts_digits : (whole part : List ℕ) → are_parts whole part ≡ true → (list_all is_ascii_digit whole ≡ true) × (list_all is_ascii_digit (drop 1 part) ≡ true)
parts_digits whole [] h = (all_digits whole h, refl)
parts_digits whole (point ∷ behind) h =
    let both = and_parts (list_all is_ascii_digit whole) (are_digits behind) h in (both.0, all_digits behind both.1)

exponent_digits : (part : List ℕ) → is_exponent part ≡ true → list_all is_ascii_digit (without_leading_sign (drop 1 part)) ≡ true
exponent_digits [] h = refl
exponent_digits (mark ∷ exponent) h = all_digits (without_leading_sign exponent) h

mantissa_of : (text : List ℕ) → is_number_token text ≡ true → are_parts (before_first is_point (mantissa text)) (from_first is_point (mantissa text)) ≡ true
unfolding is_number_token is_mantissa
mantissa_of text h = (and_parts (is_mantissa (mantissa text)) (is_exponent (from_first is_mark text)) h).0

mantissa_digits : (text : List ℕ) → is_number_token text ≡ true → (list_all is_ascii_digit (before_first is_point (mantissa text)) ≡ true) × (list_all is_ascii_digit (drop 1 (from_first is_point (mantissa text))) ≡ true)
mantissa_digits text h =
    parts_digits (before_first is_point (mantissa text)) (from_first is_point (mantissa text)) (mantissa_of text h)

exponent_of : (text : List ℕ) → is_number_token text ≡ true → is_exponent (from_first is_mark text) ≡ true
unfolding is_number_token
exponent_of text h = (and_parts (is_mantissa (mantissa text)) (is_exponent (from_first is_mark text)) h).1

pub whole_are_digits : (text : List ℕ) (m n : ℕ) → is_number_token text ≡ true → m ≡ position_or_len is_mark text → n ≡ position_or_len is_point (take m text) → list_all is_ascii_digit (take n (take m text)) ≡ true
whole_are_digits text m n h mark point = rw (point, mark) ((mantissa_digits text h).0)

pub behind_are_digits : (text b : List ℕ) (m n : ℕ) → is_number_token text ≡ true → m ≡ position_or_len is_mark text → n ≡ position_or_len is_point (take m text) → b ≡ drop 1 (drop n (take m text)) → list_all is_ascii_digit b ≡ true
behind_are_digits text b m n h mark point e = rw (e, point, mark) ((mantissa_digits text h).1)

pub exponent_are_digits : (text x : List ℕ) (m : ℕ) → is_number_token text ≡ true → m ≡ position_or_len is_mark text → x ≡ drop 1 (drop m text) → list_all is_ascii_digit (without_leading_sign x) ≡ true
exponent_are_digits text x m h mark e = rw (e, mark) (exponent_digits (from_first is_mark text) (exponent_of text h))

pub digit_at : (ds : List ℕ) (i : ℕ) → list_all is_ascii_digit ds ≡ true → i < length ds → is_ascii_digit (get_or ds i 0) ≡ true
digit_at [] i h room = absurd (omega arith)
digit_at (d ∷ ds) zero h room = (and_parts (is_ascii_digit d) (list_all is_ascii_digit ds) h).0
digit_at (d ∷ ds) (suc i) h room =
    digit_at ds i ((and_parts (is_ascii_digit d) (list_all is_ascii_digit ds) h).1) (omega arith)
