-- A number as it stands on a line, read byte by byte, is a number token as it is cut into its parts.
use Rattle.std.proofs.Common.{◌≡◌, ℕ, suc, ◌+◌, Bool, true, false, ◌||◌, ◌&&◌, List, [], ◌∷◌, take, drop, Option, refl, ap, sym, ◌∙◌, arith}
use Rattle.std.proofs.lemmas.Bool.Decides.{nat_tests}
use Rattle.std.specs.Prelude.{◌==◌, cond, if◌then◌else◌}
use Rattle.std.specs.List.{position_or_len, before_first, list_all}
use Rattle.std.specs.Char.{is_ascii_digit}
use Rattle.std.specs.Str.Parse.{without_leading_sign}
use Rattle.zim_decimal.specs.Token.{is_mark, is_point, are_digits, from_first, mantissa, are_parts, is_mantissa, is_number_token}
use Rattle.zim_decimal.specs.Token as token
use Rattle.zim_lex.specs.Classes.{is_digit, begins_fraction, begins_exponent}
use Rattle.zim_lex.specs.Numbers.{is_nothing, digits_then, some_digits_then, is_signed_digits, is_exponent_by_bytes, is_fraction, ends_number, is_number_by_bytes}
use Rattle.zim_lex.specs.Fronts.{IsFrontThat}
use Rattle.zim_lex.proofs.NumberLemmas.{same_fronts}

-- ---- where a text is cut

-- a byte that doesn't pass stands before the cut
cut_later : (p : ℕ → Bool) (b : ℕ) (bs : List ℕ) → p b ≡ false → position_or_len p (b ∷ bs) ≡ suc (position_or_len p bs)
cut_later p b bs e = rw e (omega arith)

-- a byte that passes stands at the cut
cut_here : (p : ℕ → Bool) (b : ℕ) (bs : List ℕ) → p b ≡ true → position_or_len p (b ∷ bs) ≡ 0
cut_here p b bs e = rw e refl

front_later : (p : ℕ → Bool) (b : ℕ) (bs : List ℕ) → p b ≡ false → before_first p (b ∷ bs) ≡ b ∷ before_first p bs
front_later p b bs e = ap (λ n. take n (b ∷ bs)) (cut_later p b bs e)

rest_later : (p : ℕ → Bool) (b : ℕ) (bs : List ℕ) → p b ≡ false → from_first p (b ∷ bs) ≡ from_first p bs
rest_later p b bs e = ap (λ n. drop n (b ∷ bs)) (cut_later p b bs e)

front_here : (p : ℕ → Bool) (b : ℕ) (bs : List ℕ) → p b ≡ true → before_first p (b ∷ bs) ≡ []
front_here p b bs e = ap (λ n. take n (b ∷ bs)) (cut_here p b bs e)

rest_here : (p : ℕ → Bool) (b : ℕ) (bs : List ℕ) → p b ≡ true → from_first p (b ∷ bs) ≡ b ∷ bs
rest_here p b bs e = ap (λ n. drop n (b ∷ bs)) (cut_here p b bs e)

-- ---- classes of bytes

mark_no_digit : (b : ℕ) → is_mark b ≡ true → is_digit b ≡ false
mark_no_digit b h = grind (arith, nat_tests)

mark_no_point : (b : ℕ) → is_mark b ≡ true → begins_fraction b ≡ false
mark_no_point b h = grind (arith, nat_tests)

point_no_digit : (b : ℕ) → is_point b ≡ true → is_digit b ≡ false
point_no_digit b h = grind (arith, nat_tests)

or_false : (x : Bool) → (x || false) ≡ x
or_false true = refl
or_false false = refl

-- ---- digits

digit_on : (p : List ℕ → Bool) (b : ℕ) (bs : List ℕ) → is_digit b ≡ true → digits_then p (b ∷ bs) ≡ digits_then p bs
digit_on p b bs e = ap (λ (d : Bool). if d then digits_then p bs else p (b ∷ bs)) e

digit_off : (p : List ℕ → Bool) (b : ℕ) (bs : List ℕ) → is_digit b ≡ false → digits_then p (b ∷ bs) ≡ p (b ∷ bs)
digit_off p b bs e = ap (λ (d : Bool). if d then digits_then p bs else p (b ∷ bs)) e

some_on : (p : List ℕ → Bool) (b : ℕ) (bs : List ℕ) → is_digit b ≡ true → some_digits_then p (b ∷ bs) ≡ digits_then p bs
some_on p b bs e = ap (λ (d : Bool). d && digits_then p bs) e

some_off : (p : List ℕ → Bool) (b : ℕ) (bs : List ℕ) → is_digit b ≡ false → some_digits_then p (b ∷ bs) ≡ false
some_off p b bs e = ap (λ (d : Bool). d && digits_then p bs) e

all_on : (b : ℕ) (bs : List ℕ) → is_digit b ≡ true → list_all is_ascii_digit (b ∷ bs) ≡ list_all is_ascii_digit bs
all_on b bs e = ap (λ (d : Bool). d && list_all is_ascii_digit bs) e

all_off : (b : ℕ) (bs : List ℕ) → is_digit b ≡ false → list_all is_ascii_digit (b ∷ bs) ≡ false
all_off b bs e = ap (λ (d : Bool). d && list_all is_ascii_digit bs) e

all_same : (bs : List ℕ) → list_all is_ascii_digit bs ≡ digits_then is_nothing bs
all_same [] = refl
all_same (b ∷ bs) = at (all_same bs) (is_digit b) refl where
  at : list_all is_ascii_digit bs ≡ digits_then is_nothing bs → (d : Bool) → is_digit b ≡ d → list_all is_ascii_digit (b ∷ bs) ≡ digits_then is_nothing (b ∷ bs)
  at others true e = all_on b bs e ∙ others ∙ sym (digit_on is_nothing b bs e)
  at others false e = all_off b bs e ∙ sym (digit_off is_nothing b bs e)

digits_same : (bs : List ℕ) → are_digits bs ≡ some_digits_then is_nothing bs
digits_same [] = refl
digits_same (b ∷ bs) = at (is_digit b) refl where
  at : (d : Bool) → is_digit b ≡ d → are_digits (b ∷ bs) ≡ some_digits_then is_nothing (b ∷ bs)
  at true e = all_on b bs e ∙ all_same bs ∙ sym (some_on is_nothing b bs e)
  at false e = all_off b bs e ∙ sym (some_off is_nothing b bs e)

-- ---- exponents

signed_same : (bs : List ℕ) → are_digits (without_leading_sign bs) ≡ is_signed_digits bs
signed_same [] = refl
signed_same (b ∷ bs) = at (b == 45) (b == 43) where
  at : (m p : Bool) → are_digits (cond m bs (drop (cond p 1 0) (b ∷ bs))) ≡ (if (p || m) then some_digits_then is_nothing bs else some_digits_then is_nothing (b ∷ bs))
  at true true = digits_same bs
  at true false = digits_same bs
  at false true = digits_same bs
  at false false = digits_same (b ∷ bs)

exponent_same : (b : ℕ) (bs : List ℕ) → is_mark b ≡ true → token.is_exponent (b ∷ bs) ≡ is_exponent_by_bytes (b ∷ bs)
exponent_same b bs k = signed_same bs ∙ sym (ap (λ (m : Bool). m && is_signed_digits bs) k)

-- no exponent begins with another byte
no_exponent : (b : ℕ) (bs : List ℕ) → is_mark b ≡ false → is_exponent_by_bytes (b ∷ bs) ≡ false
no_exponent b bs k = ap (λ (m : Bool). m && is_signed_digits bs) k

-- ---- digits behind a point, and an exponent

-- the digits before the mark all pass, and so does what stands from it on
abbrev ended : List ℕ → List ℕ → Bool
ended digits exponent = list_all is_ascii_digit digits && token.is_exponent exponent

ended_same : (bs : List ℕ) → ended (mantissa bs) (from_first is_mark bs) ≡ digits_then is_exponent_by_bytes bs
ended_same [] = refl
ended_same (b ∷ bs) = at (ended_same bs) (is_mark b) refl where
  digit : ended (mantissa bs) (from_first is_mark bs) ≡ digits_then is_exponent_by_bytes bs → is_mark b ≡ false → (d : Bool) → is_digit b ≡ d → ended (b ∷ mantissa bs) (from_first is_mark bs) ≡ digits_then is_exponent_by_bytes (b ∷ bs)
  digit others k true d = ap (λ (a : Bool). a && token.is_exponent (from_first is_mark bs)) (all_on b (mantissa bs) d) ∙ others ∙ sym (digit_on is_exponent_by_bytes b bs d)
  digit others k false d = ap (λ (a : Bool). a && token.is_exponent (from_first is_mark bs)) (all_off b (mantissa bs) d) ∙ sym (digit_off is_exponent_by_bytes b bs d ∙ no_exponent b bs k)

  at : ended (mantissa bs) (from_first is_mark bs) ≡ digits_then is_exponent_by_bytes bs → (m : Bool) → is_mark b ≡ m → ended (mantissa (b ∷ bs)) (from_first is_mark (b ∷ bs)) ≡ digits_then is_exponent_by_bytes (b ∷ bs)
  at others true k =
      ap (λ (ds : List ℕ). ended ds (from_first is_mark (b ∷ bs))) (front_here is_mark b bs k) ∙ ap token.is_exponent (rest_here is_mark b bs k)
      ∙ exponent_same b bs k ∙ sym (digit_off is_exponent_by_bytes b bs (mark_no_digit b k))
  at others false k =
      ap (λ (ds : List ℕ). ended ds (from_first is_mark (b ∷ bs))) (front_later is_mark b bs k)
      ∙ ap (ended (b ∷ mantissa bs)) (rest_later is_mark b bs k) ∙ digit others k (is_digit b) refl

-- the same where there is a digit at least
abbrev filled : List ℕ → List ℕ → Bool
filled digits exponent = are_digits digits && token.is_exponent exponent

filled_same : (bs : List ℕ) → filled (mantissa bs) (from_first is_mark bs) ≡ some_digits_then is_exponent_by_bytes bs
filled_same [] = refl
filled_same (b ∷ bs) = at (is_mark b) refl where
  digit : (d : Bool) → is_digit b ≡ d → filled (b ∷ mantissa bs) (from_first is_mark bs) ≡ some_digits_then is_exponent_by_bytes (b ∷ bs)
  digit true d = ap (λ (a : Bool). a && token.is_exponent (from_first is_mark bs)) (all_on b (mantissa bs) d) ∙ ended_same bs ∙ sym (some_on is_exponent_by_bytes b bs d)
  digit false d = ap (λ (a : Bool). a && token.is_exponent (from_first is_mark bs)) (all_off b (mantissa bs) d) ∙ sym (some_off is_exponent_by_bytes b bs d)

  at : (m : Bool) → is_mark b ≡ m → filled (mantissa (b ∷ bs)) (from_first is_mark (b ∷ bs)) ≡ some_digits_then is_exponent_by_bytes (b ∷ bs)
  at true k =
      ap (λ (ds : List ℕ). filled ds (from_first is_mark (b ∷ bs))) (front_here is_mark b bs k)
      ∙ sym (some_off is_exponent_by_bytes b bs (mark_no_digit b k))
  at false k =
      ap (λ (ds : List ℕ). filled ds (from_first is_mark (b ∷ bs))) (front_later is_mark b bs k)
      ∙ ap (filled (b ∷ mantissa bs)) (rest_later is_mark b bs k) ∙ digit (is_digit b) refl

-- ---- what stands behind first digits

-- digits, maybe none, stand before a point, and where one is, digits behind it
abbrev behind_parts : List ℕ → List ℕ → Bool
behind_parts whole [] = list_all is_ascii_digit whole
behind_parts whole (point ∷ behind) = list_all is_ascii_digit whole && are_digits behind

behind_more : (b : ℕ) (whole part : List ℕ) → behind_parts (b ∷ whole) part ≡ (is_digit b && behind_parts whole part)
behind_more b whole [] = refl
behind_more b whole (point ∷ behind) = at (is_digit b) where
  at : (d : Bool) → ((d && list_all is_ascii_digit whole) && are_digits behind) ≡ (d && (list_all is_ascii_digit whole && are_digits behind))
  at true = refl
  at false = refl

parts_more : (b : ℕ) (whole part : List ℕ) → are_parts (b ∷ whole) part ≡ (is_digit b && behind_parts whole part)
parts_more b whole [] = refl
parts_more b whole (point ∷ behind) = behind_more b whole (point ∷ behind)

-- the digits before the mark, cut at the point, and what stands from the mark on
abbrev behind_cut : List ℕ → List ℕ → Bool
behind_cut digits exponent = behind_parts (before_first is_point digits) (from_first is_point digits) && token.is_exponent exponent

-- what follows first digits and is neither a digit nor a mark nor a point
nothing_ends : (b : ℕ) (bs : List ℕ) → is_mark b ≡ false → is_point b ≡ false → ends_number (b ∷ bs) ≡ false
nothing_ends b bs k p = ap (λ (m : Bool). m || is_fraction (b ∷ bs)) (no_exponent b bs k) ∙ ap (λ (f : Bool). f && some_digits_then is_exponent_by_bytes bs) p

point_ends : (b : ℕ) (bs : List ℕ) → is_mark b ≡ false → is_point b ≡ true → ends_number (b ∷ bs) ≡ some_digits_then is_exponent_by_bytes bs
point_ends b bs k p = ap (λ (m : Bool). m || is_fraction (b ∷ bs)) (no_exponent b bs k) ∙ ap (λ (f : Bool). f && some_digits_then is_exponent_by_bytes bs) p

mark_ends : (b : ℕ) (bs : List ℕ) → is_mark b ≡ true → ends_number (b ∷ bs) ≡ is_exponent_by_bytes (b ∷ bs)
mark_ends b bs k = ap (λ (f : Bool). is_exponent_by_bytes (b ∷ bs) || (f && some_digits_then is_exponent_by_bytes bs)) (mark_no_point b k) ∙ or_false (is_exponent_by_bytes (b ∷ bs))

behind_same : (text : List ℕ) → behind_cut (mantissa text) (from_first is_mark text) ≡ digits_then ends_number text
behind_same [] = refl
behind_same (b ∷ bs) = at (behind_same bs) (is_mark b) refl where
  digit : behind_cut (mantissa bs) (from_first is_mark bs) ≡ digits_then ends_number bs → is_mark b ≡ false → is_point b ≡ false → (d : Bool) → is_digit b ≡ d →
      ((is_digit b && behind_parts (before_first is_point (mantissa bs)) (from_first is_point (mantissa bs))) && token.is_exponent (from_first is_mark bs)) ≡ digits_then ends_number (b ∷ bs)
  digit others k p true d =
      ap (λ (x : Bool). (x && behind_parts (before_first is_point (mantissa bs)) (from_first is_point (mantissa bs))) && token.is_exponent (from_first is_mark bs)) d
      ∙ others ∙ sym (digit_on ends_number b bs d)
  digit others k p false d =
      ap (λ (x : Bool). (x && behind_parts (before_first is_point (mantissa bs)) (from_first is_point (mantissa bs))) && token.is_exponent (from_first is_mark bs)) d
      ∙ sym (digit_off ends_number b bs d ∙ nothing_ends b bs k p)

  point : behind_cut (mantissa bs) (from_first is_mark bs) ≡ digits_then ends_number bs → is_mark b ≡ false → (p : Bool) → is_point b ≡ p → behind_cut (b ∷ mantissa bs) (from_first is_mark bs) ≡ digits_then ends_number (b ∷ bs)
  point others k true p =
      ap (λ (w : List ℕ). behind_parts w (from_first is_point (b ∷ mantissa bs)) && token.is_exponent (from_first is_mark bs)) (front_here is_point b (mantissa bs) p)
      ∙ ap (λ (r : List ℕ). behind_parts [] r && token.is_exponent (from_first is_mark bs)) (rest_here is_point b (mantissa bs) p)
      ∙ filled_same bs ∙ sym (digit_off ends_number b bs (point_no_digit b p) ∙ point_ends b bs k p)
  point others k false p =
      ap (λ (w : List ℕ). behind_parts w (from_first is_point (b ∷ mantissa bs)) && token.is_exponent (from_first is_mark bs)) (front_later is_point b (mantissa bs) p)
      ∙ ap (λ (r : List ℕ). behind_parts (b ∷ before_first is_point (mantissa bs)) r && token.is_exponent (from_first is_mark bs)) (rest_later is_point b (mantissa bs) p)
      ∙ ap (λ (x : Bool). x && token.is_exponent (from_first is_mark bs)) (behind_more b (before_first is_point (mantissa bs)) (from_first is_point (mantissa bs)))
      ∙ digit others k p (is_digit b) refl

  at : behind_cut (mantissa bs) (from_first is_mark bs) ≡ digits_then ends_number bs → (m : Bool) → is_mark b ≡ m → behind_cut (mantissa (b ∷ bs)) (from_first is_mark (b ∷ bs)) ≡ digits_then ends_number (b ∷ bs)
  at others true k =
      ap (λ (ds : List ℕ). behind_cut ds (from_first is_mark (b ∷ bs))) (front_here is_mark b bs k) ∙ ap token.is_exponent (rest_here is_mark b bs k)
      ∙ exponent_same b bs k ∙ sym (digit_off ends_number b bs (mark_no_digit b k) ∙ mark_ends b bs k)
  at others false k =
      ap (λ (ds : List ℕ). behind_cut ds (from_first is_mark (b ∷ bs))) (front_later is_mark b bs k)
      ∙ ap (behind_cut (b ∷ mantissa bs)) (rest_later is_mark b bs k) ∙ point others k (is_point b) refl

-- ---- the whole token

abbrev whole_cut : List ℕ → List ℕ → Bool
whole_cut digits exponent = are_parts (before_first is_point digits) (from_first is_point digits) && token.is_exponent exponent

token_cut : (text : List ℕ) → is_number_token text ≡ whole_cut (mantissa text) (from_first is_mark text)
unfolding is_number_token is_mantissa
token_cut text = refl

cut_same : (text : List ℕ) → whole_cut (mantissa text) (from_first is_mark text) ≡ is_number_by_bytes text
cut_same [] = refl
cut_same (b ∷ bs) = at (is_mark b) refl where
  -- no number begins with a byte that is neither a digit nor a point
  none : is_digit b ≡ false → begins_fraction b ≡ false → is_number_by_bytes (b ∷ bs) ≡ false
  none d p = ap (λ (x : Bool). x || is_fraction (b ∷ bs)) (some_off ends_number b bs d) ∙ ap (λ (f : Bool). f && some_digits_then is_exponent_by_bytes bs) p

  digit : is_point b ≡ false → (d : Bool) → is_digit b ≡ d →
      ((is_digit b && behind_parts (before_first is_point (mantissa bs)) (from_first is_point (mantissa bs))) && token.is_exponent (from_first is_mark bs)) ≡ is_number_by_bytes (b ∷ bs)
  digit p true d =
      ap (λ (x : Bool). (x && behind_parts (before_first is_point (mantissa bs)) (from_first is_point (mantissa bs))) && token.is_exponent (from_first is_mark bs)) d
      ∙ behind_same bs
      ∙ sym (ap (λ (x : Bool). x || is_fraction (b ∷ bs)) (some_on ends_number b bs d)
      ∙ ap (λ (f : Bool). digits_then ends_number bs || (f && some_digits_then is_exponent_by_bytes bs)) p ∙ or_false (digits_then ends_number bs))
  digit p false d =
      ap (λ (x : Bool). (x && behind_parts (before_first is_point (mantissa bs)) (from_first is_point (mantissa bs))) && token.is_exponent (from_first is_mark bs)) d
      ∙ sym (none d p)

  point : (p : Bool) → is_point b ≡ p → whole_cut (b ∷ mantissa bs) (from_first is_mark bs) ≡ is_number_by_bytes (b ∷ bs)
  point true p =
      ap (λ (w : List ℕ). are_parts w (from_first is_point (b ∷ mantissa bs)) && token.is_exponent (from_first is_mark bs)) (front_here is_point b (mantissa bs) p)
      ∙ ap (λ (r : List ℕ). are_parts [] r && token.is_exponent (from_first is_mark bs)) (rest_here is_point b (mantissa bs) p)
      ∙ filled_same bs
      ∙ sym (ap (λ (x : Bool). x || is_fraction (b ∷ bs)) (some_off ends_number b bs (point_no_digit b p)) ∙ ap (λ (f : Bool). f && some_digits_then is_exponent_by_bytes bs) p)
  point false p =
      ap (λ (w : List ℕ). are_parts w (from_first is_point (b ∷ mantissa bs)) && token.is_exponent (from_first is_mark bs)) (front_later is_point b (mantissa bs) p)
      ∙ ap (λ (r : List ℕ). are_parts (b ∷ before_first is_point (mantissa bs)) r && token.is_exponent (from_first is_mark bs)) (rest_later is_point b (mantissa bs) p)
      ∙ ap (λ (x : Bool). x && token.is_exponent (from_first is_mark bs)) (parts_more b (before_first is_point (mantissa bs)) (from_first is_point (mantissa bs)))
      ∙ digit p (is_digit b) refl

  at : (m : Bool) → is_mark b ≡ m → whole_cut (mantissa (b ∷ bs)) (from_first is_mark (b ∷ bs)) ≡ is_number_by_bytes (b ∷ bs)
  at true k =
      ap (λ (ds : List ℕ). whole_cut ds (from_first is_mark (b ∷ bs))) (front_here is_mark b bs k)
      ∙ sym (none (mark_no_digit b k) (mark_no_point b k))
  at false k =
      ap (λ (ds : List ℕ). whole_cut ds (from_first is_mark (b ∷ bs))) (front_later is_mark b bs k)
      ∙ ap (whole_cut (b ∷ mantissa bs)) (rest_later is_mark b bs k) ∙ point (is_point b) refl

-- a number, byte by byte, is a number token
pub number_is_token : (text : List ℕ) → is_number_token text ≡ is_number_by_bytes text
number_is_token text = token_cut text ∙ cut_same text

-- and so is the longest front that is one
pub token_front : (bytes : List ℕ) (found : Option ℕ) → IsFrontThat is_number_by_bytes bytes found → IsFrontThat is_number_token bytes found
token_front bytes found = same_fronts is_number_by_bytes is_number_token bytes found (λ m high. number_is_token (take m bytes))
