-- A byte begins pieces of one class at most.
use Rattle.std.proofs.Common.{◌≡◌, ℕ, Bool, true, false, ◌||◌, refl, ap, ◌∙◌, arith}
use Rattle.std.proofs.lemmas.Bool.{eqb-true}
use Rattle.std.proofs.lemmas.Bool.Decides.{nat_tests}
use Rattle.std.specs.Prelude.{not, ◌==◌}
use Rattle.zim_lex.specs.Classes.{is_blank, begins_comment, is_digit, begins_name, begins_fraction, begins_exponent, is_quote, starts_number}

-- a byte that only a sign or a number can begin with
abbrev pub is_other : ℕ → Bool
is_other b = not (is_blank b || begins_comment b || begins_name b || is_quote b)

-- a test that holds of a byte by which another one holds
either : (p q : Bool) (R : Type 0) → (p ≡ true → R) → (q ≡ true → R) → (p || q) ≡ true → R
either true q R f g h = f refl
either false q R f g h = g h

at_byte : (p : ℕ → Bool) (r : Bool) (b n : ℕ) → p n ≡ r → (b == n) ≡ true → p b ≡ r
at_byte p r b n h e = ap p (eqb-true b n e) ∙ h

of_blanks : (p : ℕ → Bool) (r : Bool) → p 32 ≡ r → p 9 ≡ r → p 13 ≡ r → (b : ℕ) → is_blank b ≡ true → p b ≡ r
of_blanks p r blank tab return b = either ((b == 32) || (b == 9)) (b == 13) (p b ≡ r)
    (either (b == 32) (b == 9) (p b ≡ r) (at_byte p r b 32 blank) (at_byte p r b 9 tab)) (at_byte p r b 13 return)

pub blank_begins_no_comment : (b : ℕ) → is_blank b ≡ true → begins_comment b ≡ false
blank_begins_no_comment = of_blanks begins_comment false refl refl refl

pub blank_begins_no_name : (b : ℕ) → is_blank b ≡ true → begins_name b ≡ false
blank_begins_no_name = of_blanks begins_name false refl refl refl

pub blank_starts_no_number : (b : ℕ) → is_blank b ≡ true → starts_number b ≡ false
blank_starts_no_number = of_blanks starts_number false refl refl refl

pub blank_is_no_quote : (b : ℕ) → is_blank b ≡ true → is_quote b ≡ false
blank_is_no_quote = of_blanks is_quote false refl refl refl

pub blank_is_no_other : (b : ℕ) → is_blank b ≡ true → is_other b ≡ false
blank_is_no_other = of_blanks is_other false refl refl refl

pub name_starts_no_number : (b : ℕ) → begins_name b ≡ true → starts_number b ≡ false
name_starts_no_number b h = grind (arith, nat_tests)

pub name_is_no_quote : (b : ℕ) → begins_name b ≡ true → is_quote b ≡ false
name_is_no_quote b h = grind (arith, nat_tests)

pub comment_begins_no_name : (b : ℕ) → begins_comment b ≡ true → begins_name b ≡ false
comment_begins_no_name b h = at_byte begins_name false b 35 refl h

pub comment_starts_no_number : (b : ℕ) → begins_comment b ≡ true → starts_number b ≡ false
comment_starts_no_number b h = at_byte starts_number false b 35 refl h

pub comment_is_no_quote : (b : ℕ) → begins_comment b ≡ true → is_quote b ≡ false
comment_is_no_quote b h = at_byte is_quote false b 35 refl h

pub quote_starts_no_number : (b : ℕ) → is_quote b ≡ true → starts_number b ≡ false
quote_starts_no_number b = either (b == 34) (b == 39) (starts_number b ≡ false) (at_byte starts_number false b 34 refl) (at_byte starts_number false b 39 refl)

pub quote_begins_no_name : (b : ℕ) → is_quote b ≡ true → begins_name b ≡ false
quote_begins_no_name b = either (b == 34) (b == 39) (begins_name b ≡ false) (at_byte begins_name false b 34 refl) (at_byte begins_name false b 39 refl)

pub digit_begins_no_fraction : (b : ℕ) → is_digit b ≡ true → begins_fraction b ≡ false
digit_begins_no_fraction b h = grind (arith, nat_tests)

pub fraction_begins_no_exponent : (b : ℕ) → begins_fraction b ≡ true → begins_exponent b ≡ false
fraction_begins_no_exponent b h = at_byte begins_exponent false b 46 refl h

pub fraction_is_no_digit : (b : ℕ) → begins_fraction b ≡ true → is_digit b ≡ false
fraction_is_no_digit b h = at_byte is_digit false b 46 refl h
