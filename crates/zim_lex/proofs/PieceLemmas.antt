-- Which bytes are a piece is decided by the class of the first one.
use Rattle.std.proofs.Common.{◌≡◌, ℕ, zero, suc, ◌≤◌, Bool, true, false, ◌&&◌, ◌||◌, List, [], ◌∷◌, take, refl, ap, sym, ◌∙◌, arith}
use Rattle.std.specs.Prelude.{not}
use Rattle.std.specs.List.{list_all}
use Rattle.zim_fault.specs.declared.words.Word.{Word}
use Rattle.zim_fault.specs.declared.words.Word.TheVariants.{WSet}
use Rattle.zim_fault.specs.declared.signs.Sign.{Sign}
use Rattle.zim_fault.specs.declared.signs.Sign.TheVariants.{SSemicolon}
use Rattle.zim_fault.specs.Words.{spelling_of_word}
use Rattle.zim_fault.specs.Signs.{spelling_of_sign}
use Rattle.zim_lex.specs.Spelled.{word_in, sign_in}
use Rattle.zim_lex.specs.Classes.{is_blank, begins_comment, is_digit, begins_name, continues_name, begins_fraction, is_quote, starts_number, first_is}
use Rattle.zim_decimal.specs.Token.{is_number_token, is_mantissa}
use Rattle.zim_lex.specs.Numbers.{digits_then, some_digits_then, is_exponent_by_bytes, is_number_by_bytes, is_string}
use Rattle.zim_lex.proofs.NumberTokens.{number_is_token}
use Rattle.zim_lex.specs.Pieces.{is_begun, is_identifier, is_word, is_name, is_sign, is_piece}
use Rattle.zim_lex.proofs.SpelledLemmas.{of_words, of_signs}
use Rattle.zim_lex.proofs.ClassLemmas.{is_other, blank_begins_no_comment, blank_begins_no_name, blank_starts_no_number, blank_is_no_quote, blank_is_no_other, name_starts_no_number, name_is_no_quote, quote_starts_no_number}

each_word : (word : Word) → is_identifier (spelling_of_word word) ≡ true
each_word WSet = refl
each_word _ = refl

each_sign : (sign : Sign) → first_is is_other (spelling_of_sign sign) ≡ true
each_sign SSemicolon = refl
each_sign _ = refl

pub word_is_identifier : (text : List ℕ) → is_word text ≡ true → is_identifier text ≡ true
word_is_identifier = of_words is_identifier each_word

pub sign_begins : (text : List ℕ) → is_sign text ≡ true → first_is is_other text ≡ true
sign_begins = of_signs (first_is is_other) each_sign

joins : (i w : Bool) → (w ≡ true → i ≡ true) → ((i && not w) || w) ≡ i
joins true true h = refl
joins true false h = refl
joins false true h = sym (h refl)
joins false false h = refl

-- a name or a word is an identifier
pub name_or_word : (text : List ℕ) → (is_name text || is_word text) ≡ is_identifier text
name_or_word text = joins (is_identifier text) (is_word text) (word_is_identifier text)

-- a number's first byte is a digit or a point
pub number_starts : (b : ℕ) (bs : List ℕ) → starts_number b ≡ false → is_number_token (b ∷ bs) ≡ false
number_starts b bs h = number_is_token (b ∷ bs) ∙ at (is_digit b) (begins_fraction b) refl refl h where
  at : (d f : Bool) → is_digit b ≡ d → begins_fraction b ≡ f → (d || f) ≡ false → is_number_by_bytes (b ∷ bs) ≡ false
  at true f e g k = cc
  at false true e g k = cc
  at false false e g k = rw (e, g) refl

regroup : (a c n w d q s i : Bool) → (n || w) ≡ i → ((((((a || c) || n) || w) || d) || q) || s) ≡ (((((a || c) || i) || d) || q) || s)
regroup true c n w d q s i h = refl
regroup false true n w d q s i h = refl
regroup false false n w d q s i h = ap (λ b. ((b || d) || q) || s) h

-- the classes of a piece that begins with b
pub is_piece-cons : (b : ℕ) (bs : List ℕ) → is_piece (b ∷ bs) ≡ (((((is_begun is_blank is_blank (b ∷ bs) || begins_comment b) || is_identifier (b ∷ bs)) || is_number_token (b ∷ bs)) || is_string (b ∷ bs)) || is_sign (b ∷ bs))
unfolding is_piece
is_piece-cons b bs =
    regroup (is_begun is_blank is_blank (b ∷ bs)) (begins_comment b) (is_name (b ∷ bs)) (is_word (b ∷ bs)) (is_number_token (b ∷ bs)) (is_string (b ∷ bs)) (is_sign (b ∷ bs)) (is_identifier (b ∷ bs)) (name_or_word (b ∷ bs))

not_true : (x : Bool) → (x ≡ true → ⊥) → x ≡ false
not_true true h = absurd (h refl)
not_true false h = refl

-- a byte of another class begins no sign
no_sign : (b : ℕ) (bs : List ℕ) → is_other b ≡ false → is_sign (b ∷ bs) ≡ false
no_sign b bs h = not_true (is_sign (b ∷ bs)) (λ e. let other : is_other b ≡ true = sign_begins (b ∷ bs) e in cc)

only_first : (a : Bool) → (((((a || false) || false) || false) || false) || false) ≡ a
only_first true = refl
only_first false = refl

only_third : (a : Bool) → (((a || false) || false) || false) ≡ a
only_third true = refl
only_third false = refl

only_last : (a : Bool) → (a || false) ≡ a
only_last true = refl
only_last false = refl

no_others : (a c i q : Bool) → a ≡ false → c ≡ false → i ≡ false → q ≡ false → (d s : Bool) → (((((a || c) || i) || d) || q) || s) ≡ (d || s)
no_others a c i q ea ec ei eq d s =
    ap (λ (x : Bool). ((((x || c) || i) || d) || q) || s) ea
    ∙ ap (λ (x : Bool). (((x || i) || d) || q) || s) ec
    ∙ ap (λ (x : Bool). ((x || d) || q) || s) ei
    ∙ ap (λ (x : Bool). (d || x) || s) eq
    ∙ ap (λ (x : Bool). x || s) (only_last d)

-- blanks
pub blank_pieces : (b : ℕ) (bs : List ℕ) → is_blank b ≡ true → is_piece (b ∷ bs) ≡ list_all is_blank bs
blank_pieces b bs h =
    is_piece-cons b bs
    ∙ rw (h, blank_begins_no_comment b h, blank_begins_no_name b h, number_starts b bs (blank_starts_no_number b h), blank_is_no_quote b h, no_sign b bs (blank_is_no_other b h)) (only_first (list_all is_blank bs))

-- a comment
pub comment_pieces : (b : ℕ) (bs : List ℕ) → is_blank b ≡ false → begins_comment b ≡ true → is_piece (b ∷ bs) ≡ true
comment_pieces b bs k h = is_piece-cons b bs ∙ rw (k, h) refl

-- names and words
pub name_pieces : (b : ℕ) (bs : List ℕ) → is_blank b ≡ false → begins_comment b ≡ false → begins_name b ≡ true → is_piece (b ∷ bs) ≡ list_all continues_name bs
name_pieces b bs k c h =
    let other : is_other b ≡ false = rw (k, c, h) refl in
    is_piece-cons b bs ∙ rw (k, c, h, number_starts b bs (name_starts_no_number b h), name_is_no_quote b h, no_sign b bs other) (only_third (list_all continues_name bs))

-- strings
pub string_pieces : (b : ℕ) (bs : List ℕ) → is_blank b ≡ false → begins_comment b ≡ false → begins_name b ≡ false → is_quote b ≡ true → is_piece (b ∷ bs) ≡ is_string (b ∷ bs)
string_pieces b bs k c n h =
    let other : is_other b ≡ false = rw (k, c, n, h) refl in
    is_piece-cons b bs ∙ rw (k, c, n, number_starts b bs (quote_starts_no_number b h), no_sign b bs other) (only_last (is_string (b ∷ bs)))

-- numbers and signs
pub other_pieces : (b : ℕ) (bs : List ℕ) → is_blank b ≡ false → begins_comment b ≡ false → begins_name b ≡ false → is_quote b ≡ false → is_piece (b ∷ bs) ≡ (is_number_token (b ∷ bs) || is_sign (b ∷ bs))
other_pieces b bs k c n q =
    is_piece-cons b bs
    ∙ no_others (is_begun is_blank is_blank (b ∷ bs)) (begins_comment b) (is_identifier (b ∷ bs)) (is_string (b ∷ bs)) (rw k refl) c (rw n refl) (rw q refl) (is_number_token (b ∷ bs)) (is_sign (b ∷ bs))

-- a text that begins as a number does: with a digit, or with a point and a digit
abbrev pub begins_number : List ℕ → Bool
begins_number [] = false
begins_number (b ∷ bs) = is_digit b || (begins_fraction b && first_is is_digit bs)

each_no_number : (sign : Sign) → not (begins_number (spelling_of_sign sign)) ≡ true
each_no_number SSemicolon = refl
each_no_number _ = refl

-- no sign begins as a number does
pub no_sign_of_number : (text : List ℕ) → begins_number text ≡ true → is_sign text ≡ false
no_sign_of_number text h = not_true (is_sign text) (λ e. let other : not (begins_number text) ≡ true = of_signs (λ t. not (begins_number t)) each_no_number text e in at (begins_number text) h other) where
  at : (t : Bool) → t ≡ true → not t ≡ true → ⊥
  at true e f = cc
  at false e f = cc

short : List ℕ → Bool
short [] = true
short (a ∷ []) = true
short (a ∷ b ∷ []) = true
short (a ∷ b ∷ c ∷ more) = false

each_short : (sign : Sign) → short (spelling_of_sign sign) ≡ true
unfolding short
each_short SSemicolon = refl
each_short _ = refl

-- no sign has more than two bytes
pub no_long_sign : (a b c : ℕ) (more : List ℕ) → is_sign (a ∷ b ∷ c ∷ more) ≡ false
unfolding short
no_long_sign a b c more = not_true (is_sign (a ∷ b ∷ c ∷ more)) (λ e. let h : short (a ∷ b ∷ c ∷ more) ≡ true = of_signs short each_short (a ∷ b ∷ c ∷ more) e in cc)

-- nothing is no piece
pub is_piece-nil : is_piece [] ≡ false
unfolding is_piece word_in sign_in is_number_token is_mantissa
is_piece-nil = refl

pub is_sign-nil : is_sign [] ≡ false
unfolding sign_in
is_sign-nil = refl

-- and a number does
and_first : (x y : Bool) → (x && y) ≡ true → x ≡ true
and_first true y h = refl
and_first false y h = cc

digits_first : (p : List ℕ → Bool) (bs : List ℕ) → some_digits_then p bs ≡ true → first_is is_digit bs ≡ true
digits_first p [] h = cc
digits_first p (b ∷ bs) h = and_first (is_digit b) (digits_then p bs) h

pub number_begins : (text : List ℕ) → is_number_token text ≡ true → begins_number text ≡ true
number_begins [] h = let no : is_number_by_bytes [] ≡ true = sym (number_is_token []) ∙ h in cc
number_begins (b ∷ bs) h = at (is_digit b) (begins_fraction b) refl refl where
  at : (d f : Bool) → is_digit b ≡ d → begins_fraction b ≡ f → begins_number (b ∷ bs) ≡ true
  at true f e g = rw e refl
  at false true e g =
      (let rest : some_digits_then is_exponent_by_bytes bs ≡ true = (let k : is_number_by_bytes (b ∷ bs) ≡ some_digits_then is_exponent_by_bytes bs = rw (e, g) refl in sym k ∙ sym (number_is_token (b ∷ bs)) ∙ h) in
      rw (e, g) (digits_first is_exponent_by_bytes bs rest))
  at false false e g = (let k : is_number_by_bytes (b ∷ bs) ≡ false = rw (e, g) refl in let is : is_number_by_bytes (b ∷ bs) ≡ true = sym (number_is_token (b ∷ bs)) ∙ h in cc)

-- a longer front begins as a number does, too
pub begins_longer : (n m : ℕ) (bytes : List ℕ) → begins_number (take n bytes) ≡ true → n ≤ m → begins_number (take m bytes) ≡ true
begins_longer zero m bytes h low = cc
begins_longer (suc n) zero bytes h low = absurd (omega arith)
begins_longer (suc n) (suc m) [] h low = cc
begins_longer (suc zero) (suc m) (b ∷ bs) h low = at (is_digit b) (begins_fraction b) refl refl where
  at : (d f : Bool) → is_digit b ≡ d → begins_fraction b ≡ f → begins_number (b ∷ take m bs) ≡ true
  at true f e g = rw e refl
  at false true e g = (let k : begins_number (b ∷ []) ≡ false = rw (e, g) refl in cc)
  at false false e g = (let k : begins_number (b ∷ []) ≡ false = rw (e, g) refl in cc)
begins_longer (suc (suc n)) (suc zero) (b ∷ bs) h low = absurd (omega arith)
begins_longer (suc (suc n)) (suc (suc m)) (b ∷ []) h low = h
begins_longer (suc (suc n)) (suc (suc m)) (b ∷ c ∷ bs) h low = h
