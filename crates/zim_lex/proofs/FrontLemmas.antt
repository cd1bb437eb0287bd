-- The longest piece at the front of some bytes, by the class of the first one, in the words of the code.
use Rattle.std.proofs.Common.{◌≡◌, ℕ, zero, suc, ◌+◌, ◌≤◌, ◌<◌, Bool, true, false, ◌||◌, List, [], ◌∷◌, length, take, get_or, Option, Some, None, refl, sym, ◌∙◌, arith}
use Rattle.std.specs.Prelude.{◌==◌}
use Rattle.std.specs.List.{prefix_len}
use Rattle.std.proofs.lemmas.Bool.Decides.{nat_tests}
use Rattle.zim_lex.specs.Classes.{is_blank, begins_comment, begins_name, continues_name, is_quote}
use Rattle.zim_lex.specs.Fronts.{IsLongestThat, NoneThat, IsFrontThat}
use Rattle.zim_decimal.specs.Token.{is_number_token}
use Rattle.zim_lex.specs.Numbers.{is_string}
use Rattle.zim_lex.proofs.NumberTokens.{number_is_token}
use Rattle.zim_lex.specs.Pieces.{is_piece, is_sign}
use Rattle.zim_lex.specs.Cut.{longest}
use Rattle.zim_lex.specs.Signs.{longest_sign}
use Rattle.zim_lex.proofs.PieceLemmas.{blank_pieces, comment_pieces, name_pieces, string_pieces, other_pieces, begins_number, number_begins, begins_longer, no_sign_of_number, is_piece-nil, is_sign-nil}
use Rattle.zim_lex.proofs.LongestLemmas.{longest_run, longest_all, longest_by, sign_front}

-- the first byte, where there is one
abbrev pub first_byte : List ℕ → ℕ
first_byte bytes = get_or bytes 0 0

-- the run of bytes that pass, where the first one does
one_passes : (p : ℕ → Bool) (b : ℕ) (bs : List ℕ) → p b ≡ true → Some (suc (prefix_len p bs)) ≡ Some (prefix_len p (b ∷ bs))
one_passes p b bs h = let one : suc (prefix_len p bs) ≡ 1 + prefix_len p bs = omega arith in rw (h, one) refl

pub longest-nil : longest [] ≡ None
unfolding longest
longest-nil = refl

pub longest_blanks : (bytes : List ℕ) → 0 < length bytes → is_blank (first_byte bytes) ≡ true → longest bytes ≡ Some (prefix_len is_blank bytes)
longest_blanks [] some h = absurd (omega arith)
longest_blanks (b ∷ bs) some h = longest_run is_blank b bs (λ xs. blank_pieces b xs h) ∙ one_passes is_blank b bs h

pub longest_comment : (bytes : List ℕ) → 0 < length bytes → is_blank (first_byte bytes) ≡ false → begins_comment (first_byte bytes) ≡ true → longest bytes ≡ Some (length bytes)
longest_comment [] some k h = absurd (omega arith)
longest_comment (b ∷ bs) some k h = longest_all (b ∷ bs) some (comment_pieces b bs k h)

pub longest_name : (bytes : List ℕ) → 0 < length bytes → is_blank (first_byte bytes) ≡ false → begins_comment (first_byte bytes) ≡ false → begins_name (first_byte bytes) ≡ true
    → longest bytes ≡ Some (prefix_len continues_name bytes)
longest_name [] some k c h = absurd (omega arith)
longest_name (b ∷ bs) some k c h =
    let goes_on : continues_name b ≡ true = rw h refl in
    longest_run continues_name b bs (λ xs. name_pieces b xs k c h) ∙ one_passes continues_name b bs goes_on

-- a string
pub longest_string : (bytes : List ℕ) (found : Option ℕ) → 0 < length bytes → is_blank (first_byte bytes) ≡ false → begins_comment (first_byte bytes) ≡ false → begins_name (first_byte bytes) ≡ false → is_quote (first_byte bytes) ≡ true
    → IsFrontThat is_string bytes found → longest bytes ≡ found
longest_string [] found some k c n q front = absurd (omega arith)
longest_string (b ∷ bs) found some k c n q front = longest_by is_string (b ∷ bs) found each front where
  each : (m : ℕ) → m ≤ length (b ∷ bs) → is_piece (take m (b ∷ bs)) ≡ is_string (take m (b ∷ bs))
  each zero high = is_piece-nil
  each (suc m) high = string_pieces b (take m bs) k c n q

neither : (x y : Bool) → x ≡ false → y ≡ false → (x || y) ≡ false
neither x y h k = rw (h, k) refl

number_or_sign : (b : ℕ) (bs : List ℕ) → is_blank b ≡ false → begins_comment b ≡ false → begins_name b ≡ false → is_quote b ≡ false
    → (m : ℕ) → m ≤ length (b ∷ bs) → is_piece (take m (b ∷ bs)) ≡ (is_number_token (take m (b ∷ bs)) || is_sign (take m (b ∷ bs)))
number_or_sign b bs k c n q zero high = is_piece-nil ∙ sym (neither (is_number_token []) (is_sign []) (number_is_token []) is_sign-nil)
number_or_sign b bs k c n q (suc m) high = other_pieces b (take m bs) k c n q

-- a number, which no sign begins as
pub longest_number : (bytes : List ℕ) (n : ℕ) → 0 < length bytes → is_blank (first_byte bytes) ≡ false → begins_comment (first_byte bytes) ≡ false → begins_name (first_byte bytes) ≡ false → is_quote (first_byte bytes) ≡ false
    → IsLongestThat is_number_token bytes n → longest bytes ≡ Some n
longest_number [] found some k c n q front = absurd (omega arith)
longest_number (b ∷ bs) found some k c n q front =
    let begins : begins_number (take found (b ∷ bs)) ≡ true = number_begins (take found (b ∷ bs)) front.is in
    longest_by (λ text. is_number_token text || is_sign text) (b ∷ bs) (Some found) (number_or_sign b bs k c n q) (record {
      within = front.within;
      is = rw front.is refl;
      longer = λ m low high.
          neither (is_number_token (take m (b ∷ bs))) (is_sign (take m (b ∷ bs))) (front.longer m low high) (no_sign_of_number (take m (b ∷ bs)) (begins_longer found m (b ∷ bs) begins (omega arith)));
    })

-- where no number begins
pub longest_signs : (bytes : List ℕ) → 0 < length bytes → is_blank (first_byte bytes) ≡ false → begins_comment (first_byte bytes) ≡ false → begins_name (first_byte bytes) ≡ false → is_quote (first_byte bytes) ≡ false
    → NoneThat is_number_token bytes → longest bytes ≡ longest_sign bytes
longest_signs [] some k c n q none = absurd (omega arith)
longest_signs (b ∷ bs) some k c n q none =
    longest_by is_sign (b ∷ bs) (longest_sign (b ∷ bs)) (λ m high. number_or_sign b bs k c n q m high ∙ rw (none m high) refl) (sign_front (b ∷ bs))

-- what a test for emptiness says
pub no_bytes : (bytes : List ℕ) (r : Bool) → r ≡ (length bytes == 0) → r ≡ true → bytes ≡ []
no_bytes [] r is h = refl
no_bytes (b ∷ bs) r is h = absurd (grind (arith, nat_tests))

pub some_bytes : (bytes : List ℕ) (r : Bool) → r ≡ (length bytes == 0) → r ≡ false → 0 < length bytes
some_bytes bytes r is h = grind (arith, nat_tests)
