-- The token of a piece, by the class of its first byte.
use Rattle.std.proofs.Common.{◌≡◌, ℕ, ◌≤◌, ◌<◌, Bool, true, false, ◌||◌, ◌&&◌, List, [], ◌∷◌, length, Option, Some, None, refl, ap, sym, ◌∙◌, arith}
use Rattle.std.specs.Prelude.{is_some, ◌==◌, if◌then◌else◌}
use Rattle.zim_fault.specs.declared.words.Word.{Word}
use Rattle.zim_fault.specs.declared.tokens.Token.TheVariants as tokens
use Rattle.zim_fault.specs.Words.{spelling_of_word}
use Rattle.zim_lex.specs.Spelled.{word_in, sign_in}
use Rattle.zim_fault.specs.declared.signs.Sign.{Sign}
use Rattle.zim_lex.specs.Classes.{is_blank, begins_comment, begins_name, is_quote, starts_number}
use Rattle.zim_decimal.specs.Token.{is_number_token}
use Rattle.zim_lex.specs.Numbers.{is_string}
use Rattle.zim_lex.proofs.NumberTokens.{number_is_token}
use Rattle.zim_lex.specs.Pieces.{is_piece, is_identifier, is_word, is_sign, between_quotes, token_of}
use Rattle.zim_lex.proofs.SpelledLemmas.{word_in_spells, word_in_of}
use Rattle.zim_lex.proofs.ClassLemmas.{blank_begins_no_name, blank_starts_no_number, blank_is_no_quote, comment_begins_no_name, comment_starts_no_number, comment_is_no_quote, name_starts_no_number, name_is_no_quote, quote_starts_no_number, quote_begins_no_name}
use Rattle.zim_lex.proofs.PieceLemmas.{is_piece-nil, name_pieces, string_pieces, other_pieces, number_starts, number_begins, no_sign_of_number, word_is_identifier}
use Rattle.zim_lex.proofs.FrontLemmas.{first_byte}

not_both : (p q : Bool) → (p ≡ true → q ≡ false) → q ≡ true → p ≡ false
not_both true q apart h = (let no_q : q ≡ false = apart refl in cc)
not_both false q apart h = refl

-- a piece has a first byte
pub piece_has_byte : (piece : List ℕ) → is_piece piece ≡ true → 0 < length piece
piece_has_byte [] h = (let none : is_piece [] ≡ false = is_piece-nil in cc)
piece_has_byte (b ∷ bs) h = omega arith

-- a piece that begins as a name does is an identifier
identifier_of : (piece : List ℕ) → is_piece piece ≡ true → begins_name (first_byte piece) ≡ true → is_identifier piece ≡ true
identifier_of [] is h = (let none : is_piece [] ≡ false = is_piece-nil in cc)
identifier_of (b ∷ bs) is h =
    let blank : is_blank b ≡ false = not_both (is_blank b) (begins_name b) (blank_begins_no_name b) h in
    let comment : begins_comment b ≡ false = not_both (begins_comment b) (begins_name b) (comment_begins_no_name b) h in
    rw h (sym (name_pieces b bs blank comment h) ∙ is)

-- a piece that begins with a quote is a string
string_of : (piece : List ℕ) → is_piece piece ≡ true → is_quote (first_byte piece) ≡ true → is_string piece ≡ true
string_of [] is q = (let none : is_piece [] ≡ false = is_piece-nil in cc)
string_of (b ∷ bs) is q =
    let blank : is_blank b ≡ false = not_both (is_blank b) (is_quote b) (blank_is_no_quote b) q in
    let comment : begins_comment b ≡ false = not_both (begins_comment b) (is_quote b) (comment_is_no_quote b) q in
    sym (string_pieces b bs blank comment (quote_begins_no_name b q) q) ∙ is

-- a piece that begins with a digit or a point and is no sign is a number
number_of : (piece : List ℕ) → is_piece piece ≡ true → begins_name (first_byte piece) ≡ false → is_quote (first_byte piece) ≡ false → starts_number (first_byte piece) ≡ true → is_sign piece ≡ false → is_number_token piece ≡ true
number_of [] is n q h s = (let none : is_piece [] ≡ false = is_piece-nil in cc)
number_of (b ∷ bs) is n q h s =
    let blank : is_blank b ≡ false = not_both (is_blank b) (starts_number b) (blank_starts_no_number b) h in
    let comment : begins_comment b ≡ false = not_both (begins_comment b) (starts_number b) (comment_starts_no_number b) h in
    one_left (is_number_token (b ∷ bs)) (is_sign (b ∷ bs)) s (sym (other_pieces b bs blank comment n q) ∙ is)
  where
    one_left : (x y : Bool) → y ≡ false → (x || y) ≡ true → x ≡ true
    one_left true y h k = refl
    one_left false y h k = (let both : y ≡ true = k in cc)

no_identifier : (piece : List ℕ) → begins_name (first_byte piece) ≡ false → is_identifier piece ≡ false
no_identifier [] n = refl
no_identifier (b ∷ bs) n = rw n refl

no_number : (piece : List ℕ) → starts_number (first_byte piece) ≡ false → is_number_token piece ≡ false
no_number [] d = number_is_token []
no_number (b ∷ bs) d = number_starts b bs d

no_string : (piece : List ℕ) → is_quote (first_byte piece) ≡ false → is_string piece ≡ false
no_string [] q = refl
no_string (b ∷ bs) q = rw q refl

no_word : (piece : List ℕ) → begins_name (first_byte piece) ≡ false → word_in piece ≡ None
no_word piece n =
    let at : (found : Option Word) → word_in piece ≡ found → found ≡ None =
    elim [
      | None ↦ λ _. refl
      | Some found_word ↦ λ e. (let is : is_word piece ≡ true = ap is_some e in let h : is_identifier piece ≡ true = word_is_identifier piece is in let k : is_identifier piece ≡ false = no_identifier piece n in cc)
    ]
    in at (word_in piece) refl

-- no number is a sign
sign_is_no_number : (piece : List ℕ) → is_sign piece ≡ true → is_number_token piece ≡ false
sign_is_no_number piece s =
    let at : (x : Bool) → is_number_token piece ≡ x → x ≡ false =
    elim [ true ↦ λ e. (let none : is_sign piece ≡ false = no_sign_of_number piece (number_begins piece e) in cc) | false ↦ λ e. refl ]
    in at (is_number_token piece) refl

-- a word
pub token_of-word : (piece : List ℕ) (word : Word) → spelling_of_word word ≡ piece → begins_name (first_byte piece) ≡ true → token_of piece ≡ Some (tokens.Word word)
unfolding token_of
token_of-word piece word spelled n =
    let found : word_in piece ≡ Some word = word_in_of piece word spelled in
    let identifier : is_identifier piece ≡ true = word_is_identifier piece (ap is_some found) in
    rw (identifier, found, no_number piece (name_starts_no_number (first_byte piece) n), no_string piece (name_is_no_quote (first_byte piece) n)) refl

-- a name
pub token_of-name : (piece : List ℕ) → is_piece piece ≡ true → begins_name (first_byte piece) ≡ true → ((word : Word) → spelling_of_word word ≡ piece → ⊥) → token_of piece ≡ Some (tokens.Name piece)
unfolding token_of
token_of-name piece is n apart = rw (identifier_of piece is n, unspelled (word_in piece) refl) refl where
  unspelled : (found : Option Word) → word_in piece ≡ found → found ≡ None
  unspelled None e = refl
  unspelled (Some word) e = absurd (apart word (word_in_spells piece word e))

-- a string
pub token_of-string : (piece : List ℕ) → is_piece piece ≡ true → is_quote (first_byte piece) ≡ true → token_of piece ≡ Some (tokens.Text (between_quotes piece) (first_byte piece == 34))
unfolding token_of
token_of-string [] is q = (let none : is_piece [] ≡ false = is_piece-nil in cc)
token_of-string (b ∷ bs) is q =
    rw (no_identifier (b ∷ bs) (quote_begins_no_name b q), no_number (b ∷ bs) (quote_starts_no_number b q), string_of (b ∷ bs) is q) refl

-- a string has both quotes
pub string_has_quotes : (piece : List ℕ) → is_piece piece ≡ true → is_quote (first_byte piece) ≡ true → 2 ≤ length piece
string_has_quotes piece is q = two piece (string_of piece is q) where
  last : (x : Bool) → (x && false) ≡ true → ⊥
  last true h = cc
  last false h = cc

  two : (text : List ℕ) → is_string text ≡ true → 2 ≤ length text
  two [] h = cc
  two (b ∷ []) h = absurd (last (is_quote b) h)
  two (b ∷ c ∷ bs) h = omega arith

-- a number
token_of-number : (piece : List ℕ) → is_piece piece ≡ true → begins_name (first_byte piece) ≡ false → is_quote (first_byte piece) ≡ false → starts_number (first_byte piece) ≡ true → sign_in piece ≡ None
    → token_of piece ≡ Some (tokens.Number piece)
unfolding token_of
token_of-number piece is n q d s =
    let none : is_sign piece ≡ false = ap is_some s in
    rw (no_identifier piece n, number_of piece is n q d none) refl

-- a sign
pub token_of-sign : (piece : List ℕ) (sign : Sign) → begins_name (first_byte piece) ≡ false → is_quote (first_byte piece) ≡ false → sign_in piece ≡ Some sign → token_of piece ≡ Some (tokens.Sign sign)
unfolding token_of
token_of-sign piece sign n q s =
    let some : is_sign piece ≡ true = ap is_some s in
    rw (no_identifier piece n, sign_is_no_number piece some, no_string piece q, no_word piece n, s) refl

-- blanks or a comment
token_of-none : (piece : List ℕ) → begins_name (first_byte piece) ≡ false → is_quote (first_byte piece) ≡ false → starts_number (first_byte piece) ≡ false → sign_in piece ≡ None → token_of piece ≡ None
unfolding token_of
token_of-none piece n q d s = rw (no_identifier piece n, no_number piece d, no_string piece q, no_word piece n, s) refl

-- what is no sign, by its first byte
pub token_of-other : (piece : List ℕ) → is_piece piece ≡ true → begins_name (first_byte piece) ≡ false → is_quote (first_byte piece) ≡ false → sign_in piece ≡ None
    → token_of piece ≡ (if starts_number (first_byte piece) then Some (tokens.Number piece) else None)
token_of-other piece is n q s = at (starts_number (first_byte piece)) refl where
  at : (h : Bool) → starts_number (first_byte piece) ≡ h → token_of piece ≡ (if h then Some (tokens.Number piece) else None)
  at true e = token_of-number piece is n q e s
  at false e = token_of-none piece n q e s
