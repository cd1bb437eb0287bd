-- What a piece of a line is, class by class, and which token it is.
use Rattle.std.specs.Prelude.{ℕ, ◌-◌, List, [], ◌∷◌, length, take, drop, Bool, false, ◌&&◌, ◌||◌, ◌==◌, not, if◌then◌else◌, Option, Some, is_some, option_map}
use Rattle.std.specs.List.{list_all}
use Rattle.std.specs.Option.{option_or}
use Rattle.zim_fault.specs.declared.tokens.Token.{Token}
use Rattle.zim_fault.specs.declared.tokens.Token.TheVariants.{Name, Word, Number, Text, Sign}
use Rattle.zim_lex.specs.Spelled.{word_in, sign_in}
use Rattle.zim_lex.specs.Classes.{is_blank, begins_comment, begins_name, continues_name, first_is}
use Rattle.zim_decimal.specs.Token.{is_number_token}
use Rattle.zim_lex.specs.Numbers.{is_string}

-- a byte that passes the first test, and then any number that pass the second
abbrev pub is_begun : (ℕ → Bool) → (ℕ → Bool) → List ℕ → Bool
is_begun begins continues [] = false
is_begun begins continues (b ∷ bs) = begins b && list_all continues bs

-- one blank or more
abbrev pub is_blanks : List ℕ → Bool
is_blanks text = is_begun is_blank is_blank text

-- `#` and whatever follows on the line
abbrev pub is_comment_piece : List ℕ → Bool
is_comment_piece [] = false
is_comment_piece (b ∷ bs) = begins_comment b

-- a letter or `_`, and then letters, digits and `_`
abbrev pub is_identifier : List ℕ → Bool
is_identifier text = is_begun begins_name continues_name text

-- the spelling of a word
abbrev pub is_word : List ℕ → Bool
is_word text = is_some (word_in text)

-- an identifier that isn't a word
abbrev pub is_name : List ℕ → Bool
is_name text = is_identifier text && not (is_word text)

-- the spelling of a sign
abbrev pub is_sign : List ℕ → Bool
is_sign text = is_some (sign_in text)

-- blanks, a comment or the spelling of a token
unfoldable pub is_piece : List ℕ → Bool
is_piece text = is_blanks text || is_comment_piece text || is_name text || is_word text || is_number_token text || is_string text || is_sign text

-- the bytes between the quotes of a string
abbrev pub between_quotes : List ℕ → List ℕ
between_quotes text = take (length text - 1 - 1) (drop 1 text)

-- the token that a piece spells: blanks and a comment spell none
unfoldable pub token_of : List ℕ → Option Token
token_of piece =
    if is_name piece then Some (Name piece)
    else (if is_number_token piece then Some (Number piece)
    else (if is_string piece then Some (Text (between_quotes piece) (first_is (λ b. b == 34) piece))
    else option_or (option_map Word (word_in piece)) (option_map Sign (sign_in piece))))
