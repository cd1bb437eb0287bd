-- The numbers among the tokens of lines are number tokens.
use Rattle.std.proofs.Common.{◌≡◌, ℕ, Bool, true, false, ◌&&◌, if◌then◌else◌, List, [], ◌∷◌, ◌++◌, length, Option, Some, None, option_map, refl, ap, sym, ◌∙◌}
use Rattle.std.specs.Prelude.{◌==◌}
use Rattle.std.specs.List.{list_all}
use Rattle.std.specs.Option.{option_or}
use Rattle.std.proofs.lemmas.List.Folds.{list_all-append}
use Rattle.zim_decimal.specs.Token.{is_number_token}
use Rattle.zim_fault.specs.declared.faults.Place.{Place}
use Rattle.zim_fault.specs.declared.signs.Sign as signs
use Rattle.zim_fault.specs.declared.words.Word as words
use Rattle.zim_fault.specs.declared.tokens.Token.{Token}
use Rattle.zim_fault.specs.declared.tokens.Token.TheVariants.{Name, Word, Number, Text, Sign}
use Rattle.zim_fault.specs.declared.tokens.Placed.{Placed}
use Rattle.zim_lex.specs.declared.lines.Line.{Line}
use Rattle.zim_lex.specs.Classes.{first_is}
use Rattle.zim_lex.specs.Numbers.{is_string}
use Rattle.zim_lex.specs.Pieces.{is_name, between_quotes, token_of}
use Rattle.zim_lex.specs.Spelled.{word_in, sign_in}
use Rattle.zim_lex.specs.Tokens.{placed_token, tokens_at, AreLineTokens, AreTokens, none, more}
use Rattle.zim_lex.specs.TokenNumbers.{is_right_number, token_numbers_kept}

-- a token, if there is one, is a number token, if it is a number
abbrev RightNumber : Option Token → Type 0
RightNumber None = Unit {0}
RightNumber (Some token) = is_right_number token ≡ true

-- a word or else a sign is no number
word_or_sign : (w : Option words.Word) (s : Option signs.Sign) → RightNumber (option_or (option_map Word w) (option_map Sign s))
word_or_sign (Some w) s = refl
word_or_sign None (Some s) = refl
word_or_sign None None = tt

-- the token of a piece, of which it is known whether it is a name, a number or a string
of_piece : (piece : List ℕ) (named numbered quoted : Bool) → is_number_token piece ≡ numbered →
    RightNumber (if named then Some (Name piece)
    else (if numbered then Some (Number piece)
    else (if quoted then Some (Text (between_quotes piece) (first_is (λ b. b == 34) piece))
    else option_or (option_map Word (word_in piece)) (option_map Sign (sign_in piece)))))
of_piece piece true numbered quoted h = refl
of_piece piece false true quoted h = h
of_piece piece false false true h = refl
of_piece piece false false false h = word_or_sign (word_in piece) (sign_in piece)

-- the token of a piece is a number token, if it is a number
piece_right : (piece : List ℕ) → RightNumber (token_of piece)
unfolding token_of
piece_right piece = of_piece piece (is_name piece) (is_number_token piece) (is_string piece) refl

-- so is the token at a place
placed_right : (place : Place) (token : Option Token) → RightNumber token → token_numbers_kept (placed_token place token) ≡ true
unfolding token_numbers_kept
placed_right place None h = refl
placed_right place (Some token) h = ap (λ b. b && true) h

-- both lists have number tokens
both_kept : (xs ys : List Placed) → token_numbers_kept xs ≡ true → token_numbers_kept ys ≡ true → token_numbers_kept (xs ++ ys) ≡ true
unfolding token_numbers_kept
both_kept xs ys p q = list_all-append (λ (x : Placed). is_right_number x.token) xs ys ∙ (λ i. p i && q i)

-- no token is none
none_kept : token_numbers_kept [] ≡ true
unfolding token_numbers_kept
none_kept = refl

-- the tokens of pieces
pieces_right : (place : Place) (pieces : List (List ℕ)) → token_numbers_kept (tokens_at place pieces) ≡ true
unfolding tokens_at
pieces_right place [] = none_kept
pieces_right place (piece ∷ pieces) = both_kept (placed_token place (token_of piece)) (tokens_at place pieces) (placed_right place (token_of piece) (piece_right piece)) (pieces_right place pieces)

-- the tokens of lines
pub lines_keep_numbers : (lines : List Line) (tokens : List Placed) → AreTokens lines tokens → token_numbers_kept tokens ≡ true
unfolding token_numbers_kept
lines_keep_numbers _ _ none = refl
lines_keep_numbers _ _ (more line lines first others at rest) =
    both_kept first others (ap token_numbers_kept at.tokens_are ∙ pieces_right line.place at.pieces) (lines_keep_numbers lines others rest)
