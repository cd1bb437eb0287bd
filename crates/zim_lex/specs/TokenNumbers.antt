-- Whether the numbers among tokens are number tokens, as they are among those of lines.
use Rattle.std.specs.Prelude.{◌≡◌, Bool, true, List}
use Rattle.std.specs.List.{list_all}
use Rattle.zim_decimal.specs.Token.{is_number_token}
use Rattle.zim_fault.specs.declared.tokens.Token.{Token}
use Rattle.zim_fault.specs.declared.tokens.Token.TheVariants.{Number}
use Rattle.zim_fault.specs.declared.tokens.Placed.{Placed}
use Rattle.zim_lex.specs.declared.lines.Line.{Line}
use Rattle.zim_lex.specs.Tokens.{AreTokens}

-- whether a token is a number token, if it is a number
abbrev pub is_right_number : Token → Bool
is_right_number (Number digits) = is_number_token digits
is_right_number _ = true

-- whether the numbers among tokens are number tokens
unfoldable pub token_numbers_kept : List Placed → Bool
token_numbers_kept = list_all (λ (x : Placed). is_right_number x.token)

-- they are among the tokens of lines
abbrev pub LineNumbersAreKept : Type 0
LineNumbersAreKept = (lines : List Line) (tokens : List Placed) → AreTokens lines tokens → token_numbers_kept tokens ≡ true
