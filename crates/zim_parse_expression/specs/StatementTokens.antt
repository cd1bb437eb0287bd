-- The signs and words that statements name, as a parser tests the next tokens for them.
use Rattle.std.specs.Prelude.{List, [], ◌∷◌, Bool, true, false, ◌&&◌, Option, Some, None, if◌then◌else◌}
use Rattle.zim_fault.specs.declared.faults.Place.{Place}
use Rattle.zim_fault.specs.declared.tokens.Token.{Token}
use Rattle.zim_fault.specs.declared.tokens.Token.TheVariants.{Word as word_token, Sign as sign_token}
use Rattle.zim_fault.specs.declared.tokens.Placed.{Placed}
use Rattle.zim_fault.specs.declared.signs.Sign.TheVariants.{SSemicolon, SColon, SLeftBracket, SLeftBrace, SLessEqual, SGreaterEqual, SAssign, SBar}
use Rattle.zim_fault.specs.declared.words.Word.{Word}
use Rattle.zim_fault.specs.declared.words.Word.TheVariants.{WRead, WAs, WDefault, WPriority, WStartval}
use Rattle.zim_tree.specs.StatementGrammar.{is_option, is_kind}
use Rattle.zim_parse_expression.specs.Parser.{Parser}

-- one token that passes a test, for its place
abbrev pub expect_token : (Token → Bool) → Parser Place
expect_token test [] = None
expect_token test (t ∷ rest) = if test t.token then Some (t.place, rest) else None

-- `;`
abbrev pub is_semicolon : Token → Bool
is_semicolon (sign_token SSemicolon) = true
is_semicolon _ = false

-- `:=`
abbrev pub is_assign : Token → Bool
is_assign (sign_token SAssign) = true
is_assign _ = false

-- `:`
abbrev pub is_colon : Token → Bool
is_colon (sign_token SColon) = true
is_colon _ = false

-- `[`
abbrev pub is_left_bracket : Token → Bool
is_left_bracket (sign_token SLeftBracket) = true
is_left_bracket _ = false

-- `{`
abbrev pub is_left_brace : Token → Bool
is_left_brace (sign_token SLeftBrace) = true
is_left_brace _ = false

-- `|`
abbrev pub is_bar : Token → Bool
is_bar (sign_token SBar) = true
is_bar _ = false

-- `read`
abbrev pub is_read : Token → Bool
is_read (word_token WRead) = true
is_read _ = false

-- `as`
abbrev pub is_as : Token → Bool
is_as (word_token WAs) = true
is_as _ = false

-- `default`
abbrev pub is_default : Token → Bool
is_default (word_token WDefault) = true
is_default _ = false

-- `priority`
abbrev pub is_priority : Token → Bool
is_priority (word_token WPriority) = true
is_priority _ = false

-- `startval`
abbrev pub is_startval : Token → Bool
is_startval (word_token WStartval) = true
is_startval _ = false

-- the word of an option, if the token is one
abbrev pub option_word : Word → Option Word
option_word w = if is_option w then Some w else None

-- the word of an option that a token is
abbrev pub option_in : Token → Option Word
option_in (word_token w) = option_word w
option_in _ = None

-- whether a token that passes a test comes next
abbrev pub sees : (Token → Bool) → List Placed → Bool
sees test [] = false
sees test (t ∷ rest) = test t.token

-- whether `{` and `read` come next
abbrev pub begins_read : List Placed → Bool
begins_read [] = false
begins_read (t ∷ rest) = is_left_brace t.token && sees is_read rest

-- the kind that a token is, if it is one
abbrev pub kind_word : Word → Option Word
kind_word w = if is_kind w then Some w else None

-- the kind that a token is
abbrev pub kind_in : Token → Option Word
kind_in (word_token w) = kind_word w
kind_in _ = None

-- a kind that was read, or none
abbrev pub kind_at : Placed → List Placed → Option Word → Option Word × List Placed
kind_at t rest None = (None, t ∷ rest)
kind_at t rest (Some w) = (Some w, rest)

-- a kind, if one comes next, and what is left behind it
abbrev pub kind_of : List Placed → Option Word × List Placed
kind_of [] = (None, [])
kind_of (t ∷ rest) = kind_at t rest (kind_in t.token)

-- whether a token is `>=` or `<=`
abbrev pub limit_in : Token → Option Bool
limit_in (sign_token SGreaterEqual) = Some true
limit_in (sign_token SLessEqual) = Some false
limit_in _ = None
