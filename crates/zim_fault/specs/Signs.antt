-- How each sign is spelled.
use Rattle.std.specs.Prelude.{ℕ, List, codes}
use Rattle.zim_fault.specs.declared.signs.Sign.{Sign}
use Rattle.zim_fault.specs.declared.signs.Sign.TheVariants.{SSemicolon, SComma, SColon, SLeftParen, SRightParen, SLeftBracket, SRightBracket, SLeftBrace, SRightBrace, SLess, SGreater, SLessEqual, SGreaterEqual, SEqual, SNotEqual, SAssign, SPlus, SMinus, SStar, SStarStar, SSlash, SCaret, SExclamation, SBar, SBackslash, SDots}

-- the bytes of a sign
abbrev pub spelling_of_sign : Sign → List ℕ
spelling_of_sign SSemicolon = codes ";"
spelling_of_sign SComma = codes ","
spelling_of_sign SColon = codes ":"
spelling_of_sign SLeftParen = codes "("
spelling_of_sign SRightParen = codes ")"
spelling_of_sign SLeftBracket = codes "["
spelling_of_sign SRightBracket = codes "]"
spelling_of_sign SLeftBrace = codes "{"
spelling_of_sign SRightBrace = codes "}"
spelling_of_sign SLess = codes "<"
spelling_of_sign SGreater = codes ">"
spelling_of_sign SLessEqual = codes "<="
spelling_of_sign SGreaterEqual = codes ">="
spelling_of_sign SEqual = codes "=="
spelling_of_sign SNotEqual = codes "!="
spelling_of_sign SAssign = codes ":="
spelling_of_sign SPlus = codes "+"
spelling_of_sign SMinus = codes "-"
spelling_of_sign SStar = codes "*"
spelling_of_sign SStarStar = codes "**"
spelling_of_sign SSlash = codes "/"
spelling_of_sign SCaret = codes "^"
spelling_of_sign SExclamation = codes "!"
spelling_of_sign SBar = codes "|"
spelling_of_sign SBackslash = codes "\\"
spelling_of_sign SDots = codes ".."
