-- The word and the sign that a text spells.
use Rattle.std.specs.Prelude.{ℕ, List, [], ◌∷◌, Option, nat_eq, find}
use Rattle.std.specs.Cmp.Lexicographic.{pointwise}
use Rattle.zim_fault.specs.declared.words.Word.{Word}
use Rattle.zim_fault.specs.declared.words.Word.TheVariants.{WSet, WParam, WVar, WMinimize, WMaximize, WSubto, WDefnumb, WDefstrg, WDefbool, WDefset, WDo, WPrint, WCheck, WForall, WSum, WProd, WMin, WMax, WArgmin, WArgmax, WIf, WThen, WElse, WEnd, WVif, WVabs, WAnd, WOr, WXor, WNot, WIn, WWith, WTo, WBy, WUnion, WInter, WCross, WWithout, WSymdiff, WMod, WDiv, WRead, WAs, WSkip, WUse, WComment, WDefault, WBinary, WInteger, WReal, WInfinity, WPriority, WStartval, WTrue, WFalse, WProj, WPowerset, WSubsets, WIndexset, WAbs, WSgn, WFloor, WCeil, WRound, WCard, WOrd, WLength, WSubstr, WInclude, WRandom, WSqrt, WLog, WLn, WExp, WMatch, WSos, WImplicit, WExists, WScale, WSeparate, WCheckonly, WIndicator}
use Rattle.zim_fault.specs.declared.signs.Sign.{Sign}
use Rattle.zim_fault.specs.declared.signs.Sign.TheVariants.{SSemicolon, SComma, SColon, SLeftParen, SRightParen, SLeftBracket, SRightBracket, SLeftBrace, SRightBrace, SLess, SGreater, SLessEqual, SGreaterEqual, SEqual, SNotEqual, SAssign, SPlus, SMinus, SStar, SStarStar, SSlash, SCaret, SExclamation, SBar, SBackslash, SDots}
use Rattle.zim_fault.specs.Words.{spelling_of_word}
use Rattle.zim_fault.specs.Signs.{spelling_of_sign}

-- every word of the language, those that this compiler refuses among them
abbrev pub every_word : List Word
every_word =
    WSet ∷ WParam ∷ WVar ∷ WMinimize ∷ WMaximize ∷ WSubto ∷ WDefnumb ∷ WDefstrg ∷ WDefbool ∷ WDefset ∷ WDo ∷ WPrint ∷
    WCheck ∷ WForall ∷ WSum ∷ WProd ∷ WMin ∷ WMax ∷ WArgmin ∷ WArgmax ∷ WIf ∷ WThen ∷ WElse ∷ WEnd ∷
    WVif ∷ WVabs ∷ WAnd ∷ WOr ∷ WXor ∷ WNot ∷ WIn ∷ WWith ∷ WTo ∷ WBy ∷ WUnion ∷ WInter ∷
    WCross ∷ WWithout ∷ WSymdiff ∷ WMod ∷ WDiv ∷ WRead ∷ WAs ∷ WSkip ∷ WUse ∷ WComment ∷ WDefault ∷ WBinary ∷
    WInteger ∷ WReal ∷ WInfinity ∷ WPriority ∷ WStartval ∷ WTrue ∷ WFalse ∷ WProj ∷ WPowerset ∷ WSubsets ∷ WIndexset ∷ WAbs ∷
    WSgn ∷ WFloor ∷ WCeil ∷ WRound ∷ WCard ∷ WOrd ∷ WLength ∷ WSubstr ∷ WInclude ∷ WRandom ∷ WSqrt ∷ WLog ∷
    WLn ∷ WExp ∷ WMatch ∷ WSos ∷ WImplicit ∷ WExists ∷ WScale ∷ WSeparate ∷ WCheckonly ∷ WIndicator ∷ []

-- every sign of the language
abbrev pub every_sign : List Sign
every_sign =
    SSemicolon ∷ SComma ∷ SColon ∷ SLeftParen ∷ SRightParen ∷ SLeftBracket ∷ SRightBracket ∷ SLeftBrace ∷ SRightBrace ∷ SLess ∷ SGreater ∷ SLessEqual ∷ SGreaterEqual ∷
    SEqual ∷ SNotEqual ∷ SAssign ∷ SPlus ∷ SMinus ∷ SStar ∷ SStarStar ∷ SSlash ∷ SCaret ∷ SExclamation ∷ SBar ∷ SBackslash ∷ SDots ∷ []

-- the word that is spelled so, if there is one
unfoldable pub word_in : List ℕ → Option Word
word_in text = find (λ word. pointwise nat_eq (spelling_of_word word) text) every_word

-- the sign that is spelled so, if there is one
unfoldable pub sign_in : List ℕ → Option Sign
sign_in text = find (λ sign. pointwise nat_eq (spelling_of_sign sign) text) every_sign
