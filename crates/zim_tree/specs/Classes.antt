-- The terminals that the rules of expressions don't tell apart, and how strongly an operator binds.
use Rattle.zim_fault.specs.declared.tokens.Token.{Token}
use Rattle.zim_fault.specs.declared.tokens.Token.TheVariants.{Name as name_token, Word as word_token, Number as number_token, Text as text_token, Sign as sign_token}
use Rattle.zim_fault.specs.declared.signs.Sign.{Sign}
use Rattle.zim_fault.specs.declared.signs.Sign.TheVariants.{SComma, SColon, SLeftParen, SRightParen, SLeftBracket, SRightBracket, SLeftBrace, SRightBrace, SLess, SGreater, SLessEqual, SGreaterEqual, SEqual, SNotEqual, SPlus, SMinus, SStar, SStarStar, SSlash, SCaret, SExclamation, SBar, SBackslash, SDots}
use Rattle.zim_fault.specs.declared.words.Word.{Word}
use Rattle.zim_fault.specs.declared.words.Word.TheVariants.{WDo, WForall, WSum, WProd, WMin, WMax, WArgmin, WArgmax, WIf, WThen, WElse, WEnd, WVif, WVabs, WAnd, WOr, WXor, WNot, WIn, WWith, WTo, WBy, WUnion, WInter, WCross, WWithout, WSymdiff, WMod, WDiv, WInfinity, WTrue, WFalse, WProj, WPowerset, WSubsets, WIndexset, WAbs, WSgn, WFloor, WCeil, WRound, WCard, WOrd, WLength, WSubstr}
use Rattle.zim_tree.specs.declared.classes.Class.{Class}
use Rattle.zim_tree.specs.declared.classes.Class.TheVariants.{Number, Text, Truth, Infinity, Name, PlusOrMinus, OtherSum, Product, Power, Exclamation, Less, Greater, OtherRelation, And, OrOrXor, Not, In, Forall, Loop, MinOrMax, Function, Family, Proj, IfOrVif, Then, Else, End, WithOrBar, ColonOrDo, Comma, DotsOrTo, By, LeftParen, RightParen, LeftBracket, RightBracket, LeftBrace, RightBrace, Other}

-- the class of a word
abbrev pub word_class : Word → Class
word_class WTrue = Truth
word_class WFalse = Truth
word_class WInfinity = Infinity
word_class WUnion = OtherSum
word_class WWithout = OtherSum
word_class WSymdiff = OtherSum
word_class WMod = Product
word_class WDiv = Product
word_class WCross = Product
word_class WInter = Product
word_class WAnd = And
word_class WOr = OrOrXor
word_class WXor = OrOrXor
word_class WNot = Not
word_class WIn = In
word_class WForall = Forall
word_class WSum = Loop
word_class WProd = Loop
word_class WArgmin = Loop
word_class WArgmax = Loop
word_class WMin = MinOrMax
word_class WMax = MinOrMax
word_class WAbs = Function
word_class WSgn = Function
word_class WFloor = Function
word_class WCeil = Function
word_class WRound = Function
word_class WCard = Function
word_class WOrd = Function
word_class WLength = Function
word_class WSubstr = Function
word_class WIndexset = Function
word_class WVabs = Function
word_class WPowerset = Family
word_class WSubsets = Family
word_class WProj = Proj
word_class WIf = IfOrVif
word_class WVif = IfOrVif
word_class WThen = Then
word_class WElse = Else
word_class WEnd = End
word_class WWith = WithOrBar
word_class WDo = ColonOrDo
word_class WTo = DotsOrTo
word_class WBy = By
word_class _ = Other

-- the class of a sign
abbrev pub sign_class : Sign → Class
sign_class SPlus = PlusOrMinus
sign_class SMinus = PlusOrMinus
sign_class SBackslash = OtherSum
sign_class SStar = Product
sign_class SSlash = Product
sign_class SStarStar = Power
sign_class SCaret = Power
sign_class SExclamation = Exclamation
sign_class SLess = Less
sign_class SGreater = Greater
sign_class SLessEqual = OtherRelation
sign_class SGreaterEqual = OtherRelation
sign_class SEqual = OtherRelation
sign_class SNotEqual = OtherRelation
sign_class SBar = WithOrBar
sign_class SColon = ColonOrDo
sign_class SComma = Comma
sign_class SDots = DotsOrTo
sign_class SLeftParen = LeftParen
sign_class SRightParen = RightParen
sign_class SLeftBracket = LeftBracket
sign_class SRightBracket = RightBracket
sign_class SLeftBrace = LeftBrace
sign_class SRightBrace = RightBrace
sign_class _ = Other

-- the class of a token
abbrev pub token_class : Token → Class
token_class (name_token _) = Name
token_class (number_token _) = Number
token_class (text_token _ _) = Text
token_class (word_token w) = word_class w
token_class (sign_token s) = sign_class s
