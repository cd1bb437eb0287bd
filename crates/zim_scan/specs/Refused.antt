-- The words that are refused.
use Rattle.std.specs.Prelude.{List, [], ◌∷◌, Bool, true, false, Option, Some, None, if◌then◌else◌}
use Rattle.zim_fault.specs.declared.faults.Place.{Place}
use Rattle.zim_fault.specs.declared.tokens.Token.{Token}
use Rattle.zim_fault.specs.declared.tokens.Token.TheVariants.{Word as word_token}
use Rattle.zim_fault.specs.declared.tokens.Placed.{Placed}
use Rattle.zim_fault.specs.declared.words.Word.{Word}
use Rattle.zim_fault.specs.declared.words.Word.TheVariants.{WRandom, WSqrt, WLog, WLn, WExp, WMatch, WSos, WImplicit, WExists, WScale, WSeparate, WCheckonly, WIndicator}

-- the words that stand in the language and are refused
abbrev pub is_refused : Word → Bool
is_refused WRandom = true
is_refused WSqrt = true
is_refused WLog = true
is_refused WLn = true
is_refused WExp = true
is_refused WMatch = true
is_refused WSos = true
is_refused WImplicit = true
is_refused WExists = true
is_refused WScale = true
is_refused WSeparate = true
is_refused WCheckonly = true
is_refused WIndicator = true
is_refused _ = false

-- a word, if it is refused
abbrev pub refused_word : Word → Option Word
refused_word w = if is_refused w then Some w else None

-- the refused word that a token is, if it is one
abbrev pub refused_in : Token → Option Word
refused_in (word_token w) = refused_word w
refused_in _ = None

-- the first refused word, with its place
abbrev pub refused_or : Placed → Option Word → Option (Place × Word) → Option (Place × Word)
refused_or t None later = later
refused_or t (Some w) later = Some (t.place, w)

-- the first refused word of a list of tokens, with its place
unfoldable pub first_refused : List Placed → Option (Place × Word)
first_refused [] = None
first_refused (t ∷ rest) = refused_or t (refused_in t.token) (first_refused rest)
