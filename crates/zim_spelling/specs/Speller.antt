-- What a speller did: it went on by the spelling of a part.
use Rattle.std.specs.Prelude.{◌≡◌, [], ◌++◌, Option, None, Some, IsOk, OnOk}
use Rattle.zim_spelling.specs.declared.speller.Speller.{Speller}
use Rattle.zim_fault.specs.declared.words.Word.{Word}
use Rattle.zim_tree.specs.Spelling.{Tokens, a_word}

-- a speller went on by these tokens: if nothing has failed in the end, nothing had failed before, and the list grew by them
pub record Spells (old new : Speller) (text : Tokens) : Type 0 where
  pub before : OnOk new.outcome (IsOk old.outcome)
  pub tokens : OnOk new.outcome (new.tokens ≡ old.tokens ++ text)

-- a word and a part behind it, if the part is there
abbrev pub behind : Word → Option Tokens → Tokens
behind keyword None = []
behind keyword (Some part) = a_word keyword ++ part
