-- The laws of tokens: lines have the tokens of one list, or one of them is the first that is stuck, and not both.
use Rattle.std.specs.Prelude.{◌≡◌, List}
use Rattle.zim_fault.specs.declared.faults.Fault.{Fault}
use Rattle.zim_fault.specs.declared.tokens.Placed.{Placed}
use Rattle.zim_lex.specs.declared.lines.Line.{Line}
use Rattle.zim_lex.specs.Tokens.{AreTokens, IsFirstStuck}

-- lines have tokens, or a byte of one of them begins no piece
pub data HaveTokensOrStick (lines : List Line) : Type 0 where
  cut_into : (placed : List Placed) → AreTokens lines placed → HaveTokensOrStick lines
  stuck_at : (fault : Fault) → IsFirstStuck lines fault → HaveTokensOrStick lines

-- lines have the tokens of one list at most
abbrev pub HaveOneList : List Line → Type 0
HaveOneList lines = (one other : List Placed) → AreTokens lines one → AreTokens lines other → one ≡ other

-- lines of which one is stuck have no tokens
abbrev pub StickWithoutTokens : List Line → Type 0
StickWithoutTokens lines = (fault : Fault) (placed : List Placed) → IsFirstStuck lines fault → AreTokens lines placed → ⊥

-- lines have one first fault at most
abbrev pub StickOnce : List Line → Type 0
StickOnce lines = (fault other : Fault) → IsFirstStuck lines fault → IsFirstStuck lines other → fault ≡ other
