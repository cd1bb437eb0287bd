-- The tokens of lines, and the first line that has none.
use Rattle.std.specs.Prelude.{◌≡◌, ℕ, List, [], ◌∷◌, ◌++◌, Option, Some, None, flat_map, Ok, Err}
use Rattle.zim_answer.specs.Answer.{Answer, ◌>>=◌, goes}
use Rattle.zim_fault.specs.declared.faults.Place.{Place}
use Rattle.zim_fault.specs.declared.faults.Fault.{Fault}
use Rattle.zim_fault.specs.declared.kinds.Kind.{Kind}
use Rattle.zim_fault.specs.declared.tokens.Token.{Token}
use Rattle.zim_fault.specs.declared.tokens.Placed.{Placed}
use Rattle.zim_lex.specs.declared.lines.Line.{Line}
use Rattle.zim_lex.specs.Pieces.{token_of}
use Rattle.zim_lex.specs.Cut.{IsCut, IsStuck, cut}

-- a token at a place, if there is one
abbrev pub placed_token : Place → Option Token → List Placed
placed_token place None = []
placed_token place (Some token) = record { token = token; place = place } ∷ []

-- the tokens among the pieces of a line, each with the line's place
unfoldable pub tokens_at : Place → List (List ℕ) → List Placed
tokens_at place pieces = flat_map (λ piece. placed_token place (token_of piece)) pieces

-- the tokens of one line
pub record AreLineTokens (line : Line) (tokens : List Placed) : Type 0 where
  pub pieces : List (List ℕ)
  pub cut : IsCut line.bytes pieces
  pub tokens_are : tokens ≡ tokens_at line.place pieces

-- the tokens of each line in order
pub data AreTokens : List Line → List Placed → Type 0 where
  none : AreTokens [] []
  more : (line : Line) (lines : List Line) (first others : List Placed) → AreLineTokens line first → AreTokens lines others → AreTokens (line ∷ lines) (first ++ others)

-- the fault of the first line with a byte that begins no piece
pub data IsFirstStuck : List Line → Fault → Type 0 where
  here : (line : Line) (lines : List Line) (kind : Kind) → IsStuck line.bytes kind → IsFirstStuck (line ∷ lines) (record { place = line.place; kind = kind })
  later : (line : Line) (lines : List Line) (tokens : List Placed) (fault : Fault) → AreLineTokens line tokens → IsFirstStuck lines fault → IsFirstStuck (line ∷ lines) fault

-- a fault of a kind that is met at a place
abbrev pub met_at : {A : Type 0} → Place → Answer A Kind → Answer A Fault
met_at place (Ok value) = Ok value
met_at place (Err kind) = Err (record { place = place; kind = kind })

-- the tokens of a line, or its fault
unfoldable pub line_tokens : Line → Answer (List Placed) Fault
line_tokens line = met_at line.place (cut line.bytes) >>= λ pieces. Ok (tokens_at line.place pieces)

-- the tokens so far, and those of one more line
abbrev pub with_line : List Placed → Line → Answer (List Placed) Fault
with_line so_far line = line_tokens line >>= λ tokens. Ok (so_far ++ tokens)

-- the tokens of all lines in order, or the first line's fault
unfoldable pub tokens_of : List Line → Answer (List Placed) Fault
tokens_of lines = goes with_line [] lines
