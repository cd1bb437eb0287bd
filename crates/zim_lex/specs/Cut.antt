-- The pieces of a line, each as long as it can be where it begins.
use Rattle.std.specs.Prelude.{◌≡◌, ℕ, zero, suc, ◌<◌, ◌≤◌, List, [], ◌∷◌, ◌++◌, length, take, drop, true, false, if◌then◌else◌, Option, Some, None, Ok, Err}
use Rattle.zim_answer.specs.Answer.{Answer, ◌>>=◌}
use Rattle.zim_fault.specs.declared.kinds.Kind.{Kind}
use Rattle.zim_fault.specs.declared.kinds.Kind.TheVariants.{BadByte, OpenString}
use Rattle.zim_lex.specs.Classes.{is_quote}
use Rattle.zim_lex.specs.Pieces.{is_piece}

-- the pieces one after another, and then the rest
abbrev pub pieces_joined : List (List ℕ) → List ℕ → List ℕ
pieces_joined [] rest = rest
pieces_joined (piece ∷ pieces) rest = piece ++ pieces_joined pieces rest

-- the bytes are a piece, and with one or more of those that follow they are none
pub record IsLongest (piece after : List ℕ) : Type 0 where
  pub is : is_piece piece ≡ true
  pub longest : (n : ℕ) → 0 < n → n ≤ length after → is_piece (piece ++ take n after) ≡ false

-- no piece could be longer where it begins
abbrev pub AreLongest : List (List ℕ) → List ℕ → Type 0
AreLongest [] rest = Unit {0}
AreLongest (piece ∷ pieces) rest = IsLongest piece (pieces_joined pieces rest) × AreLongest pieces rest

-- the pieces spell the line
pub record IsCut (line : List ℕ) (pieces : List (List ℕ)) : Type 0 where
  pub spelled : pieces_joined pieces [] ≡ line
  pub longest : AreLongest pieces []

-- the fault of a byte that begins no piece: of a quote, that it isn't closed on its line
abbrev pub stuck_at : ℕ → Kind
stuck_at b = if is_quote b then OpenString else BadByte

-- after some pieces comes a byte that begins none, which is this fault
pub record IsStuck (line : List ℕ) (kind : Kind) : Type 0 where
  pub pieces : List (List ℕ)
  pub byte : ℕ
  pub after : List ℕ
  pub spelled : pieces_joined pieces (byte ∷ after) ≡ line
  pub longest : AreLongest pieces (byte ∷ after)
  pub begins_none : (n : ℕ) → is_piece (take n (byte ∷ after)) ≡ false
  pub met : stuck_at byte ≡ kind

-- the greatest number up to `most` of bytes at the front that are a piece
abbrev pub longest_up_to : ℕ → List ℕ → Option ℕ
longest_up_to zero bytes = None
longest_up_to (suc n) bytes = if is_piece (take (suc n) bytes) then Some (suc n) else longest_up_to n bytes

-- the length of the longest piece at the front
unfoldable pub longest : List ℕ → Option ℕ
longest bytes = longest_up_to (length bytes) bytes

-- the length that is found, or the fault of the byte that begins no piece
abbrev pub or_stuck : ℕ → Option ℕ → Answer ℕ Kind
or_stuck b (Some n) = Ok n
or_stuck b None = Err (stuck_at b)

-- the pieces from left to right, at most so many: a line has no more than bytes
unfoldable pub cut_up_to : ℕ → List ℕ → Answer (List (List ℕ)) Kind
cut_up_to most [] = Ok []
cut_up_to zero (byte ∷ bytes) = Ok []
cut_up_to (suc most) (byte ∷ bytes) = do
  n ← or_stuck byte (longest (byte ∷ bytes))
  others ← cut_up_to most (drop n (byte ∷ bytes))
  Ok (take n (byte ∷ bytes) ∷ others)

-- the pieces of a line from left to right, each the longest one where it begins; by the law `cutting_is_exact` they are the
-- only list of pieces of which none could be longer, and the line has none exactly where a byte begins no piece
unfoldable pub cut : List ℕ → Answer (List (List ℕ)) Kind
cut line = cut_up_to (length line) line
