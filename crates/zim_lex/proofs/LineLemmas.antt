-- The tokens of a line as a loop over its pieces meets them.
use Rattle.std.proofs.Common.{◌≡◌, ℕ, ◌≤◌, ◌<◌, true, List, [], ◌∷◌, ◌++◌, length, take, drop, get_or, Some, None, Ok, Err, refl, ap, sym, ◌∙◌, arith, append_assoc, length-drop}
use Rattle.std.proofs.lemmas.List.{append-nil}
use Rattle.std.proofs.lemmas.List.Concat.{flat_map-cons}
use Rattle.zim_answer.specs.Answer.{Answer, ◌>>=◌}
use Rattle.zim_fault.specs.declared.faults.Place.{Place}
use Rattle.zim_fault.specs.declared.faults.Fault.{Fault}
use Rattle.zim_fault.specs.declared.kinds.Kind.{Kind}
use Rattle.zim_fault.specs.declared.tokens.Placed.{Placed}
use Rattle.zim_lex.specs.declared.lines.Line.{Line}
use Rattle.zim_lex.specs.Pieces.{is_piece, token_of}
use Rattle.zim_lex.specs.Cut.{longest, stuck_at, cut}
use Rattle.zim_lex.specs.Tokens.{placed_token, tokens_at, met_at, line_tokens, with_line}
use Rattle.zim_lex.proofs.CutLaws.{front_of, cut-nil, cut-turn, cut-stuck}

-- the tokens so far, and those of the bytes that are left of a line
abbrev pub with_bytes : List Placed → Place → List ℕ → Answer (List Placed) Fault
with_bytes so_far place bytes = met_at place (cut bytes) >>= λ pieces. Ok (so_far ++ tokens_at place pieces)

tokens_at-cons : (place : Place) (piece : List ℕ) (pieces : List (List ℕ)) → tokens_at place (piece ∷ pieces) ≡ placed_token place (token_of piece) ++ tokens_at place pieces
unfolding tokens_at
tokens_at-cons place piece pieces = flat_map-cons (λ p. placed_token place (token_of p)) piece pieces

-- at first all of the line is left
pub line_left : (so_far : List Placed) (line : Line) → with_line so_far line ≡ with_bytes so_far line.place line.bytes
unfolding line_tokens
line_left so_far line = at (cut line.bytes) where
  at : (pieces : Answer (List (List ℕ)) Kind) → ((met_at line.place pieces >>= λ ps. Ok (tokens_at line.place ps)) >>= λ tokens. Ok (so_far ++ tokens)) ≡ (met_at line.place pieces >>= λ ps. Ok (so_far ++ tokens_at line.place ps))
  at (Ok pieces) = refl
  at (Err kind) = refl

-- one piece further
pub with_bytes-turn : (so_far : List Placed) (place : Place) (bytes : List ℕ) (n : ℕ) → longest bytes ≡ Some n
    → with_bytes so_far place bytes ≡ with_bytes (so_far ++ placed_token place (token_of (take n bytes))) place (drop n bytes)
with_bytes-turn so_far place bytes n found =
    ap (λ (a : Answer (List (List ℕ)) Kind). met_at place a >>= λ pieces. Ok (so_far ++ tokens_at place pieces)) (cut-turn bytes n found)
    ∙ at (cut (drop n bytes))
  where
    at : (rest : Answer (List (List ℕ)) Kind) → (met_at place (rest >>= λ others. Ok (take n bytes ∷ others)) >>= λ pieces. Ok (so_far ++ tokens_at place pieces))
        ≡ (met_at place rest >>= λ pieces. Ok ((so_far ++ placed_token place (token_of (take n bytes))) ++ tokens_at place pieces))
    at (Ok pieces) = ap Ok (rw tokens_at-cons (sym (append_assoc so_far (placed_token place (token_of (take n bytes))) (tokens_at place pieces))))
    at (Err kind) = refl

-- a byte that begins no piece
pub with_bytes-stuck : (so_far : List Placed) (place : Place) (bytes : List ℕ) → 0 < length bytes → longest bytes ≡ None → with_bytes so_far place bytes ≡ Err (record { place = place; kind = stuck_at (get_or bytes 0 0) })
with_bytes-stuck so_far place bytes some none = rw (cut-stuck bytes some none) refl

-- the bytes that are left become fewer with each piece
pub fewer_left : (bytes : List ℕ) (n : ℕ) → longest bytes ≡ Some n → length (drop n bytes) < length bytes
fewer_left bytes n found = let front = front_of bytes n found in rw length-drop (omega (arith, front.some, front.within))

pub piece_in : (bytes : List ℕ) (n : ℕ) → longest bytes ≡ Some n → n ≤ length bytes
piece_in bytes n found = let front = front_of bytes n found in front.within

pub is_front : (bytes : List ℕ) (n : ℕ) → longest bytes ≡ Some n → is_piece (take n bytes) ≡ true
is_front bytes n found = let front = front_of bytes n found in front.is

-- nothing is left
pub with_bytes-done : (so_far : List Placed) (place : Place) (bytes : List ℕ) → bytes ≡ [] → with_bytes so_far place bytes ≡ Ok so_far
unfolding tokens_at
with_bytes-done so_far place bytes none = rw (none, cut-nil) (ap Ok (append-nil so_far))
