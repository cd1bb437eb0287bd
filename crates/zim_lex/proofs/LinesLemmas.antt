-- The lines of a text have no more bytes than the text.
use Rattle.std.proofs.Common.{◌≡◌, ℕ, suc, ◌+◌, ◌≤◌, Bool, true, false, cond, List, [], ◌∷◌, length, refl, ap, ◌∙◌, arith}
use Rattle.std.specs.Prelude.{sum_by, ◌==◌, if◌then◌else◌}
use Rattle.std.specs.List.{slice_split, onto_first}
use Rattle.std.proofs.lemmas.List.Sums.{sum_by-cons}
use Rattle.zim_lex.specs.Lines.{without_empty_last, lines_of, placed_lines, bytes_of}

-- how many bytes some parts have together
abbrev bytes_in : List (List ℕ) → ℕ
bytes_in [] = 0
bytes_in (part ∷ parts) = length part + bytes_in parts

onto_first_bytes : (b : ℕ) (parts : List (List ℕ)) → bytes_in (onto_first b parts) ≤ suc (bytes_in parts)
onto_first_bytes b [] = omega arith
onto_first_bytes b (part ∷ parts) = omega arith

either_part : (b : ℕ) (parts : List (List ℕ)) (t : Bool) (n : ℕ) → bytes_in parts ≤ n → bytes_in (cond t ([] ∷ parts) (onto_first b parts)) ≤ suc n
either_part b parts true n few = omega arith
either_part b parts false n few = omega (arith, onto_first_bytes b parts)

split_bytes : (p : ℕ → Bool) (text : List ℕ) → bytes_in (slice_split p text) ≤ length text
split_bytes p [] = omega arith
split_bytes p (b ∷ bs) = either_part b (slice_split p bs) (p b) (length bs) (split_bytes p bs)

last_bytes : (parts : List (List ℕ)) → bytes_in (without_empty_last parts) ≤ bytes_in parts
last_bytes [] = omega arith
last_bytes (part ∷ []) = at (length part == 0) where
  at : (t : Bool) → bytes_in (if t then [] else part ∷ []) ≤ bytes_in (part ∷ [])
  at true = omega arith
  at false = omega arith
last_bytes (part ∷ next ∷ parts) = omega (arith, last_bytes (next ∷ parts))

placed_bytes : (n : ℕ) (parts : List (List ℕ)) → sum_by (λ line. length line.bytes) (placed_lines 0 n parts) ≡ bytes_in parts
placed_bytes n [] = refl
placed_bytes n (part ∷ parts) = sum_by-cons (λ line. length line.bytes) (record { place = record { file = 0; line = n }; bytes = part }) (placed_lines 0 (n + 1) parts) ∙ ap (λ (k : ℕ). length part + k) (placed_bytes (n + 1) parts)

-- the lines of a text have no more bytes than the text
pub lines_short : (text : List ℕ) → bytes_of (placed_lines 0 1 (lines_of text)) ≤ length text
unfolding lines_of
lines_short text = rw placed_bytes (omega (arith, last_bytes (slice_split (λ b. b == 10) text), split_bytes (λ b. b == 10) text))
