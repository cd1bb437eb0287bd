-- The lines of a text that is taken in pieces.
use Rattle.std.proofs.Common.{◌≡◌, ℕ, zero, suc, ◌+◌, ◌≤◌, ◌<◌, Bool, true, false, List, [], ◌∷◌, ◌++◌, length, take, get_or, map, refl, ap, sym, ◌∙◌, arith, append_assoc, length-append, length-take}
use Rattle.std.proofs.lemmas.Bool.Decides.{nat_tests}
use Rattle.std.specs.Prelude.{All, flat_map, count_by, ◌==◌, if◌then◌else◌}
use Rattle.std.specs.List.{slice_split}
use Rattle.std.proofs.lemmas.List.{append-nil, map-append, length-map}
use Rattle.std.proofs.lemmas.List.Concat.{flat_map-cons, flat_map-append}
use Rattle.std.proofs.lemmas.List.Elements.{All-append, All-nil, All-cons}
use Rattle.std.proofs.lemmas.List.Splits.{slice_split_at, slice_split_none, length-slice_split}
use Rattle.zim_lex.specs.declared.lines.Line.{Line}
use Rattle.zim_lex.specs.Lines.{most_bytes, without_empty_last, lines_of, placed_lines}
use Rattle.zim_lex.specs.Text.{HasNoEnd, text_of, IsText}

-- a line that is number n of the first file
abbrev pub numbered_line : ℕ → List ℕ → Line
numbered_line n bytes = record { place = record { file = 0; line = n }; bytes = bytes }

abbrev pub bytes_of : List Line → List (List ℕ)
bytes_of lines = map (λ line. line.bytes) lines

text_of-cons : (line : Line) (lines : List Line) (bytes : List ℕ) → text_of (line ∷ lines) bytes ≡ line.bytes ++ 10 ∷ text_of lines bytes
text_of-cons line lines bytes = rw (flat_map-cons, append_assoc, append_assoc) refl

-- the open line grows
pub text_of-grown : (lines : List Line) (bytes more : List ℕ) → text_of lines (bytes ++ more) ≡ text_of lines bytes ++ more
text_of-grown lines bytes more = sym (append_assoc (flat_map (λ line. line.bytes ++ 10 ∷ []) lines) bytes more)

-- the open line ends
pub text_of-ended : (lines : List Line) (line : Line) → text_of (lines ++ line ∷ []) [] ≡ text_of lines line.bytes ++ 10 ∷ []
text_of-ended lines line =
    let each : Line → List ℕ = λ l. l.bytes ++ 10 ∷ [] in
    append-nil (flat_map each (lines ++ line ∷ [])) ∙ flat_map-append each lines (line ∷ [])
    ∙ ap (λ (end : List ℕ). flat_map each lines ++ end) (flat_map-cons each line [] ∙ append-nil (each line))
    ∙ sym (append_assoc (flat_map each lines) line.bytes (10 ∷ []))

pub lines_fit : (lines : List Line) (bytes : List ℕ) → length lines + length bytes ≤ length (text_of lines bytes)
lines_fit [] bytes = omega arith
lines_fit (line ∷ lines) bytes = rw (text_of-cons, length-append) (omega (arith, lines_fit lines bytes))

-- the parts of the text at its line ends
pub split_text : (lines : List Line) (bytes : List ℕ) → All (λ line. HasNoEnd line.bytes) lines → HasNoEnd bytes → slice_split (λ b. b == 10) (text_of lines bytes) ≡ bytes_of lines ++ bytes ∷ []
split_text [] bytes ended unended = slice_split_none (λ b. b == 10) bytes unended
split_text (line ∷ lines) bytes ended unended =
    ap (slice_split (λ b. b == 10)) (text_of-cons line lines bytes)
    ∙ slice_split_at (λ b. b == 10) line.bytes 10 (text_of lines bytes) (ended 0 line (omega arith)) refl
    ∙ ap (λ (parts : List (List ℕ)). line.bytes ∷ parts) (split_text lines bytes (λ k d low. ended (suc k) d (omega arith)) unended)

-- the line that the text ends in
pub line_of_text : (lines : List Line) (bytes : List ℕ) → All (λ line. HasNoEnd line.bytes) lines → HasNoEnd bytes → count_by (λ b. b == 10) (text_of lines bytes) + 1 ≡ length lines + 1
line_of_text lines bytes ended unended =
    sym (length-slice_split (λ b. b == 10) (text_of lines bytes)) ∙ ap length (split_text lines bytes ended unended) ∙ rw (length-append, length-map) refl

last_line : (parts : List (List ℕ)) (bytes : List ℕ) → without_empty_last (parts ++ bytes ∷ []) ≡ parts ++ (if length bytes == 0 then [] else bytes ∷ [])
last_line [] bytes = refl
last_line (part ∷ []) bytes = refl
last_line (part ∷ next ∷ parts) bytes = ap (λ (ps : List (List ℕ)). part ∷ ps) (last_line (next ∷ parts) bytes)

-- the lines of the text
pub lines_of_text : (lines : List Line) (bytes : List ℕ) → All (λ line. HasNoEnd line.bytes) lines → HasNoEnd bytes → lines_of (text_of lines bytes) ≡ bytes_of lines ++ (if length bytes == 0 then [] else bytes ∷ [])
unfolding lines_of
lines_of_text lines bytes ended unended = ap without_empty_last (split_text lines bytes ended unended) ∙ last_line (bytes_of lines) bytes

-- one line more
placed_lines-more : (n : ℕ) (parts : List (List ℕ)) (bytes : List ℕ) → placed_lines 0 n (parts ++ bytes ∷ []) ≡ placed_lines 0 n parts ++ numbered_line (n + length parts) bytes ∷ []
placed_lines-more n [] bytes = (let same : n ≡ n + 0 = omega arith in ap (λ (k : ℕ). numbered_line k bytes ∷ []) same)
placed_lines-more n (part ∷ parts) bytes =
    let same : (n + 1) + length parts ≡ n + suc (length parts) = omega arith in
    ap (λ (lines : List Line). numbered_line n part ∷ lines) (placed_lines-more (n + 1) parts bytes ∙ ap (λ (k : ℕ). placed_lines 0 (n + 1) parts ++ numbered_line k bytes ∷ []) same)

-- the numbered lines and the next one
pub numbered_more : (lines : List Line) (bytes : List ℕ) → lines ≡ placed_lines 0 1 (bytes_of lines) → lines ++ numbered_line (length lines + 1) bytes ∷ [] ≡ placed_lines 0 1 (bytes_of lines ++ bytes ∷ [])
numbered_more lines bytes numbered =
    let same : length lines + 1 ≡ 1 + length (bytes_of lines) = rw length-map (omega arith) in
    ap (λ (front : List Line). front ++ numbered_line (length lines + 1) bytes ∷ []) numbered
    ∙ ap (λ (k : ℕ). placed_lines 0 1 (bytes_of lines) ++ numbered_line k bytes ∷ []) same
    ∙ sym (placed_lines-more 1 (bytes_of lines) bytes)

-- nothing is taken yet
pub IsText-nil : IsText [] []
IsText-nil = record { numbered = refl; ended = All-nil (λ line. HasNoEnd line.bytes); unended = All-nil (λ b. (b == 10) ≡ false); short = omega arith }

-- the open line grows
pub IsText-grown : (lines : List Line) (bytes more : List ℕ) → IsText lines bytes → HasNoEnd more → length (text_of lines bytes) + length more ≤ most_bytes → IsText lines (bytes ++ more)
IsText-grown lines bytes more text plain room = record {
  numbered = text.numbered;
  ended = text.ended;
  unended = All-append (λ b. (b == 10) ≡ false) bytes more text.unended plain;
  short = rw (text_of-grown, length-append) room;
}

-- the open line is lost
pub IsText-lost : (lines : List Line) (bytes : List ℕ) → IsText lines bytes → IsText lines []
IsText-lost lines bytes text = record {
  numbered = text.numbered;
  ended = text.ended;
  unended = All-nil (λ b. (b == 10) ≡ false);
  short = (let fits : length (flat_map (λ line. line.bytes ++ 10 ∷ []) lines) + length bytes ≤ most_bytes = simp length-append at text.short in rw length-append (omega arith));
}

-- the open line ends
pub IsText-ended : (lines : List Line) (bytes : List ℕ) → IsText lines bytes → length (text_of lines bytes) + 1 ≤ most_bytes → IsText (lines ++ numbered_line (length lines + 1) bytes ∷ []) []
IsText-ended lines bytes text room = record {
  numbered = numbered_more lines bytes text.numbered ∙ ap (placed_lines 0 1) (sym (map-append (λ line. line.bytes) lines (numbered_line (length lines + 1) bytes ∷ [])));
  ended = All-append (λ line. HasNoEnd line.bytes) lines (numbered_line (length lines + 1) bytes ∷ []) text.ended (All-cons (λ line. HasNoEnd line.bytes) (numbered_line (length lines + 1) bytes) [] text.unended (All-nil (λ line. HasNoEnd line.bytes)));
  unended = All-nil (λ b. (b == 10) ≡ false);
  short = rw (text_of-ended, length-append) room;
}

-- no more lines than bytes
pub lines_short : (lines : List Line) (bytes : List ℕ) → IsText lines bytes → length lines ≤ most_bytes
lines_short lines bytes text = omega (arith, lines_fit lines bytes, text.short)

-- the open line grows and ends
pub IsText-line : (lines : List Line) (bytes more : List ℕ) → IsText lines bytes → HasNoEnd more → length (text_of lines bytes) + length more + 1 ≤ most_bytes → IsText (lines ++ numbered_line (length lines + 1) (bytes ++ more) ∷ []) []
IsText-line lines bytes more text plain room =
    IsText-ended lines (bytes ++ more) (IsText-grown lines bytes more text plain (omega arith)) (rw (text_of-grown, length-append) room)

pub text_of-line : (lines : List Line) (bytes more : List ℕ) (n : ℕ) → text_of (lines ++ numbered_line n (bytes ++ more) ∷ []) [] ≡ text_of lines bytes ++ more ++ 10 ∷ []
text_of-line lines bytes more n = text_of-ended lines (numbered_line n (bytes ++ more)) ∙ ap (λ (text : List ℕ). text ++ 10 ∷ []) (text_of-grown lines bytes more)

-- a piece that fits, as it is taken line by line
pub line_fits : (taken rest old piece : List ℕ) (end : ℕ) → taken ++ rest ≡ old ++ piece → length old + length piece ≤ most_bytes → end < length rest → length taken + length (take end rest) + 1 ≤ most_bytes
line_fits taken rest old piece end same room low =
    let lengths : length taken + length rest ≡ length old + length piece = sym (length-append taken rest) ∙ ap length same ∙ length-append old piece in
    rw length-take (omega arith)

pub rest_fits : (taken rest old piece : List ℕ) → taken ++ rest ≡ old ++ piece → length old + length piece ≤ most_bytes → length taken + length rest ≤ most_bytes
rest_fits taken rest old piece same room =
    let lengths : length taken + length rest ≡ length old + length piece = sym (length-append taken rest) ∙ ap length same ∙ length-append old piece in
    omega arith

-- the whole text has no open line
pub finished_closed : (lines : List Line) (bytes : List ℕ) → IsText lines bytes → bytes ≡ [] → lines ≡ placed_lines 0 1 (lines_of (text_of lines bytes))
finished_closed lines bytes text none =
    let parts : lines_of (text_of lines bytes) ≡ bytes_of lines = lines_of_text lines bytes text.ended text.unended ∙ rw none (append-nil (bytes_of lines)) in
    text.numbered ∙ ap (placed_lines 0 1) (sym parts)

-- or it has one
pub finished_open : (lines : List Line) (bytes : List ℕ) → IsText lines bytes → (bytes ≡ [] → ⊥) → lines ++ numbered_line (length lines + 1) bytes ∷ [] ≡ placed_lines 0 1 (lines_of (text_of lines bytes))
finished_open lines [] text some = absurd (some refl)
finished_open lines (b ∷ bs) text some =
    let more : (length (b ∷ bs) == 0) ≡ false = grind (arith, nat_tests) in
    let parts : lines_of (text_of lines (b ∷ bs)) ≡ bytes_of lines ++ (b ∷ bs) ∷ [] = lines_of_text lines (b ∷ bs) text.ended text.unended ∙ rw more refl in
    numbered_more lines (b ∷ bs) text.numbered ∙ ap (placed_lines 0 1) (sym parts)

is_false : (b : Bool) → (b ≡ true → ⊥) → b ≡ false
is_false true h = absurd (h refl)
is_false false h = refl

-- bytes among which a search finds no byte 10
pub never_ends : (bytes : List ℕ) → ((k : ℕ) → 0 ≤ k → k < length bytes → (get_or bytes k 0 == 10) ≡ true → ⊥) → HasNoEnd bytes
never_ends [] nowhere k d low = absurd (omega arith)
never_ends (b ∷ bs) nowhere zero d low = is_false (b == 10) (nowhere 0 (omega arith) low)
never_ends (b ∷ bs) nowhere (suc k) d low = never_ends bs (λ j any within. nowhere (suc j) (omega arith) (omega arith)) k d (omega arith)
