-- How much more there is after a line and after a file.
use Rattle.std.proofs.Common.{◌≡◌, ℕ, ◌+◌, ◌≤◌, ◌<◌, List, [], ◌∷◌, ◌++◌, length, ap, sym, ◌∙◌, subst, arith, length-append}
use Rattle.std.specs.Prelude.{All}
use Rattle.std.proofs.lemmas.List.Elements.{All-append, All-nil, All-cons}
use Rattle.std.proofs.lemmas.List.Sums.{sum_by-cons, sum_by-append}
use Rattle.zim_lex.specs.declared.expanding.Expansion.{Expansion}
use Rattle.zim_lex.specs.declared.lines.Line.{Line}
use Rattle.zim_lex.specs.Expanding.{Grows}
use Rattle.zim_lex.specs.Lines.{bytes_of}

-- the same while lines of a file are left
pub record Growing (old new : Expansion) (left : ℕ) : Type 0 where
  pub files : length new.files + new.room + left ≤ length old.files + old.room + 1
  pub bytes : bytes_of new.lines + new.room + left ≤ bytes_of old.lines + old.room
  pub more : length old.files < length new.files
  pub places : All (λ line. line.place.file < length old.files) old.lines → All (λ line. line.place.file < length new.files) new.lines

all_more : (n m : ℕ) (lines : List Line) → n ≤ m → All (λ line. line.place.file < n) lines → All (λ line. line.place.file < m) lines
all_more n m lines low all k d within = let here = all k d within in omega (arith, here)

-- a file was opened
pub growing_first : (old new : Expansion) (name : List ℕ) (left : ℕ) → new.lines ≡ old.lines → new.files ≡ old.files ++ name ∷ [] → left + new.room ≤ old.room → Growing old new left
growing_first old new name left lines files room =
    let count : length new.files ≡ length old.files + 1 = ap length files ∙ length-append old.files (name ∷ []) in
    let bytes : bytes_of new.lines ≡ bytes_of old.lines = ap bytes_of lines in record {
      files = omega (arith, count);
      bytes = omega (arith, bytes);
      more = omega (arith, count);
      places = λ all. subst (All (λ line. line.place.file < length new.files)) (sym lines) (all_more (length old.files) (length new.files) old.lines (omega (arith, count)) all);
    }

-- one of its lines was taken
pub growing_on : (old mid new : Expansion) (length_now left rest : ℕ) → left ≡ length_now + rest → Growing old mid left → Grows mid new length_now length_now → Growing old new rest
growing_on old mid new length_now left rest split so_far grows = record {
  files = omega (arith, split, so_far.files, grows.files);
  bytes = omega (arith, split, so_far.bytes, grows.bytes);
  more = omega (arith, so_far.more, grows.more);
  places = λ all. grows.places (so_far.places all);
}

-- all of them were
pub growing_done : (old new : Expansion) (left : ℕ) → Growing old new left → Grows old new 1 0
growing_done old new left growing = record {
  files = omega (arith, growing.files);
  bytes = omega (arith, growing.bytes);
  more = omega (arith, growing.more);
  places = growing.places;
}

-- a line as it is
pub grows_line : (old new : Expansion) (line : Line) → new.lines ≡ old.lines ++ line ∷ [] → new.files ≡ old.files → new.room ≡ old.room → line.place.file < length old.files → Grows old new (length line.bytes) (length line.bytes)
grows_line old new line lines files room place =
    let count : length new.files ≡ length old.files = ap length files in
    let one : bytes_of (line ∷ []) ≡ length line.bytes + 0 = sum_by-cons (λ l. length l.bytes) line [] in
    let bytes : bytes_of new.lines ≡ bytes_of old.lines + bytes_of (line ∷ []) = ap bytes_of lines ∙ sum_by-append (λ l. length l.bytes) old.lines (line ∷ []) in record {
      files = omega (arith, count, room);
      bytes = omega (arith, bytes, one, room);
      more = omega (arith, count);
      places = λ all.
          subst (All (λ l. l.place.file < length new.files)) (sym lines)
          (All-append (λ l. l.place.file < length new.files) old.lines (line ∷ []) (all_more (length old.files) (length new.files) old.lines (omega (arith, count)) all)
          (All-cons (λ l. l.place.file < length new.files) line [] (omega (arith, count, place)) (All-nil (λ l. l.place.file < length new.files))));
    }

-- an include line, which has a byte or more
pub grows_include : (old new : Expansion) (bytes : ℕ) → 0 < bytes → Grows old new 1 0 → Grows old new bytes bytes
grows_include old new bytes some grows = record {
  files = omega (arith, grows.files);
  bytes = omega (arith, grows.bytes);
  more = grows.more;
  places = grows.places;
}
