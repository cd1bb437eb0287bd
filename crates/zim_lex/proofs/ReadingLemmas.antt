-- Reading a file piece by piece, with what is taken so far and what is left of it, where that is told.
use Rattle.std.proofs.Common.{◌≡◌, ℕ, ◌+◌, ◌≤◌, ◌<◌, List, [], ◌++◌, length, take, Option, Some, None, Result, inl, inr, refl, ap, sym, ◌∙◌, subst, arith, append_assoc, length-append, length-take}
use Rattle.std.specs.Prelude.{IfSome, count_by, ◌==◌}
use Rattle.std.specs.Io.KnownBytes.{prepend_known}
use Rattle.std.proofs.lemmas.List.{append-nil, take-append-le, take-take}
use Rattle.std.proofs.Math.Seq.{take-append-add}
use Rattle.zim_gate.specs.declared.stops.Failed.{Failed}
use Rattle.zim_gate.specs.Counts.{Rose}
use Rattle.zim_gate.specs.Folder.{FolderState, Reads, OnlyRead}
use Rattle.zim_lex.specs.declared.reading.ReadText.{ReadText}
use Rattle.zim_lex.specs.Lines.{lines_of, placed_lines}
use Rattle.zim_lex.specs.Reading.{IsWhole, IsPast}

pub OnlyRead-refl : (s : FolderState) → OnlyRead s s
OnlyRead-refl s = record { held = refl; wrote = refl; read_faults = omega arith; write_faults = refl; faultless_below = refl }

-- a call of `read` does nothing but read
pub OnlyRead-more : (a b c : FolderState) (buffer : List ℕ) (result : Result ℕ Failed) → OnlyRead a b → Reads b c buffer result → OnlyRead a c
OnlyRead-more a b c buffer result before reads = record {
  held = reads.held ∙ before.held;
  wrote = reads.wrote ∙ before.wrote;
  read_faults = omega (arith, before.read_faults, reads.read_faults);
  write_faults = reads.write_faults ∙ before.write_faults;
  faultless_below = reads.faultless_below ∙ before.faultless_below;
}

-- a count that rose later rose
pub rose_later : (a b c : ℕ) → a ≤ b → Rose b c → Rose a c
rose_later a b c low (inl rises) = inl (omega arith)
rose_later a b c low (inr last) = inr last

pub nothing_taken : (opened : Option (List ℕ)) → opened ≡ prepend_known [] opened
nothing_taken None = refl
nothing_taken (Some text) = refl

-- a piece more is taken
pub piece_taken : (opened left rest : Option (List ℕ)) (taken piece : List ℕ) → opened ≡ prepend_known taken left → left ≡ prepend_known piece rest → opened ≡ prepend_known (taken ++ piece) rest
piece_taken opened left rest taken piece so_far reads = so_far ∙ ap (prepend_known taken) reads ∙ joins rest where
  joins : (known : Option (List ℕ)) → prepend_known taken (prepend_known piece known) ≡ prepend_known (taken ++ piece) known
  joins None = refl
  joins (Some text) = ap Some (sym (append_assoc taken piece text))

-- the file is at its end
pub all_taken : (opened left : Option (List ℕ)) (taken : List ℕ) (read : ReadText) (most : ℕ) → opened ≡ prepend_known taken left → IfSome left (λ rest. rest ≡ []) → read.room + length taken ≡ most → read.lines ≡ placed_lines 0 1 (lines_of taken)
    → IfSome opened (λ text. IsWhole most text read)
all_taken opened None taken read most so_far at_end limit lines = subst (λ (o : Option (List ℕ)). IfSome o (λ text. IsWhole most text read)) (sym so_far) tt
all_taken opened (Some rest) taken read most so_far at_end limit lines =
    let whole : opened ≡ Some taken = so_far ∙ ap (λ (r : List ℕ). Some (taken ++ r)) at_end ∙ ap Some (append-nil taken) in
    subst (λ (o : Option (List ℕ)). IfSome o (λ text. IsWhole most text read)) (sym whole) (record { fits = omega (arith, limit); lines = lines })

-- the file has a byte too many
pub too_many : (opened left rest : Option (List ℕ)) (taken buffer : List ℕ) (n room most : ℕ) → opened ≡ prepend_known taken left → left ≡ prepend_known (take n buffer) rest → room + length taken ≡ most → room < n → n ≤ length buffer
    → IfSome opened (λ text. IsPast most text (count_by (λ b. b == 10) (taken ++ take room buffer) + 1))
too_many opened left None taken buffer n room most so_far reads full over within =
    subst (λ (o : Option (List ℕ)). IfSome o (λ text. IsPast most text (count_by (λ b. b == 10) (taken ++ take room buffer) + 1))) (sym (piece_taken opened left None taken (take n buffer) so_far reads)) tt
too_many opened left (Some rest) taken buffer n room most so_far reads full over within =
    let whole : opened ≡ Some (taken ++ (take n buffer ++ rest)) = so_far ∙ ap (prepend_known taken) reads in
    let limit : length taken + room ≡ most = omega arith in
    let long : most < length (taken ++ (take n buffer ++ rest)) = rw (length-append, length-append, length-take) (omega arith) in
    let piece : take room (take n buffer ++ rest) ≡ take room buffer = take_front n room buffer rest (omega arith) within in
    let front : take most (taken ++ (take n buffer ++ rest)) ≡ taken ++ take room buffer =
    ap (λ (k : ℕ). take k (taken ++ (take n buffer ++ rest))) (sym limit) ∙ take-append-add taken (take n buffer ++ rest) room ∙ ap (λ (p : List ℕ). taken ++ p) piece in
    subst (λ (o : Option (List ℕ)). IfSome o (λ text. IsPast most text (count_by (λ b. b == 10) (taken ++ take room buffer) + 1)))
    (sym whole) (record { long = long; line_is = ap (λ (bytes : List ℕ). count_by (λ b. b == 10) bytes + 1) (sym front) })
  where
    take_front : (m k : ℕ) (bytes after : List ℕ) → k ≤ m → m ≤ length bytes → take k (take m bytes ++ after) ≡ take k bytes
    take_front m k bytes after low high = take-append-le k (take m bytes) after (rw length-take (omega arith)) ∙ take-take k m bytes low
