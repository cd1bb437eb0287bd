-- Reading a file piece by piece, with what is taken so far and what is left of it, where that is told.
use Rattle.std.proofs.Common.{◌≡◌, ℕ, ◌+◌, ◌≤◌, ◌<◌, true, false, List, [], ◌++◌, length, take, Option, Some, None, Result, inl, inr, refl, ap, sym, ◌∙◌, subst, arith, append_assoc, length-append, length-take}
use Rattle.std.specs.Prelude.{IfSome, nat_le, ⊤}
use Rattle.std.specs.Io.KnownBytes.{prepend_known}
use Rattle.std.proofs.lemmas.Bool.Decides.{nat_tests}
use Rattle.std.proofs.lemmas.List.{append-nil, take-append-le, take-take, take_all}
use Rattle.std.proofs.Math.Seq.{take-append-add}
use Rattle.zim_gate.specs.declared.stops.Failed.{Failed}
use Rattle.zim_gate.specs.declared.stops.OpenStop.{OpenStop}
use Rattle.zim_gate.specs.Counts.{Rose}
use Rattle.zim_gate.specs.Folder.{FolderState, Opens, Reads, OnlyRead}
use Rattle.zim_read.specs.Lines.{most_file_bytes}
use Rattle.zim_read.specs.Private.{kept_of}

pub OnlyRead-refl : (s : FolderState) → OnlyRead s s
OnlyRead-refl s = record { held = refl; wrote = refl; read_faults = omega arith; write_faults = refl; faultless_below = refl }

-- a call of `read` does nothing but read
pub OnlyRead-more : (a b c : FolderState) (buffer : List ℕ) (result : Result ℕ Failed) → OnlyRead a b → Reads b c buffer result → OnlyRead a c
OnlyRead-more a b c buffer result before reads = record {
  held = reads.held ∙ before.held;
  wrote = reads.wrote ∙ before.wrote;
  read_faults = omega (arith, before.read_faults, reads.read_faults);
  write_faults = reads.write_faults ∙ before.write_faults;
  faultless_below = reads.faultless_below ∙ before.faultless_below;
}

-- a count that rose later rose
pub rose_later : (a b c : ℕ) → a ≤ b → Rose b c → Rose a c
rose_later a b c low (inl rises) = inl (omega arith)
rose_later a b c low (inr last) = inr last

-- a call of `open` does nothing but read
pub OnlyRead-open : (a b : FolderState) (name : List ℕ) (result : Result ⊤ OpenStop) → Opens a b name result → OnlyRead a b
OnlyRead-open a b name result opens = record {
  held = opens.held;
  wrote = opens.wrote;
  read_faults = opens.read_faults;
  write_faults = opens.write_faults;
  faultless_below = opens.faultless_below;
}

pub OnlyRead-both : (a b c : FolderState) → OnlyRead a b → OnlyRead b c → OnlyRead a c
OnlyRead-both a b c before after = record {
  held = after.held ∙ before.held;
  wrote = after.wrote ∙ before.wrote;
  read_faults = omega (arith, before.read_faults, after.read_faults);
  write_faults = after.write_faults ∙ before.write_faults;
  faultless_below = after.faultless_below ∙ before.faultless_below;
}

pub nothing_taken : (opened : Option (List ℕ)) → opened ≡ prepend_known [] opened
nothing_taken None = refl
nothing_taken (Some text) = refl

-- a piece more is taken
pub piece_taken : (opened left rest : Option (List ℕ)) (taken piece : List ℕ) → opened ≡ prepend_known taken left → left ≡ prepend_known piece rest → opened ≡ prepend_known (taken ++ piece) rest
piece_taken opened left rest taken piece so_far reads = so_far ∙ ap (prepend_known taken) reads ∙ joins rest where
  joins : (known : Option (List ℕ)) → prepend_known taken (prepend_known piece known) ≡ prepend_known (taken ++ piece) known
  joins None = refl
  joins (Some text) = ap Some (sym (append_assoc taken piece text))

kept_whole : (bytes : List ℕ) → length bytes ≤ most_file_bytes → record { bytes = bytes; is_whole = true } ≡ kept_of bytes
kept_whole bytes few =
    let all : take most_file_bytes bytes ≡ bytes = take_all most_file_bytes bytes few in
    let within : nat_le (length bytes) most_file_bytes ≡ true = grind (arith, nat_tests) in
    rw (all, within) refl

kept_front : (bytes front : List ℕ) → most_file_bytes < length bytes → take most_file_bytes bytes ≡ front → record { bytes = front; is_whole = false } ≡ kept_of bytes
kept_front bytes front many is =
    let past : nat_le (length bytes) most_file_bytes ≡ false = grind (arith, nat_tests) in
    rw (is, past) refl

-- the file is at its end
pub all_taken : (opened left : Option (List ℕ)) (taken : List ℕ) → opened ≡ prepend_known taken left → IfSome left (λ rest. rest ≡ []) → length taken ≤ most_file_bytes → IfSome opened (λ bytes. record { bytes = taken; is_whole = true } ≡ kept_of bytes)
all_taken opened None taken so_far at_end few = subst (λ (o : Option (List ℕ)). IfSome o (λ bytes. record { bytes = taken; is_whole = true } ≡ kept_of bytes)) (sym so_far) tt
all_taken opened (Some rest) taken so_far at_end few =
    let whole : opened ≡ Some taken = so_far ∙ ap (λ (r : List ℕ). Some (taken ++ r)) at_end ∙ ap Some (append-nil taken) in
    subst (λ (o : Option (List ℕ)). IfSome o (λ bytes. record { bytes = taken; is_whole = true } ≡ kept_of bytes)) (sym whole) (kept_whole taken few)

-- the file has a byte too many
pub too_many : (opened left rest : Option (List ℕ)) (taken buffer : List ℕ) (n room : ℕ) → opened ≡ prepend_known taken left → left ≡ prepend_known (take n buffer) rest → room + length taken ≡ most_file_bytes → room < n → n ≤ length buffer
    → IfSome opened (λ bytes. record { bytes = taken ++ take room buffer; is_whole = false } ≡ kept_of bytes)
too_many opened left None taken buffer n room so_far reads full over within =
    subst (λ (o : Option (List ℕ)). IfSome o (λ bytes. record { bytes = taken ++ take room buffer; is_whole = false } ≡ kept_of bytes)) (sym (piece_taken opened left None taken (take n buffer) so_far reads)) tt
too_many opened left (Some rest) taken buffer n room so_far reads full over within =
    let whole : opened ≡ Some (taken ++ (take n buffer ++ rest)) = so_far ∙ ap (prepend_known taken) reads in
    let limit : length taken + room ≡ most_file_bytes = omega arith in
    let long : most_file_bytes < length (taken ++ (take n buffer ++ rest)) = rw (length-append, length-append, length-take) (omega arith) in
    let piece : take room (take n buffer ++ rest) ≡ take room buffer = take_front n room buffer rest (omega arith) within in
    let front : take most_file_bytes (taken ++ (take n buffer ++ rest)) ≡ taken ++ take room buffer =
    ap (λ (k : ℕ). take k (taken ++ (take n buffer ++ rest))) (sym limit) ∙ take-append-add taken (take n buffer ++ rest) room ∙ ap (λ (p : List ℕ). taken ++ p) piece in
    subst (λ (o : Option (List ℕ)). IfSome o (λ bytes. record { bytes = taken ++ take room buffer; is_whole = false } ≡ kept_of bytes))
    (sym whole) (kept_front (taken ++ (take n buffer ++ rest)) (taken ++ take room buffer) long front)
  where
    take_front : (m k : ℕ) (bytes after : List ℕ) → k ≤ m → m ≤ length bytes → take k (take m bytes ++ after) ≡ take k bytes
    take_front m k bytes after low high = take-append-le k (take m bytes) after (rw length-take (omega arith)) ∙ take-take k m bytes low
