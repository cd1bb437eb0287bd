-- Names of rows and of columns that differ, and names among names.
use Rattle.std.proofs.Common.{◌≡◌, ◌≢◌, ℕ, ◌+◌, ◌<◌, ◌≤◌, ◌^◌, Bool, true, false, ◌||◌, List, [], ◌∷◌, length, map, refl, sym, subst, arith}
use Rattle.std.specs.Prelude.{◌==◌, codes, decimal}
use Rattle.std.specs.List.{AllByRecursion, enumerate_from}
use Rattle.std.specs.Str.{bytes_eq}
use Rattle.std.proofs.lemmas.Fmt.{decimal_injective}
use Rattle.std.proofs.lemmas.List.{append_cancel_left}
use Rattle.std.proofs.lemmas.Slice.Eq.{bytes_eq-Decides}
use Rattle.std.proofs.lemmas.Bool.Decides.{nat_tests}
use Rattle.zim_instance.proofs.Points.{bytes_eq-same}
use Rattle.zim_fields.specs.Fields.{Field}
use Rattle.zim_rows.specs.declared.rows.Row.{Row}
use Rattle.zim_rows.specs.Named.{row_name}
use Rattle.zim_mps.specs.Program.{is_among, are_distinct}
use Rattle.zim_mps.specs.Text.{NumberedRow}

-- rows with different numbers have different names
pub row_name_other : (i k : ℕ) → i < 2 ^ 64 → k < 2 ^ 64 → i ≢ k → bytes_eq (row_name i) (row_name k) ≡ false
row_name_other i k h m other = differs (bytes_eq (row_name i) (row_name k)) refl
  where
    differs : (b : Bool) → bytes_eq (row_name i) (row_name k) ≡ b → bytes_eq (row_name i) (row_name k) ≡ false
    differs true e = absurd (other (decimal_injective i k h m (append_cancel_left (codes "r") (decimal i) (decimal k) ((bytes_eq-Decides (row_name i) (row_name k)).0 e))))
    differs false e = e

-- rows' names are equal where their numbers are
pub row_name_test : (i k : ℕ) → i < 2 ^ 64 → k < 2 ^ 64 → bytes_eq (row_name i) (row_name k) ≡ (k == i)
row_name_test i k h m = by_number (k == i) refl
  where
    by_number : (b : Bool) → (k == i) ≡ b → bytes_eq (row_name i) (row_name k) ≡ b
    by_number true e = let same : k ≡ i = grind (arith, nat_tests) in subst (λ (n : ℕ). bytes_eq (row_name i) (row_name n) ≡ true) (sym same) (bytes_eq-same (row_name i))
    by_number false e = row_name_other i k h m (λ (same : i ≡ k). differs same)
      where
        differs : i ≡ k → ⊥
        differs same = grind (arith, nat_tests)

-- The names of rows that are numbered from one number on.
abbrev pub names_from : ℕ → List Row → List Field
names_from first rows = map (λ (r : NumberedRow). row_name r.0) (enumerate_from first rows)

pub among_later : (i first : ℕ) (rows : List Row) → i < first → first + length rows < 2 ^ 64 → is_among (names_from first rows) (row_name i) ≡ false
among_later i first [] h room = refl
among_later i first (row ∷ rows) h room =
    rw (row_name_other i first (omega arith) (omega arith) (λ (same : i ≡ first). absurd (omega arith))) (among_later i (first + 1) rows (omega arith) (omega arith))

-- the names of rows are distinct
pub names_distinct : (first : ℕ) (rows : List Row) → first + length rows < 2 ^ 64 → are_distinct (names_from first rows) ≡ true
names_distinct first [] room = refl
names_distinct first (row ∷ rows) room = rw (among_later first (first + 1) rows (omega arith) (omega arith)) (names_distinct (first + 1) rows (omega arith))

-- the word `obj` is no row's name
pub obj_no_row : (first : ℕ) (rows : List Row) → is_among (names_from first rows) (codes "obj") ≡ false
obj_no_row first [] = refl
obj_no_row first (row ∷ rows) = obj_no_row (first + 1) rows

pub or_true : (b : Bool) → (b || true) ≡ true
or_true true = refl
or_true false = refl

-- a row's name is among the names
pub among_names : (i first : ℕ) (rows : List Row) → first ≤ i → i < first + length rows → is_among (names_from first rows) (row_name i) ≡ true
among_names i first [] low high = absurd (omega arith)
among_names i first (row ∷ rows) low high = by_number (i == first) refl (λ later. among_names i (first + 1) rows later (omega arith))
  where
    by_number : (b : Bool) → (i == first) ≡ b → (first + 1 ≤ i → is_among (names_from (first + 1) rows) (row_name i) ≡ true) → is_among (names_from first (row ∷ rows)) (row_name i) ≡ true
    by_number true e rest = let same : i ≡ first = grind (arith, nat_tests) in subst (λ (n : ℕ). (bytes_eq (row_name i) (row_name n) || is_among (names_from (first + 1) rows) (row_name i)) ≡ true) same (rw (bytes_eq-same (row_name i)) refl)
    by_number false e rest =
        let later : first + 1 ≤ i = grind (arith, nat_tests) in rw (rest later) (or_true (bytes_eq (row_name i) (row_name first)))

-- all rows' names are among the names, and so are those of a part of the list
numbered_among : (first all_first : ℕ) (rows all_rows : List Row) → all_first ≤ first → first + length rows ≤ all_first + length all_rows → AllByRecursion (λ (r : NumberedRow). is_among (names_from all_first all_rows) (row_name r.0) ≡ true) (enumerate_from first rows)
numbered_among first all_first [] all_rows low high = tt
numbered_among first all_first (row ∷ rows) all_rows low high =
    (among_names first all_first all_rows low (omega arith), numbered_among (first + 1) all_first rows all_rows (omega arith) (omega arith))

pub rows_among : (rows : List Row) → AllByRecursion (λ (r : NumberedRow). is_among (names_from 1 rows) (row_name r.0) ≡ true) (enumerate_from 1 rows)
rows_among rows = numbered_among 1 1 rows rows (omega arith) (omega arith)
