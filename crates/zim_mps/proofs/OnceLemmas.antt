-- The lines of a column of a file stand together, no two are of one row, and each end is said once.
use Rattle.std.proofs.Common.{◌≡◌, ℕ, suc, ◌+◌, ◌<◌, ◌≤◌, ◌^◌, Bool, true, false, cond, List, [], ◌∷◌, ◌++◌, length, map, Option, Some, None, refl, ◌∙◌, arith}
use Rattle.std.specs.Prelude.{◌==◌, codes, if◌then◌else◌}
use Rattle.std.specs.List.{AllByRecursion, flat_map, enumerate_from, list_any}
use Rattle.std.specs.Str.{bytes_eq}
use Rattle.std.proofs.lemmas.Bool.Decides.{nat_tests}
use Rattle.zim_rational.specs.Rational.{Rational}
use Rattle.zim_instance.specs.System.{HasDistinctNames}
use Rattle.zim_instance.proofs.Points.{bytes_eq-same}
use Rattle.zim_fields.specs.Fields.{Field}
use Rattle.zim_linear.specs.Forms.{Term, AreTermsFrom}
use Rattle.zim_rows.specs.declared.rows.Column.{Column}
use Rattle.zim_rows.specs.declared.rows.Row.{Row}
use Rattle.zim_rows.specs.Entries.{entries_of_row}
use Rattle.zim_rows.specs.Named.{row_name, has_offset}
use Rattle.zim_rows.specs.Program.{LinearProgram, IsRow}
use Rattle.zim_mps.specs.Program.{Entry, Bound, is_among, names_of_columns, says_lower, says_upper, is_first_column, are_together, are_one_place, are_different_places, are_said_once, has_one_reading}
use Rattle.zim_mps.specs.Text.{FileColumn, numbered_column, mps_offset_column, numbered_columns, offset_columns, mps_columns}
use Rattle.zim_mps.proofs.Said.{said_entry, said_column, said_sides, said_bound, IsEntry, IsOverRows, all_append}
use Rattle.zim_mps.proofs.NameLemmas.{or_true, row_name_other}
use Rattle.zim_mps.proofs.ColumnLemmas.{named_of, IsOther, names_of_file, names_of_lines}
use Rattle.zim_mps.proofs.Transposed.{at_column, none_at, column_from}

-- ---- a column's lines stand together

other_names : (name : Field) (cs : List FileColumn) → IsOther name cs → is_among (names_of_file cs) name ≡ false
other_names name [] other = refl
other_names name (c ∷ cs) other = rw (other.0, other_names name cs other.1) refl

-- a line of a column and a row
abbrev entry_at : Field → Field → Rational → Bool → Entry
entry_at name row q integer = record { column = name; row = row; coefficient = q; integer = integer }

together_behind : (name row : Field) (q : Rational) (integer : Bool) (entries : List Term) (rest : List Entry) → is_among (names_of_columns rest) name ≡ false → are_together rest ≡ true → are_together (entry_at name row q integer ∷ (map (said_entry name integer) entries ++ rest)) ≡ true
together_behind name row q integer [] rest none together = rw (none, together, or_true (is_first_column name rest)) refl
together_behind name row q integer (e ∷ es) rest none together =
    rw (bytes_eq-same name) (together_behind name (row_name e.0) e.1 integer es rest none together)

pub columns_together : (cs : List FileColumn) → HasDistinctNames (map named_of cs) → are_together (flat_map said_column cs) ≡ true
columns_together [] distinct = refl
columns_together (c ∷ cs) distinct =
    together_behind c.name (codes "obj") c.cost c.integer c.entries (flat_map said_column cs)
    (names_of_lines cs c.name ∙ other_names c.name cs distinct.0)
    (columns_together cs distinct.1)

-- ---- no two lines are of one column and one row

-- no line of other columns is of a line's place
elsewhere_entries : (d : Entry) (name : Field) (integer : Bool) (entries : List Term) (rest : List Entry) → bytes_eq d.column name ≡ false → list_any (are_one_place d) rest ≡ false → list_any (are_one_place d) (map (said_entry name integer) entries ++ rest) ≡ false
elsewhere_entries d name integer [] rest other none = none
elsewhere_entries d name integer (e ∷ es) rest other none = rw other (elsewhere_entries d name integer es rest other none)

elsewhere : (d : Entry) (cs : List FileColumn) → IsOther d.column cs → list_any (are_one_place d) (flat_map said_column cs) ≡ false
elsewhere d [] other = refl
elsewhere d (c ∷ cs) other =
    rw other.0 (elsewhere_entries d c.name c.integer c.entries (flat_map said_column cs) other.0 (elsewhere d cs other.1))

-- The rows of entries rise from one number on.
abbrev AreRising : ℕ → List Term → Type 0
AreRising first [] = Unit {0}
AreRising first (e ∷ es) = (first ≤ e.0) × AreRising (e.0 + 1) es

rising_more : (a b : ℕ) (entries : List Term) → a ≤ b → AreRising b entries → AreRising a entries
rising_more a b [] less rising = tt
rising_more a b (e ∷ es) less rising = (omega (arith, rising.0), rising.1)

-- the objective is no row
objective_apart : (name : Field) (q : Rational) (integer : Bool) (entries : List Term) (rest : List Entry) → list_any (are_one_place (entry_at name (codes "obj") q integer)) rest ≡ false → list_any (are_one_place (entry_at name (codes "obj") q integer)) (map (said_entry name integer) entries ++ rest) ≡ false
objective_apart name q integer [] rest none = none
objective_apart name q integer (e ∷ es) rest none = rw (bytes_eq-same name) (objective_apart name q integer es rest none)

-- a row that stands before those of other entries
row_apart : (name : Field) (i first last : ℕ) (q : Rational) (integer : Bool) (entries : List Term) (rest : List Entry) → i < first → i < 2 ^ 64 → last ≤ 2 ^ 64 → AreRising first entries → AllByRecursion (IsEntry 1 last) entries → list_any (are_one_place (entry_at name (row_name i) q integer)) rest ≡ false → list_any (are_one_place (entry_at name (row_name i) q integer)) (map (said_entry name integer) entries ++ rest) ≡ false
row_apart name i first last q integer [] rest less low room rising all none = none
row_apart name i first last q integer (e ∷ es) rest less low room rising all none =
    rw (bytes_eq-same name, row_name_other i e.0 low (omega (arith, all.0.before_last)) (λ (same : i ≡ e.0). absurd (omega (arith, rising.0))))
    (row_apart name i (e.0 + 1) last q integer es rest (omega (arith, rising.0)) low room rising.1 all.1 none)

entries_apart : (name : Field) (first last : ℕ) (integer : Bool) (entries : List Term) (cs : List FileColumn) → last ≤ 2 ^ 64 → AreRising first entries → AllByRecursion (IsEntry 1 last) entries → IsOther name cs → are_different_places (flat_map said_column cs) ≡ true → are_different_places (map (said_entry name integer) entries ++ flat_map said_column cs) ≡ true
entries_apart name first last integer [] cs room rising all other rest = rest
entries_apart name first last integer (e ∷ es) cs room rising all other rest =
    rw (row_apart name e.0 (e.0 + 1) last e.1 integer es (flat_map said_column cs) (omega arith) (omega (arith, all.0.before_last)) room rising.1 all.1 (elsewhere (said_entry name integer e) cs other))
    (entries_apart name (e.0 + 1) last integer es cs room rising.1 all.1 other rest)

pub columns_apart : (n : ℕ) (cs : List FileColumn) → 1 + n < 2 ^ 64 → AllByRecursion (IsOverRows n) cs → AllByRecursion (λ (c : FileColumn). AreRising 1 c.entries) cs → HasDistinctNames (map named_of cs) → are_different_places (flat_map said_column cs) ≡ true
columns_apart n [] room over rising distinct = refl
columns_apart n (c ∷ cs) room over rising distinct =
    rw (objective_apart c.name c.cost c.integer c.entries (flat_map said_column cs) (elsewhere (entry_at c.name (codes "obj") c.cost c.integer) cs distinct.0))
    (entries_apart c.name 1 (1 + n) c.integer c.entries cs (omega arith) rising.0 over.0.entries distinct.0 (columns_apart n cs room over.1 rising.1 distinct.1))

-- a row has a column once, so its entry stands before those of later rows
row_rising : (number j first : ℕ) (terms later : List Term) → AreTermsFrom first terms → AreRising (number + 1) later → AreRising number (entries_of_row number terms j ++ later)
row_rising number j first [] later is rising = rising_more number (number + 1) later (omega arith) rising
row_rising number j first (t ∷ ts) later is rising = by_column (t.0 == j) refl (row_rising number j (suc t.0) ts later is.2 rising)
  where
    by_column : (b : Bool) → (t.0 == j) ≡ b → AreRising number (entries_of_row number ts j ++ later) → AreRising number (map (λ (s : Term). (number, s.1)) (cond b (t ∷ at_column ts j) (at_column ts j)) ++ later)
    by_column true e rest =
        let same : t.0 ≡ j = grind (arith, nat_tests) in
        rw (none_at j (suc t.0) ts (omega arith) is.2) (omega arith, rising)
    by_column false e rest = rest

column_rising : (n first j : ℕ) (rows : List Row) → AllByRecursion (IsRow n) rows → AreRising first (column_from first rows j)
column_rising n first j [] are = tt
column_rising n first j (row ∷ rows) are =
    row_rising first j 0 row.terms (column_from (first + 1) rows j) are.0.terms (column_rising n (first + 1) j rows are.1)

numbered_rising : (p : LinearProgram) (first : ℕ) (columns : List Column) → AllByRecursion (IsRow (length p.columns)) p.rows → AllByRecursion (λ (c : FileColumn). AreRising 1 c.entries) (map (numbered_column p) (enumerate_from first columns))
numbered_rising p first [] are = tt
numbered_rising p first (c ∷ cs) are = (column_rising (length p.columns) 1 first p.rows are, numbered_rising p (first + 1) cs are)

offset_rising : (p : LinearProgram) (b : Bool) → AllByRecursion (λ (c : FileColumn). AreRising 1 c.entries) (if b then mps_offset_column p ∷ [] else [])
offset_rising p true = (tt, tt)
offset_rising p false = tt

-- the entries of each column of a file rise
pub file_rising : (p : LinearProgram) → AllByRecursion (IsRow (length p.columns)) p.rows → AllByRecursion (λ (c : FileColumn). AreRising 1 c.entries) (mps_columns p)
file_rising p are =
    all_append (λ (c : FileColumn). AreRising 1 c.entries) (numbered_columns p) (offset_columns p) (numbered_rising p 1 p.columns are) (offset_rising p (has_offset p))

-- ---- each end is said once

-- Nothing is said of the ends of a name.
record AreUnsaid (bounds : List Bound) (name : Field) : Type 0 where
  lower : says_lower bounds name ≡ false
  upper : says_upper bounds name ≡ false

unsaid_sides : (word name : Field) (low high : Option Rational) (rest : List Bound) → bytes_eq word name ≡ false → AreUnsaid rest word → AreUnsaid (said_sides name low high ++ rest) word
unsaid_sides word name (Some l) (Some u) rest other un = record { lower = rw other un.lower; upper = rw other un.upper }
unsaid_sides word name (Some l) None rest other un = record { lower = rw other un.lower; upper = rw other un.upper }
unsaid_sides word name None (Some u) rest other un = record { lower = rw other un.lower; upper = rw other un.upper }
unsaid_sides word name None None rest other un = record { lower = rw other un.lower; upper = rw other un.upper }

unsaid : (word : Field) (cs : List FileColumn) → IsOther word cs → AreUnsaid (flat_map said_bound cs) word
unsaid word [] other = record { lower = refl; upper = refl }
unsaid word (c ∷ cs) other = unsaid_sides word c.name c.low c.high (flat_map said_bound cs) other.0 (unsaid word cs other.1)

sides_once : (name : Field) (low high : Option Rational) (rest : List Bound) → bytes_eq name name ≡ true → AreUnsaid rest name → are_said_once rest ≡ true → are_said_once (said_sides name low high ++ rest) ≡ true
sides_once name (Some l) (Some u) rest same un once = rw (same, un.lower, un.upper, once) refl
sides_once name (Some l) None rest same un once = rw (same, un.lower, un.upper, once) refl
sides_once name None (Some u) rest same un once = rw (same, un.lower, un.upper, once) refl
sides_once name None None rest same un once = rw (un.lower, un.upper, once) refl

pub columns_once : (cs : List FileColumn) → HasDistinctNames (map named_of cs) → are_said_once (flat_map said_bound cs) ≡ true
columns_once [] distinct = refl
columns_once (c ∷ cs) distinct =
    sides_once c.name c.low c.high (flat_map said_bound cs) (bytes_eq-same c.name) (unsaid c.name cs distinct.0) (columns_once cs distinct.1)

-- ---- lower ends are said

sides_read_one_way : (bounds : List Bound) (name : Field) (low high : Option Rational) → says_lower bounds name ≡ true → AllByRecursion (λ (b : Bound). has_one_reading bounds b ≡ true) (said_sides name low high)
sides_read_one_way bounds name (Some l) (Some u) said = (rw said refl, (rw said refl, tt))
sides_read_one_way bounds name (Some l) None said = (rw said refl, (rw said refl, tt))
sides_read_one_way bounds name None (Some u) said = (rw said refl, (rw said refl, tt))
sides_read_one_way bounds name None None said = (rw said refl, tt)

pub columns_read_one_way : (bounds : List Bound) (cs : List FileColumn) → AllByRecursion (λ (c : FileColumn). says_lower bounds c.name ≡ true) cs → AllByRecursion (λ (b : Bound). has_one_reading bounds b ≡ true) (flat_map said_bound cs)
columns_read_one_way bounds [] said = tt
columns_read_one_way bounds (c ∷ cs) said =
    all_append (λ (b : Bound). has_one_reading bounds b ≡ true) (said_bound c) (flat_map said_bound cs)
    (sides_read_one_way bounds c.name c.low c.high said.0)
    (columns_read_one_way bounds cs said.1)
