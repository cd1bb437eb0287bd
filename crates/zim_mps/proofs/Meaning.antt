-- The rows that the lines of a program's text mean are the program's.
use Rattle.std.proofs.Common.{◌≡◌, ℕ, ◌+◌, ◌<◌, ◌≤◌, ◌^◌, Bool, true, false, cond, List, [], ◌∷◌, ◌++◌, length, map, Option, Some, None, unwrap_or, refl, sym, ◌∙◌, ap, arith}
use Rattle.std.specs.Prelude.{◌==◌, codes, All, if◌then◌else◌}
use Rattle.std.specs.List.{AllByRecursion, flat_map, enumerate_from, filter, filter_map}
use Rattle.std.specs.Str.{bytes_eq}
use Rattle.std.proofs.lemmas.List.{map-append, append-nil}
use Rattle.std.proofs.lemmas.List.Concat.{flat_map-append}
use Rattle.std.proofs.lemmas.List.Elements.{filter-append, All-head, All-tail}
use Rattle.zim_rational.specs.Rational as rational
use Rattle.zim_rational.specs.Rational.{Rational, plus, minus, at_most}
use Rattle.zim_rational.proofs.Ring.{plus_comm, minus_plus}
use Rattle.zim_rational.proofs.Order.{below_at_most, minus_at_most}
use Rattle.zim_instance.specs.Instance as instance
use Rattle.zim_instance.proofs.Points.{bytes_eq-same}
use Rattle.zim_fields.specs.Fields.{Field}
use Rattle.zim_linear.specs.Forms.{Term}
use Rattle.zim_rows.specs.declared.rows.Column.{Column}
use Rattle.zim_rows.specs.declared.rows.Row.{Row}
use Rattle.zim_rows.specs.declared.rows.RowKind as rows
use Rattle.zim_rows.specs.declared.rows.RowKind.TheVariants.{One, Range}
use Rattle.zim_rows.specs.declared.rows.Sense.TheVariants as sense
use Rattle.zim_rows.specs.Entries.{entries_of_column}
use Rattle.zim_rows.specs.Program.{LinearProgram, IsRow, IsShortKind}
use Rattle.zim_rows.specs.Named.{column_name, named_term, named_row, low_end, high_end, row_name, has_offset}
use Rattle.zim_mps.specs.Program.{Entry, Setting, without_sign, setting_of, terms_of_row, row_by_kind, row_of_line, instance_of}
use Rattle.zim_mps.specs.Text.{NumberedRow, FileColumn, numbered_column, mps_offset_column, numbered_columns, offset_columns, mps_columns, right_of}
use Rattle.zim_mps.proofs.Said.{said_kind, said_row, said_entry, said_column, said_right, said_range_of, said_range, said, IsEntry, IsOverRows, over_rows}
use Rattle.zim_mps.proofs.NameLemmas.{row_name_test, row_name_other}
use Rattle.zim_mps.proofs.Transposed.{read_row_terms, rows_back}

-- ---- a row's terms

-- the terms that a column's entries of one row make
abbrev named_entries : Field → List Term → List instance.NamedTerm
named_entries name entries = map (λ (e : Term). let t : instance.NamedTerm = record { name = name; coefficient = e.1 } in t) entries

terms_of_append : (xs ys : List Entry) (row : Field) → terms_of_row (xs ++ ys) row ≡ terms_of_row xs row ++ terms_of_row ys row
terms_of_append xs ys row =
    rw (filter-append (λ (e : Entry). bytes_eq row e.row) xs ys)
    (map-append (λ (e : Entry). let t : instance.NamedTerm = record { name = e.column; coefficient = e.coefficient } in t) (filter (λ (e : Entry). bytes_eq row e.row) xs) (filter (λ (e : Entry). bytes_eq row e.row) ys))

column_terms : (i last : ℕ) (name : Field) (integer : Bool) (entries : List Term) → i < 2 ^ 64 → last < 2 ^ 64 → AllByRecursion (IsEntry 1 last) entries → terms_of_row (map (said_entry name integer) entries) (row_name i) ≡ named_entries name (filter (λ (e : Term). e.0 == i) entries)
column_terms i last name integer [] h k all = refl
column_terms i last name integer (e ∷ es) h k all =
    by_number (bytes_eq (row_name i) (row_name e.0)) (e.0 == i) (row_name_test i e.0 h (omega (arith, all.0.before_last))) (column_terms i last name integer es h k all.1)
  where
    by_number : (b t : Bool) → b ≡ t → terms_of_row (map (said_entry name integer) es) (row_name i) ≡ named_entries name (filter (λ (e : Term). e.0 == i) es)
        → map (λ (e : Entry). let t : instance.NamedTerm = record { name = e.column; coefficient = e.coefficient } in t) (cond b (said_entry name integer e ∷ filter (λ (e : Entry). bytes_eq (row_name i) e.row) (map (said_entry name integer) es)) (filter (λ (e : Entry). bytes_eq (row_name i) e.row) (map (said_entry name integer) es)))
        ≡ named_entries name (cond t (e ∷ filter (λ (e : Term). e.0 == i) es) (filter (λ (e : Term). e.0 == i) es))
    by_number b true same rest = rw (same, rest) refl
    by_number b false same rest = rw (same, rest) refl

-- the terms that columns of the file have in a row
abbrev file_terms : ℕ → List FileColumn → List instance.NamedTerm
file_terms i cs = flat_map (λ (c : FileColumn). named_entries c.name (filter (λ (e : Term). e.0 == i) c.entries)) cs

columns_terms : (i n : ℕ) (cs : List FileColumn) → i < 2 ^ 64 → 1 + n < 2 ^ 64 → AllByRecursion (IsOverRows n) cs → terms_of_row (flat_map said_column cs) (row_name i) ≡ file_terms i cs
columns_terms i n [] h k all = refl
columns_terms i n (c ∷ cs) h k all =
    terms_of_append (map (said_entry c.name c.integer) c.entries) (flat_map said_column cs) (row_name i)
    ∙ ap (λ (ts : List instance.NamedTerm). ts ++ terms_of_row (flat_map said_column cs) (row_name i)) (column_terms i (1 + n) c.name c.integer c.entries h k all.0.entries)
    ∙ ap (λ (ts : List instance.NamedTerm). named_entries c.name (filter (λ (e : Term). e.0 == i) c.entries) ++ ts) (columns_terms i n cs h k all.1)

renamed : (j : ℕ) (entries : List Term) → named_entries (column_name j) entries ≡ map named_term (map (λ (e : Term). let t : Term = (j, e.1) in t) entries)
renamed j [] = refl
renamed j (e ∷ es) = ap (λ (ts : List instance.NamedTerm). named_term (j, e.1) ∷ ts) (renamed j es)

numbered_terms : (p : LinearProgram) (i first : ℕ) (columns : List Column) → file_terms i (map (numbered_column p) (enumerate_from first columns)) ≡ map named_term (read_row_terms first (length columns) p.rows i)
numbered_terms p i first [] = refl
numbered_terms p i first (c ∷ cs) =
    ap (λ (ts : List instance.NamedTerm). ts ++ file_terms i (map (numbered_column p) (enumerate_from (first + 1) cs))) (renamed first (filter (λ (e : Term). e.0 == i) (entries_of_column p.rows first)))
    ∙ ap (λ (ts : List instance.NamedTerm). map named_term (map (λ (e : Term). let t : Term = (first, e.1) in t) (filter (λ (e : Term). e.0 == i) (entries_of_column p.rows first))) ++ ts) (numbered_terms p i (first + 1) cs)
    ∙ sym (map-append named_term (map (λ (e : Term). let t : Term = (first, e.1) in t) (filter (λ (e : Term). e.0 == i) (entries_of_column p.rows first))) (read_row_terms (first + 1) (length cs) p.rows i))

no_offset_terms : (p : LinearProgram) (i : ℕ) (b : Bool) → file_terms i (if b then mps_offset_column p ∷ [] else []) ≡ []
no_offset_terms p i true = refl
no_offset_terms p i false = refl

row_terms : (p : LinearProgram) (i : ℕ) → file_terms i (mps_columns p) ≡ map named_term (read_row_terms 1 (length p.columns) p.rows i)
row_terms p i =
    flat_map-append (λ (c : FileColumn). named_entries c.name (filter (λ (e : Term). e.0 == i) c.entries)) (numbered_columns p) (offset_columns p)
    ∙ ap (λ (ts : List instance.NamedTerm). file_terms i (numbered_columns p) ++ ts) (no_offset_terms p i (has_offset p))
    ∙ append-nil (file_terms i (numbered_columns p))
    ∙ numbered_terms p i 1 p.columns

-- ---- a row's right side and range

-- what a range sets, if it is one
abbrev range_of : rows.RowKind → Option Rational
range_of (One s right) = None
range_of (Range low high) = Some (minus high low)

-- A row's right side and range are read back from the lines of rows that are numbered from one number on.
record IsSet (first : ℕ) (some : List Row) (r : NumberedRow) : Type 0 where
  from_first : first ≤ r.0
  right : setting_of (map said_right (enumerate_from first some)) (row_name r.0) ≡ Some (right_of r.1.kind)
  range : setting_of (flat_map said_range (enumerate_from first some)) (row_name r.0) ≡ range_of r.1.kind

numbers_below : (first : ℕ) (some : List Row) → first + length some < 2 ^ 64 → AllByRecursion (λ (r : NumberedRow). r.0 < 2 ^ 64) (enumerate_from first some)
numbers_below first [] h = tt
numbers_below first (row ∷ some) h = (omega arith, numbers_below (first + 1) some (omega arith))

no_range_later : (i first : ℕ) (some : List Row) → i < first → first + length some < 2 ^ 64 → setting_of (flat_map said_range (enumerate_from first some)) (row_name i) ≡ None
no_range_later i first [] h room = refl
no_range_later i first (row ∷ some) h room = by_kind row.kind (no_range_later i (first + 1) some (omega arith) (omega arith))
  where
    by_kind : (kind : rows.RowKind) → setting_of (flat_map said_range (enumerate_from (first + 1) some)) (row_name i) ≡ None → setting_of (said_range_of first kind ++ flat_map said_range (enumerate_from (first + 1) some)) (row_name i) ≡ None
    by_kind (One s right) rest = rest
    by_kind (Range low high) rest = rw (row_name_other i first (omega arith) (omega arith) (λ (same : i ≡ first). absurd (omega arith))) rest

first_range : (first : ℕ) (kind : rows.RowKind) (some : List Row) → first + 1 + length some < 2 ^ 64 → setting_of (said_range_of first kind ++ flat_map said_range (enumerate_from (first + 1) some)) (row_name first) ≡ range_of kind
first_range first (One s right) some room = no_range_later first (first + 1) some (omega arith) room
first_range first (Range low high) some room = rw (bytes_eq-same (row_name first)) refl

skipped_range : (i first : ℕ) (kind : rows.RowKind) (rest : List Setting) → bytes_eq (row_name i) (row_name first) ≡ false → setting_of (said_range_of first kind ++ rest) (row_name i) ≡ setting_of rest (row_name i)
skipped_range i first (One s right) rest other = refl
skipped_range i first (Range low high) rest other = rw other refl

set_later : (first : ℕ) (row : Row) (some : List Row) (rs : List NumberedRow) → first < 2 ^ 64 → AllByRecursion (λ (r : NumberedRow). r.0 < 2 ^ 64) rs → AllByRecursion (IsSet (first + 1) some) rs → AllByRecursion (IsSet first (row ∷ some)) rs
set_later first row some [] h below all = tt
set_later first row some (r ∷ rs) h below all =
    let more : first + 1 ≤ r.0 = all.0.from_first in
    let other : bytes_eq (row_name r.0) (row_name first) ≡ false = row_name_other r.0 first below.0 h (λ (same : r.0 ≡ first). absurd (omega arith)) in (
      record {
        from_first = omega arith;
        right = rw other all.0.right;
        range = skipped_range r.0 first row.kind (flat_map said_range (enumerate_from (first + 1) some)) other ∙ all.0.range;
      },
      set_later first row some rs h below.1 all.1,
    )

all_set : (first : ℕ) (some : List Row) → first + length some < 2 ^ 64 → AllByRecursion (IsSet first some) (enumerate_from first some)
all_set first [] room = tt
all_set first (row ∷ some) room = (
  record {
    from_first = omega arith;
    right = rw (bytes_eq-same (row_name first)) refl;
    range = first_range first row.kind some (omega arith);
  },
  set_later first row some (enumerate_from (first + 1) some) (omega arith) (numbers_below (first + 1) some (omega arith)) (all_set (first + 1) some (omega arith)),
)

-- ---- the rows

positive_absolute : (q : Rational) → at_most rational.zero q ≡ true → without_sign q ≡ q
positive_absolute q e = rw e refl

-- a range's low side and what the high one is above it give the high one
high_back : (low high : Rational) → at_most rational.zero (minus high low) ≡ true → plus low (without_sign (minus high low)) ≡ high
high_back low high e = ap (plus low) (positive_absolute (minus high low) e) ∙ plus_comm low (minus high low) ∙ minus_plus high low

row_meant : (kind : rows.RowKind) (terms : List instance.NamedTerm) → IsShortKind kind → row_by_kind (said_kind kind) terms (right_of kind) (range_of kind) ≡ Some (record { terms = terms; low = low_end kind; high = high_end kind })
row_meant (One sense.AtLeast right) terms is = refl
row_meant (One sense.AtMost right) terms is = refl
row_meant (One sense.Equal right) terms is = refl
row_meant (Range low high) terms is =
    ap (λ (q : Rational). let r : instance.Row = record { terms = terms; low = Some low; high = Some q } in Some r) (high_back low high (minus_at_most low high (below_at_most low high is.below)))

rows_meant : (p : LinearProgram) (first : ℕ) (some : List Row) → AllByRecursion (λ (r : NumberedRow). row_of_line (said p) (said_row r) ≡ Some (named_row r.1)) (enumerate_from first some) → filter_map (row_of_line (said p)) (map said_row (enumerate_from first some)) ≡ map named_row some
rows_meant p first [] all = refl
rows_meant p first (row ∷ some) all = rw all.0 (ap (λ (rs : List instance.Row). named_row row ∷ rs) (rows_meant p (first + 1) some all.1))

one_row : (p : LinearProgram) (i : ℕ) (row : Row) → i < 2 ^ 64 → 1 + length p.columns < 2 ^ 64 → 1 + length p.rows < 2 ^ 64 → IsRow (length p.columns) row → read_row_terms 1 (length p.columns) p.rows i ≡ row.terms → IsSet 1 p.rows (i, row) → row_of_line (said p) (said_row (i, row)) ≡ Some (named_row row)
one_row p i row h few room is back set =
    ap (λ (o : Option Rational). row_by_kind (said_kind row.kind) (terms_of_row (said p).entries (row_name i)) (unwrap_or o rational.zero) (setting_of (said p).ranges (row_name i))) set.right
    ∙ ap (row_by_kind (said_kind row.kind) (terms_of_row (said p).entries (row_name i)) (right_of row.kind)) set.range
    ∙ ap (λ (ts : List instance.NamedTerm). row_by_kind (said_kind row.kind) ts (right_of row.kind) (range_of row.kind))
    (columns_terms i (length p.rows) (mps_columns p) h room (over_rows p few) ∙ row_terms p i ∙ ap (map named_term) back)
    ∙ row_meant row.kind (map named_term row.terms) is.kind

each_row : (p : LinearProgram) (first : ℕ) (some : List Row) → 1 + length p.columns < 2 ^ 64 → 1 + length p.rows < 2 ^ 64 → first + length some < 2 ^ 64 → All (IsRow (length p.columns)) some → AllByRecursion (λ (r : NumberedRow). read_row_terms 1 (length p.columns) p.rows r.0 ≡ r.1.terms) (enumerate_from first some) → AllByRecursion (IsSet 1 p.rows) (enumerate_from first some) → AllByRecursion (λ (r : NumberedRow). row_of_line (said p) (said_row r) ≡ Some (named_row r.1)) (enumerate_from first some)
each_row p first [] few room below each back set = tt
each_row p first (row ∷ some) few room below each back set = (
  one_row p first row (omega arith) few room (All-head (IsRow (length p.columns)) row some each) back.0 set.0,
  each_row p (first + 1) some few room (omega arith) (All-tail (IsRow (length p.columns)) row some each) back.1 set.1,
)

-- the rows of the text are the rows of the program
pub rows_same : (p : LinearProgram) → 1 + length p.columns < 2 ^ 64 → 1 + length p.rows < 2 ^ 64 → All (IsRow (length p.columns)) p.rows → (instance_of (said p) (codes "obj")).rows ≡ map named_row p.rows
rows_same p few room each =
    rows_meant p 1 p.rows (each_row p 1 p.rows few room room each (rows_back (length p.columns) p.rows each) (all_set 1 p.rows room))
