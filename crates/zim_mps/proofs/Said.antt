-- What the lines that are written for a program say, section by section, and that their text gives them.
use Rattle.std.proofs.Common.{◌≡◌, ℕ, ◌+◌, ◌<◌, ◌≤◌, ◌^◌, Bool, true, false, List, [], ◌∷◌, ◌++◌, length, map, Option, Some, None, refl, sym, ap, subst, arith}
use Rattle.std.specs.Prelude.{codes, ◌==◌, if◌then◌else◌, cond}
use Rattle.std.specs.List.{AllByRecursion, flat_map, enumerate_from, filter}
use Rattle.std.proofs.lemmas.List.{map-append}
use Rattle.zim_rational.specs.Rational.{Rational, minus}
use Rattle.zim_fields.specs.Fields.{Field, IsField}
use Rattle.zim_fields.proofs.Cutting.{IsField-test}
use Rattle.zim_fields.proofs.Decimals.{lettered_field}
use Rattle.zim_decimal.specs.Short.{short_text}
use Rattle.zim_linear.specs.Forms.{Term}
use Rattle.zim_rows.specs.declared.rows.Column.{Column}
use Rattle.zim_rows.specs.declared.rows.Row.{Row}
use Rattle.zim_rows.specs.declared.rows.RowKind as rows
use Rattle.zim_rows.specs.declared.rows.RowKind.TheVariants.{One, Range}
use Rattle.zim_rows.specs.declared.rows.Sense.TheVariants as sense
use Rattle.zim_rows.specs.Entries.{entries_of_row}
use Rattle.zim_rows.specs.Program.{LinearProgram}
use Rattle.zim_rows.specs.Named.{column_name, row_name, has_offset}
use Rattle.zim_mps.specs.Program.{RowKind, RowLine, Entry, Setting, Bound, Program}
use Rattle.zim_mps.specs.Program.RowKind.{Free, AtLeast, AtMost, Equal}
use Rattle.zim_mps.specs.Sections.Line.{Fields}
use Rattle.zim_mps.specs.Text.{NumberedRow, FileColumn, numbered_column, mps_offset_column, numbered_columns, offset_columns, mps_columns, row_kind_text, row_text, cost_text, entry_text, column_text, marker_text, columns_front, last_mark, columns_text, right_of, right_text, range_text_of, range_text, sides_text, bound_text}
use Rattle.zim_mps.proofs.Readable.{IsReadable, IsReadableSide, IsReadableTerm, IsReadableColumn, HasReadableSides, HasReadableRight, IsReadableRange, HasReadableRange}
use Rattle.zim_mps.proofs.Lines.{Gives, Gives-nil, Gives-append, Gives-fields}
use Rattle.zim_mps.proofs.Numbers.{number_field}

-- ---- the fields of each line

abbrev pub kind_field : rows.RowKind → Field
kind_field (One sense.AtLeast right) = codes "G"
kind_field (One sense.AtMost right) = codes "L"
kind_field (One sense.Equal right) = codes "E"
kind_field (Range low high) = codes "G"

abbrev pub row_fields : NumberedRow → List Field
row_fields r = kind_field r.1.kind ∷ row_name r.0 ∷ []

abbrev pub entry_fields : Field → Term → List Field
entry_fields name e = name ∷ row_name e.0 ∷ short_text e.1 ∷ []

abbrev pub column_lines : FileColumn → List (List Field)
column_lines c = (c.name ∷ codes "obj" ∷ short_text c.cost ∷ []) ∷ map (entry_fields c.name) c.entries

abbrev pub marker_lines : Bool → Bool → List (List Field)
marker_lines false true = (codes "MARKER" ∷ codes "'MARKER'" ∷ codes "'INTORG'" ∷ []) ∷ []
marker_lines true false = (codes "MARKER" ∷ codes "'MARKER'" ∷ codes "'INTEND'" ∷ []) ∷ []
marker_lines false false = []
marker_lines true true = []

abbrev pub front_lines : Bool → List FileColumn → List (List Field)
front_lines before [] = []
front_lines before (c ∷ cs) = marker_lines before c.integer ++ (column_lines c ++ front_lines c.integer cs)

abbrev pub columns_lines : List FileColumn → List (List Field)
columns_lines cs = front_lines false cs ++ marker_lines (last_mark false cs) false

abbrev pub right_fields : NumberedRow → List Field
right_fields r = codes "RHS" ∷ row_name r.0 ∷ short_text (right_of r.1.kind) ∷ []

abbrev pub range_lines_of : ℕ → rows.RowKind → List (List Field)
range_lines_of number (One s right) = []
range_lines_of number (Range low high) = (codes "RNG" ∷ row_name number ∷ short_text (minus high low) ∷ []) ∷ []

abbrev pub range_lines : NumberedRow → List (List Field)
range_lines r = range_lines_of r.0 r.1.kind

abbrev pub end_fields : Field → Field → Rational → List Field
end_fields word name q = word ∷ codes "BND" ∷ name ∷ short_text q ∷ []

abbrev pub infinite_fields : Field → Field → List Field
infinite_fields word name = word ∷ codes "BND" ∷ name ∷ []

abbrev pub sides_lines : Field → Option Rational → Option Rational → List (List Field)
sides_lines name (Some l) (Some u) = end_fields (codes "LO") name l ∷ end_fields (codes "UP") name u ∷ []
sides_lines name (Some l) None = end_fields (codes "LO") name l ∷ infinite_fields (codes "PL") name ∷ []
sides_lines name None (Some u) = infinite_fields (codes "MI") name ∷ end_fields (codes "UP") name u ∷ []
sides_lines name None None = infinite_fields (codes "FR") name ∷ []

abbrev pub bound_lines : FileColumn → List (List Field)
bound_lines c = sides_lines c.name c.low c.high

-- ---- what each line says

abbrev pub said_kind : rows.RowKind → RowKind
said_kind (One sense.AtLeast right) = AtLeast
said_kind (One sense.AtMost right) = AtMost
said_kind (One sense.Equal right) = Equal
said_kind (Range low high) = AtLeast

abbrev pub said_row : NumberedRow → RowLine
said_row r = record { kind = said_kind r.1.kind; name = row_name r.0 }

abbrev pub said_entry : Field → Bool → Term → Entry
said_entry name integer e = record { column = name; row = row_name e.0; coefficient = e.1; integer = integer }

abbrev pub said_cost : FileColumn → Entry
said_cost c = record { column = c.name; row = codes "obj"; coefficient = c.cost; integer = c.integer }

abbrev pub said_column : FileColumn → List Entry
said_column c = said_cost c ∷ map (said_entry c.name c.integer) c.entries

abbrev pub said_right : NumberedRow → Setting
said_right r = record { row = row_name r.0; number = right_of r.1.kind }

abbrev pub said_range_of : ℕ → rows.RowKind → List Setting
said_range_of number (One s right) = []
said_range_of number (Range low high) = record { row = row_name number; number = minus high low } ∷ []

abbrev pub said_range : NumberedRow → List Setting
said_range r = said_range_of r.0 r.1.kind

abbrev pub said_sides : Field → Option Rational → Option Rational → List Bound
said_sides name (Some l) (Some u) =
    record { column = name; lower = Some (Some l); upper = None } ∷ record { column = name; lower = None; upper = Some (Some u) } ∷ []
said_sides name (Some l) None =
    record { column = name; lower = Some (Some l); upper = None } ∷ record { column = name; lower = None; upper = Some None } ∷ []
said_sides name None (Some u) =
    record { column = name; lower = Some None; upper = None } ∷ record { column = name; lower = None; upper = Some (Some u) } ∷ []
said_sides name None None = record { column = name; lower = Some None; upper = Some None } ∷ []

abbrev pub said_bound : FileColumn → List Bound
said_bound c = said_sides c.name c.low c.high

-- what the text of a program says
abbrev pub said : LinearProgram → Program
said p = record {
  rows = record { kind = Free; name = codes "obj" } ∷ map said_row (enumerate_from 1 p.rows);
  entries = flat_map said_column (mps_columns p);
  rhs = map said_right (enumerate_from 1 p.rows);
  ranges = flat_map said_range (enumerate_from 1 p.rows);
  bounds = flat_map said_bound (mps_columns p);
}

-- ---- lists

pub all_append : {X : Type 0} (P : X → Type 0) (xs ys : List X) → AllByRecursion P xs → AllByRecursion P ys → AllByRecursion P (xs ++ ys)
all_append P [] ys h k = k
all_append P (x ∷ xs) ys h k = (h.0, all_append P xs ys h.1 k)

pub all_weaker : {X : Type 0} (P Q : X → Type 0) → ((x : X) → P x → Q x) → (xs : List X) → AllByRecursion P xs → AllByRecursion Q xs
all_weaker P Q f [] h = tt
all_weaker P Q f (x ∷ xs) h = (f x h.0, all_weaker P Q f xs h.1)

-- ---- the columns' names and entries

pub row_name_field : (i : ℕ) → i < 2 ^ 64 → IsField (row_name i)
row_name_field i h = lettered_field 114 i (record { blank = refl; line_end = refl }) h

pub column_name_field : (j : ℕ) → j < 2 ^ 64 → IsField (column_name j)
column_name_field j h = lettered_field 120 j (record { blank = refl; line_end = refl }) h

-- An entry of rows that are numbered from one number up to another.
pub record IsEntry (first last : ℕ) (e : Term) : Type 0 where
  pub from_first : first ≤ e.0
  pub before_last : e.0 < last

row_entries : (number j : ℕ) (terms : List Term) (last : ℕ) → number < last → AllByRecursion (IsEntry number last) (entries_of_row number terms j)
row_entries number j [] last h = tt
row_entries number j (t ∷ ts) last h = by_column (t.0 == j) (row_entries number j ts last h)
  where
    by_column : (b : Bool) → AllByRecursion (IsEntry number last) (entries_of_row number ts j) → AllByRecursion (IsEntry number last) (map (λ (t : Term). (number, t.1)) (cond b (t ∷ filter (λ (t : Term). t.0 == j) ts) (filter (λ (t : Term). t.0 == j) ts)))
    by_column true rest = (record { from_first = omega arith; before_last = h }, rest)
    by_column false rest = rest

column_entries : (first j : ℕ) (some : List Row) → AllByRecursion (IsEntry first (first + length some)) (flat_map (λ (r : NumberedRow). entries_of_row r.0 r.1.terms j) (enumerate_from first some))
column_entries first j [] = tt
column_entries first j (row ∷ some) =
    all_append (IsEntry first (first + length (row ∷ some))) (entries_of_row first row.terms j) (flat_map (λ (r : NumberedRow). entries_of_row r.0 r.1.terms j) (enumerate_from (first + 1) some))
    (row_entries first j row.terms (first + length (row ∷ some)) (omega arith))
    (all_weaker (IsEntry (first + 1) (first + 1 + length some)) (IsEntry first (first + length (row ∷ some)))
    (λ e h. record { from_first = omega (arith, h.from_first); before_last = omega (arith, h.before_last) })
    (flat_map (λ (r : NumberedRow). entries_of_row r.0 r.1.terms j) (enumerate_from (first + 1) some)) (column_entries (first + 1) j some))

-- A column whose name is a field, and whose entries are of so many rows, numbered from 1.
pub record IsOverRows (rows : ℕ) (c : FileColumn) : Type 0 where
  pub name : IsField c.name
  pub entries : AllByRecursion (IsEntry 1 (1 + rows)) c.entries

numbered_over_rows : (p : LinearProgram) (first : ℕ) (columns : List Column) → first + length columns < 2 ^ 64 → AllByRecursion (IsOverRows (length p.rows)) (map (numbered_column p) (enumerate_from first columns))
numbered_over_rows p first [] h = tt
numbered_over_rows p first (c ∷ cs) h =
    (record { name = column_name_field first (omega arith); entries = column_entries 1 first p.rows }, numbered_over_rows p (first + 1) cs (omega arith))

offset_over_rows : (p : LinearProgram) (b : Bool) → AllByRecursion (IsOverRows (length p.rows)) (if b then mps_offset_column p ∷ [] else [])
offset_over_rows p true = (record { name = IsField-test (codes "one") refl refl; entries = tt }, tt)
offset_over_rows p false = tt

-- the columns of a program's file are over its rows
pub over_rows : (p : LinearProgram) → 1 + length p.columns < 2 ^ 64 → AllByRecursion (IsOverRows (length p.rows)) (mps_columns p)
over_rows p few =
    all_append (IsOverRows (length p.rows)) (numbered_columns p) (offset_columns p) (numbered_over_rows p 1 p.columns few) (offset_over_rows p (has_offset p))

-- ---- texts and their lines

-- A text gives lines of fields, whatever follows.
abbrev pub GivesFields : List ℕ → List (List Field) → Type 0
GivesFields text lines = Gives text (map Fields lines)

gives_both : (a b : List ℕ) (ls ms : List (List Field)) → GivesFields a ls → GivesFields b ms → GivesFields (a ++ b) (ls ++ ms)
gives_both a b ls ms first second =
    subst (Gives (a ++ b)) (sym (map-append Fields ls ms)) (Gives-append a b (map Fields ls) (map Fields ms) first second)

-- the lines of each member of a list
gives_each : {X : Type 0} (text : X → List ℕ) (lines : X → List (List Field)) (xs : List X) → AllByRecursion (λ x. GivesFields (text x) (lines x)) xs → GivesFields (flat_map text xs) (flat_map lines xs)
gives_each text lines [] all = Gives-nil
gives_each text lines (x ∷ xs) all = gives_both (text x) (flat_map text xs) (lines x) (flat_map lines xs) all.0 (gives_each text lines xs all.1)

one_line : {X : Type 0} (line : X → List Field) (xs : List X) → flat_map (λ x. line x ∷ []) xs ≡ map line xs
one_line line [] = refl
one_line line (x ∷ xs) = ap (λ ls. line x ∷ ls) (one_line line xs)

-- the same where each has one line
gives_each_one : {X : Type 0} (text : X → List ℕ) (line : X → List Field) (xs : List X) → AllByRecursion (λ x. GivesFields (text x) (line x ∷ [])) xs → GivesFields (flat_map text xs) (map line xs)
gives_each_one text line xs all = subst (GivesFields (flat_map text xs)) (one_line line xs) (gives_each text (λ x. line x ∷ []) xs all)

-- ---- rows

row_gives : (r : NumberedRow) → r.0 < 2 ^ 64 → GivesFields (row_text r) (row_fields r ∷ [])
row_gives r h = by_kind r.1.kind
  where
    by_kind : (kind : rows.RowKind) → GivesFields (row_kind_text kind ++ (row_name r.0 ++ codes "\n")) ((kind_field kind ∷ row_name r.0 ∷ []) ∷ [])
    by_kind (One sense.AtLeast right) = Gives-fields _ (codes "G") (row_name r.0 ∷ []) refl (IsField-test (codes "G") refl refl, (row_name_field r.0 h, tt))
    by_kind (One sense.AtMost right) = Gives-fields _ (codes "L") (row_name r.0 ∷ []) refl (IsField-test (codes "L") refl refl, (row_name_field r.0 h, tt))
    by_kind (One sense.Equal right) = Gives-fields _ (codes "E") (row_name r.0 ∷ []) refl (IsField-test (codes "E") refl refl, (row_name_field r.0 h, tt))
    by_kind (Range low high) = Gives-fields _ (codes "G") (row_name r.0 ∷ []) refl (IsField-test (codes "G") refl refl, (row_name_field r.0 h, tt))

rows_give : (first : ℕ) (some : List Row) → first + length some < 2 ^ 64 → AllByRecursion (λ (r : NumberedRow). GivesFields (row_text r) (row_fields r ∷ [])) (enumerate_from first some)
rows_give first [] h = tt
rows_give first (row ∷ some) h = (row_gives (first, row) (omega arith), rows_give (first + 1) some (omega arith))

-- the text of the rows
pub row_texts : (some : List Row) → 1 + length some < 2 ^ 64 → GivesFields (flat_map row_text (enumerate_from 1 some)) (map row_fields (enumerate_from 1 some))
row_texts some h = gives_each_one row_text row_fields (enumerate_from 1 some) (rows_give 1 some h)

-- ---- right sides and ranges

rights_give : (first : ℕ) (some : List Row) → first + length some < 2 ^ 64 → AllByRecursion HasReadableRight some → AllByRecursion (λ (r : NumberedRow). GivesFields (right_text r) (right_fields r ∷ [])) (enumerate_from first some)
rights_give first [] h all = tt
rights_give first (row ∷ some) h all = (
  Gives-fields (right_text (first, row)) (codes "RHS") (row_name first ∷ short_text (right_of row.kind) ∷ []) refl
      (IsField-test (codes "RHS") refl refl, (row_name_field first (omega arith), (number_field (short_text (right_of row.kind)) (right_of row.kind) all.0, tt))),
  rights_give (first + 1) some (omega arith) all.1,
)

-- the text of the right sides
pub right_texts : (some : List Row) → 1 + length some < 2 ^ 64 → AllByRecursion HasReadableRight some → GivesFields (flat_map right_text (enumerate_from 1 some)) (map right_fields (enumerate_from 1 some))
right_texts some h all = gives_each_one right_text right_fields (enumerate_from 1 some) (rights_give 1 some h all)

range_gives : (number : ℕ) (kind : rows.RowKind) → number < 2 ^ 64 → IsReadableRange kind → GivesFields (range_text_of number kind) (range_lines_of number kind)
range_gives number (One s right) h reads = Gives-nil
range_gives number (Range low high) h reads =
    Gives-fields (range_text_of number (Range low high)) (codes "RNG") (row_name number ∷ short_text (minus high low) ∷ []) refl
    (IsField-test (codes "RNG") refl refl, (row_name_field number h, (number_field (short_text (minus high low)) (minus high low) reads, tt)))

ranges_give : (first : ℕ) (some : List Row) → first + length some < 2 ^ 64 → AllByRecursion HasReadableRange some → AllByRecursion (λ (r : NumberedRow). GivesFields (range_text r) (range_lines r)) (enumerate_from first some)
ranges_give first [] h all = tt
ranges_give first (row ∷ some) h all = (range_gives first row.kind (omega arith) all.0, ranges_give (first + 1) some (omega arith) all.1)

-- the text of the ranges
pub range_texts : (some : List Row) → 1 + length some < 2 ^ 64 → AllByRecursion HasReadableRange some → GivesFields (flat_map range_text (enumerate_from 1 some)) (flat_map range_lines (enumerate_from 1 some))
range_texts some h all = gives_each range_text range_lines (enumerate_from 1 some) (ranges_give 1 some h all)

-- ---- columns

entries_give : (name : Field) (last : ℕ) (entries : List Term) → IsField name → last < 2 ^ 64 → AllByRecursion (IsEntry 1 last) entries → AllByRecursion IsReadableTerm entries → AllByRecursion (λ (e : Term). GivesFields (entry_text name e) (entry_fields name e ∷ [])) entries
entries_give name last [] field h all reads = tt
entries_give name last (e ∷ es) field h all reads = (
  Gives-fields (entry_text name e) name (row_name e.0 ∷ short_text e.1 ∷ []) refl
      (field, (row_name_field e.0 (omega (arith, all.0.before_last)), (number_field (short_text e.1) e.1 reads.0, tt))),
  entries_give name last es field h all.1 reads.1,
)

column_gives : (n : ℕ) (c : FileColumn) → 1 + n < 2 ^ 64 → IsOverRows n c → IsReadableColumn c → GivesFields (column_text c) (column_lines c)
column_gives n c h is reads =
    gives_both (cost_text c.name c.cost) (flat_map (entry_text c.name) c.entries) ((c.name ∷ codes "obj" ∷ short_text c.cost ∷ []) ∷ []) (map (entry_fields c.name) c.entries)
    (Gives-fields (cost_text c.name c.cost) c.name (codes "obj" ∷ short_text c.cost ∷ []) refl
    (is.name, (IsField-test (codes "obj") refl refl, (number_field (short_text c.cost) c.cost reads.cost, tt))))
    (gives_each_one (entry_text c.name) (entry_fields c.name) c.entries (entries_give c.name (1 + n) c.entries is.name h is.entries reads.entries))

marker_gives : (before integer : Bool) → GivesFields (marker_text before integer) (marker_lines before integer)
marker_gives false true =
    Gives-fields (codes " MARKER 'MARKER' 'INTORG'\n") (codes "MARKER") (codes "'MARKER'" ∷ codes "'INTORG'" ∷ []) refl
    (IsField-test (codes "MARKER") refl refl, (IsField-test (codes "'MARKER'") refl refl, (IsField-test (codes "'INTORG'") refl refl, tt)))
marker_gives true false =
    Gives-fields (codes " MARKER 'MARKER' 'INTEND'\n") (codes "MARKER") (codes "'MARKER'" ∷ codes "'INTEND'" ∷ []) refl
    (IsField-test (codes "MARKER") refl refl, (IsField-test (codes "'MARKER'") refl refl, (IsField-test (codes "'INTEND'") refl refl, tt)))
marker_gives false false = Gives-nil
marker_gives true true = Gives-nil

front_gives : (n : ℕ) (before : Bool) (cs : List FileColumn) → 1 + n < 2 ^ 64 → AllByRecursion (IsOverRows n) cs → AllByRecursion IsReadableColumn cs → GivesFields (columns_front before cs) (front_lines before cs)
front_gives n before [] h all reads = Gives-nil
front_gives n before (c ∷ cs) h all reads =
    gives_both (marker_text before c.integer) (column_text c ++ columns_front c.integer cs) (marker_lines before c.integer) (column_lines c ++ front_lines c.integer cs)
    (marker_gives before c.integer)
    (gives_both (column_text c) (columns_front c.integer cs) (column_lines c) (front_lines c.integer cs) (column_gives n c h all.0 reads.0) (front_gives n c.integer cs h all.1 reads.1))

-- the text of the columns
pub column_texts : (n : ℕ) (cs : List FileColumn) → 1 + n < 2 ^ 64 → AllByRecursion (IsOverRows n) cs → AllByRecursion IsReadableColumn cs → GivesFields (columns_text cs) (columns_lines cs)
column_texts n cs h all reads =
    gives_both (columns_front false cs) (marker_text (last_mark false cs) false) (front_lines false cs) (marker_lines (last_mark false cs) false)
    (front_gives n false cs h all reads) (marker_gives (last_mark false cs) false)

-- ---- bounds

end_gives : (word name : Field) (q : Rational) → IsField word → IsField name → IsReadable q → GivesFields (codes " " ++ (word ++ (codes " BND " ++ (name ++ (codes " " ++ (short_text q ++ codes "\n")))))) (end_fields word name q ∷ [])
end_gives word name q w n reads =
    Gives-fields _ word (codes "BND" ∷ name ∷ short_text q ∷ []) refl (w, (IsField-test (codes "BND") refl refl, (n, (number_field (short_text q) q reads, tt))))

infinite_gives : (word name : Field) → IsField word → IsField name → GivesFields (codes " " ++ (word ++ (codes " BND " ++ (name ++ codes "\n")))) (infinite_fields word name ∷ [])
infinite_gives word name w n = Gives-fields _ word (codes "BND" ∷ name ∷ []) refl (w, (IsField-test (codes "BND") refl refl, (n, tt)))

sides_give : (name : Field) (low high : Option Rational) → IsField name → IsReadableSide low → IsReadableSide high → GivesFields (sides_text name low high) (sides_lines name low high)
sides_give name (Some l) (Some u) field low high =
    gives_both _ _ (end_fields (codes "LO") name l ∷ []) (end_fields (codes "UP") name u ∷ [])
    (end_gives (codes "LO") name l (IsField-test (codes "LO") refl refl) field low) (end_gives (codes "UP") name u (IsField-test (codes "UP") refl refl) field high)
sides_give name (Some l) None field low high =
    gives_both _ _ (end_fields (codes "LO") name l ∷ []) (infinite_fields (codes "PL") name ∷ [])
    (end_gives (codes "LO") name l (IsField-test (codes "LO") refl refl) field low) (infinite_gives (codes "PL") name (IsField-test (codes "PL") refl refl) field)
sides_give name None (Some u) field low high =
    gives_both _ _ (infinite_fields (codes "MI") name ∷ []) (end_fields (codes "UP") name u ∷ [])
    (infinite_gives (codes "MI") name (IsField-test (codes "MI") refl refl) field) (end_gives (codes "UP") name u (IsField-test (codes "UP") refl refl) field high)
sides_give name None None field low high = infinite_gives (codes "FR") name (IsField-test (codes "FR") refl refl) field

bounds_give : (n : ℕ) (cs : List FileColumn) → AllByRecursion (IsOverRows n) cs → AllByRecursion HasReadableSides cs → AllByRecursion (λ (c : FileColumn). GivesFields (bound_text c) (bound_lines c)) cs
bounds_give n [] all reads = tt
bounds_give n (c ∷ cs) all reads = (sides_give c.name c.low c.high all.0.name reads.0.low reads.0.high, bounds_give n cs all.1 reads.1)

-- the text of the bounds
pub bound_texts : (n : ℕ) (cs : List FileColumn) → AllByRecursion (IsOverRows n) cs → AllByRecursion HasReadableSides cs → GivesFields (flat_map bound_text cs) (flat_map bound_lines cs)
bound_texts n cs all reads = gives_each bound_text bound_lines cs (bounds_give n cs all reads)
