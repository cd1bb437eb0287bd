-- The text of a program is read into what its lines say.
use Rattle.std.proofs.Common.{◌≡◌, ℕ, ◌+◌, ◌<◌, ◌^◌, Bool, true, false, ◌||◌, List, [], ◌∷◌, ◌++◌, length, map, Option, Some, None, refl, sym, ◌∙◌, ap, append-nil, append_assoc}
use Rattle.std.specs.Prelude.{codes, option_and_then, option_map, if◌then◌else◌}
use Rattle.std.specs.List.{AllByRecursion, flat_map, enumerate_from}
use Rattle.zim_rational.specs.Rational.{Rational}
use Rattle.zim_decimal.specs.Short.{short_text}
use Rattle.zim_fields.specs.Fields.{Field}
use Rattle.zim_fields.proofs.Cutting.{IsField-test}
use Rattle.zim_linear.specs.Forms.{Term}
use Rattle.zim_rows.specs.declared.rows.Row.{Row}
use Rattle.zim_rows.specs.declared.rows.RowKind as rows
use Rattle.zim_rows.specs.declared.rows.RowKind.TheVariants.{One, Range}
use Rattle.zim_rows.specs.declared.rows.Sense.TheVariants as sense
use Rattle.zim_rows.specs.Program.{LinearProgram}
use Rattle.zim_rows.specs.Named.{row_name}
use Rattle.zim_mps.specs.Sections.{Line, mps_lines, Section, parts, Sections, is_none_of, sections_of, read_sections}
use Rattle.zim_mps.specs.Sections.Line.{Heading, Fields}
use Rattle.zim_mps.specs.Program.{Entry, Setting}
use Rattle.zim_mps.specs.Syntax.{read_each, read_row, is_marker, read_entries, read_setting, read_bound, read_program}
use Rattle.zim_mps.specs.Text.{NumberedRow, FileColumn, row_text, columns_text, last_mark, right_text, is_range, has_range, range_text, ranges_text, bound_text, mps_columns, mps_text}
use Rattle.zim_mps.proofs.Readable.{IsReadable, IsReadableSide, IsReadableTerm, IsReadableColumn, HasReadableSides, HasReadableRight, IsReadableRange, HasReadableRange, IsReadableProgram}
use Rattle.zim_mps.proofs.Lines.{Gives, Gives-append, Gives-heading, Gives-fields, parts-section}
use Rattle.zim_mps.proofs.Said.{kind_field, row_fields, entry_fields, column_lines, marker_lines, front_lines, columns_lines, right_fields, range_lines_of, range_lines, sides_lines, bound_lines, said_kind, said_row, said_entry, said_cost, said_column, said_right, said_range_of, said_range, said_sides, said_bound, said, over_rows, row_texts, column_texts, right_texts, range_texts, bound_texts}

-- ---- one line after the other

read_each-all : {X A : Type 0} (read : List Field → Option A) (line : X → List Field) (value : X → A) (xs : List X) → AllByRecursion (λ x. read (line x) ≡ Some (value x)) xs → read_each read (map line xs) ≡ Some (map value xs)
read_each-all read line value [] all = refl
read_each-all read line value (x ∷ xs) all = rw (all.0, read_each-all read line value xs all.1) refl

read_each-append : {A : Type 0} (read : List Field → Option A) (ls ms : List (List Field)) (xs ys : List A) → read_each read ls ≡ Some xs → read_each read ms ≡ Some ys → read_each read (ls ++ ms) ≡ Some (xs ++ ys)
read_each-append {A} read [] ms xs ys e f = f ∙ ap (λ (zs : List A). Some (zs ++ ys)) (none_read xs e)
  where
    none_read : (xs : List A) → Some [] ≡ Some xs → [] ≡ xs
    none_read [] e = refl
    none_read (x ∷ xs) e = cc
read_each-append {A} read (l ∷ ls) ms xs ys e f = by_first (read l) (read_each read ls) refl refl e (λ zs g. read_each-append read ls ms zs ys g f)
  where
    by_first : (o : Option A) (os : Option (List A)) → read l ≡ o → read_each read ls ≡ os → option_and_then (λ (first : A). option_map (λ (others : List A). first ∷ others) os) o ≡ Some xs → ((zs : List A) → read_each read ls ≡ Some zs → read_each read (ls ++ ms) ≡ Some (zs ++ ys)) → read_each read (l ∷ (ls ++ ms)) ≡ Some (xs ++ ys)
    by_first None os g h e later = cc
    by_first (Some x) None g h e later = cc
    by_first (Some x) (Some zs) g h e later = rw (g, later zs h) (ap (option_map (λ (all : List A). all ++ ys)) e)

read_each-flat : {X A : Type 0} (read : List Field → Option A) (lines : X → List (List Field)) (values : X → List A) (xs : List X) → AllByRecursion (λ x. read_each read (lines x) ≡ Some (values x)) xs → read_each read (flat_map lines xs) ≡ Some (flat_map values xs)
read_each-flat read lines values [] all = refl
read_each-flat read lines values (x ∷ xs) all = read_each-append read (lines x) (flat_map lines xs) (values x) (flat_map values xs) all.0 (read_each-flat read lines values xs all.1)

-- ---- rows, right sides and ranges

row_reads : (r : NumberedRow) → read_row (row_fields r) ≡ Some (said_row r)
row_reads r = by_kind r.1.kind
  where
    by_kind : (kind : rows.RowKind) → read_row (kind_field kind ∷ row_name r.0 ∷ []) ≡ Some (record { kind = said_kind kind; name = row_name r.0 })
    by_kind (One sense.AtLeast right) = refl
    by_kind (One sense.AtMost right) = refl
    by_kind (One sense.Equal right) = refl
    by_kind (Range low high) = refl

rows_read : (first : ℕ) (some : List Row) → AllByRecursion (λ (r : NumberedRow). read_row (row_fields r) ≡ Some (said_row r)) (enumerate_from first some)
rows_read first [] = tt
rows_read first (row ∷ some) = (row_reads (first, row), rows_read (first + 1) some)

rights_read : (first : ℕ) (some : List Row) → AllByRecursion HasReadableRight some → AllByRecursion (λ (r : NumberedRow). read_setting (codes "RHS") (right_fields r) ≡ Some (said_right r)) (enumerate_from first some)
rights_read first [] all = tt
rights_read first (row ∷ some) all =
    (ap (option_map (λ (q : Rational). let s : Setting = record { row = row_name first; number = q } in s)) all.0, rights_read (first + 1) some all.1)

range_reads : (number : ℕ) (kind : rows.RowKind) → IsReadableRange kind → read_each (read_setting (codes "RNG")) (range_lines_of number kind) ≡ Some (said_range_of number kind)
range_reads number (One s right) reads = refl
range_reads number (Range low high) reads = rw reads refl

ranges_read : (first : ℕ) (some : List Row) → AllByRecursion HasReadableRange some → AllByRecursion (λ (r : NumberedRow). read_each (read_setting (codes "RNG")) (range_lines r) ≡ Some (said_range r)) (enumerate_from first some)
ranges_read first [] all = tt
ranges_read first (row ∷ some) all = (range_reads first row.kind all.0, ranges_read (first + 1) some all.1)

-- ---- columns

map_both : {A B C : Type 0} (f : B → C) (g : A → B) (o : Option A) → option_map f (option_map g o) ≡ option_map (λ x. f (g x)) o
map_both f g None = refl
map_both f g (Some x) = refl

map_same : {A : Type 0} (o : Option (List A)) → o ≡ option_map (λ (xs : List A). [] ++ xs) o
map_same None = refl
map_same (Some xs) = refl

-- lines in front of others are read as entries in front of theirs
abbrev ReadsFirst : Bool → List (List Field) → List Entry → Bool → Type 0
ReadsFirst before lines es after =
    (rest : List (List Field)) → read_entries before (lines ++ rest) ≡ option_map (λ (others : List Entry). es ++ others) (read_entries after rest)

reads_nothing : (b : Bool) → ReadsFirst b [] [] b
reads_nothing b rest = map_same (read_entries b rest)

reads_both : (a b c : Bool) (ls ms : List (List Field)) (ds es : List Entry) → ReadsFirst a ls ds b → ReadsFirst b ms es c → ReadsFirst a (ls ++ ms) (ds ++ es) c
reads_both a b c ls ms ds es first second rest =
    ap (read_entries a) (append_assoc ls ms rest)
    ∙ first (ms ++ rest)
    ∙ ap (option_map (λ (others : List Entry). ds ++ others)) (second rest)
    ∙ map_both (λ (others : List Entry). ds ++ others) (λ (others : List Entry). es ++ others) (read_entries c rest)
    ∙ regrouped (read_entries c rest)
  where
    regrouped : (o : Option (List Entry)) → option_map (λ (others : List Entry). ds ++ (es ++ others)) o ≡ option_map (λ (others : List Entry). (ds ++ es) ++ others) o
    regrouped None = refl
    regrouped (Some others) = ap (λ (all : List Entry). Some all) (sym (append_assoc ds es others))

line_reads : (integer : Bool) (column row : Field) (q : Rational) → is_marker (column ∷ row ∷ short_text q ∷ []) ≡ false → IsReadable q → ReadsFirst integer ((column ∷ row ∷ short_text q ∷ []) ∷ []) (record { column = column; row = row; coefficient = q; integer = integer } ∷ []) integer
line_reads integer column row q marker reads rest = rw (marker, reads) refl

entries_read : (name : Field) (integer : Bool) (entries : List Term) → AllByRecursion IsReadableTerm entries → ReadsFirst integer (map (entry_fields name) entries) (map (said_entry name integer) entries) integer
entries_read name integer [] reads = reads_nothing integer
entries_read name integer (e ∷ es) reads =
    reads_both integer integer integer (entry_fields name e ∷ []) (map (entry_fields name) es) (said_entry name integer e ∷ []) (map (said_entry name integer) es)
    (line_reads integer name (row_name e.0) e.1 refl reads.0) (entries_read name integer es reads.1)

column_reads : (c : FileColumn) → IsReadableColumn c → ReadsFirst c.integer (column_lines c) (said_column c) c.integer
column_reads c reads =
    reads_both c.integer c.integer c.integer ((c.name ∷ codes "obj" ∷ short_text c.cost ∷ []) ∷ []) (map (entry_fields c.name) c.entries) (said_cost c ∷ []) (map (said_entry c.name c.integer) c.entries)
    (line_reads c.integer c.name (codes "obj") c.cost refl reads.cost) (entries_read c.name c.integer c.entries reads.entries)

marker_reads : (before integer : Bool) → ReadsFirst before (marker_lines before integer) [] integer
marker_reads false true rest = map_same (read_entries true rest)
marker_reads true false rest = map_same (read_entries false rest)
marker_reads false false rest = map_same (read_entries false rest)
marker_reads true true rest = map_same (read_entries true rest)

front_reads : (before : Bool) (cs : List FileColumn) → AllByRecursion IsReadableColumn cs → ReadsFirst before (front_lines before cs) (flat_map said_column cs) (last_mark before cs)
front_reads before [] reads = reads_nothing before
front_reads before (c ∷ cs) reads =
    reads_both before c.integer (last_mark c.integer cs) (marker_lines before c.integer) (column_lines c ++ front_lines c.integer cs) [] (said_column c ++ flat_map said_column cs)
    (marker_reads before c.integer)
    (reads_both c.integer c.integer (last_mark c.integer cs) (column_lines c) (front_lines c.integer cs) (said_column c) (flat_map said_column cs) (column_reads c reads.0) (front_reads c.integer cs reads.1))

columns_read : (cs : List FileColumn) → AllByRecursion IsReadableColumn cs → read_entries false (columns_lines cs) ≡ Some (flat_map said_column cs)
columns_read cs reads =
    let all : ReadsFirst false (columns_lines cs) (flat_map said_column cs ++ []) false =
    reads_both false (last_mark false cs) false (front_lines false cs) (marker_lines (last_mark false cs) false) (flat_map said_column cs) [] (front_reads false cs reads) (marker_reads (last_mark false cs) false) in
    ap (read_entries false) (sym (append-nil (columns_lines cs)))
    ∙ all []
    ∙ ap (λ (es : List Entry). Some es) (append-nil (flat_map said_column cs ++ []) ∙ append-nil (flat_map said_column cs))

-- ---- bounds

sides_read : (name : Field) (low high : Option Rational) → IsReadableSide low → IsReadableSide high → read_each read_bound (sides_lines name low high) ≡ Some (said_sides name low high)
sides_read name (Some l) (Some u) low high = rw (low, high) refl
sides_read name (Some l) None low high = rw low refl
sides_read name None (Some u) low high = rw high refl
sides_read name None None low high = refl

bounds_read : (cs : List FileColumn) → AllByRecursion HasReadableSides cs → AllByRecursion (λ (c : FileColumn). read_each read_bound (bound_lines c) ≡ Some (said_bound c)) cs
bounds_read [] reads = tt
bounds_read (c ∷ cs) reads = (sides_read c.name c.low c.high reads.0.low reads.0.high, bounds_read cs reads.1)

-- ---- the lines of the file

abbrev file_sections : LinearProgram → Sections
file_sections p = record {
  rows = (codes "N" ∷ codes "obj" ∷ []) ∷ map row_fields (enumerate_from 1 p.rows);
  columns = columns_lines (mps_columns p);
  rhs = map right_fields (enumerate_from 1 p.rows);
  ranges = flat_map range_lines (enumerate_from 1 p.rows);
  bounds = flat_map bound_lines (mps_columns p);
}

-- the lines of the ranges, where there is one
abbrev ranges_section : Bool → List (List Field) → List Line
ranges_section ranged ranges = if ranged then Heading (codes "RANGES") ∷ map Fields ranges else []

abbrev lines_of_sections : Bool → Sections → List Line
lines_of_sections ranged s =
    Heading (codes "NAME zimplc") ∷ Heading (codes "ROWS")
    ∷ (map Fields s.rows
    ++ (Heading (codes "COLUMNS")
    ∷ (map Fields s.columns
    ++ (Heading (codes "RHS") ∷ (map Fields s.rhs ++ (ranges_section ranged s.ranges ++ (Heading (codes "BOUNDS") ∷ (map Fields s.bounds ++ (Heading (codes "ENDATA") ∷ [])))))))))

abbrev part : List ℕ → List (List Field) → Section
part heading lines = record { heading = heading; lines = lines }

-- a section before parts that are known
section_before : (heading next : List ℕ) (fs : List (List Field)) (ls : List Line) (ps : List Section) → parts (Heading next ∷ ls) ≡ ([], ps) → parts (Heading heading ∷ (map Fields fs ++ (Heading next ∷ ls))) ≡ ([], part heading fs ∷ ps)
section_before heading next fs ls ps e =
    parts-section heading next fs ls ∙ ap (λ (p : List (List Field) × List Section). let more : List (List Field) × List Section = ([], part heading fs ∷ p.1) in more) e

-- the parts before the right sides, whatever follows
front_parts : (s : Sections) (ls : List Line) (ps : List Section) → parts (Heading (codes "RHS") ∷ ls) ≡ ([], ps) → parts (Heading (codes "NAME zimplc") ∷ Heading (codes "ROWS") ∷ (map Fields s.rows ++ (Heading (codes "COLUMNS") ∷ (map Fields s.columns ++ (Heading (codes "RHS") ∷ ls))))) ≡ ([], part (codes "NAME zimplc") [] ∷ part (codes "ROWS") s.rows ∷ part (codes "COLUMNS") s.columns ∷ ps)
front_parts s ls ps e =
    section_before (codes "NAME zimplc") (codes "ROWS") [] (map Fields s.rows ++ (Heading (codes "COLUMNS") ∷ (map Fields s.columns ++ (Heading (codes "RHS") ∷ ls)))) (part (codes "ROWS") s.rows ∷ part (codes "COLUMNS") s.columns ∷ ps)
    (section_before (codes "ROWS") (codes "COLUMNS") s.rows (map Fields s.columns ++ (Heading (codes "RHS") ∷ ls)) (part (codes "COLUMNS") s.columns ∷ ps)
    (section_before (codes "COLUMNS") (codes "RHS") s.columns ls ps e))

bounds_parts : (s : Sections) → parts (Heading (codes "BOUNDS") ∷ (map Fields s.bounds ++ (Heading (codes "ENDATA") ∷ []))) ≡ ([], part (codes "BOUNDS") s.bounds ∷ part (codes "ENDATA") [] ∷ [])
bounds_parts s = section_before (codes "BOUNDS") (codes "ENDATA") s.bounds [] (part (codes "ENDATA") [] ∷ []) refl

parts_ranged : (s : Sections) → parts (lines_of_sections true s) ≡ ([], part (codes "NAME zimplc") [] ∷ part (codes "ROWS") s.rows ∷ part (codes "COLUMNS") s.columns ∷ part (codes "RHS") s.rhs ∷ part (codes "RANGES") s.ranges ∷ part (codes "BOUNDS") s.bounds ∷ part (codes "ENDATA") [] ∷ [])
parts_ranged s =
    front_parts s _ _
    (section_before (codes "RHS") (codes "RANGES") s.rhs _ _
    (section_before (codes "RANGES") (codes "BOUNDS") s.ranges (map Fields s.bounds ++ (Heading (codes "ENDATA") ∷ [])) (part (codes "BOUNDS") s.bounds ∷ part (codes "ENDATA") [] ∷ []) (bounds_parts s)))

parts_plain : (s : Sections) → parts (lines_of_sections false s) ≡ ([], part (codes "NAME zimplc") [] ∷ part (codes "ROWS") s.rows ∷ part (codes "COLUMNS") s.columns ∷ part (codes "RHS") s.rhs ∷ part (codes "BOUNDS") s.bounds ∷ part (codes "ENDATA") [] ∷ [])
parts_plain s =
    front_parts s _ _
    (section_before (codes "RHS") (codes "BOUNDS") s.rhs (map Fields s.bounds ++ (Heading (codes "ENDATA") ∷ [])) (part (codes "BOUNDS") s.bounds ∷ part (codes "ENDATA") [] ∷ []) (bounds_parts s))

abbrev of_parts : List (List Field) × List Section → Option Sections
of_parts p = if is_none_of p.0 then sections_of p.1 else None

read_by : (text : List ℕ) (ranged : Bool) (s : Sections) → (ranged ≡ false → s.ranges ≡ []) → mps_lines text ≡ lines_of_sections ranged s → read_sections text ≡ Some s
read_by text true s none e = ap of_parts (ap parts e ∙ parts_ranged s)
read_by text false s none e =
    ap of_parts (ap parts e ∙ parts_plain s) ∙ ap (λ (ranges : List (List Field)). Some (record s { ranges = ranges })) (sym (none refl))

no_range : (first : ℕ) (some : List Row) → has_range some ≡ false → flat_map range_lines (enumerate_from first some) ≡ []
no_range first [] e = refl
no_range first (row ∷ some) e = by_kind row.kind e (no_range (first + 1) some)
  where
    by_kind : (kind : rows.RowKind) → (is_range kind || has_range some) ≡ false → (has_range some ≡ false → flat_map range_lines (enumerate_from (first + 1) some) ≡ []) → range_lines_of first kind ++ flat_map range_lines (enumerate_from (first + 1) some) ≡ []
    by_kind (One s right) e later = later e
    by_kind (Range low high) e later = cc

ranges_give : (ranged : Bool) (text : List ℕ) (lines : List (List Field)) → Gives text (map Fields lines) → Gives (if ranged then codes "RANGES\n" ++ text else []) (ranges_section ranged lines)
ranges_give true text lines gives =
    Gives-append (codes "RANGES\n") text (Heading (codes "RANGES") ∷ []) (map Fields lines) (Gives-heading (codes "RANGES") (refl, (refl, (refl, (refl, (refl, (refl, tt)))))) refl) gives
ranges_give false text lines gives = record { cut = λ rest. refl }

file_gives : (p : LinearProgram) → 1 + length p.columns < 2 ^ 64 → 1 + length p.rows < 2 ^ 64 → IsReadableProgram p → Gives (mps_text p) (lines_of_sections (has_range p.rows) (file_sections p))
file_gives p few many reads =
    let over = over_rows p few in
    let end = Gives-heading (codes "ENDATA") (refl, (refl, (refl, (refl, (refl, (refl, tt)))))) refl in
    let bounds = Gives-append (flat_map bound_text (mps_columns p)) _ _ _ (bound_texts (length p.rows) (mps_columns p) over reads.sides) end in
    let bounds_heading = Gives-append (codes "BOUNDS\n") _ _ _ (Gives-heading (codes "BOUNDS") (refl, (refl, (refl, (refl, (refl, (refl, tt)))))) refl) bounds in
    let ranges = Gives-append (ranges_text p.rows) _ _ _ (ranges_give (has_range p.rows) (flat_map range_text (enumerate_from 1 p.rows)) (flat_map range_lines (enumerate_from 1 p.rows)) (range_texts p.rows many reads.ranges)) bounds_heading in
    let rights = Gives-append (flat_map right_text (enumerate_from 1 p.rows)) _ _ _ (right_texts p.rows many reads.rights) ranges in
    let rights_heading = Gives-append (codes "RHS\n") _ _ _ (Gives-heading (codes "RHS") (refl, (refl, (refl, tt))) refl) rights in
    let columns = Gives-append (columns_text (mps_columns p)) _ _ _ (column_texts (length p.rows) (mps_columns p) many over reads.columns) rights_heading in
    let columns_heading = Gives-append (codes "COLUMNS\n") _ _ _ (Gives-heading (codes "COLUMNS") (refl, (refl, (refl, (refl, (refl, (refl, (refl, tt))))))) refl) columns in
    let rows = Gives-append (flat_map row_text (enumerate_from 1 p.rows)) _ _ _ (row_texts p.rows many) columns_heading in
    let objective = Gives-append (codes " N obj\n") _ _ _ (Gives-fields (codes " N obj\n") (codes "N") (codes "obj" ∷ []) refl (IsField-test (codes "N") refl refl, (IsField-test (codes "obj") refl refl, tt))) rows in
    let rows_heading = Gives-append (codes "ROWS\n") _ _ _ (Gives-heading (codes "ROWS") (refl, (refl, (refl, (refl, tt)))) refl) objective in
    Gives-append (codes "NAME zimplc\n") _ _ _ (Gives-heading (codes "NAME zimplc") (refl, (refl, (refl, (refl, (refl, (refl, (refl, (refl, (refl, (refl, (refl, tt))))))))))) refl) rows_heading

program_read : (p : LinearProgram) → IsReadableProgram p → read_program (file_sections p) ≡ Some (said p)
program_read p reads =
    rw (
      read_each-all read_row row_fields said_row (enumerate_from 1 p.rows) (rows_read 1 p.rows),
      columns_read (mps_columns p) reads.columns,
      read_each-all (read_setting (codes "RHS")) right_fields said_right (enumerate_from 1 p.rows) (rights_read 1 p.rows reads.rights),
      read_each-flat (read_setting (codes "RNG")) range_lines said_range (enumerate_from 1 p.rows) (ranges_read 1 p.rows reads.ranges),
      read_each-flat read_bound bound_lines said_bound (mps_columns p) (bounds_read (mps_columns p) reads.sides),
    )
    refl

-- the text is read into what its lines say
pub text_read : (p : LinearProgram) → 1 + length p.columns < 2 ^ 64 → 1 + length p.rows < 2 ^ 64 → IsReadableProgram p → option_and_then read_program (read_sections (mps_text p)) ≡ Some (said p)
text_read p few many reads =
    let lines : mps_lines (mps_text p) ≡ lines_of_sections (has_range p.rows) (file_sections p) =
    ap mps_lines (sym (append-nil (mps_text p))) ∙ (file_gives p few many reads).cut [] ∙ append-nil (lines_of_sections (has_range p.rows) (file_sections p)) in
    ap (option_and_then read_program) (read_by (mps_text p) (has_range p.rows) (file_sections p) (no_range 1 p.rows) lines) ∙ program_read p reads
