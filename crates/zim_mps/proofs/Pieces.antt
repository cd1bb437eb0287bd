-- How the text of a file is put together from pieces.
use Rattle.std.proofs.Common.{◌≡◌, ℕ, ◌+◌, ◌<◌, Bool, true, false, cond, List, [], ◌∷◌, ◌++◌, length, map, take, get_or, refl, sym, ◌∙◌, ap, arith, append_assoc, length-take}
use Rattle.std.specs.Prelude.{◌==◌, All, flat_map, if◌then◌else◌}
use Rattle.std.specs.List.{enumerate_from, filter}
use Rattle.std.proofs.lemmas.List.{map-append, append-nil, take_more}
use Rattle.std.proofs.lemmas.List.Concat.{flat_map-append}
use Rattle.std.proofs.lemmas.List.FromFn.{get_or-map-range_with_len, length-map-range_with_len}
use Rattle.std.proofs.lemmas.List.Elements.{All-head, All-tail, All-nil, All-cons, All-append}
use Rattle.zim_rational.specs.Rational.{Rational}
use Rattle.zim_linear.specs.Forms.{Term}
use Rattle.zim_rows.specs.declared.rows.Column.{Column}
use Rattle.zim_rows.specs.declared.rows.Row.{Row}
use Rattle.zim_rows.specs.Entries.{entries_of_row, entries_of_column, entries_by_column}
use Rattle.zim_rows.specs.Program.{LinearProgram, IsRow, IsShortTerm}
use Rattle.zim_rows.specs.Named.{column_name, has_offset}
use Rattle.zim_mps.specs.Text.{NumberedRow, FileColumn, numbered_column, mps_offset_column, numbered_columns, offset_columns, mps_columns, cost_of, cost_text, entry_text, column_text, marker_text, columns_front, last_mark, columns_text, bound_text}
use Rattle.zim_mps.specs.Puts.{HasShortKind, column_sides_text, offset_text}

-- ---- rows

-- the numbers of rows are short
pub short_kinds : (n : ℕ) (rows : List Row) → All (IsRow n) rows → All HasShortKind rows
short_kinds n [] each = All-nil HasShortKind
short_kinds n (row ∷ rows) each =
    All-cons HasShortKind row rows (All-head (IsRow n) row rows each).kind (short_kinds n rows (All-tail (IsRow n) row rows each))

-- ---- entries

short_at : (number j : ℕ) (terms : List Term) → All IsShortTerm terms → All IsShortTerm (entries_of_row number terms j)
short_at number j [] each = All-nil IsShortTerm
short_at number j (t ∷ ts) each = by_column (t.0 == j) (short_at number j ts (All-tail IsShortTerm t ts each))
  where
    by_column : (b : Bool) → All IsShortTerm (entries_of_row number ts j) → All IsShortTerm (map (λ (t : Term). (number, t.1)) (cond b (t ∷ filter (λ (t : Term). t.0 == j) ts) (filter (λ (t : Term). t.0 == j) ts)))
    by_column true rest = All-cons IsShortTerm (number, t.1) (entries_of_row number ts j) (All-head IsShortTerm t ts each) rest
    by_column false rest = rest

short_from : (n first j : ℕ) (rows : List Row) → All (IsRow n) rows → All IsShortTerm (flat_map (λ (r : NumberedRow). entries_of_row r.0 r.1.terms j) (enumerate_from first rows))
short_from n first j [] each = All-nil IsShortTerm
short_from n first j (row ∷ rows) each =
    All-append IsShortTerm (entries_of_row first row.terms j) (flat_map (λ (r : NumberedRow). entries_of_row r.0 r.1.terms j) (enumerate_from (first + 1) rows))
    (short_at first j row.terms (All-head (IsRow n) row rows each).short)
    (short_from n (first + 1) j rows (All-tail (IsRow n) row rows each))

-- the entries of a column are short
pub short_entries : (n j : ℕ) (rows : List Row) → All (IsRow n) rows → All IsShortTerm (entries_of_column rows j)
short_entries n j rows each = short_from n 1 j rows each

-- there is a list of entries for each column
pub entries_count : (n : ℕ) (rows : List Row) (entries : List (List Term)) → entries ≡ entries_by_column n rows → length entries ≡ n
entries_count n rows entries e = ap length e ∙ length-map-range_with_len (entries_of_column rows) 1 n

-- which are those of the column
pub entries_at : (n i : ℕ) (rows : List Row) (entries : List (List Term)) (d : List Term) → entries ≡ entries_by_column n rows → i < n → get_or entries i d ≡ entries_of_column rows (i + 1)
entries_at n i rows entries d e h =
    ap (λ (es : List (List Term)). get_or es i d) e ∙ get_or-map-range_with_len (entries_of_column rows) 1 n i (i + 1) d h (omega arith)

-- ---- columns

-- the first columns of a program, as they stand in the file
abbrev pub first_columns : LinearProgram → ℕ → List FileColumn
first_columns p i = map (numbered_column p) (enumerate_from 1 (take i p.columns))

enumerate-append : (n : ℕ) (xs ys : List Column) → enumerate_from n (xs ++ ys) ≡ enumerate_from n xs ++ enumerate_from (n + length xs) ys
enumerate-append n [] ys = ap (λ k. enumerate_from k ys) (omega arith)
enumerate-append n (x ∷ xs) ys =
    ap (λ (r : List (ℕ × Column)). (n, x) ∷ r) (enumerate-append (n + 1) xs ys ∙ ap (λ k. enumerate_from (n + 1) xs ++ enumerate_from k ys) (omega arith))

-- one column more
pub first_more : (p : LinearProgram) (i : ℕ) (d : Column) → i < length p.columns → first_columns p (i + 1) ≡ first_columns p i ++ numbered_column p (i + 1, get_or p.columns i d) ∷ []
first_more p i d h =
    let number : 1 + length (take i p.columns) ≡ i + 1 = simp length-take (omega arith) in
    ap (λ (cs : List Column). map (numbered_column p) (enumerate_from 1 cs)) (take_more p.columns i d h)
    ∙ ap (map (numbered_column p)) (enumerate-append 1 (take i p.columns) (get_or p.columns i d ∷ []))
    ∙ map-append (numbered_column p) (enumerate_from 1 (take i p.columns)) (enumerate_from (1 + length (take i p.columns)) (get_or p.columns i d ∷ []))
    ∙ ap (λ (k : ℕ). first_columns p i ++ numbered_column p (k, get_or p.columns i d) ∷ []) number

front-append : (before : Bool) (xs ys : List FileColumn) → columns_front before (xs ++ ys) ≡ columns_front before xs ++ columns_front (last_mark before xs) ys
front-append before [] ys = refl
front-append before (x ∷ xs) ys =
    ap (λ t. marker_text before x.integer ++ (column_text x ++ t)) (front-append x.integer xs ys)
    ∙ ap (λ t. marker_text before x.integer ++ t) (sym (append_assoc (column_text x) (columns_front x.integer xs) (columns_front (last_mark x.integer xs) ys)))
    ∙ sym (append_assoc (marker_text before x.integer) (column_text x ++ columns_front x.integer xs) (columns_front (last_mark x.integer xs) ys))

mark-append : (before : Bool) (xs ys : List FileColumn) → last_mark before (xs ++ ys) ≡ last_mark (last_mark before xs) ys
mark-append before [] ys = refl
mark-append before (x ∷ xs) ys = mark-append x.integer xs ys

-- the text of one column more
pub front_more : (p : LinearProgram) (i : ℕ) (d : Column) → i < length p.columns → columns_front false (first_columns p (i + 1)) ≡ columns_front false (first_columns p i) ++ (marker_text (last_mark false (first_columns p i)) (get_or p.columns i d).integer ++ column_text (numbered_column p (i + 1, get_or p.columns i d)))
front_more p i d h =
    let c : FileColumn = numbered_column p (i + 1, get_or p.columns i d) in
    ap (columns_front false) (first_more p i d h)
    ∙ front-append false (first_columns p i) (c ∷ [])
    ∙ ap (λ t. columns_front false (first_columns p i) ++ (marker_text (last_mark false (first_columns p i)) c.integer ++ t)) (append-nil (column_text c))

-- which is what a marker and the lines of the column are
pub column_put : (p : LinearProgram) (i : ℕ) (d : Column) (before : Bool) (q : Rational) (es : List Term) → i < length p.columns → d ≡ get_or p.columns i d → before ≡ last_mark false (first_columns p i) → q ≡ cost_of p.target (i + 1) → es ≡ entries_of_column p.rows (i + 1) → columns_front false (first_columns p i) ++ (marker_text before d.integer ++ (cost_text (column_name (i + 1)) q ++ flat_map (entry_text (column_name (i + 1))) es)) ≡ columns_front false (first_columns p (i + 1))
column_put p i d before q es h here mark cost entries =
    let front : List ℕ = columns_front false (first_columns p i) in
    let name : List ℕ = column_name (i + 1) in
    ap (λ (b : Bool). front ++ (marker_text b d.integer ++ (cost_text name q ++ flat_map (entry_text name) es))) mark
    ∙ ap (λ (c : Column). front ++ (marker_text (last_mark false (first_columns p i)) c.integer ++ (cost_text name q ++ flat_map (entry_text name) es))) here
    ∙ ap (λ (r : Rational). front ++ (marker_text (last_mark false (first_columns p i)) (get_or p.columns i d).integer ++ (cost_text name r ++ flat_map (entry_text name) es))) cost
    ∙ ap (λ (ts : List Term). front ++ (marker_text (last_mark false (first_columns p i)) (get_or p.columns i d).integer ++ (cost_text name (cost_of p.target (i + 1)) ++ flat_map (entry_text name) ts))) entries
    ∙ sym (front_more p i d h)

-- and its mark
pub mark_more : (p : LinearProgram) (i : ℕ) (d : Column) → i < length p.columns → last_mark false (first_columns p (i + 1)) ≡ (get_or p.columns i d).integer
mark_more p i d h = ap (last_mark false) (first_more p i d h) ∙ mark-append false (first_columns p i) (numbered_column p (i + 1, get_or p.columns i d) ∷ [])

-- the text of the columns, those of the program and then `one`
pub columns_joined : (p : LinearProgram) → columns_front false (numbered_columns p) ++ (marker_text (last_mark false (numbered_columns p)) false ++ offset_text p) ≡ columns_text (mps_columns p)
columns_joined p = by_offset (has_offset p) (numbered_columns p)
  where
    none : (m : Bool) → marker_text m false ++ [] ≡ marker_text m false
    none m = append-nil (marker_text m false)

    by_offset : (b : Bool) (cs : List FileColumn) → columns_front false cs ++ (marker_text (last_mark false cs) false ++ flat_map column_text (if b then mps_offset_column p ∷ [] else [])) ≡ columns_text (cs ++ (if b then mps_offset_column p ∷ [] else []))
    by_offset true cs =
        sym (
        ap (λ (m : Bool). columns_front false (cs ++ mps_offset_column p ∷ []) ++ marker_text m false) (mark-append false cs (mps_offset_column p ∷ []))
        ∙ append-nil (columns_front false (cs ++ mps_offset_column p ∷ []))
        ∙ front-append false cs (mps_offset_column p ∷ [])
        )
    by_offset false cs =
        ap (λ t. columns_front false cs ++ t) (none (last_mark false cs))
        ∙ ap columns_text (sym (append-nil cs))

-- ---- bounds

numbered_sides : (p : LinearProgram) (first : ℕ) (columns : List Column) → flat_map bound_text (map (numbered_column p) (enumerate_from first columns)) ≡ flat_map column_sides_text (enumerate_from first columns)
numbered_sides p first [] = refl
numbered_sides p first (c ∷ cs) = ap (λ t. column_sides_text (first, c) ++ t) (numbered_sides p (first + 1) cs)

-- the text of the bounds, those of the program's columns and then those of `one`
pub bounds_joined : (p : LinearProgram) → flat_map column_sides_text (enumerate_from 1 p.columns) ++ flat_map bound_text (offset_columns p) ≡ flat_map bound_text (mps_columns p)
bounds_joined p =
    ap (λ t. t ++ flat_map bound_text (offset_columns p)) (sym (numbered_sides p 1 p.columns))
    ∙ sym (flat_map-append bound_text (numbered_columns p) (offset_columns p))
