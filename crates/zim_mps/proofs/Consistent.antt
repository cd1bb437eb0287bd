-- What the lines of a program's text say is consistent, and `obj` is its one free row.
use Rattle.std.proofs.Common.{◌≡◌, ℕ, ◌+◌, ◌<◌, ◌^◌, Bool, true, false, not, ◌&&◌, ◌||◌, List, [], ◌∷◌, ◌++◌, length, map, Option, Some, None, refl, sym, ◌∙◌, ap, subst, arith}
use Rattle.std.specs.Prelude.{codes, is_some}
use Rattle.std.specs.List.{AllByRecursion, flat_map, enumerate_from, list_all, list_any}
use Rattle.std.specs.Str.{bytes_eq}
use Rattle.zim_rational.specs.Rational.{Rational}
use Rattle.zim_instance.specs.System.{HasDistinctNames}
use Rattle.zim_instance.proofs.Points.{bytes_eq-same}
use Rattle.zim_fields.specs.Fields.{Field}
use Rattle.zim_linear.specs.Forms.{Term}
use Rattle.zim_rows.specs.declared.rows.Row.{Row}
use Rattle.zim_rows.specs.declared.rows.RowKind as rows
use Rattle.zim_rows.specs.declared.rows.RowKind.TheVariants.{One, Range}
use Rattle.zim_rows.specs.declared.rows.Sense.TheVariants as sense
use Rattle.zim_rows.specs.Program.{LinearProgram, IsRow}
use Rattle.zim_rows.specs.Named as named
use Rattle.zim_rows.specs.Named.{row_name}
use Rattle.zim_mps.specs.Program.{Entry, Setting, Bound, is_among, are_distinct, is_free, is_at_least, names_of_rows, names_of_columns, is_integer, says_lower, says_upper, are_settings, is_marked_well, are_together, are_different_places, are_said_once, has_one_reading, is_consistent, only_name}
use Rattle.zim_mps.specs.Text.{NumberedRow, FileColumn, mps_columns}
use Rattle.zim_mps.proofs.Said.{said_kind, said_row, said_entry, said_column, said_right, said_range_of, said_range, said_sides, said_bound, said, IsEntry, IsOverRows, over_rows, all_append}
use Rattle.zim_mps.proofs.NameLemmas.{names_from, names_distinct, obj_no_row, or_true, among_names, rows_among, row_name_other}
use Rattle.zim_mps.proofs.ColumnLemmas.{named_of, columns_named, names_of_file, names_of_lines, HasMark, all_marked}
use Rattle.zim_mps.proofs.OnceLemmas.{columns_together, columns_apart, file_rising, columns_once, columns_read_one_way}

-- ---- the names of the rows

not_free : (kind : rows.RowKind) → is_free (said_kind kind) ≡ false
not_free (One sense.AtLeast right) = refl
not_free (One sense.AtMost right) = refl
not_free (One sense.Equal right) = refl
not_free (Range low high) = refl

names_all : (first : ℕ) (some : List Row) → names_of_rows (λ _. true) (map said_row (enumerate_from first some)) ≡ names_from first some
names_all first [] = refl
names_all first (row ∷ some) = ap (λ (names : List Field). row_name first ∷ names) (names_all (first + 1) some)

names_bound : (first : ℕ) (some : List Row) → names_of_rows (λ k. not (is_free k)) (map said_row (enumerate_from first some)) ≡ names_from first some
names_bound first [] = refl
names_bound first (row ∷ some) = rw (not_free row.kind) (ap (λ (names : List Field). row_name first ∷ names) (names_bound (first + 1) some))

names_free : (first : ℕ) (some : List Row) → names_of_rows is_free (map said_row (enumerate_from first some)) ≡ []
names_free first [] = refl
names_free first (row ∷ some) = rw (not_free row.kind) (names_free (first + 1) some)

-- the one free row
pub one_free : (p : LinearProgram) → only_name (names_of_rows is_free (said p).rows) ≡ Some (codes "obj")
one_free p = ap (λ (names : List Field). only_name (codes "obj" ∷ names)) (names_free 1 p.rows)

-- ---- tests of lists

passes : {X : Type 0} (test : X → Bool) (xs : List X) → AllByRecursion (λ x. test x ≡ true) xs → list_all test xs ≡ true
passes test [] all = refl
passes test (x ∷ xs) all = rw (all.0, passes test xs all.1) refl

any_behind : {X : Type 0} (test : X → Bool) (xs ys : List X) → list_any test ys ≡ true → list_any test (xs ++ ys) ≡ true
any_behind test [] ys e = e
any_behind test (x ∷ xs) ys e = rw (any_behind test xs ys e) (or_true (test x))

-- ---- entries

-- An entry is of a row that is there.
abbrev IsOfRow : List Row → Entry → Type 0
IsOfRow some e = is_among (codes "obj" ∷ names_from 1 some) e.row ≡ true

entries_of_rows : (some : List Row) (name : Field) (integer : Bool) (entries : List Term) → AllByRecursion (IsEntry 1 (1 + length some)) entries → AllByRecursion (IsOfRow some) (map (said_entry name integer) entries)
entries_of_rows some name integer [] all = tt
entries_of_rows some name integer (e ∷ es) all =
    (among_names e.0 1 some all.0.from_first all.0.before_last, entries_of_rows some name integer es all.1)

columns_of_rows : (some : List Row) (cs : List FileColumn) → AllByRecursion (IsOverRows (length some)) cs → AllByRecursion (IsOfRow some) (flat_map said_column cs)
columns_of_rows some [] all = tt
columns_of_rows some (c ∷ cs) all =
    all_append (IsOfRow some) (said_column c) (flat_map said_column cs) (refl, entries_of_rows some c.name c.integer c.entries all.0.entries) (columns_of_rows some cs all.1)

-- ---- right sides and ranges

right_names : (first : ℕ) (some : List Row) → map (λ (s : Setting). s.row) (map said_right (enumerate_from first some)) ≡ names_from first some
right_names first [] = refl
right_names first (row ∷ some) = ap (λ (names : List Field). row_name first ∷ names) (right_names (first + 1) some)

rights_pass : (names : List Field) (rs : List NumberedRow) → AllByRecursion (λ (r : NumberedRow). is_among names (row_name r.0) ≡ true) rs → list_all (λ (s : Setting). is_among names s.row) (map said_right rs) ≡ true
rights_pass names [] all = refl
rights_pass names (r ∷ rs) all = rw (all.0, rights_pass names rs all.1) refl

rights_settings : (some : List Row) → 1 + length some < 2 ^ 64 → are_settings (names_from 1 some) (map said_right (enumerate_from 1 some)) ≡ true
rights_settings some room =
    rw (right_names 1 some, names_distinct 1 some room, rights_pass (names_from 1 some) (enumerate_from 1 some) (rows_among some)) refl

-- the names of the ranges of rows that are numbered from one number on
abbrev range_names : ℕ → List Row → List Field
range_names first some = map (λ (s : Setting). s.row) (flat_map said_range (enumerate_from first some))

range_later : (i first : ℕ) (some : List Row) → i < first → first + length some < 2 ^ 64 → is_among (range_names first some) (row_name i) ≡ false
range_later i first [] h room = refl
range_later i first (row ∷ some) h room = by_kind row.kind (range_later i (first + 1) some (omega arith) (omega arith))
  where
    by_kind : (kind : rows.RowKind) → is_among (range_names (first + 1) some) (row_name i) ≡ false → is_among (map (λ (s : Setting). s.row) (said_range_of first kind ++ flat_map said_range (enumerate_from (first + 1) some))) (row_name i) ≡ false
    by_kind (One s right) rest = rest
    by_kind (Range low high) rest =
        rw (row_name_other i first (omega arith) (omega arith) (λ (same : i ≡ first). absurd (omega arith))) rest

ranges_distinct : (first : ℕ) (some : List Row) → first + length some < 2 ^ 64 → are_distinct (range_names first some) ≡ true
ranges_distinct first [] room = refl
ranges_distinct first (row ∷ some) room = by_kind row.kind (ranges_distinct (first + 1) some (omega arith))
  where
    by_kind : (kind : rows.RowKind) → are_distinct (range_names (first + 1) some) ≡ true → are_distinct (map (λ (s : Setting). s.row) (said_range_of first kind ++ flat_map said_range (enumerate_from (first + 1) some))) ≡ true
    by_kind (One s right) rest = rest
    by_kind (Range low high) rest = rw (range_later first (first + 1) some (omega arith) (omega arith)) rest

-- the names of the G rows
abbrev least_names : ℕ → List Row → List Field
least_names first some = names_of_rows is_at_least (map said_row (enumerate_from first some))

widened : (name : Field) (names : List Field) (ss : List Setting) → list_all (λ (s : Setting). is_among names s.row) ss ≡ true → list_all (λ (s : Setting). is_among (name ∷ names) s.row) ss ≡ true
widened name names [] e = refl
widened name names (s ∷ ss) e = by_first (is_among names s.row) refl e (widened name names ss)
  where
    by_first : (b : Bool) → is_among names s.row ≡ b → (b && list_all (λ (s : Setting). is_among names s.row) ss) ≡ true → (list_all (λ (s : Setting). is_among names s.row) ss ≡ true → list_all (λ (s : Setting). is_among (name ∷ names) s.row) ss ≡ true) → list_all (λ (s : Setting). is_among (name ∷ names) s.row) (s ∷ ss) ≡ true
    by_first true g e later = rw (g, or_true (bytes_eq s.row name), later e) refl
    by_first false g e later = cc

ranges_pass : (first : ℕ) (some : List Row) → list_all (λ (s : Setting). is_among (least_names first some) s.row) (flat_map said_range (enumerate_from first some)) ≡ true
ranges_pass first [] = refl
ranges_pass first (row ∷ some) = by_kind row.kind (ranges_pass (first + 1) some)
  where
    by_kind : (kind : rows.RowKind) → list_all (λ (s : Setting). is_among (least_names (first + 1) some) s.row) (flat_map said_range (enumerate_from (first + 1) some)) ≡ true → list_all (λ (s : Setting). is_among (names_of_rows is_at_least (record { kind = said_kind kind; name = row_name first } ∷ map said_row (enumerate_from (first + 1) some))) s.row) (said_range_of first kind ++ flat_map said_range (enumerate_from (first + 1) some)) ≡ true
    by_kind (One sense.AtLeast right) rest = widened (row_name first) (least_names (first + 1) some) (flat_map said_range (enumerate_from (first + 1) some)) rest
    by_kind (One sense.AtMost right) rest = rest
    by_kind (One sense.Equal right) rest = rest
    by_kind (Range low high) rest =
        rw (bytes_eq-same (row_name first)) (widened (row_name first) (least_names (first + 1) some) (flat_map said_range (enumerate_from (first + 1) some)) rest)

ranges_settings : (some : List Row) → 1 + length some < 2 ^ 64 → are_settings (least_names 1 some) (flat_map said_range (enumerate_from 1 some)) ≡ true
ranges_settings some room = rw (ranges_distinct 1 some room, ranges_pass 1 some) refl

-- ---- bounds

sides_among : (names : List Field) (name : Field) (low high : Option Rational) → is_among names name ≡ true → AllByRecursion (λ (b : Bound). is_among names b.column ≡ true) (said_sides name low high)
sides_among names name (Some l) (Some u) e = (e, (e, tt))
sides_among names name (Some l) None e = (e, (e, tt))
sides_among names name None (Some u) e = (e, (e, tt))
sides_among names name None None e = (e, tt)

bounds_among : (names : List Field) (cs : List FileColumn) → AllByRecursion (λ (c : FileColumn). is_among names c.name ≡ true) cs → AllByRecursion (λ (b : Bound). is_among names b.column ≡ true) (flat_map said_bound cs)
bounds_among names [] all = tt
bounds_among names (c ∷ cs) all =
    all_append (λ (b : Bound). is_among names b.column ≡ true) (said_bound c) (flat_map said_bound cs) (sides_among names c.name c.low c.high all.0) (bounds_among names cs all.1)

among_more : (c : FileColumn) (all ds : List FileColumn) → AllByRecursion (λ (d : FileColumn). is_among (names_of_file all) d.name ≡ true) ds → AllByRecursion (λ (d : FileColumn). is_among (names_of_file (c ∷ all)) d.name ≡ true) ds
among_more c all [] h = tt
among_more c all (d ∷ ds) h = (rw h.0 (or_true (bytes_eq d.name c.name)), among_more c all ds h.1)

own_among : (cs : List FileColumn) → AllByRecursion (λ (c : FileColumn). is_among (names_of_file cs) c.name ≡ true) cs
own_among [] = tt
own_among (c ∷ cs) = (rw (bytes_eq-same c.name) refl, among_more c cs cs (own_among cs))

bounds_pass : (cs : List FileColumn) → list_all (λ (b : Bound). is_among (names_of_columns (flat_map said_column cs)) b.column) (flat_map said_bound cs) ≡ true
bounds_pass cs =
    passes (λ (b : Bound). is_among (names_of_columns (flat_map said_column cs)) b.column) (flat_map said_bound cs) (by_lines (flat_map said_bound cs) (bounds_among (names_of_file cs) cs (own_among cs)))
  where
    by_lines : (bs : List Bound) → AllByRecursion (λ (b : Bound). is_among (names_of_file cs) b.column ≡ true) bs → AllByRecursion (λ (b : Bound). is_among (names_of_columns (flat_map said_column cs)) b.column ≡ true) bs
    by_lines [] all = tt
    by_lines (b ∷ bs) all = (names_of_lines cs b.column ∙ all.0, by_lines bs all.1)

-- ---- marks

-- Both ends of a column are said.
record AreSaid (bounds : List Bound) (c : FileColumn) : Type 0 where
  lower : says_lower bounds c.name ≡ true
  upper : says_upper bounds c.name ≡ true

sides_said : (name : Field) (low high : Option Rational) (rest : List Bound) → bytes_eq name name ≡ true → (says_lower (said_sides name low high ++ rest) name ≡ true) × (says_upper (said_sides name low high ++ rest) name ≡ true)
sides_said name (Some l) (Some u) rest same = (rw same refl, rw same refl)
sides_said name (Some l) None rest same = (rw same refl, rw same refl)
sides_said name None (Some u) rest same = (rw same refl, rw same refl)
sides_said name None None rest same = (rw same refl, rw same refl)

said_more : (c : FileColumn) (bounds : List Bound) (ds : List FileColumn) → AllByRecursion (AreSaid bounds) ds → AllByRecursion (AreSaid (said_bound c ++ bounds)) ds
said_more c bounds [] all = tt
said_more c bounds (d ∷ ds) all = (
  record {
    lower = any_behind (λ (b : Bound). bytes_eq d.name b.column && is_some b.lower) (said_bound c) bounds all.0.lower;
    upper = any_behind (λ (b : Bound). bytes_eq d.name b.column && is_some b.upper) (said_bound c) bounds all.0.upper;
  },
  said_more c bounds ds all.1,
)

all_said : (cs : List FileColumn) → AllByRecursion (AreSaid (flat_map said_bound cs)) cs
all_said [] = tt
all_said (c ∷ cs) =
    let both = sides_said c.name c.low c.high (flat_map said_bound cs) (bytes_eq-same c.name) in
    (record { lower = both.0; upper = both.1 }, said_more c (flat_map said_bound cs) cs (all_said cs))

mark_is_well : (i m l u : Bool) → i ≡ m → l ≡ true → u ≡ true → (not i || (m && (l && u))) ≡ true
mark_is_well true true l u e f g = rw (f, g) refl
mark_is_well false m l u e f g = refl
mark_is_well true false l u e f g = cc

entries_marked : (p : LinearProgram) (name : Field) (integer : Bool) (entries : List Term) → (not (is_integer (said p).entries name) || (integer && (says_lower (said p).bounds name && says_upper (said p).bounds name))) ≡ true → AllByRecursion (λ (e : Entry). is_marked_well (said p) e ≡ true) (map (said_entry name integer) entries)
entries_marked p name integer [] well = tt
entries_marked p name integer (e ∷ es) well = (well, entries_marked p name integer es well)

columns_marked : (p : LinearProgram) (cs : List FileColumn) → AllByRecursion (HasMark (mps_columns p)) cs → AllByRecursion (AreSaid (said p).bounds) cs → AllByRecursion (λ (e : Entry). is_marked_well (said p) e ≡ true) (flat_map said_column cs)
columns_marked p [] marks ends = tt
columns_marked p (c ∷ cs) marks ends =
    let well = mark_is_well (is_integer (said p).entries c.name) c.integer (says_lower (said p).bounds c.name) (says_upper (said p).bounds c.name) marks.0 ends.0.lower ends.0.upper in
    all_append (λ (e : Entry). is_marked_well (said p) e ≡ true) (said_column c) (flat_map said_column cs)
    (well, entries_marked p c.name c.integer c.entries well)
    (columns_marked p cs marks.1 ends.1)

-- each lower end is said
lower_said : (bounds : List Bound) (cs : List FileColumn) → AllByRecursion (AreSaid bounds) cs → AllByRecursion (λ (c : FileColumn). says_lower bounds c.name ≡ true) cs
lower_said bounds [] all = tt
lower_said bounds (c ∷ cs) all = (all.0.lower, lower_said bounds cs all.1)

-- ---- all of it

pub consistent : (p : LinearProgram) → 1 + length p.columns < 2 ^ 64 → 1 + length p.rows < 2 ^ 64 → HasDistinctNames (named.file_columns p) → AllByRecursion (IsRow (length p.columns)) p.rows → is_consistent (said p) ≡ true
consistent p few room names each =
    let others : HasDistinctNames (map named_of (mps_columns p)) = subst HasDistinctNames (sym (columns_named p)) names in
    let all : names_of_rows (λ _. true) (said p).rows ≡ codes "obj" ∷ names_from 1 p.rows = ap (λ (names : List Field). codes "obj" ∷ names) (names_all 1 p.rows) in
    let distinct : are_distinct (names_of_rows (λ _. true) (said p).rows) ≡ true = rw (names_all 1 p.rows, obj_no_row 1 p.rows, names_distinct 1 p.rows room) refl in
    let entries : list_all (λ (e : Entry). is_among (names_of_rows (λ _. true) (said p).rows) e.row) (said p).entries ≡ true =
    ap (λ (names : List Field). list_all (λ (e : Entry). is_among names e.row) (said p).entries) all
    ∙ passes (λ (e : Entry). is_among (codes "obj" ∷ names_from 1 p.rows) e.row) (said p).entries (columns_of_rows p.rows (mps_columns p) (over_rows p few)) in
    let rights : are_settings (names_of_rows (λ k. not (is_free k)) (said p).rows) (said p).rhs ≡ true =
    ap (λ (names : List Field). are_settings names (said p).rhs) (names_bound 1 p.rows) ∙ rights_settings p.rows room in
    let ranges : are_settings (names_of_rows is_at_least (said p).rows) (said p).ranges ≡ true = ranges_settings p.rows room in
    let bounds : list_all (λ (b : Bound). is_among (names_of_columns (said p).entries) b.column) (said p).bounds ≡ true = bounds_pass (mps_columns p) in
    let marks : list_all (is_marked_well (said p)) (said p).entries ≡ true =
    passes (is_marked_well (said p)) (said p).entries (columns_marked p (mps_columns p) (all_marked (mps_columns p) others) (all_said (mps_columns p))) in
    let together : are_together (said p).entries ≡ true = columns_together (mps_columns p) others in
    let places : are_different_places (said p).entries ≡ true = columns_apart (length p.rows) (mps_columns p) room (over_rows p few) (file_rising p each) others in
    let once : are_said_once (said p).bounds ≡ true = columns_once (mps_columns p) others in
    let one_way : list_all (has_one_reading (said p).bounds) (said p).bounds ≡ true =
    passes (has_one_reading (said p).bounds) (said p).bounds
    (columns_read_one_way (said p).bounds (mps_columns p) (lower_said (said p).bounds (mps_columns p) (all_said (mps_columns p)))) in
    ten_tests _ _ _ _ _ _ _ _ _ _ distinct entries rights ranges bounds marks together places once one_way
  where
    both : (a b : Bool) → a ≡ true → b ≡ true → (a && b) ≡ true
    both a b s t = rw (s, t) refl

    ten_tests : (a b c d e f g h i j : Bool) → a ≡ true → b ≡ true → c ≡ true → d ≡ true → e ≡ true → f ≡ true → g ≡ true → h ≡ true → i ≡ true → j ≡ true → (a && (b && (c && (d && (e && (f && (g && (h && (i && j))))))))) ≡ true
    ten_tests a b c d e f g h i j p q r s t u v w x y =
        both a _ p (both b _ q (both c _ r (both d _ s (both e _ t (both f _ u (both g _ v (both h _ w (both i j x y))))))))
