-- The columns that the lines of a file say are those of the file, each with its mark and its sides.
use Rattle.std.proofs.Common.{◌≡◌, ℕ, ◌+◌, Bool, true, false, ◌||◌, ◌&&◌, List, [], ◌∷◌, ◌++◌, map, Option, Some, None, refl, sym, ◌∙◌, ap, subst}
use Rattle.std.specs.Prelude.{codes, fold, if◌then◌else◌}
use Rattle.std.specs.List.{AllByRecursion, flat_map, enumerate_from}
use Rattle.std.specs.Str.{bytes_eq}
use Rattle.std.proofs.lemmas.List.{map-append}
use Rattle.zim_rational.specs.Rational as rational
use Rattle.zim_rational.specs.Rational.{Rational}
use Rattle.zim_instance.specs.Instance.{Column}
use Rattle.zim_instance.specs.System.{NamedColumn, HasDistinctNames, column_named}
use Rattle.zim_instance.proofs.Points.{same-bytes_eq, bytes_eq-same, other-bytes_eq}
use Rattle.zim_fields.specs.Fields.{Field}
use Rattle.zim_linear.specs.Forms.{Term}
use Rattle.zim_rows.specs.declared.rows.Column as rows
use Rattle.zim_rows.specs.Program.{LinearProgram}
use Rattle.zim_rows.specs.Named as named
use Rattle.zim_mps.specs.Program.{Entry, Bound, is_among, names_of_columns, is_integer, with_bound, instance_of}
use Rattle.zim_mps.specs.Text.{FileColumn, numbered_column, mps_offset_column, mps_columns}
use Rattle.zim_mps.proofs.Said.{said_entry, said_column, said_sides, said_bound, said}

-- ---- the columns of the file

-- A column of the file with its name, its mark and its sides.
abbrev pub named_of : FileColumn → NamedColumn
named_of c = record { name = c.name; column = record { integer = c.integer; lower = c.low; upper = c.high } }

numbered_named : (p : LinearProgram) (first : ℕ) (columns : List rows.Column) → map named_of (map (numbered_column p) (enumerate_from first columns)) ≡ map named.named_column (enumerate_from first columns)
numbered_named p first [] = refl
numbered_named p first (c ∷ cs) = ap (λ (ds : List NamedColumn). named.named_column (first, c) ∷ ds) (numbered_named p (first + 1) cs)

offset_named : (p : LinearProgram) (b : Bool) → map named_of (if b then mps_offset_column p ∷ [] else []) ≡ (if b then named.offset_column ∷ [] else [])
offset_named p true = refl
offset_named p false = refl

-- the columns of the file by name
pub columns_named : (p : LinearProgram) → map named_of (mps_columns p) ≡ named.file_columns p
columns_named p =
    map-append named_of (map (numbered_column p) (enumerate_from 1 p.columns)) (if named.has_offset p then mps_offset_column p ∷ [] else [])
    ∙ ap (λ (ds : List NamedColumn). ds ++ map named_of (if named.has_offset p then mps_offset_column p ∷ [] else [])) (numbered_named p 1 p.columns)
    ∙ ap (λ (ds : List NamedColumn). map named.named_column (enumerate_from 1 p.columns) ++ ds) (offset_named p (named.has_offset p))

-- ---- entries

-- the names of columns
abbrev pub names_of_file : List FileColumn → List Field
names_of_file cs = map (λ (c : FileColumn). c.name) cs

or_again : (b t : Bool) → (b || (b || t)) ≡ (b || t)
or_again true t = refl
or_again false t = refl

among_entries : (name word : Field) (integer : Bool) (entries : List Term) (rest : List Entry) → (bytes_eq word name || is_among (names_of_columns (map (said_entry name integer) entries ++ rest)) word) ≡ (bytes_eq word name || is_among (names_of_columns rest) word)
among_entries name word integer [] rest = refl
among_entries name word integer (e ∷ es) rest = or_again (bytes_eq word name) _ ∙ among_entries name word integer es rest

-- the names of the columns' lines are the names of the columns
pub names_of_lines : (cs : List FileColumn) (word : Field) → is_among (names_of_columns (flat_map said_column cs)) word ≡ is_among (names_of_file cs) word
names_of_lines [] word = refl
names_of_lines (c ∷ cs) word =
    among_entries c.name word c.integer c.entries (flat_map said_column cs)
    ∙ ap (λ (b : Bool). bytes_eq word c.name || b) (names_of_lines cs word)

marked_again : (b m t : Bool) → (b && m || (b && m || t)) ≡ (b && m || t)
marked_again true true t = refl
marked_again true false t = refl
marked_again false m t = refl

marked_entries : (name word : Field) (integer : Bool) (entries : List Term) (rest : List Entry) → (bytes_eq word name && integer || is_integer (map (said_entry name integer) entries ++ rest) word) ≡ (bytes_eq word name && integer || is_integer rest word)
marked_entries name word integer [] rest = refl
marked_entries name word integer (e ∷ es) rest = marked_again (bytes_eq word name) integer _ ∙ marked_entries name word integer es rest

-- a name has a line between the markers where the first column is of that name and integer, or a later one
mark_next : (c : FileColumn) (cs : List FileColumn) (word : Field) → is_integer (flat_map said_column (c ∷ cs)) word ≡ (bytes_eq word c.name && c.integer || is_integer (flat_map said_column cs) word)
mark_next c cs word = marked_entries c.name word c.integer c.entries (flat_map said_column cs)

-- a column's name is none of those of others
abbrev pub IsOther : Field → List FileColumn → Type 0
IsOther name cs = AllByRecursion (λ (d : NamedColumn). bytes_eq name d.name ≡ false) (map named_of cs)

other_mark : (name : Field) (cs : List FileColumn) → IsOther name cs → is_integer (flat_map said_column cs) name ≡ false
other_mark name [] other = refl
other_mark name (c ∷ cs) other = mark_next c cs name ∙ rw (other.0, other_mark name cs other.1) refl

or_false : (b : Bool) → (b || false) ≡ b
or_false true = refl
or_false false = refl

first_mark : (c : FileColumn) (cs : List FileColumn) → IsOther c.name cs → is_integer (flat_map said_column (c ∷ cs)) c.name ≡ c.integer
first_mark c cs other = mark_next c cs c.name ∙ rw (bytes_eq-same c.name, other_mark c.name cs other) (or_false c.integer)

-- A column's mark is read back.
abbrev pub HasMark : List FileColumn → FileColumn → Type 0
HasMark cs c = is_integer (flat_map said_column cs) c.name ≡ c.integer

later_marks : (c : FileColumn) (cs ds : List FileColumn) → IsOther c.name ds → AllByRecursion (HasMark cs) ds → AllByRecursion (HasMark (c ∷ cs)) ds
later_marks c cs [] other all = tt
later_marks c cs (d ∷ ds) other all =
    (mark_next c cs d.name ∙ rw (other-bytes_eq c.name d.name other.0) all.0, later_marks c cs ds other.1 all.1)

-- the mark of each column is read back
pub all_marked : (cs : List FileColumn) → HasDistinctNames (map named_of cs) → AllByRecursion (HasMark cs) cs
all_marked [] distinct = tt
all_marked (c ∷ cs) distinct = (first_mark c cs distinct.0, later_marks c cs cs distinct.0 (all_marked cs distinct.1))

-- ---- bounds

fold_append : (name : Field) (column : Column) (bs ds : List Bound) → fold (with_bound name) column (bs ++ ds) ≡ fold (with_bound name) (fold (with_bound name) column bs) ds
fold_append name column [] ds = refl
fold_append name column (b ∷ bs) ds = fold_append name (with_bound name column b) bs ds

-- the lines of a column's sides set both
sides_set : (name : Field) (low high : Option Rational) (integer : Bool) (l h : Option Rational) → bytes_eq name name ≡ true → fold (with_bound name) (record { integer = integer; lower = l; upper = h }) (said_sides name low high) ≡ record { integer = integer; lower = low; upper = high }
sides_set name (Some a) (Some b) integer l h same = rw same refl
sides_set name (Some a) None integer l h same = rw same refl
sides_set name None (Some b) integer l h same = rw same refl
sides_set name None None integer l h same = rw same refl

-- and leave a column of another name
sides_left : (word name : Field) (low high : Option Rational) (column : Column) → bytes_eq word name ≡ false → fold (with_bound word) column (said_sides name low high) ≡ column
sides_left word name (Some a) (Some b) column other = rw other refl
sides_left word name (Some a) None column other = rw other refl
sides_left word name None (Some b) column other = rw other refl
sides_left word name None None column other = rw other refl

others_left : (name : Field) (cs : List FileColumn) (column : Column) → IsOther name cs → fold (with_bound name) column (flat_map said_bound cs) ≡ column
others_left name [] column other = refl
others_left name (c ∷ cs) column other =
    fold_append name column (said_bound c) (flat_map said_bound cs)
    ∙ ap (λ (d : Column). fold (with_bound name) d (flat_map said_bound cs)) (sides_left name c.name c.low c.high column other.0)
    ∙ others_left name cs column other.1

-- ---- the columns that are read

-- a column before its bounds are read
abbrev unbounded : Bool → Column
unbounded integer = record { integer = integer; lower = Some rational.zero; upper = None }

-- what the lines say of a name's column
abbrev column_read : List FileColumn → Field → Column
column_read cs name = fold (with_bound name) (unbounded (is_integer (flat_map said_column cs) name)) (flat_map said_bound cs)

-- the column of a name that the lines say, if they say one
abbrev read_column : List FileColumn → Field → Option Column
read_column cs name = if is_among (names_of_file cs) name then Some (column_read cs name) else None

first_read : (c : FileColumn) (cs : List FileColumn) → IsOther c.name cs → column_read (c ∷ cs) c.name ≡ (named_of c).column
first_read c cs other =
    fold_append c.name (unbounded (is_integer (flat_map said_column (c ∷ cs)) c.name)) (said_bound c) (flat_map said_bound cs)
    ∙ ap (λ (d : Column). fold (with_bound c.name) d (flat_map said_bound cs))
    (sides_set c.name c.low c.high (is_integer (flat_map said_column (c ∷ cs)) c.name) (Some rational.zero) None (bytes_eq-same c.name))
    ∙ others_left c.name cs _ other
    ∙ ap (λ (b : Bool). let d : Column = record { integer = b; lower = c.low; upper = c.high } in d) (first_mark c cs other)

later_read : (c : FileColumn) (cs : List FileColumn) (name : Field) → bytes_eq name c.name ≡ false → column_read (c ∷ cs) name ≡ column_read cs name
later_read c cs name e =
    fold_append name (unbounded (is_integer (flat_map said_column (c ∷ cs)) name)) (said_bound c) (flat_map said_bound cs)
    ∙ ap (λ (d : Column). fold (with_bound name) d (flat_map said_bound cs)) (sides_left name c.name c.low c.high (unbounded (is_integer (flat_map said_column (c ∷ cs)) name)) e)
    ∙ ap (λ (b : Bool). fold (with_bound name) (unbounded b) (flat_map said_bound cs)) (mark_next c cs name ∙ ap (λ (b : Bool). b && c.integer || is_integer (flat_map said_column cs) name) e)

columns_read : (cs : List FileColumn) → HasDistinctNames (map named_of cs) → (name : Field) → read_column cs name ≡ column_named (map named_of cs) name
columns_read [] distinct name = refl
columns_read (c ∷ cs) distinct name = by_name (bytes_eq name c.name) refl (columns_read cs distinct.1 name)
  where
    by_name : (b : Bool) → bytes_eq name c.name ≡ b → read_column cs name ≡ column_named (map named_of cs) name → read_column (c ∷ cs) name ≡ column_named (map named_of (c ∷ cs)) name
    by_name true e rest =
        ap (λ (b : Bool). if b || is_among (names_of_file cs) name then Some (column_read (c ∷ cs) name) else None) e
        ∙ ap (λ (column : Column). Some column) (subst (λ (word : Field). column_read (c ∷ cs) word ≡ (named_of c).column) (sym (same-bytes_eq name c.name e)) (first_read c cs distinct.0))
        ∙ sym (ap (λ (b : Bool). if b then Some ((named_of c).column) else column_named (map named_of cs) name) e)
    by_name false e rest =
        ap (λ (b : Bool). if b || is_among (names_of_file cs) name then Some (column_read (c ∷ cs) name) else None) e
        ∙ ap (λ (column : Column). if is_among (names_of_file cs) name then Some column else None) (later_read c cs name e)
        ∙ rest
        ∙ sym (ap (λ (b : Bool). if b then Some ((named_of c).column) else column_named (map named_of cs) name) e)

-- the columns of the text are those of the file
pub columns_same : (p : LinearProgram) → HasDistinctNames (named.file_columns p) → (name : Field) → (instance_of (said p) (codes "obj")).column name ≡ column_named (named.file_columns p) name
columns_same p distinct name =
    ap (λ (b : Bool). if b then Some (column_read (mps_columns p) name) else None) (names_of_lines (mps_columns p) name)
    ∙ columns_read (mps_columns p) (subst HasDistinctNames (sym (columns_named p)) distinct) name
    ∙ ap (λ (ds : List NamedColumn). column_named ds name) (columns_named p)
