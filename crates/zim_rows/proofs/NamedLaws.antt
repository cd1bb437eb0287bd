-- The columns that a file has: their names differ, and a list of numbers keeps them where its first numbers keep the
-- program's columns and the rest is 1 for `one`.
use Rattle.std.proofs.Common.{◌≡◌, ◌↔◌, ◌≢◌, ℕ, suc, ◌+◌, ◌^◌, ◌<◌, ◌≤◌, Bool, true, false, if◌then◌else◌, List, [], ◌∷◌, ◌++◌, length, map, Option, Some, None, IfSome, refl, ap, arith}
use Rattle.std.specs.Prelude.{codes, decimal}
use Rattle.std.specs.List.{AllByRecursion, enumerate_from}
use Rattle.std.specs.Str.{bytes_eq}
use Rattle.std.proofs.lemmas.Fmt.{decimal_injective}
use Rattle.std.proofs.lemmas.List.{append_cancel_left}
use Rattle.std.proofs.lemmas.Slice.Eq.{bytes_eq-Decides}
use Rattle.zim_rational.specs.Rational as rational
use Rattle.zim_rational.specs.Rational.{Rational, IsAtMost}
use Rattle.zim_rational.proofs.Order.{at_most_refl}
use Rattle.zim_instance.specs.Instance.{IsFrom, IsUpTo}
use Rattle.zim_instance.specs.Instance as instance
use Rattle.zim_instance.specs.System.{NamedColumn, HasDistinctNames, column_named, KeepsColumns}
use Rattle.zim_rows.specs.declared.rows.Column.{Column}
use Rattle.zim_rows.specs.Program.{LinearProgram, IsProgram}
use Rattle.zim_rows.specs.Points.{KeepsColumn, KeepColumns}
use Rattle.zim_rows.specs.Covered.{written_column}
use Rattle.zim_rows.specs.Named.{column_name, offset_name, named_column, offset_column, has_offset, file_columns}

-- columns with different numbers have different names
pub column_name_other : (i j : ℕ) → i < 2 ^ 64 → j < 2 ^ 64 → i ≢ j → bytes_eq (column_name i) (column_name j) ≡ false
column_name_other i j h k other =
    differs (bytes_eq (column_name i) (column_name j)) refl
  where
    differs : (b : Bool) → bytes_eq (column_name i) (column_name j) ≡ b → bytes_eq (column_name i) (column_name j) ≡ false
    differs true e = absurd (other (decimal_injective i j h k (append_cancel_left (codes "x") (decimal i) (decimal j) ((bytes_eq-Decides (column_name i) (column_name j)).0 e))))
    differs false e = e

-- no column with a number is called `one`
pub offset_name_other : (i : ℕ) → bytes_eq offset_name (column_name i) ≡ false
offset_name_other i = refl

pub column_name_not_offset : (i : ℕ) → bytes_eq (column_name i) offset_name ≡ false
column_name_not_offset i = refl

-- the columns from number a on
abbrev pub columns_from : ℕ → List Column → List NamedColumn
columns_from a columns = map named_column (enumerate_from a columns)

-- `one`, where it stands
abbrev pub offset_columns : Bool → List NamedColumn
offset_columns b = if b then offset_column ∷ [] else []

later_names : (a k : ℕ) (columns : List Column) (b : Bool) → a < k → k + length columns ≤ 2 ^ 64 → AllByRecursion (λ (d : NamedColumn). bytes_eq (column_name a) d.name ≡ false) (columns_from k columns ++ offset_columns b)
later_names a k [] true h few = (column_name_not_offset a, tt)
later_names a k [] false h few = tt
later_names a k (c ∷ cs) b h few =
    (column_name_other a k (omega arith) (omega arith) (λ (same : a ≡ k). absurd (omega arith)), later_names a (k + 1) cs b (omega arith) (omega arith))

distinct_from : (a : ℕ) (columns : List Column) (b : Bool) → a + length columns ≤ 2 ^ 64 → HasDistinctNames (columns_from a columns ++ offset_columns b)
distinct_from a [] true few = (tt, tt)
distinct_from a [] false few = tt
distinct_from a (c ∷ cs) b few = (later_names a (a + 1) cs b (omega arith) (omega arith), distinct_from (a + 1) cs b (omega arith))

-- no two columns of a file have the same name
pub file_columns_distinct : (p : LinearProgram) → IsProgram p.columns p.rows p.target → HasDistinctNames (file_columns p)
file_columns_distinct p is =
    let few : length p.columns ≤ 1000000 = is.few_columns in distinct_from 1 p.columns (has_offset p) (omega arith)

offset_from : (a : ℕ) (columns : List Column) → column_named (columns_from a columns ++ offset_column ∷ []) offset_name ≡ Some offset_column.column
offset_from a [] = refl
offset_from a (c ∷ cs) = offset_from (a + 1) cs

-- where `one` stands, its name finds it
pub offset_found : (p : LinearProgram) → has_offset p ≡ true → column_named (file_columns p) offset_name ≡ Some offset_column.column
offset_found p e = rw e (offset_from 1 p.columns)

low_same : (side : Option Rational) (v : Rational) → IfSome side (λ l. IsAtMost l v) ↔ IsFrom side v
low_same None v = (λ h. tt, λ h. tt)
low_same (Some l) v = (λ h. h, λ h. h)

high_same : (side : Option Rational) (v : Rational) → IfSome side (λ u. IsAtMost v u) ↔ IsUpTo side v
high_same None v = (λ h. tt, λ h. tt)
high_same (Some u) v = (λ h. h, λ h. h)

-- a number keeps a column of a file exactly where it keeps the program's column with the sides that files have
keeps_same : (number : ℕ) (column : Column) (v : Rational) → KeepsColumn (written_column column) v ↔ instance.KeepsNamedColumn (named_column (number, column)).column v
keeps_same number column v =
    let low = low_same (written_column column).sides.low v in
    let high = high_same (written_column column).sides.high v in (
      λ h. record { lower = low.0 h.between.low; upper = high.0 h.between.high; mark = h.whole },
      λ k. record { between = record { low = low.1 k.lower; high = high.1 k.upper }; whole = k.mark },
    )

-- numbers keep the columns of a file exactly where the first keep the program's and the rest keeps `one`
pub columns_same : (a : ℕ) (columns : List Column) (b : Bool) (numbers rest : List Rational) → length numbers ≡ length columns → KeepsColumns (columns_from a columns ++ offset_columns b) (numbers ++ rest) ↔ (KeepColumns (map written_column columns) numbers × KeepsColumns (offset_columns b) rest)
columns_same a [] b [] rest count = (λ h. (tt, h), λ h. h.1)
columns_same a [] b (v ∷ vs) rest count = absurd (omega arith)
columns_same a (c ∷ cs) b [] rest count = absurd (omega arith)
columns_same a (c ∷ cs) b (v ∷ vs) rest count =
    let here = keeps_same a c v in
    let there = columns_same (a + 1) cs b vs rest (omega arith) in (
      λ h. let later = there.0 h.1 in ((here.1 h.0, later.0), later.1),
      λ k. (here.0 k.0.0, there.1 (k.0.1, k.1)),
    )

-- what `one` is, where it stands
abbrev pub offset_numbers : Bool → List Rational
offset_numbers b = if b then rational.one ∷ [] else []

-- 1 keeps `one`
pub one_keeps : (b : Bool) → KeepsColumns (offset_columns b) (offset_numbers b)
one_keeps true = (record { lower = at_most_refl rational.one; upper = at_most_refl rational.one; mark = λ e. cc }, tt)
one_keeps false = tt

-- numbers that keep the columns are as many as these
pub kept_length : (columns : List Column) (numbers : List Rational) → KeepColumns (map written_column columns) numbers → length numbers ≡ length columns
kept_length [] [] h = refl
kept_length [] (v ∷ vs) h = absurd h
kept_length (c ∷ cs) [] h = absurd h
kept_length (c ∷ cs) (v ∷ vs) h = ap suc (kept_length cs vs h.1)
