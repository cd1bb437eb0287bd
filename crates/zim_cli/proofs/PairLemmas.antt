-- The file columns that a table pairs with declared columns are columns of the files, each once.
use Rattle.std.proofs.Common.{◌≡◌, ◌≢◌, ◌^◌, ℕ, suc, ◌+◌, ◌<◌, ◌≤◌, Bool, true, false, nat_le, List, [], ◌∷◌, ◌++◌, length, map, Option, Some, refl, sym, ◌∙◌, subst, arith}
use Rattle.std.specs.Prelude.{AllPairs, IsSome, codes, decimal, if◌then◌else◌}
use Rattle.std.specs.List.{AllByRecursion, enumerate_from}
use Rattle.std.specs.Str.{bytes_eq}
use Rattle.std.proofs.lemmas.Bool.{false≢true, and_parts}
use Rattle.std.proofs.lemmas.Bool.Decides.{nat_tests}
use Rattle.std.proofs.lemmas.Fmt.{decimal_injective}
use Rattle.std.proofs.lemmas.List.{append_cancel_left}
use Rattle.std.proofs.lemmas.List.Elements.{All-from_recursion}
use Rattle.std.proofs.lemmas.List.Kept.{AllPairs-cons}
use Rattle.zim_instance.specs.Instance as instance
use Rattle.zim_instance.specs.System.{NamedColumn, column_named}
use Rattle.zim_instance.proofs.Points.{bytes_eq-same}
use Rattle.zim_rows.specs.declared.rows.Column.{Column}
use Rattle.zim_rows.specs.Named.{column_name, named_column, offset_column, has_offset, file_columns}
use Rattle.zim_rows.specs.Program.{LinearProgram}
use Rattle.zim_table.specs.Reader.{Pair}
use Rattle.zim_table.specs.Correct.{IsListed, pair_said}
use Rattle.zim_columns.specs.declared.declared.Declared.{Declared}
use Rattle.zim_columns.specs.Names.{are_rising}

-- a column stands under its name, whatever stands behind the columns
named_there : (a j : ℕ) (columns : List Column) (behind : List NamedColumn) → a ≤ j → j < a + length columns → IsSome (column_named (map named_column (enumerate_from a columns) ++ behind) (column_name j))
named_there a j [] behind l h = absurd (omega arith)
named_there a j (c ∷ columns) behind l h = by (bytes_eq (column_name j) (column_name a)) refl (λ low. named_there (a + 1) j columns behind low (omega arith))
  where
    by : (b : Bool) → bytes_eq (column_name j) (column_name a) ≡ b → (a + 1 ≤ j → IsSome (column_named (map named_column (enumerate_from (a + 1) columns) ++ behind) (column_name j))) → IsSome (if b then Some (named_column (a, c)).column else column_named (map named_column (enumerate_from (a + 1) columns) ++ behind) (column_name j))
    by true e later = refl
    by false e later =
        let other : j ≢ a = λ same. false≢true (sym e ∙ subst (λ (k : ℕ). bytes_eq (column_name j) (column_name k) ≡ true) same (bytes_eq-same (column_name j))) in
        later (omega arith)

-- a declared column is one of so many
pub record IsNumbered (count : ℕ) (declared : Declared) : Type 0 where
  pub first : 1 ≤ declared.column
  pub last : declared.column ≤ count

-- each declared column's file column is a column of the file
pub pairs_in_file : (p : LinearProgram) (columns : List Declared) → AllByRecursion (IsNumbered (length p.columns)) columns →
    AllByRecursion (λ (pair : Pair). IsSome (column_named (file_columns p) pair.column)) (map pair_said columns)
pairs_in_file p [] h = tt
pairs_in_file p (declared ∷ columns) h = (
  named_there 1 declared.column p.columns (if has_offset p then offset_column ∷ [] else []) h.0.first (omega (arith, h.0.last)),
  pairs_in_file p columns h.1,
)

-- the same where an instance has the columns
pub pairs_in_instance : (column : List ℕ → Option instance.Column) (cs : List NamedColumn) (pairs : List Pair) → ((name : List ℕ) → column name ≡ column_named cs name) → AllByRecursion (λ (p : Pair). IsSome (column_named cs p.column)) pairs → AllByRecursion (λ (p : Pair). IsSome (column p.column)) pairs
pairs_in_instance column cs [] same h = tt
pairs_in_instance column cs (p ∷ pairs) same h =
    (subst (λ (c : Option instance.Column). IsSome c) (sym (same p.column)) h.0, pairs_in_instance column cs pairs same h.1)

one_number : (i j : ℕ) → i < 2 ^ 64 → j < 2 ^ 64 → column_name i ≡ column_name j → i ≡ j
one_number i j h k e = decimal_injective i j h k (append_cancel_left (codes "x") (decimal i) (decimal j) e)

-- columns that rise from a number are from there up
rising_low : (first : ℕ) (columns : List Declared) → are_rising first columns ≡ true → AllByRecursion (λ (d : Declared). first ≤ d.column) columns
rising_low first [] e = tt
rising_low first (declared ∷ columns) e =
    let both = and_parts (nat_le first declared.column) (are_rising (suc declared.column) columns) e in
    let low : first ≤ declared.column = grind (arith, nat_tests, both.0) in
    (low, lower first (suc declared.column) columns (omega (arith, low)) (rising_low (suc declared.column) columns both.1))
  where
    lower : (m n : ℕ) (ds : List Declared) → m ≤ n → AllByRecursion (λ (d : Declared). n ≤ d.column) ds → AllByRecursion (λ (d : Declared). m ≤ d.column) ds
    lower m n [] l h = tt
    lower m n (d ∷ ds) l h = (omega (arith, l, h.0), lower m n ds l h.1)

-- columns that rise and are listed are numbered
pub numbered_in : (count first : ℕ) (columns : List Declared) → 1 ≤ first → are_rising first columns ≡ true → AllByRecursion (IsListed count) columns → AllByRecursion (IsNumbered count) columns
numbered_in count first [] l e h = tt
numbered_in count first (declared ∷ columns) l e h =
    let both = and_parts (nat_le first declared.column) (are_rising (suc declared.column) columns) e in
    let low : first ≤ declared.column = grind (arith, nat_tests, both.0) in
    (record { first = omega (arith, l, low); last = h.0.in_system }, numbered_in count (suc declared.column) columns (omega arith) both.1 h.1)

-- a file column isn't one of those behind it
unlike : (declared : Declared) (columns : List Declared) (count : ℕ) → count ≤ 1000000 → declared.column ≤ count → AllByRecursion (IsNumbered count) columns →
    AllByRecursion (λ (d : Declared). suc declared.column ≤ d.column) columns → AllByRecursion (λ (later : Pair). (pair_said declared).column ≢ later.column) (map pair_said columns)
unlike declared [] count few l h low = tt
unlike declared (d ∷ ds) count few l h low = (
  λ e. (let same : declared.column ≡ d.column = one_number declared.column d.column (omega (arith, few, l)) (omega (arith, few, h.0.last)) e in absurd (omega (arith, same, low.0))),
  unlike declared ds count few l h.1 low.1,
)

-- no two declared columns have the same file column
pub pairs_apart : (count first : ℕ) (columns : List Declared) → count ≤ 1000000 → 1 ≤ first → are_rising first columns ≡ true → AllByRecursion (IsNumbered count) columns →
    AllPairs (λ (p later : Pair). p.column ≢ later.column) (map pair_said columns)
pairs_apart count first [] few l e h = λ i j d m n. absurd (omega (arith, n))
pairs_apart count first (declared ∷ columns) few l e h =
    let both = and_parts (nat_le first declared.column) (are_rising (suc declared.column) columns) e in
    AllPairs-cons (λ (p later : Pair). p.column ≢ later.column) (pair_said declared) (map pair_said columns)
    (All-from_recursion (λ (later : Pair). (pair_said declared).column ≢ later.column) (map pair_said columns)
    (unlike declared columns count few h.0.last h.1 (rising_low (suc declared.column) columns both.1)))
    (pairs_apart count (suc declared.column) columns few (omega arith) both.1 h.1)
