-- How the entries by column grow with each term of a row and with each row.
use Rattle.std.proofs.Common.{sym, subst, ◌≡◌, ℕ, zero, suc, ◌+◌, ◌<◌, List, [], ◌∷◌, ◌++◌, length, map, get_or, take, refl, ◌∙◌, ap, arith, append-nil, length-take}
use Rattle.std.specs.List.{enumerate_from, range_with_len}
use Rattle.std.proofs.lemmas.List.{take_more}
use Rattle.std.proofs.lemmas.List.Concat.{flat_map-append}
use Rattle.std.proofs.lemmas.List.FromFn.{fill_by_all}
use Rattle.zim_rows.specs.declared.rows.Row.{Row}
use Rattle.zim_linear.specs.Forms.{Term}
use Rattle.std.specs.Prelude.{All}
use Rattle.std.proofs.lemmas.List.Elements.{All-nil, All-cons, All-weaker, All-get_or}
use Rattle.zim_linear.specs.Forms.{AreColumns}
use Rattle.zim_rows.specs.Program.{IsRow}
use Rattle.zim_rows.specs.Entries.{IsOver, IsOverRow, entries_of_row, entries_of_column, entries_by_column}

enumerate_from-append : {X : Type 0} (n : ℕ) (xs ys : List X) → enumerate_from n (xs ++ ys) ≡ enumerate_from n xs ++ enumerate_from (n + length xs) ys
enumerate_from-append n [] ys = ap (λ k. enumerate_from k ys) (omega arith)
enumerate_from-append n (x ∷ xs) ys = ap (λ r. (n, x) ∷ r) (enumerate_from-append (n + 1) xs ys ∙ ap (λ k. enumerate_from (n + 1) xs ++ enumerate_from k ys) (omega arith))

-- one more row
pub entries_of_column_more : (rows : List Row) (k : ℕ) (d : Row) (column : ℕ) → k < length rows → entries_of_column (take (k + 1) rows) column ≡ entries_of_column (take k rows) column ++ entries_of_row (k + 1) (get_or rows k d).terms column
entries_of_column_more rows k d column h =
    let front : take (k + 1) rows ≡ take k rows ++ get_or rows k d ∷ [] = take_more rows k d h in
    let number : 1 + length (take k rows) ≡ k + 1 = simp length-take (omega arith) in
    rw (front, enumerate_from-append 1 (take k rows) (get_or rows k d ∷ []))
    (flat_map-append (λ (r : ℕ × Row). entries_of_row r.0 r.1.terms column) (enumerate_from 1 (take k rows)) _ ∙ ap (λ e. entries_of_column (take k rows) column ++ e) (append-nil _ ∙ ap (λ n. entries_of_row n (get_or rows k d).terms column) number))

shifted : {X : Type 0} (f : ℕ → X) (a n : ℕ) → map (λ (k : ℕ). f (k + 1)) (range_with_len a n) ≡ map f (range_with_len (a + 1) n)
shifted f a zero = refl
shifted f a (suc n) = ap (λ xs. f (a + 1) ∷ xs) (shifted f (a + 1) n)

-- lists with the entries of each column are the entries by column
pub entries_by_column_all : (columns : ℕ) (rows : List Row) (xs : List (List Term)) → length xs ≡ columns → ((j : ℕ) → j < columns → get_or xs j [] ≡ entries_of_column rows (j + 1)) → xs ≡ entries_by_column columns rows
entries_by_column_all columns rows xs len each =
    fill_by_all (λ (k : ℕ). entries_of_column rows (k + 1)) xs columns [] len each ∙ shifted (entries_of_column rows) 0 columns

-- the columns of terms over n columns, one by one
columns_each : (n : ℕ) (ts : List Term) → AreColumns n ts → All (IsOver n) ts
columns_each n [] h = All-nil (IsOver n)
columns_each n (t ∷ ts) h = All-cons (IsOver n) t ts (record { from_one = h.0; in_columns = h.1 }) (columns_each n ts h.2)

pub rows_over : (n : ℕ) (rows : List Row) → All (IsRow n) rows → All (IsOverRow n) rows
rows_over n rows all =
    All-weaker (IsRow n) (IsOverRow n) (λ row h. record { each = columns_each n row.terms h.columns }) rows all

-- a row of rows whose columns are among the lists
pub row_is_over : (n m : ℕ) (rows : List Row) (i : ℕ) (row : Row) (terms : List Term) → All (IsOverRow n) rows → i < length rows → row ≡ get_or rows i row → terms ≡ row.terms → m ≡ n → All (IsOver m) terms
row_is_over n m rows i row terms all lt is e same =
    subst
    (λ (k : ℕ). All (IsOver k) terms)
    (sym same)
    (subst (λ (ts : List Term). All (IsOver n) ts) (sym e) (subst (IsOverRow n) (sym is) (All-get_or (IsOverRow n) rows i row lt all)).each)
