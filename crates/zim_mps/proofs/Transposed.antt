-- Read column by column, the entries of a row are its terms in their order.
use Rattle.std.proofs.Common.{◌≡◌, ℕ, zero, suc, ◌+◌, ◌<◌, ◌≤◌, Bool, true, false, cond, List, [], ◌∷◌, ◌++◌, map, refl, sym, ◌∙◌, ap, subst, arith, append-nil}
use Rattle.std.specs.Prelude.{◌==◌, All}
use Rattle.std.specs.List.{AllByRecursion, filter, flat_map, enumerate_from, range_with_len}
use Rattle.std.proofs.lemmas.List.Elements.{filter-append, All-head, All-tail}
use Rattle.std.proofs.lemmas.Bool.Decides.{nat_tests}
use mathlib.Core.Path.{fun_ext}
use Rattle.zim_linear.specs.Forms.{Term, AreTermsFrom, AreTerms, AreColumns}
use Rattle.zim_rows.specs.declared.rows.Row.{Row}
use Rattle.zim_rows.specs.Entries.{entries_of_row, entries_of_column}
use Rattle.zim_rows.specs.Program.{IsRow}
use Rattle.zim_mps.specs.Text.{NumberedRow}

-- terms over columns, which are numbered from 1, begin at 1
pub terms_from_one : (n : ℕ) (terms : List Term) → AreTerms terms → AreColumns n terms → AreTermsFrom 1 terms
terms_from_one n [] is columns = tt
terms_from_one n (t ∷ ts) is columns = (columns.0, is.1, is.2)

-- the columns of terms are below the number of columns and 1
pub terms_below : (n : ℕ) (terms : List Term) → AreColumns n terms → AllByRecursion (λ (t : Term). t.0 < 1 + n) terms
terms_below n [] columns = tt
terms_below n (t ∷ ts) columns = (omega (arith, columns.1), terms_below n ts columns.2)

-- the terms of a column
abbrev pub at_column : List Term → ℕ → List Term
at_column terms j = filter (λ (t : Term). t.0 == j) terms

later_column : (k a : ℕ) → a < k → (k == a) ≡ false
later_column k a more = grind (arith, nat_tests)

earlier_column : (k a : ℕ) → k < a → (k == a) ≡ false
earlier_column k a less = grind (arith, nat_tests)

pub none_at : (a b : ℕ) (terms : List Term) → a < b → AreTermsFrom b terms → at_column terms a ≡ []
none_at a b [] h is = refl
none_at a b (t ∷ ts) h is =
    rw (later_column t.0 a (omega (arith, is.0))) (none_at a (suc t.0) ts (omega (arith, is.0)) is.2)

skip_first : (t : Term) (ts : List Term) (b n : ℕ) → t.0 < b → flat_map (at_column (t ∷ ts)) (range_with_len b n) ≡ flat_map (at_column ts) (range_with_len b n)
skip_first t ts b zero h = refl
skip_first t ts b (suc n) h =
    rw (earlier_column t.0 b h, skip_first t ts (b + 1) n (omega arith)) refl

no_terms : (a n : ℕ) → flat_map (at_column []) (range_with_len a n) ≡ []
no_terms a zero = refl
no_terms a (suc n) = no_terms (a + 1) n

pub terms_again : (a b : ℕ) (terms : List Term) → a ≡ b → AreTermsFrom a terms → AreTermsFrom b terms
terms_again a b terms e is = subst (λ (k : ℕ). AreTermsFrom k terms) e is

pub moved_all : (a n : ℕ) (ts : List Term) → AllByRecursion (λ (t : Term). t.0 < a + suc n) ts → AllByRecursion (λ (t : Term). t.0 < a + 1 + n) ts
moved_all a n [] h = tt
moved_all a n (t ∷ ts) h = (omega (arith, h.0), moved_all a n ts h.1)

-- terms in column order, column by column
collected : (a n : ℕ) (terms : List Term) → AreTermsFrom a terms → AllByRecursion (λ (t : Term). t.0 < a + n) terms → flat_map (at_column terms) (range_with_len a n) ≡ terms
collected a zero [] is all = refl
collected a zero (t ∷ ts) is all = absurd (omega (arith, is.0, all.0))
collected a (suc n) [] is all = no_terms (a + 1) n
collected a (suc n) (t ∷ ts) is all = by_first (t.0 == a) refl
    (λ e. let later : AreTermsFrom (a + 1) ts = terms_again (suc t.0) (a + 1) ts (omega arith) is.2 in
    (none_at a (a + 1) ts (omega arith) later, collected (a + 1) n ts later (moved_all a n ts all.1)))
    (λ less. collected (a + 1) n (t ∷ ts) (less, is.1, is.2) (moved_all a n (t ∷ ts) all))
  where
    by_first : (b : Bool) → (t.0 == a) ≡ b → (t.0 ≡ a → (at_column ts a ≡ []) × (flat_map (at_column ts) (range_with_len (a + 1) n) ≡ ts)) → (a + 1 ≤ t.0 → flat_map (at_column (t ∷ ts)) (range_with_len (a + 1) n) ≡ t ∷ ts) → cond (t.0 == a) (t ∷ at_column ts a) (at_column ts a) ++ flat_map (at_column (t ∷ ts)) (range_with_len (a + 1) n) ≡ t ∷ ts
    by_first true e same other =
        let equal : t.0 ≡ a = grind (arith, nat_tests) in
        let both = same equal in
        rw (e, both.0, skip_first t ts (a + 1) n (omega arith), both.1) refl
    by_first false e same other =
        let low : a ≤ t.0 = is.0 in
        let more : a + 1 ≤ t.0 = grind (arith, nat_tests) in
        let later : at_column ts a ≡ [] = none_at a (suc t.0) ts (omega arith) is.2 in
        rw (e, later) (other more)

-- the entries of one row among those of a column

abbrev of_row : ℕ → List Term → List Term
of_row i entries = filter (λ (e : Term). e.0 == i) entries

same_test : (i : ℕ) → (i == i) ≡ true
same_test i = grind (arith, nat_tests)

row_same : (i j : ℕ) (terms : List Term) → of_row i (entries_of_row i terms j) ≡ entries_of_row i terms j
row_same i j [] = refl
row_same i j (t ∷ ts) = by_column (t.0 == j) (row_same i j ts)
  where
    by_column : (b : Bool) → of_row i (entries_of_row i ts j) ≡ entries_of_row i ts j → of_row i (map (λ (s : Term). (i, s.1)) (cond b (t ∷ at_column ts j) (at_column ts j))) ≡ map (λ (s : Term). (i, s.1)) (cond b (t ∷ at_column ts j) (at_column ts j))
    by_column true rest = rw (same_test i) (ap (λ (es : List Term). (i, t.1) ∷ es) rest)
    by_column false rest = rest

row_other : (i k j : ℕ) (terms : List Term) → (k == i) ≡ false → of_row i (entries_of_row k terms j) ≡ []
row_other i k j [] other = refl
row_other i k j (t ∷ ts) other = by_column (t.0 == j) (row_other i k j ts other)
  where
    by_column : (b : Bool) → of_row i (entries_of_row k ts j) ≡ [] → of_row i (map (λ (s : Term). (k, s.1)) (cond b (t ∷ at_column ts j) (at_column ts j))) ≡ []
    by_column true rest = rw other rest
    by_column false rest = rest

abbrev pub column_from : ℕ → List Row → ℕ → List Term
column_from first rows j = flat_map (λ (r : NumberedRow). entries_of_row r.0 r.1.terms j) (enumerate_from first rows)

rows_later : (i first j : ℕ) (rows : List Row) → i < first → of_row i (column_from first rows j) ≡ []
rows_later i first j [] h = refl
rows_later i first j (row ∷ rows) h =
    filter-append (λ (e : Term). e.0 == i) (entries_of_row first row.terms j) (column_from (first + 1) rows j)
    ∙ rw (row_other i first j row.terms (later_column first i h)) (rows_later i (first + 1) j rows (omega arith))

-- A row's entries are those of its number.
record IsFound (first : ℕ) (rows : List Row) (r : NumberedRow) : Type 0 where
  from_first : first ≤ r.0
  found : (j : ℕ) → of_row r.0 (column_from first rows j) ≡ entries_of_row r.0 r.1.terms j

found_later : (first : ℕ) (row : Row) (rows : List Row) (rs : List NumberedRow) → AllByRecursion (IsFound (first + 1) rows) rs → AllByRecursion (IsFound first (row ∷ rows)) rs
found_later first row rows [] all = tt
found_later first row rows (r ∷ rs) all = (
  record {
    from_first = omega (arith, all.0.from_first);
    found = λ j.
        filter-append (λ (e : Term). e.0 == r.0) (entries_of_row first row.terms j) (column_from (first + 1) rows j)
        ∙ rw (row_other r.0 first j row.terms (earlier_column first r.0 (omega (arith, all.0.from_first)))) (all.0.found j);
  },
  found_later first row rows rs all.1,
)

all_found : (first : ℕ) (rows : List Row) → AllByRecursion (IsFound first rows) (enumerate_from first rows)
all_found first [] = tt
all_found first (row ∷ rows) = (
  record {
    from_first = omega arith;
    found = λ j.
        filter-append (λ (e : Term). e.0 == first) (entries_of_row first row.terms j) (column_from (first + 1) rows j)
        ∙ rw (row_same first j row.terms, rows_later first (first + 1) j rows (omega arith)) (append-nil (entries_of_row first row.terms j));
  },
  found_later first row rows (enumerate_from (first + 1) rows) (all_found (first + 1) rows),
)

-- the column's number put back, the entries are the terms of the row
restored : (i j : ℕ) (terms : List Term) → map (λ (e : Term). let t : Term = (j, e.1) in t) (entries_of_row i terms j) ≡ at_column terms j
restored i j [] = refl
restored i j (t ∷ ts) = by_column (t.0 == j) refl (restored i j ts)
  where
    by_column : (b : Bool) → (t.0 == j) ≡ b → map (λ (e : Term). let t : Term = (j, e.1) in t) (entries_of_row i ts j) ≡ at_column ts j → map (λ (e : Term). let t : Term = (j, e.1) in t) (map (λ (s : Term). (i, s.1)) (cond b (t ∷ at_column ts j) (at_column ts j))) ≡ cond b (t ∷ at_column ts j) (at_column ts j)
    by_column true e rest =
        let equal : t.0 ≡ j = grind (arith, nat_tests) in
        ap (λ (k : ℕ). let s : List Term = (k, t.1) ∷ map (λ (e : Term). let t : Term = (j, e.1) in t) (entries_of_row i ts j) in s) (sym equal) ∙ ap (λ (es : List Term). t ∷ es) rest
    by_column false e rest = rest

-- The terms that columns from one number on have in a row.
abbrev pub read_row_terms : ℕ → ℕ → List Row → ℕ → List Term
read_row_terms a n rows i = flat_map (λ (j : ℕ). map (λ (e : Term). let t : Term = (j, e.1) in t) (filter (λ (e : Term). e.0 == i) (entries_of_column rows j))) (range_with_len a n)

row_back : (n : ℕ) (rows : List Row) (r : NumberedRow) → IsFound 1 rows r → AreTerms r.1.terms → AreColumns n r.1.terms → read_row_terms 1 n rows r.0 ≡ r.1.terms
row_back n rows r is terms columns =
    ap (λ (f : ℕ → List Term). flat_map f (range_with_len 1 n))
    (fun_ext (λ (j : ℕ). ap (map (λ (e : Term). let t : Term = (j, e.1) in t)) (is.found j) ∙ restored r.0 j r.1.terms))
    ∙ collected 1 n r.1.terms (terms_from_one n r.1.terms terms columns) (terms_below n r.1.terms columns)

rows_back_by : (n : ℕ) (rows : List Row) (first : ℕ) (some : List Row) → All (IsRow n) some → AllByRecursion (IsFound 1 rows) (enumerate_from first some) → AllByRecursion (λ (r : NumberedRow). read_row_terms 1 n rows r.0 ≡ r.1.terms) (enumerate_from first some)
rows_back_by n rows first [] each all = tt
rows_back_by n rows first (row ∷ some) each all =
    let is : IsRow n row = All-head (IsRow n) row some each in
    (row_back n rows (first, row) all.0 is.terms is.columns, rows_back_by n rows (first + 1) some (All-tail (IsRow n) row some each) all.1)

-- each row is read back
pub rows_back : (n : ℕ) (rows : List Row) → All (IsRow n) rows → AllByRecursion (λ (r : NumberedRow). read_row_terms 1 n rows r.0 ≡ r.1.terms) (enumerate_from 1 rows)
rows_back n rows each = rows_back_by n rows 1 rows each (all_found 1 rows)
