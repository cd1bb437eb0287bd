-- The terms, rows and columns of a program can be read, and what they say is the program by name.
use Rattle.std.proofs.Common.{◌≡◌, unsigned_abs, nat_le, ℕ, ◌+◌, ◌<◌, ◌≤◌, ◌^◌, Bool, true, false, cond, IsTrue, List, [], ◌∷◌, ◌++◌, length, map, Option, Some, None, IfSome, refl, sym, ◌∙◌, ap, ap₂, append_assoc, arith, lit<}
use Rattle.std.specs.Prelude.{◌==◌, codes, decimal, flat_map, option_map, All}
use Rattle.std.specs.List.{AllByRecursion, enumerate_from}
use Rattle.std.proofs.lemmas.List.{map-append}
use Rattle.std.proofs.lemmas.List.Elements.{recursion_from_All}
use Rattle.std.proofs.lemmas.Bool.{and_parts, leb-true}
use Rattle.std.proofs.lemmas.Slice.Eq.{ends_is}
use Rattle.std.proofs.lemmas.Bool.Decides.{Decides-eqb}
use Rattle.zim_rational.specs.Rational as rational
use Rattle.zim_rational.specs.Rational.{Rational, same}
use Rattle.zim_fraction.specs.Limit.{limit}
use Rattle.zim_decimal.specs.Short.{is_short}
use Rattle.zim_linear.specs.Forms.{Term, AreColumns}
use Rattle.zim_instance.specs.Instance as instance
use Rattle.zim_instance.specs.System.{NamedColumn}
use Rattle.zim_rows.specs.declared.rows.Column.{Column}
use Rattle.zim_rows.specs.declared.rows.Row.{Row}
use Rattle.zim_rows.specs.declared.rows.RowKind.{RowKind}
use Rattle.zim_rows.specs.declared.rows.RowKind.TheVariants.{One, Range}
use Rattle.zim_rows.specs.declared.rows.Sense.{Sense}
use Rattle.zim_rows.specs.declared.rows.Sense.TheVariants.{AtLeast, AtMost}
use Rattle.zim_rows.specs.Covered.{written_side}
use Rattle.zim_rows.specs.Program.{LinearProgram, IsShortTerm, IsShortKind, IsWithin, IsTermWithin, IsKindWithin, HasSidesWithin, IsRow}
use Rattle.zim_rows.specs.Named.{column_name, row_name, offset_name, has_offset, named_column, offset_column, file_columns, named_term}
use Rattle.zim_lp.specs.Words.{Word}
use Rattle.zim_lp.specs.Syntax.{is_label}
use Rattle.zim_lp.specs.FileText.{WrittenTerm}
use Rattle.zim_lp.specs.Text.{short_number, first_name, written_term, or_zero, written_terms, offset_term, written_objective, row_label, high_label, row_compared, rows_of_kind, written_row, lp_column, written_offset, written_columns}
use Rattle.zim_lp.proofs.Cutting.{IsWord}
use Rattle.zim_lp.proofs.Numbers.{IsNumber-short, decimal_word, plain_append}
use Rattle.zim_lp.proofs.Readable.{number_said, term_said, row_by, row_said, column_said, IsReadableNumber, IsReadableNumber-from, number_said-is, IsReadableName, IsReadableTerm, AreReadableTerms, IsReadableRow, IsReadableEnd, IsReadableColumn}

-- lists in two parts

pub all_append : {X : Type 0} (P : X → Type 0) (xs ys : List X) → AllByRecursion P xs → AllByRecursion P ys → AllByRecursion P (xs ++ ys)
all_append P [] ys p q = q
all_append P (x ∷ xs) ys p q = (p.0, all_append P xs ys p.1 q)

-- numbers

numer_within : (q : Rational) → IsWithin q → unsigned_abs q.numer ≤ limit
numer_within q within = leb-true (unsigned_abs q.numer) limit (and_parts (nat_le (unsigned_abs q.numer) limit) (nat_le q.denom limit) within).0

short_readable : (q : Rational) → IsTrue (is_short q) → IsWithin q → IsReadableNumber (short_number q)
short_readable q short within = IsReadableNumber-from (short_number q) q (IsNumber-short q short (numer_within q within))

short_said : (q : Rational) → IsTrue (is_short q) → IsWithin q → number_said (short_number q) ≡ q
short_said q short within = number_said-is (short_number q) q (IsNumber-short q short (numer_within q within))

zero_short : IsTrue (is_short rational.zero)
unfolding rational.zero rational.whole is_short
zero_short = refl

zero_within : IsWithin rational.zero
unfolding rational.zero rational.whole
zero_within = refl

one_short : IsTrue (is_short rational.one)
unfolding rational.one rational.whole is_short
one_short = refl

one_within : IsWithin rational.one
unfolding rational.one rational.whole
one_within = refl

-- names and labels

column_readable : (j : ℕ) → j < 2 ^ 64 → IsReadableName (column_name j)
column_readable j h = record {
  word = record { some = refl; plain = (record { gap = refl; backslash = refl }, (decimal_word j h).plain) };
  name = refl;
}

offset_readable : IsReadableName offset_name
offset_readable = record {
  word = record {
    some = refl;
    plain = (record { gap = refl; backslash = refl }, (record { gap = refl; backslash = refl }, (record { gap = refl; backslash = refl }, tt)));
  };
  name = refl;
}

first_readable : (none : Bool) → IsReadableName (cond none offset_name (column_name 1))
first_readable true = offset_readable
first_readable false = column_readable 1 (lit< tt)

label_word : (i : ℕ) → i < 2 ^ 64 → IsWord (row_label i)
label_word i h = record {
  some = refl;
  plain = (record { gap = refl; backslash = refl }, plain_append (decimal i) (codes ":") (decimal_word i h).plain (record { gap = refl; backslash = refl }, tt));
}

high_word : (i : ℕ) → i < 2 ^ 64 → IsWord (high_label i)
high_word i h = record {
  some = refl;
  plain = (record { gap = refl; backslash = refl }, plain_append (decimal i) (codes "u:") (decimal_word i h).plain (record { gap = refl; backslash = refl }, (record { gap = refl; backslash = refl }, tt)));
}

label_is_label : (row : ℕ) → is_label (row_label row) ≡ true
label_is_label row = (ends_is Decides-eqb (row_label row) (codes ":") (is_label (row_label row)) refl).1 (row_name row) refl

high_is_label : (row : ℕ) → is_label (high_label row) ≡ true
high_is_label row =
    (ends_is Decides-eqb (high_label row) (codes ":") (is_label (high_label row)) refl).1
    (row_name row ++ codes "u")
    (sym (append_assoc (row_name row) (codes "u") (codes ":")))

-- terms

-- A term over n columns whose coefficient is short and within the limit.
pub record IsFileTerm (n : ℕ) (t : Term) : Type 0 where
  pub from_one : 0 < t.0
  pub in_columns : t.0 ≤ n
  pub short : IsTrue (is_short t.1)
  pub within : IsWithin t.1

each_file_term : (n : ℕ) (ts : List Term) → AreColumns n ts → AllByRecursion IsShortTerm ts → AllByRecursion IsTermWithin ts → AllByRecursion (IsFileTerm n) ts
each_file_term n [] columns short within = tt
each_file_term n (t ∷ ts) columns short within =
    (record { from_one = columns.0; in_columns = columns.1; short = short.0; within = within.0 }, each_file_term n ts columns.2 short.1 within.1)

pub file_terms : (n : ℕ) (ts : List Term) → AreColumns n ts → All IsShortTerm ts → All IsTermWithin ts → AllByRecursion (IsFileTerm n) ts
file_terms n ts columns short within =
    each_file_term n ts columns (recursion_from_All IsShortTerm ts short) (recursion_from_All IsTermWithin ts within)

pub terms_readable : (n : ℕ) → n < 2 ^ 32 → (ts : List Term) → AllByRecursion (IsFileTerm n) ts → AllByRecursion IsReadableTerm (map written_term ts)
terms_readable n h [] all = tt
terms_readable n h (t ∷ ts) all =
    (record { number = short_readable t.1 all.0.short all.0.within; name = column_readable t.0 (let top = all.0.in_columns in omega arith) }, terms_readable n h ts all.1)

pub or_zero_readable : (n : ℕ) (ts : List WrittenTerm) → AllByRecursion IsReadableTerm ts → AreReadableTerms (or_zero n ts)
or_zero_readable n [] all = (record { number = short_readable rational.zero zero_short zero_within; name = first_readable (n == 0) }, tt)
or_zero_readable n (t ∷ ts) all = all

pub offset_term_readable : (c : Rational) → IsTrue (is_short c) → IsWithin c → AllByRecursion IsReadableTerm (offset_term c)
offset_term_readable c short within = by_test (same c rational.zero)
  where
    by_test : (b : Bool) → AllByRecursion IsReadableTerm (cond b [] (record { number = short_number c; name = offset_name } ∷ []))
    by_test true = tt
    by_test false = (record { number = short_readable c short within; name = offset_readable }, tt)

-- the terms by name, as the file has them: without any, 0 times its first column
abbrev pub or_named_zero : ℕ → List instance.NamedTerm → List instance.NamedTerm
or_named_zero n [] = record { name = first_name n; coefficient = rational.zero } ∷ []
or_named_zero n (t ∷ ts) = t ∷ ts

-- the constant by name
abbrev pub named_offset : Rational → List instance.NamedTerm
named_offset c = cond (same c rational.zero) [] (record { name = offset_name; coefficient = c } ∷ [])

term_same : (name : Word) (q : Rational) → IsTrue (is_short q) → IsWithin q → term_said (record { number = short_number q; name = name }) ≡ record { name = name; coefficient = q }
term_same name q short within = ap (λ r. let t : instance.NamedTerm = record { name = name; coefficient = r } in t) (short_said q short within)

each_term_same : (n : ℕ) (ts : List Term) → AllByRecursion (IsFileTerm n) ts → map term_said (map written_term ts) ≡ map named_term ts
each_term_same n [] all = refl
each_term_same n (t ∷ ts) all =
    ap₂ (λ (s : instance.NamedTerm) (rest : List instance.NamedTerm). s ∷ rest) (term_same (column_name t.0) t.1 all.0.short all.0.within) (each_term_same n ts all.1)

offset_same : (c : Rational) → IsTrue (is_short c) → IsWithin c → map term_said (offset_term c) ≡ named_offset c
offset_same c short within = by_test (same c rational.zero)
  where
    by_test : (b : Bool) → map term_said (cond b [] (record { number = short_number c; name = offset_name } ∷ [])) ≡ cond b [] (record { name = offset_name; coefficient = c } ∷ [])
    by_test true = refl
    by_test false = ap (λ t. t ∷ []) (term_same offset_name c short within)

or_zero_same : (n : ℕ) (ts : List WrittenTerm) → map term_said (or_zero n ts) ≡ or_named_zero n (map term_said ts)
or_zero_same n [] = ap (λ t. t ∷ []) (term_same (first_name n) rational.zero zero_short zero_within)
or_zero_same n (t ∷ ts) = refl

terms_same : (n : ℕ) (ts : List Term) → AllByRecursion (IsFileTerm n) ts → map term_said (written_terms n ts) ≡ or_named_zero n (map named_term ts)
terms_same n ts all = or_zero_same n (map written_term ts) ∙ ap (or_named_zero n) (each_term_same n ts all)

pub objective_same : (n : ℕ) (ts : List Term) (c : Rational) → AllByRecursion (IsFileTerm n) ts → IsTrue (is_short c) → IsWithin c → map term_said (written_objective n ts c) ≡ or_named_zero n (map named_term ts ++ named_offset c)
objective_same n ts c all short within =
    or_zero_same n (map written_term ts ++ offset_term c)
    ∙ ap
    (or_named_zero n)
    (map-append term_said (map written_term ts) (offset_term c)
    ∙ ap₂ (λ (xs ys : List instance.NamedTerm). xs ++ ys) (each_term_same n ts all) (offset_same c short within))

-- rows

-- A row whose terms and numbers are such.
pub record IsFileRow (n : ℕ) (row : Row) : Type 0 where
  pub terms : AllByRecursion (IsFileTerm n) row.terms
  pub short : IsShortKind row.kind
  pub within : IsKindWithin row.kind

pub each_file_row : (n : ℕ) (rows : List Row) → AllByRecursion (IsRow n) rows → AllByRecursion (IsFileRow n) rows
each_file_row n [] are = tt
each_file_row n (row ∷ rows) are =
    (record { terms = file_terms n row.terms are.0.columns are.0.short are.0.terms_within; short = are.0.kind; within = are.0.kind_within }, each_file_row n rows are.1)

compared_readable : (label : Word) (terms : List WrittenTerm) (sense : Sense) (right : Rational) → IsWord label → is_label label ≡ true → AreReadableTerms terms → IsTrue (is_short right) → IsWithin right → IsReadableRow (row_compared label terms sense right)
compared_readable label terms sense right word is readable short within =
    record { word = word; label = is; terms = readable; right = short_readable right short within }

kind_readable : (number : ℕ) (terms : List WrittenTerm) (kind : RowKind) → number < 2 ^ 64 → AreReadableTerms terms → IsShortKind kind → IsKindWithin kind → AllByRecursion IsReadableRow (rows_of_kind number terms kind)
kind_readable number terms (One sense right) room readable short within =
    (compared_readable (row_label number) terms sense right (label_word number room) (label_is_label number) readable short within, tt)
kind_readable number terms (Range low high) room readable short within = (
  compared_readable (row_label number) terms AtLeast low (label_word number room) (label_is_label number) readable short.short_low within.0,
  (compared_readable (high_label number) terms AtMost high (high_word number room) (high_is_label number) readable short.short_high within.1, tt),
)

pub rows_readable : (n first : ℕ) → n < 2 ^ 32 → (rows : List Row) → first + length rows ≤ 2 ^ 64 → AllByRecursion (IsFileRow n) rows → AllByRecursion IsReadableRow (flat_map (written_row n) (enumerate_from first rows))
rows_readable n first h [] room all = tt
rows_readable n first h (row ∷ rows) room all =
    all_append
    IsReadableRow
    (written_row n (first, row))
    (flat_map (written_row n) (enumerate_from (first + 1) rows))
    (kind_readable first (written_terms n row.terms) row.kind (omega arith) (or_zero_readable n (map written_term row.terms) (terms_readable n h row.terms all.0.terms)) all.0.short all.0.within)
    (rows_readable n (first + 1) h rows (omega arith) all.1)

-- the rows that a file has for terms by name and a kind
abbrev pub rows_by : List instance.NamedTerm → RowKind → List instance.Row
rows_by terms (One sense right) = row_by sense terms right ∷ []
rows_by terms (Range low high) = row_by AtLeast terms low ∷ row_by AtMost terms high ∷ []

-- a row by name
abbrev pub file_row : ℕ → Row → List instance.Row
file_row n row = rows_by (or_named_zero n (map named_term row.terms)) row.kind

compared_same : (label : Word) (terms : List WrittenTerm) (named : List instance.NamedTerm) (sense : Sense) (right : Rational) → map term_said terms ≡ named → IsTrue (is_short right) → IsWithin right → row_said (row_compared label terms sense right) ≡ row_by sense named right
compared_same label terms named sense right e short within = ap₂ (λ (ts : List instance.NamedTerm) (q : Rational). row_by sense ts q) e (short_said right short within)

kind_same : (number : ℕ) (terms : List WrittenTerm) (named : List instance.NamedTerm) (kind : RowKind) → map term_said terms ≡ named → IsShortKind kind → IsKindWithin kind → map row_said (rows_of_kind number terms kind) ≡ rows_by named kind
kind_same number terms named (One sense right) e short within =
    ap (λ r. r ∷ []) (compared_same (row_label number) terms named sense right e short within)
kind_same number terms named (Range low high) e short within =
    ap₂
    (λ (r s : instance.Row). r ∷ s ∷ [])
    (compared_same (row_label number) terms named AtLeast low e short.short_low within.0)
    (compared_same (high_label number) terms named AtMost high e short.short_high within.1)

pub rows_same : (n first : ℕ) (rows : List Row) → AllByRecursion (IsFileRow n) rows → map row_said (flat_map (written_row n) (enumerate_from first rows)) ≡ flat_map (file_row n) rows
rows_same n first [] all = refl
rows_same n first (row ∷ rows) all =
    map-append row_said (written_row n (first, row)) (flat_map (written_row n) (enumerate_from (first + 1) rows))
    ∙ ap₂
    (λ (rs ss : List instance.Row). rs ++ ss)
    (kind_same first (written_terms n row.terms) (or_named_zero n (map named_term row.terms)) row.kind (terms_same n row.terms all.0.terms) all.0.short all.0.within)
    (rows_same n (first + 1) rows all.1)

-- columns

side_readable : (side : Option Rational) → IfSome side IsWithin → IsReadableEnd (option_map short_number (written_side side))
side_readable None within = tt
side_readable (Some q) within = by_test (is_short q) refl
  where
    by_test : (b : Bool) → is_short q ≡ b → IsReadableEnd (option_map short_number (cond b (Some q) None))
    by_test true short = short_readable q short within
    by_test false short = tt

side_same : (side : Option Rational) → IfSome side IsWithin → option_map number_said (option_map short_number (written_side side)) ≡ written_side side
side_same None within = refl
side_same (Some q) within = by_test (is_short q) refl
  where
    by_test : (b : Bool) → is_short q ≡ b → option_map number_said (option_map short_number (cond b (Some q) None)) ≡ cond b (Some q) None
    by_test true short = ap (λ r. Some r) (short_said q short within)
    by_test false short = refl

pub columns_readable : (first : ℕ) (columns : List Column) → first + length columns ≤ 2 ^ 64 → AllByRecursion HasSidesWithin columns → AllByRecursion IsReadableColumn (map lp_column (enumerate_from first columns))
columns_readable first [] room all = tt
columns_readable first (c ∷ cs) room all =
    (record { name = column_readable first (omega arith); lower = side_readable c.sides.low all.0.low; upper = side_readable c.sides.high all.0.high }, columns_readable (first + 1) cs (omega arith) all.1)

pub offset_column_readable : (b : Bool) → AllByRecursion IsReadableColumn (cond b (written_offset ∷ []) [])
offset_column_readable true =
    (record { name = offset_readable; lower = short_readable rational.one one_short one_within; upper = short_readable rational.one one_short one_within }, tt)
offset_column_readable false = tt

column_same : (j : ℕ) (c : Column) → HasSidesWithin c → column_said (lp_column (j, c)) ≡ named_column (j, c)
column_same j c within =
    ap₂
    (λ (low high : Option Rational). let d : NamedColumn = record { name = column_name j; column = record { integer = c.integer; lower = low; upper = high } } in d)
    (side_same c.sides.low within.low)
    (side_same c.sides.high within.high)

columns_same : (first : ℕ) (columns : List Column) → AllByRecursion HasSidesWithin columns → map column_said (map lp_column (enumerate_from first columns)) ≡ map named_column (enumerate_from first columns)
columns_same first [] all = refl
columns_same first (c ∷ cs) all =
    ap₂ (λ (d : NamedColumn) (ds : List NamedColumn). d ∷ ds) (column_same first c all.0) (columns_same (first + 1) cs all.1)

offset_column_same : (b : Bool) → map column_said (cond b (written_offset ∷ []) []) ≡ cond b (offset_column ∷ []) []
offset_column_same true =
    ap (λ q. let c : NamedColumn = record { name = offset_name; column = record { integer = false; lower = Some q; upper = Some q } } in c ∷ []) (short_said rational.one one_short one_within)
offset_column_same false = refl

-- the columns of a program's file
pub columns_said : (p : LinearProgram) → AllByRecursion HasSidesWithin p.columns → map column_said (written_columns p) ≡ file_columns p
columns_said p all =
    map-append column_said (map lp_column (enumerate_from 1 p.columns)) (cond (has_offset p) (written_offset ∷ []) [])
    ∙ ap₂ (λ (cs ds : List NamedColumn). cs ++ ds) (columns_same 1 p.columns all) (offset_column_same (has_offset p))
