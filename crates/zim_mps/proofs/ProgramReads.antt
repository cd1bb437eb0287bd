-- The texts of all numbers in the file of a program read back, since these are short and within the limit.
use Rattle.std.proofs.Common.{◌≡◌, ℕ, ℤ, le_trans, ◌+◌, ◌/◌, ◌<◌, ◌≤◌, Bool, true, false, cond, nat_le, List, [], ◌∷◌, length, map, Option, Some, None, IfSome, All, IsTrue, refl, sym, ◌∙◌, ap, subst}
use Rattle.std.specs.Prelude.{◌==◌, pos, int_lt, unsigned_abs, find, option_map, unwrap_or, if◌then◌else◌}
use Rattle.std.specs.List.{AllByRecursion, enumerate_from, filter, flat_map}
use Rattle.std.proofs.lemmas.Bool.{and_parts, leb-true}
use Rattle.std.proofs.lemmas.List.Elements.{recursion_from_All}
use Rattle.std.proofs.Math.Nat.{div-le_self}
use Rattle.zim_rational.specs.Gcd.{gcd}
use Rattle.zim_rational.specs.Rational.{Rational, zero, one, whole, ratio, plus, negate, minus}
use Rattle.zim_rational.proofs.Parts.{signed-abs, ratio-parts, negate-parts, abs_negated}
use Rattle.zim_rational.proofs.Ring.{minus_is}
use Rattle.zim_fraction.specs.Limit.{limit, common_denom, common_numer, is_sum_within}
use Rattle.zim_fraction.proofs.SumLaws.{sum_parts, common_ratio, common_denom-pos}
use Rattle.zim_decimal.specs.Short.{is_short}
use Rattle.zim_decimal.proofs.ValueLaws.{short_text_reads}
use Rattle.zim_linear.specs.Forms.{Term}
use Rattle.zim_rows.specs.declared.rows.Column.{Column}
use Rattle.zim_rows.specs.declared.rows.Row.{Row}
use Rattle.zim_rows.specs.declared.rows.RowKind.{RowKind}
use Rattle.zim_rows.specs.declared.rows.RowKind.TheVariants.{One, Range}
use Rattle.zim_rows.specs.Covered.{written_side}
use Rattle.zim_rows.specs.Entries.{entries_of_row}
use Rattle.zim_rows.specs.Named.{has_offset}
use Rattle.zim_rows.specs.Program.{LinearProgram, IsWithin, IsTermWithin, IsKindWithin, HasSidesWithin, IsShortTerm, IsShortRange, IsShortKind, IsRow, IsProgram}
use Rattle.zim_mps.specs.Text.{FileColumn, minimised, coefficient_of, cost_of, numbered_column, mps_offset_column, right_of}
use Rattle.zim_mps.proofs.Numbers.{short_negate, short_minus, short_zero, short_one}
use Rattle.zim_mps.proofs.Readable.{IsReadable, IsReadableSide, IsReadableTerm, IsReadableColumn, HasReadableSides, HasReadableRight, IsReadableRange, HasReadableRange, IsReadableProgram}
use Rattle.zim_mps.proofs.Said.{all_append}

-- ---- numbers

-- a number that a decimal writes, whose numerator is within the limit
record IsWritten (q : Rational) : Type 0 where
  short : IsTrue (is_short q)
  size : unsigned_abs q.numer ≤ limit

reads : (q : Rational) → IsWritten q → IsReadable q
reads q is = short_text_reads q is.short is.size

numer_within : (q : Rational) → IsWithin q → unsigned_abs q.numer ≤ limit
numer_within q within = leb-true (unsigned_abs q.numer) limit (and_parts (nat_le (unsigned_abs q.numer) limit) (nat_le q.denom limit) within).0

written : (q : Rational) → IsTrue (is_short q) → IsWithin q → IsWritten q
written q short within = record { short = short; size = numer_within q within }

zero_size : unsigned_abs zero.numer ≤ limit
unfolding whole zero
zero_size = leb-true 0 limit refl

zero_written : IsWritten zero
zero_written = record { short = short_zero zero refl; size = zero_size }

one_size : unsigned_abs one.numer ≤ limit
unfolding whole one
one_size = leb-true 1 limit refl

one_written : IsWritten one
one_written = record { short = short_one one refl; size = one_size }

negate_written : (q : Rational) → IsWritten q → IsWritten (negate q)
negate_written q is = record {
  short = short_negate q is.short;
  size = subst (λ (k : ℕ). k ≤ limit) (sym (ap unsigned_abs (negate-parts q).numer ∙ abs_negated q.numer)) is.size;
}

minimised_written : (maximises : Bool) (q : Rational) → IsWritten q → IsWritten (minimised maximises q)
minimised_written true q is = negate_written q is
minimised_written false q is = is

-- in lowest terms the numerator is no larger
ratio_size : (n : ℤ) (d : ℕ) → 0 < d → unsigned_abs (ratio n d).numer ≤ unsigned_abs n
ratio_size n d some =
    let g : ℕ = gcd (unsigned_abs n) d in
    let size : unsigned_abs (ratio n d).numer ≡ unsigned_abs n / g =
    ap unsigned_abs (ratio-parts n d some).numer ∙ signed-abs (int_lt n (pos 0)) (unsigned_abs n / g) in
    subst (λ (k : ℕ). k ≤ unsigned_abs n) (sym size) (div-le_self (unsigned_abs n) g)

sum_size : (a b : Rational) → IsTrue (is_sum_within a b) → unsigned_abs (plus a b).numer ≤ limit
sum_size a b within =
    let size : unsigned_abs (ratio (common_numer a b) (common_denom a b)).numer ≤ unsigned_abs (common_numer a b) =
    ratio_size (common_numer a b) (common_denom a b) (common_denom-pos a b) in
    let bound : unsigned_abs (common_numer a b) ≤ limit = (sum_parts a b within).sum in
    subst (λ (q : Rational). unsigned_abs q.numer ≤ limit) (sym (common_ratio a b)) (le_trans size bound)

-- what a range's high side is above its low one
range_written : (low high : Rational) → IsShortRange low high → IsWritten (minus high low)
range_written low high is = record {
  short = short_minus high low is.short_high is.short_low;
  size = subst (λ (q : Rational). unsigned_abs q.numer ≤ limit) (sym (minus_is high low)) (sum_size high (negate low) is.difference);
}

-- ---- terms and entries

abbrev AreWritten : List Term → Type 0
AreWritten terms = AllByRecursion (λ (t : Term). IsWritten t.1) terms

both_written : (terms : List Term) → AllByRecursion IsShortTerm terms → AllByRecursion IsTermWithin terms → AreWritten terms
both_written [] h k = tt
both_written (t ∷ ts) h k = (written t.1 h.0 k.0, both_written ts h.1 k.1)

terms_written : (terms : List Term) → All IsShortTerm terms → All IsTermWithin terms → AreWritten terms
terms_written terms h k = both_written terms (recursion_from_All IsShortTerm terms h) (recursion_from_All IsTermWithin terms k)

coefficient_written : (column : ℕ) (terms : List Term) → AreWritten terms → IsWritten (coefficient_of terms column)
coefficient_written column [] h = zero_written
coefficient_written column (t ∷ ts) h = by (t.0 == column) (coefficient_written column ts h.1)
  where
    by : (b : Bool) → IsWritten (coefficient_of ts column) → IsWritten (unwrap_or (option_map (λ (t : Term). t.1) (cond b (Some t) (find (λ (t : Term). t.0 == column) ts))) zero)
    by true later = h.0
    by false later = later

row_entries : (number column : ℕ) (terms : List Term) → AreWritten terms → AllByRecursion IsReadableTerm (entries_of_row number terms column)
row_entries number column [] h = tt
row_entries number column (t ∷ ts) h = by (t.0 == column) (row_entries number column ts h.1)
  where
    by : (b : Bool) → AllByRecursion IsReadableTerm (entries_of_row number ts column) → AllByRecursion IsReadableTerm (map (λ (t : Term). (number, t.1)) (cond b (t ∷ filter (λ (t : Term). t.0 == column) ts) (filter (λ (t : Term). t.0 == column) ts)))
    by true later = (reads t.1 h.0, later)
    by false later = later

column_entries : (n first column : ℕ) (rows : List Row) → AllByRecursion (IsRow n) rows → AllByRecursion IsReadableTerm (flat_map (λ (r : ℕ × Row). entries_of_row r.0 r.1.terms column) (enumerate_from first rows))
column_entries n first column [] are = tt
column_entries n first column (r ∷ rows) are =
    all_append IsReadableTerm (entries_of_row first r.terms column) _
    (row_entries first column r.terms (terms_written r.terms are.0.short are.0.terms_within))
    (column_entries n (first + 1) column rows are.1)

-- ---- right sides, ranges and sides

right_reads : (kind : RowKind) → IsShortKind kind → IsKindWithin kind → IsReadable (right_of kind)
right_reads (One sense right) short within = reads right (written right short within)
right_reads (Range low high) short within = reads low (written low short.short_low within.0)

rights_read : (n : ℕ) (rows : List Row) → AllByRecursion (IsRow n) rows → AllByRecursion HasReadableRight rows
rights_read n [] are = tt
rights_read n (r ∷ rows) are = (right_reads r.kind are.0.kind are.0.kind_within, rights_read n rows are.1)

range_reads : (kind : RowKind) → IsShortKind kind → IsReadableRange kind
range_reads (One sense right) short = tt
range_reads (Range low high) short = reads (minus high low) (range_written low high short)

ranges_read : (n : ℕ) (rows : List Row) → AllByRecursion (IsRow n) rows → AllByRecursion HasReadableRange rows
ranges_read n [] are = tt
ranges_read n (r ∷ rows) are = (range_reads r.kind are.0.kind, ranges_read n rows are.1)

side_reads : (side : Option Rational) → IfSome side IsWithin → IsReadableSide (written_side side)
side_reads None within = tt
side_reads (Some q) within = by (is_short q) refl
  where
    by : (b : Bool) → is_short q ≡ b → IsReadableSide (cond b (Some q) None)
    by true short = reads q (written q short within)
    by false short = tt

-- ---- the program

module _ (p : LinearProgram) (is : IsProgram p.columns p.rows p.target) where
  rows_are : AllByRecursion (IsRow (length p.columns)) p.rows
  rows_are = recursion_from_All (IsRow (length p.columns)) p.rows is.each_row

  cost_reads : (column : ℕ) → IsReadable (cost_of p.target column)
  cost_reads column =
      reads _
      (minimised_written p.target.maximize (coefficient_of p.target.terms column)
      (coefficient_written column p.target.terms (terms_written p.target.terms is.objective.short is.objective.terms_within)))

  columns_read : (first : ℕ) (cs : List Column) → AllByRecursion IsReadableColumn (map (numbered_column p) (enumerate_from first cs))
  columns_read first [] = tt
  columns_read first (c ∷ cs) = (
    record { cost = cost_reads first; entries = column_entries (length p.columns) 1 first p.rows rows_are },
    columns_read (first + 1) cs,
  )

  sides_read : (first : ℕ) (cs : List Column) → AllByRecursion HasSidesWithin cs → AllByRecursion HasReadableSides (map (numbered_column p) (enumerate_from first cs))
  sides_read first [] within = tt
  sides_read first (c ∷ cs) within =
      (record { low = side_reads c.sides.low within.0.low; high = side_reads c.sides.high within.0.high }, sides_read (first + 1) cs within.1)

  offset_reads : IsReadableColumn (mps_offset_column p)
  offset_reads = record {
    cost = reads _ (minimised_written p.target.maximize p.target.constant (written p.target.constant is.objective.short_constant is.objective.constant_within));
    entries = tt;
  }

  offset_sides : HasReadableSides (mps_offset_column p)
  offset_sides = record { low = reads one one_written; high = reads one one_written }

  if_offset : (P : FileColumn → Type 0) (stands : Bool) → P (mps_offset_column p) → AllByRecursion P (if stands then mps_offset_column p ∷ [] else [])
  if_offset P true h = (h, tt)
  if_offset P false h = tt

  -- the texts of a program's numbers read back
  pub program_reads : IsReadableProgram p
  program_reads = record {
    columns = all_append IsReadableColumn (map (numbered_column p) (enumerate_from 1 p.columns)) _ (columns_read 1 p.columns) (if_offset IsReadableColumn (has_offset p) offset_reads);
    sides = all_append HasReadableSides (map (numbered_column p) (enumerate_from 1 p.columns)) _ (sides_read 1 p.columns (recursion_from_All HasSidesWithin p.columns is.sides_within)) (if_offset HasReadableSides (has_offset p) offset_sides);
    rights = rights_read (length p.columns) p.rows rows_are;
    ranges = ranges_read (length p.columns) p.rows rows_are;
  }
