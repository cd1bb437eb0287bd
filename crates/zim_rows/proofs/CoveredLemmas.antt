-- Where a system is covered, the sides that no decimal writes can be left out: the points stay.
use Rattle.std.proofs.Common.{ℕ, suc, ◌≡◌, ◌<◌, ◌+◌, ◌-◌, ◌↔◌, Bool, true, false, cond, IsFalse, List, [], ◌∷◌, length, map, get_or, Option, Some, None, IfSome, All, arith, refl, ap, ap₂, sym, ◌∙◌, subst}
use Rattle.std.proofs.lemmas.List.Elements.{All-nil, All-cons, All-contains}
use Rattle.zim_rational.specs.Rational as rational
use Rattle.zim_rational.specs.Rational.{Rational, one, plus, IsAtMost}
use Rattle.zim_rational.proofs.Ring.{plus_zero, one_times}
use Rattle.zim_decimal.specs.Short.{is_short}
use Rattle.zim_linear.specs.Forms.{ColumnNumbers, sum_at}
use Rattle.zim_linear.proofs.FormLaws.{sum_at_none, sum_at_more}
use Rattle.zim_rows.specs.declared.rows.Column.{Column}
use Rattle.zim_rows.specs.declared.rows.GivenRow.{GivenRow}
use Rattle.zim_rows.specs.declared.rows.RowKind.{RowKind}
use Rattle.zim_rows.specs.declared.rows.Sense.{Sense}
use Rattle.zim_rows.specs.declared.rows.Sense.TheVariants.{AtLeast, AtMost}
use Rattle.zim_rows.specs.System.{LinearSystem, column_of, column_at}
use Rattle.zim_linear.specs.Ends.{unbounded}
use Rattle.zim_rows.specs.Points.{assigned, KeepsColumn, KeepColumns, Compares, KeepsKind, KeepConstraints, given_constraint, IsSystemPoint, IsPoint}
use Rattle.zim_rows.specs.Scaled.{scaled_program}
use Rattle.zim_rows.specs.Covered.{StandsAsRow, IsCoveredColumn, IsCovered, written_side, written_column, written_program}
use Rattle.zim_rows.proofs.PointLemmas.{same_points}

-- a row's terms come to what it asks for
abbrev KeepsGiven : ColumnNumbers → GivenRow → Type 0
KeepsGiven x row = KeepsKind row.kind (sum_at x row.terms)

kept_each : (x : ColumnNumbers) (rows : List GivenRow) → KeepConstraints x (map given_constraint rows) → All (KeepsGiven x) rows
kept_each x [] h = All-nil (KeepsGiven x)
kept_each x (row ∷ rows) h = All-cons (KeepsGiven x) row rows h.0 (kept_each x rows h.1)

-- the sum of one column is what the column is
alone : (x : ColumnNumbers) (j : ℕ) → sum_at x ((j, one) ∷ []) ≡ x j
alone x j =
    sum_at_more x (j, one) [] ∙ ap₂ plus (one_times (x j)) (sum_at_none x) ∙ plus_zero (x j)

-- a row that stands for a side says the side of its column
said : (x : ColumnNumbers) (rows : List GivenRow) (j : ℕ) (sense : Sense) (v : Rational) → KeepConstraints x (map given_constraint rows) → StandsAsRow rows j sense v → Compares sense (x j) v
said x rows j sense v kept r =
    let here : KeepsGiven x r.row = All-contains (KeepsGiven x) rows r.row (kept_each x rows kept) r.stands in
    subst (λ (sum : Rational). Compares sense sum v) (ap (sum_at x) r.terms ∙ alone x j) (subst (λ (kind : RowKind). KeepsKind kind (sum_at x r.row.terms)) r.kind here)

side_back : (P : Rational → Type 0) (v : Rational) (b : Bool) → is_short v ≡ b → IfSome (cond b (Some v) None) P → (IsFalse (is_short v) → P v) → P v
side_back P v true e written long = written
side_back P v false e written long = long e

low_back : (x : ColumnNumbers) (rows : List GivenRow) (j : ℕ) (low : Option Rational) → KeepConstraints x (map given_constraint rows) → IfSome low (λ l. IsFalse (is_short l) → StandsAsRow rows j AtLeast l) → IfSome (written_side low) (λ l. IsAtMost l (x j)) → IfSome low (λ l. IsAtMost l (x j))
low_back x rows j None kept covered h = tt
low_back x rows j (Some l) kept covered h =
    side_back (λ l. IsAtMost l (x j)) l (is_short l) refl h (λ long. said x rows j AtLeast l kept (covered long))

high_back : (x : ColumnNumbers) (rows : List GivenRow) (j : ℕ) (high : Option Rational) → KeepConstraints x (map given_constraint rows) → IfSome high (λ u. IsFalse (is_short u) → StandsAsRow rows j AtMost u) → IfSome (written_side high) (λ u. IsAtMost (x j) u) → IfSome high (λ u. IsAtMost (x j) u)
high_back x rows j None kept covered h = tt
high_back x rows j (Some u) kept covered h =
    side_back (λ u. IsAtMost (x j) u) u (is_short u) refl h (λ long. said x rows j AtMost u kept (covered long))

column_back : (x : ColumnNumbers) (rows : List GivenRow) (j : ℕ) (column : Column) → KeepConstraints x (map given_constraint rows) → IsCoveredColumn rows j column → KeepsColumn (written_column column) (x j) → KeepsColumn column (x j)
column_back x rows j column kept covered h = record {
  between = record {
    low = low_back x rows j column.sides.low kept covered.low h.between.low;
    high = high_back x rows j column.sides.high kept covered.high h.between.high;
  };
  whole = h.whole;
}

default : Column
default = column_of false unbounded

columns_back : (x : ColumnNumbers) (rows : List GivenRow) (n : ℕ) (columns : List Column) (numbers : List Rational) → KeepConstraints x (map given_constraint rows) → ((i : ℕ) → i < length columns → IsCoveredColumn rows (n + i) (get_or columns i default)) → ((i : ℕ) → i < length numbers → get_or numbers i rational.zero ≡ x (n + i)) → KeepColumns (map written_column columns) numbers → KeepColumns columns numbers
columns_back x rows n [] [] kept covered are h = tt
columns_back x rows n [] (v ∷ vs) kept covered are h = h
columns_back x rows n (c ∷ cs) [] kept covered are h = h
columns_back x rows n (c ∷ cs) (v ∷ vs) kept covered are h =
    let here : v ≡ x (n + 0) = are 0 (omega arith) in
    let next : (i : ℕ) → n + suc i ≡ suc n + i = λ i. omega arith in (
      subst (λ (w : Rational). KeepsColumn c w) (sym here) (column_back x rows (n + 0) c kept (covered 0 (omega arith)) (subst (λ (w : Rational). KeepsColumn (written_column c) w) here h.0)),
      columns_back
          x
          rows
          (suc n)
          cs
          vs
          kept
          (λ i lt. subst (λ (j : ℕ). IsCoveredColumn rows j (get_or cs i default)) (next i) (covered (suc i) (omega arith)))
          (λ i lt. are (suc i) (omega arith) ∙ ap x (next i))
          h.1,
    )

side_forth : (P : Rational → Type 0) (side : Option Rational) → IfSome side P → IfSome (written_side side) P
side_forth P None h = tt
side_forth P (Some v) h =
    elim (is_short v) as (λ b. IfSome (cond b (Some v) None) P) [ true ↦ h | false ↦ tt ]

columns_forth : (columns : List Column) (numbers : List Rational) → KeepColumns columns numbers → KeepColumns (map written_column columns) numbers
columns_forth [] [] h = tt
columns_forth [] (v ∷ vs) h = h
columns_forth (c ∷ cs) [] h = h
columns_forth (c ∷ cs) (v ∷ vs) h = (
  record {
    between = record {
      low = side_forth (λ l. IsAtMost l v) c.sides.low h.0.between.low;
      high = side_forth (λ u. IsAtMost v u) c.sides.high h.0.between.high;
    };
    whole = h.0.whole;
  },
  columns_forth cs vs h.1,
)

shown : (numbers : List Rational) (i : ℕ) → get_or numbers i rational.zero ≡ assigned numbers (1 + i)
shown numbers i = let e : 1 + i - 1 ≡ i = omega arith in sym (ap (λ k. get_or numbers k rational.zero) e)

at : (columns : List Column) (i : ℕ) → column_at columns (1 + i) ≡ get_or columns i default
unfolding default
at columns i = let e : 1 + i - 1 ≡ i = omega arith in ap (λ k. get_or columns k default) e

-- the points of a covered system are those of its scaled program without the sides that no decimal writes
pub covered_points : (system : LinearSystem) (numbers : List Rational) → IsCovered system → IsPoint (written_program (scaled_program system)) numbers ↔ IsSystemPoint system numbers
covered_points system numbers covered =
    let written : LinearSystem = record { columns = map written_column system.columns; rows = system.rows; objective = system.objective } in
    let same = same_points written numbers in (
      λ p.
          let kept = (same.0 (record { columns = p.columns; rows = p.rows })).rows in
          record {
            columns =
                columns_back
                (assigned numbers)
                system.rows
                1
                system.columns
                numbers
                kept
                (λ i lt. subst (IsCoveredColumn system.rows (1 + i)) (at system.columns i) (covered (1 + i) (omega arith) (omega arith)))
                (λ i lt. shown numbers i)
                p.columns;
            rows = kept;
          },
      λ p.
          let back = same.1 (record { columns = columns_forth system.columns numbers p.columns; rows = p.rows }) in
          record { columns = back.columns; rows = back.rows },
    )
