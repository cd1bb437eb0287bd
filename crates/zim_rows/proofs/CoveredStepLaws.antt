-- A covered system stays covered after a step whose sides that no decimal writes stand among its own rows.
use Rattle.std.proofs.Common.{ℕ, suc, zero, ◌≡◌, ◌<◌, ◌≤◌, ◌+◌, ◌-◌, ◌⊎◌, inl, inr, false, IsTrue, IsFalse, List, [], ◌∷◌, ◌++◌, length, length-append, get_or, Option, Some, None, IfSome, All, arith, refl, ap, sym, ◌∙◌, subst, true≢false, append-nil}
use Rattle.std.proofs.lemmas.Bool.{cases_lt}
use Rattle.std.proofs.lemmas.List.{get_or_append_left, get_or-append_right}
use Rattle.std.proofs.lemmas.List.Elements.{Contains-append_left, Contains-append_right, All-head, All-tail, All-cons, All-nil}
use Rattle.zim_rational.specs.Rational.{Rational}
use Rattle.zim_decimal.specs.Short.{is_short}
use Rattle.zim_linear.specs.Ends.{unbounded}
use Rattle.zim_rows.specs.declared.rows.Column.{Column}
use Rattle.zim_rows.specs.declared.rows.GivenRow.{GivenRow}
use Rattle.zim_rows.specs.declared.rows.Sense.{Sense}
use Rattle.zim_rows.specs.declared.rows.Sense.TheVariants.{AtLeast, AtMost}
use Rattle.zim_rows.specs.System.{LinearSystem, column_of, column_at, with_column, with_row}
use Rattle.zim_rows.specs.Covered.{StandsAsRow, IsCoveredColumn, IsCovered}
use Rattle.zim_rows.specs.Steps.{Step, with_step}
use Rattle.zim_rows.specs.Extending.{HasShortSides, IsCoveredStep}

-- a row that stands among rows stands among more
pub stands_left : (rows more : List GivenRow) (j : ℕ) (sense : Sense) (v : Rational) → StandsAsRow rows j sense v → StandsAsRow (rows ++ more) j sense v
stands_left rows more j sense v r = record {
  row = r.row;
  stands = Contains-append_left rows more r.row r.stands;
  terms = r.terms;
  kind = r.kind;
}

pub stands_right : (rows more : List GivenRow) (j : ℕ) (sense : Sense) (v : Rational) → StandsAsRow more j sense v → StandsAsRow (rows ++ more) j sense v
stands_right rows more j sense v r = record {
  row = r.row;
  stands = Contains-append_right rows more r.row r.stands;
  terms = r.terms;
  kind = r.kind;
}

-- what holds of a side
pub side_further : (P Q : Rational → Type 0) (side : Option Rational) → ((v : Rational) → P v → Q v) → IfSome side P → IfSome side Q
side_further P Q None f h = tt
side_further P Q (Some v) f h = f v h

covered_left : (rows more : List GivenRow) (j : ℕ) (column : Column) → IsCoveredColumn rows j column → IsCoveredColumn (rows ++ more) j column
covered_left rows more j column h = record {
  low = side_further (λ l. IsFalse (is_short l) → StandsAsRow rows j AtLeast l) (λ l. IsFalse (is_short l) → StandsAsRow (rows ++ more) j AtLeast l) column.sides.low (λ v f long. stands_left rows more j AtLeast v (f long)) h.low;
  high = side_further (λ u. IsFalse (is_short u) → StandsAsRow rows j AtMost u) (λ u. IsFalse (is_short u) → StandsAsRow (rows ++ more) j AtMost u) column.sides.high (λ v f long. stands_left rows more j AtMost v (f long)) h.high;
}

covered_right : (rows more : List GivenRow) (j : ℕ) (column : Column) → IsCoveredColumn more j column → IsCoveredColumn (rows ++ more) j column
covered_right rows more j column h = record {
  low = side_further (λ l. IsFalse (is_short l) → StandsAsRow more j AtLeast l) (λ l. IsFalse (is_short l) → StandsAsRow (rows ++ more) j AtLeast l) column.sides.low (λ v f long. stands_right rows more j AtLeast v (f long)) h.low;
  high = side_further (λ u. IsFalse (is_short u) → StandsAsRow more j AtMost u) (λ u. IsFalse (is_short u) → StandsAsRow (rows ++ more) j AtMost u) column.sides.high (λ v f long. stands_right rows more j AtMost v (f long)) h.high;
}

-- a column of the system before, and a column of the step
column_before : (columns more : List Column) (j : ℕ) → 0 < j → j ≤ length columns → column_at (columns ++ more) j ≡ column_at columns j
column_before columns more j some le =
    get_or_append_left columns more (column_of false unbounded) (j - 1) (omega arith)

column_after : (columns more : List Column) (k : ℕ) → 0 < k → column_at (columns ++ more) (length columns + k) ≡ column_at more k
column_after columns more k some =
    let e : length columns + k - 1 - length columns ≡ k - 1 = omega arith in
    get_or-append_right columns more (length columns) (length columns + k - 1) (column_of false unbounded) refl (omega arith)
    ∙ ap (λ i. get_or more i (column_of false unbounded)) e

pub covered_further : (system : LinearSystem) (step : Step) → IsCovered system → IsCoveredStep system step → IsCovered (with_step system step)
covered_further system step covered fresh j some le = by (cases_lt (length system.columns) j)
  where
    rows : List GivenRow
    rows = system.rows ++ step.rows

    old : j ≤ length system.columns → IsCoveredColumn rows j (column_at (system.columns ++ step.columns) j)
    old few =
        subst (IsCoveredColumn rows j) (sym (column_before system.columns step.columns j some few)) (covered_left system.rows step.rows j (column_at system.columns j) (covered j some few))

    new : (k : ℕ) → j ≡ length system.columns + k → 0 < k → k ≤ length step.columns → IsCoveredColumn rows j (column_at (system.columns ++ step.columns) j)
    new k e more within =
        subst (λ (i : ℕ). IsCoveredColumn rows i (column_at (system.columns ++ step.columns) i)) (sym e)
        (subst (IsCoveredColumn rows (length system.columns + k)) (sym (column_after system.columns step.columns k more))
        (covered_right system.rows step.rows (length system.columns + k) (column_at step.columns k) (fresh k more within)))

    by : (length system.columns < j) ⊎ (j ≤ length system.columns) → IsCoveredColumn rows j (column_at (system.columns ++ step.columns) j)
    by (inl many) =
        let n : length (system.columns ++ step.columns) ≡ length system.columns + length step.columns = length-append system.columns step.columns in
        new (j - length system.columns) (omega arith) (omega arith) (omega arith)
    by (inr few) = old few

short_side : (P : Rational → Type 0) (side : Option Rational) → IfSome side (λ v. IsTrue (is_short v)) → IfSome side (λ v. IsFalse (is_short v) → P v)
short_side P None h = tt
short_side P (Some v) h = λ long. absurd (true≢false (sym h ∙ long))

short_column : (rows : List GivenRow) (j : ℕ) (column : Column) → HasShortSides column → IsCoveredColumn rows j column
short_column rows j column h = record {
  low = short_side (StandsAsRow rows j AtLeast) column.sides.low h.low;
  high = short_side (StandsAsRow rows j AtMost) column.sides.high h.high;
}

short_at : (columns : List Column) (i : ℕ) → All HasShortSides columns → HasShortSides (get_or columns i (column_of false unbounded))
short_at [] i each = record { low = tt; high = tt }
short_at (c ∷ cs) zero each = All-head HasShortSides c cs each
short_at (c ∷ cs) (suc i) each = short_at cs i (All-tail HasShortSides c cs each)

-- so it is after a step whose columns have short sides
pub short_further : (system : LinearSystem) (step : Step) → IsCovered system → All HasShortSides step.columns → IsCovered (with_step system step)
short_further system step covered each =
    covered_further system step covered (λ j some le. short_column step.rows (length system.columns + j) (column_at step.columns j) (short_at step.columns (j - 1) each))

-- with one more column that has short sides, and with one more row
pub column_covered : (system : LinearSystem) (column : Column) → IsCovered system → HasShortSides column → IsCovered (with_column system column)
column_covered system column covered short =
    subst (λ (rows : List GivenRow). IsCovered (record { columns = system.columns ++ column ∷ []; rows = rows; objective = system.objective })) (append-nil system.rows)
    (short_further system (record { columns = column ∷ []; rows = [] }) covered (All-cons HasShortSides column [] short (All-nil HasShortSides)))

pub row_covered : (system : LinearSystem) (row : GivenRow) → IsCovered system → IsCovered (with_row system row)
row_covered system row covered =
    subst (λ (columns : List Column). IsCovered (record { columns = columns; rows = system.rows ++ row ∷ []; objective = system.objective })) (append-nil system.columns)
    (short_further system (record { columns = []; rows = row ∷ [] }) covered (All-nil HasShortSides))
