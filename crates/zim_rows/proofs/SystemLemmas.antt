-- A system stays one with one more column, one more row or another objective.
use Rattle.std.proofs.Common.{ℕ, ◌≡◌, ◌<◌, ◌≤◌, ◌+◌, List, [], ◌∷◌, ◌++◌, length, length-append, Option, Some, None, IfSome, arith}
use Rattle.std.proofs.lemmas.List.Elements.{All-push, All-weaker}
use Rattle.zim_linear.specs.Forms.{Term, AreColumns}
use Rattle.zim_rows.specs.declared.rows.Column.{Column}
use Rattle.zim_rows.specs.declared.rows.GivenRow.{GivenRow}
use Rattle.zim_rows.specs.declared.rows.Objective.{Objective}
use Rattle.zim_rows.specs.System.{most_in_system, IsColumn, IsGivenRow, IsObjective, IsSystem}

more_columns : (m n : ℕ) (ts : List Term) → m ≤ n → AreColumns m ts → AreColumns n ts
more_columns m n [] le h = tt
more_columns m n (t ∷ ts) le h = let first = h.1 in (h.0, omega arith, more_columns m n ts le h.2)

more_for_objective : (m n : ℕ) (objective : Option Objective) → m ≤ n → IfSome objective (IsObjective m) → IfSome objective (IsObjective n)
more_for_objective m n None le is = tt
more_for_objective m n (Some o) le is = record { terms = is.terms; columns = more_columns m n o.form.terms le is.columns }

one_longer : {X : Type 0} (xs : List X) (x : X) → length xs + 1 ≡ length (xs ++ x ∷ [])
one_longer xs x = simp length-append (omega arith)

pub IsSystem-column : (columns : List Column) (rows : List GivenRow) (objective : Option Objective) (column : Column) → IsSystem columns rows objective → length columns < most_in_system → IsColumn column → IsSystem (columns ++ column ∷ []) rows objective
IsSystem-column columns rows objective column is room fits =
    let n : ℕ = length (columns ++ column ∷ []) in
    let le : length columns ≤ n = let e = one_longer columns column in omega arith in
    let few : n ≤ most_in_system = let e = one_longer columns column in omega arith in
    record {
      few_columns = few;
      few_rows = is.few_rows;
      each_column = All-push IsColumn columns column is.each_column fits;
      each_row = All-weaker (IsGivenRow (length columns)) (IsGivenRow n) (λ row h. record { terms = h.terms; columns = more_columns (length columns) n row.terms le h.columns; kind = h.kind }) rows is.each_row;
      objective_is = more_for_objective (length columns) n objective le is.objective_is;
    }

pub IsSystem-row : (columns : List Column) (rows : List GivenRow) (objective : Option Objective) (row : GivenRow) → IsSystem columns rows objective → length rows < most_in_system → IsGivenRow (length columns) row → IsSystem columns (rows ++ row ∷ []) objective
IsSystem-row columns rows objective row is room fits = record {
  few_columns = is.few_columns;
  few_rows = let e = one_longer rows row in omega arith;
  each_column = is.each_column;
  each_row = All-push (IsGivenRow (length columns)) rows row is.each_row fits;
  objective_is = is.objective_is;
}

pub IsSystem-objective : (columns : List Column) (rows : List GivenRow) (objective : Option Objective) (other : Objective) → IsSystem columns rows objective → IsObjective (length columns) other → IsSystem columns rows (Some other)
IsSystem-objective columns rows objective other is fits = record {
  few_columns = is.few_columns;
  few_rows = is.few_rows;
  each_column = is.each_column;
  each_row = is.each_row;
  objective_is = fits;
}
