-- The rows of a model's system come from its statements, in their order, and its objective is one of them.
use Rattle.std.proofs.Common.{◌≡◌, ℕ, zero, suc, ◌+◌, ◌<◌, ◌≤◌, List, [], ◌∷◌, length, map, sym, ap, subst, arith}
use Rattle.std.specs.Prelude.{All, IfSome}
use Rattle.std.specs.List.{AllByRecursion}
use Rattle.std.specs.List.Sorted.{IsNonDecreasingBy}
use Rattle.std.proofs.lemmas.List.Elements.{All-from_recursion}
use Rattle.zim_rows.specs.declared.rows.GivenRow.{GivenRow}
use Rattle.zim_rows.specs.declared.rows.Row.{Row}
use Rattle.zim_rows.specs.Scaled.{scaled_row}
use Rattle.zim_plain.specs.Statements.{WrittenText, Variable, Objective, Constraint, PlainModel}
use Rattle.zim_plain.specs.Systems.{AreRowsOf, objective_position}

-- the objective is one of the statements
pub position_there : (at n : ℕ) (model : PlainModel) → at + length model ≤ n → IfSome (objective_position at model) (λ (p : ℕ). p < n)
position_there at n [] l = tt
position_there at n (Variable head ∷ model) l = position_there (at + 1) n model (omega arith)
position_there at n (Objective maximize head sum ∷ model) l = omega arith
position_there at n (Constraint head left sense place right ∷ model) l = position_there (at + 1) n model (omega arith)

-- a row comes from one of the statements from here to there
record IsFromBetween (at n : ℕ) (row : Row) : Type 0 where
  low : at ≤ row.from.statement
  high : row.from.statement < n

lower : (at n : ℕ) (rows : List Row) → AllByRecursion (IsFromBetween (at + 1) n) rows → AllByRecursion (IsFromBetween at n) rows
lower at n [] h = tt
lower at n (row ∷ rows) h = (record { low = omega (arith, h.0.low); high = h.0.high }, lower at n rows h.1)

rows_between : (names : List WrittenText) (at n : ℕ) (model : PlainModel) (rows : List GivenRow) → at + length model ≤ n → AreRowsOf names at model rows → AllByRecursion (IsFromBetween at n) (map scaled_row rows)
rows_between names at n [] rows l h = subst (λ (rs : List GivenRow). AllByRecursion (IsFromBetween at n) (map scaled_row rs)) (sym h) tt
rows_between names at n (Variable head ∷ model) rows l h = lower at n (map scaled_row rows) (rows_between names (at + 1) n model rows (omega arith) h)
rows_between names at n (Objective maximize head sum ∷ model) rows l h = lower at n (map scaled_row rows) (rows_between names (at + 1) n model rows (omega arith) h)
rows_between names at n (Constraint head left sense place right ∷ model) [] l h = absurd h
rows_between names at n (Constraint head left sense place right ∷ model) (row ∷ rows) l h =
    (record { low = omega (arith, h.0.statement); high = omega (arith, h.0.statement) }, lower at n (map scaled_row rows) (rows_between names (at + 1) n model rows (omega arith) h.1))

-- each row comes from a statement
pub rows_there : (names : List WrittenText) (model : PlainModel) (rows : List GivenRow) → AreRowsOf names 0 model rows → All (λ (r : Row). r.from.statement < length model) (map scaled_row rows)
rows_there names model rows h k d l =
    (All-from_recursion (IsFromBetween 0 (length model)) (map scaled_row rows) (rows_between names 0 (length model) model rows (omega arith) h) k d l).high

no_rows : (rows : List GivenRow) → rows ≡ [] → length (map scaled_row rows) ≡ 0
no_rows rows e = ap (λ (rs : List GivenRow). length (map scaled_row rs)) e

-- the rows come in the order of their statements
pub rows_rise : (names : List WrittenText) (at : ℕ) (model : PlainModel) (rows : List GivenRow) → AreRowsOf names at model rows → IsNonDecreasingBy (λ (r : Row). r.from.statement) (map scaled_row rows)
rows_rise names at [] rows h i j d l m = absurd (omega (arith, no_rows rows h, m))
rows_rise names at (Variable head ∷ model) rows h i j d l m = rows_rise names (at + 1) model rows h i j d l m
rows_rise names at (Objective maximize head sum ∷ model) rows h i j d l m = rows_rise names (at + 1) model rows h i j d l m
rows_rise names at (Constraint head left sense place right ∷ model) [] h i j d l m = absurd h
rows_rise names at (Constraint head left sense place right ∷ model) (row ∷ rows) h zero zero d l m = omega arith
rows_rise names at (Constraint head left sense place right ∷ model) (row ∷ rows) h zero (suc j) d l m =
    let later = All-from_recursion (IsFromBetween (at + 1) (at + 1 + length model)) (map scaled_row rows) (rows_between names (at + 1) (at + 1 + length model) model rows (omega arith) h.1) j d (omega arith) in
    omega (arith, later.low, h.0.statement)
rows_rise names at (Constraint head left sense place right ∷ model) (row ∷ rows) h (suc i) zero d l m = absurd (omega arith)
rows_rise names at (Constraint head left sense place right ∷ model) (row ∷ rows) h (suc i) (suc j) d l m = rows_rise names (at + 1) model rows h.1 i j d (omega arith) (omega arith)
