-- What it means that the instance of a file represents a linear program.
use Rattle.std.specs.Prelude.{◌≡◌, ℕ, ℤ, IsTrue, List, length, map, Some}
use Rattle.std.specs.List.{range_with_len}
use Rattle.zim_rational.specs.Rational.{Rational, whole, one, times}
use Rattle.zim_instance.specs.Instance as instance
use Rattle.zim_instance.specs.Instance.{Instance, Point, number_named}
use Rattle.zim_instance.specs.System.{column_named}
use Rattle.zim_rows.specs.Program.{LinearProgram}
use Rattle.zim_rows.specs.Covered.{written_program}
use Rattle.zim_rows.specs.Points.{IsPoint, objective_at}
use Rattle.zim_rows.specs.Named.{column_name, offset_name, has_offset, file_columns}

-- The numbers that a point gives to x1, x2, .., as many as there are columns.
abbrev pub numbers_in_file : ℕ → Point → List Rational
numbers_in_file columns point = map (λ (j : ℕ). number_named point (column_name j)) (range_with_len 1 columns)

-- The columns of the instance are those of the program, with the sides that files have, and `one` where it stands. The
-- numbers of each point of the instance are a point of the program with these sides, each such point of the program is the
-- numbers of exactly one point, and `one` is 1. The objective of the instance is the program's, which is scaled already, times
-- a factor: 1, or -1 where a maximisation is written as a minimisation.
pub record Represents (file : Instance) (program : LinearProgram) (factor : ℤ) : Type 0 where
  pub columns : (name : List ℕ) → file.column name ≡ column_named (file_columns program) name
  pub solves : (point : Point) → instance.IsInstancePoint file point →
      IsPoint (written_program program) (numbers_in_file (length program.columns) point)
  pub solved : (numbers : List Rational) → IsPoint (written_program program) numbers →
      (point : Point) × instance.IsInstancePoint file point × (numbers_in_file (length program.columns) point ≡ numbers)
  pub once : (p q : Point) → instance.IsInstancePoint file p → instance.IsInstancePoint file q →
      numbers_in_file (length program.columns) p ≡ numbers_in_file (length program.columns) q → p ≡ q
  pub objective : (point : Point) → instance.IsInstancePoint file point →
      instance.instance_objective file point ≡ times (whole factor) (objective_at program (numbers_in_file (length program.columns) point))
  pub one : (point : Point) → instance.IsInstancePoint file point → IsTrue (has_offset program) → point offset_name ≡ Some one
