-- What the written files say of the model that they were compiled from.
use Rattle.std.specs.Prelude.{◌≡◌, ◌≢◌, ℕ, ◌≤◌, ◌↔◌, List, map, AllPairs, false, Some, IsSome, pos, neg_ℤ, if◌then◌else◌}
use Rattle.std.specs.List.{AllByRecursion}
use Rattle.zim_rational.specs.Rational.{Rational, whole, times}
use Rattle.zim_instance.specs.Instance.{Instance, Point, IsInstancePoint, instance_objective}
use Rattle.zim_lp.specs.Reader.{lp}
use Rattle.zim_mps.specs.Reader.{mps}
use Rattle.zim_columns.specs.declared.declared.Declared.{Declared}
use Rattle.zim_table.specs.Correct.{pair_said}
use Rattle.zim_table.specs.Reader.{Pair, Table, table, numbers_declared}
use Rattle.zim_cli.specs.Outputs.{Texts}
use Rattle.zim_build.specs.Model.{Model, asks, Obj, maximises}
use Rattle.zim_build.specs.Program.{AreAsAsked}
use Rattle.zim_build.specs.Satisfying.{IsAssignment, Sat}

-- A point is the only one of an instance that is cut down to an assignment.
pub record IsOnlyPoint (t : Table) (instance : Instance) (values : List Rational) (point : Point) : Type 0 where
  pub is : IsInstancePoint instance point
  pub cut_is : numbers_declared t point ≡ values
  pub only : (other : Point) → IsInstancePoint instance other → numbers_declared t other ≡ values → other ≡ point

-- Three texts say a model with its declared columns.
pub record AreFilesOf (model : Model) (columns : List Declared) (texts : Texts) : Type 0 where
  -- Read by their formats, the first is an instance, the second an instance and the third a table.
  pub lp_instance : Instance
  pub lp_reads : lp texts.lp ≡ Some lp_instance
  pub mps_instance : Instance
  pub mps_reads : mps texts.mps ≡ Some mps_instance
  pub names : Table
  pub table_reads : table texts.table ≡ Some names
  -- The declared columns are those that the model asks for, in order, and the table names each of them once, in the same order.
  pub asked : AreAsAsked (asks model) columns
  pub pairs : names.pairs ≡ map pair_said columns
  -- Each of these is a column of the files, and no two are the same one.
  pub paired : AllByRecursion (λ (p : Pair). IsSome (lp_instance.column p.column)) names.pairs
  pub apart : AllPairs (λ (p later : Pair). p.column ≢ later.column) names.pairs
  -- Both instances have the same columns and the same points.
  pub same_columns : (name : List ℕ) → lp_instance.column name ≡ mps_instance.column name
  pub same_points : (point : Point) → IsInstancePoint lp_instance point ↔ IsInstancePoint mps_instance point
  -- Cut down, each point gives an assignment under which every statement of the model is true.
  pub sound : (point : Point) → IsInstancePoint lp_instance point → IsAssignment model (numbers_declared names point) × Sat model (numbers_declared names point)
  -- Every such assignment comes from exactly one point.
  pub complete : (values : List Rational) → IsAssignment model values → Sat model values →
      (point : Point) × IsOnlyPoint names lp_instance values point
  -- The objective at a point is the model's times the table's factor.
  pub lp_objective : (point : Point) → IsInstancePoint lp_instance point →
      instance_objective lp_instance point ≡ times (whole names.lp_factor) (Obj model (numbers_declared names point))
  pub mps_objective : (point : Point) → IsInstancePoint lp_instance point →
      instance_objective mps_instance point ≡ times (whole names.mps_factor) (Obj model (numbers_declared names point))
  -- The first factor is a whole number above 0, and the second is it, or its negative exactly where the model maximises.
  pub factor_above : (n : ℕ) × (1 ≤ n) × (names.lp_factor ≡ pos n)
  pub factors : names.mps_factor ≡ (if maximises model then neg_ℤ names.lp_factor else names.lp_factor)
  -- The first instance maximises exactly where the model does, and the second never.
  pub aim : lp_instance.maximises ≡ maximises model
  pub minimises : mps_instance.maximises ≡ false
