-- The linear program of a model, and what it says of the model.
use Rattle.std.specs.Prelude.{◌≡◌, ◌↔◌, List, [], ◌∷◌, map, None}
use Rattle.zim_rational.specs.Rational.{Rational, times, whole}
use Rattle.zim_rows.specs.Covered.{IsCovered, written_program}
use Rattle.zim_rows.specs.Points.{assigned, IsPoint, objective_at}
use Rattle.zim_rows.specs.Program.{LinearProgram}
use Rattle.zim_rows.specs.Scaled.{first_fault, scaled_program}
use Rattle.zim_rows.specs.System.{LinearSystem}
use Rattle.zim_columns.specs.declared.asks.Ask.{Ask}
use Rattle.zim_columns.specs.declared.declared.Declared.{Declared}
use Rattle.zim_build.specs.Model.{Model, Obj, maximises, HasSystem}
use Rattle.zim_build.specs.Satisfying.{IsAssignment, Sat}

-- The linear program of a model with its declared columns: the system that its statements make, which is covered, with each row and the objective
-- times their factors, no one of which is past.
pub record IsProgramOf (model : Model) (columns : List Declared) (program : LinearProgram) : Type 0 where
  pub system : LinearSystem
  pub made : HasSystem model columns system
  pub covered : IsCovered system
  pub faultless : first_fault system ≡ None
  pub scaled : program ≡ scaled_program system

-- A declared column is as it was asked for.
pub record IsAsAsked (ask : Ask) (declared : Declared) : Type 0 where
  pub name : declared.name ≡ ask.name
  pub tuple : declared.tuple ≡ ask.tuple
  pub priority : declared.priority ≡ ask.priority
  pub startval : declared.startval ≡ ask.startval

-- The columns that are asked for are these declared ones, in order.
abbrev pub AreAsAsked : List Ask → List Declared → Type 0
AreAsAsked [] [] = Unit {0}
AreAsAsked [] (declared ∷ columns) = ⊥
AreAsAsked (ask ∷ more) [] = ⊥
AreAsAsked (ask ∷ more) (declared ∷ columns) = IsAsAsked ask declared × AreAsAsked more columns

-- Numbers of all columns, cut down to the declared ones, in order.
abbrev pub cut_down : List Declared → List Rational → List Rational
cut_down columns numbers = map (λ (declared : Declared). assigned numbers declared.column) columns

-- Numbers are the only point of a program that is cut down to an assignment.
pub record IsOnlySolution (program : LinearProgram) (columns : List Declared) (values : List Rational) (numbers : List Rational) : Type 0 where
  pub is : IsPoint program numbers
  pub cut_is : cut_down columns numbers ≡ values
  pub only : (other : List Rational) → IsPoint program other → cut_down columns other ≡ values → other ≡ numbers

-- A program says a model with its declared columns, also with the sides that files have. Each point is cut down to an assignment that satisfies the
-- model, and each such assignment comes from exactly one point. The objective at a point is the model's times the factor, and is maximised where
-- the model's is.
pub record SaysModel (model : Model) (columns : List Declared) (program : LinearProgram) : Type 0 where
  pub sides : (numbers : List Rational) → IsPoint (written_program program) numbers ↔ IsPoint program numbers
  pub sound : (numbers : List Rational) → IsPoint program numbers → Sat model (cut_down columns numbers)
  pub complete : (values : List Rational) → IsAssignment model values → Sat model values → (numbers : List Rational) × IsOnlySolution program columns values numbers
  pub objective : (numbers : List Rational) → IsPoint program numbers →
      objective_at program numbers ≡ times (whole program.target.factor) (Obj model (cut_down columns numbers))
  pub aim : program.target.maximize ≡ maximises model

-- A model has one program and one list of declared columns.
abbrev pub MakesOneProgram : Model → Type 0
MakesOneProgram model =
    (columns others : List Declared) (one other : LinearProgram) → IsProgramOf model columns one → IsProgramOf model others other → (columns ≡ others) × (one ≡ other)
