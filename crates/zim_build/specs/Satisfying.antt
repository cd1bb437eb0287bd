-- When an assignment of a model's declared columns satisfies the model.
use Rattle.std.specs.Prelude.{◌≡◌, List, [], ◌∷◌, length}
use Rattle.zim_rational.specs.Rational.{Rational}
use Rattle.zim_columns.specs.declared.asks.Ask.{Ask}
use Rattle.zim_columns.specs.Bounds.{IsAsked}
use Rattle.zim_build.specs.Model.{Model, asks, AreTrue}

-- An assignment: one fraction for each declared column in order, and for nothing else.
abbrev pub IsAssignment : Model → List Rational → Type 0
IsAssignment model values = length values ≡ length (asks model)

-- There is one fraction for each column that is asked for, and each is one of those that its column takes: between the bounds, and whole where the
-- kind is integer or binary.
abbrev pub AreAsked : List Ask → List Rational → Type 0
AreAsked [] [] = Unit {0}
AreAsked [] (v ∷ vs) = ⊥
AreAsked (ask ∷ more) [] = ⊥
AreAsked (ask ∷ more) (v ∷ vs) = IsAsked ask v × AreAsked more vs

-- An assignment satisfies a model: each fraction is one that its column takes, and every statement is true.
pub record Sat (model : Model) (values : List Rational) : Type 0 where
  pub columns : AreAsked (asks model) values
  pub statements : AreTrue model values
