-- Which statements can be added to a scope.
use Rattle.std.specs.Prelude.{◌≤◌}
use Rattle.zim_typed.specs.declared.statement.TShape.{TShape}
use Rattle.zim_typed.specs.declared.statement.TShape.TheVariants.{Define}
use Rattle.zim_typed.specs.Scope.{Scope}
use Rattle.zim_typed.specs.Nesting.{definition_nesting}

-- a definition nests at most 200 deep, together with the functions that it calls; of other statements nothing is asked
abbrev pub NestsWithinLimit : Scope → TShape → Type 0
NestsWithinLimit scope (Define _ _ body) = definition_nesting scope body ≤ 200
NestsWithinLimit scope _ = Unit {0}
