-- How a scope is kept: each name once.
use Rattle.std.specs.Prelude.{Bool, true, false, nat_eq}
use Rattle.std.specs.Cmp.Lexicographic.{pointwise}
use Rattle.std.specs.List.{IsDistinct}
use Rattle.std.specs.Map.{keys_of}
use Rattle.zim_typed.specs.declared.scope.Declared.{Declared}
use Rattle.zim_typed.specs.declared.scope.Declared.TheVariants.{Objective}
use Rattle.zim_typed.specs.Scope.{Scope}

-- no name stands twice
abbrev pub AreDeclaredOnce : Scope → Type 0
AreDeclaredOnce scope = IsDistinct (pointwise nat_eq) (keys_of scope)

-- the objective, of what a name may be
abbrev pub is_the_objective : Declared → Bool
is_the_objective Objective = true
is_the_objective _ = false
