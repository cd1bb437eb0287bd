-- When a world stands for a scope.
use Rattle.std.specs.Prelude.{ℕ, ◌≡◌, List, ◌∷◌, ◌++◌, length, map, filter_map, Option, Some, None}
use Rattle.std.specs.Map.{keys_of}
use Rattle.zim_functions.specs.Definitions.{defined}
use Rattle.zim_functions.specs.declared.definitions.Definition.{Definition}
use Rattle.zim_meaning.specs.World.{World}
use Rattle.zim_typed.specs.Scope.{Scope}
use Rattle.zim_typed.specs.Suits.{SuitsConst}
use Rattle.zim_typed.specs.declared.scope.Declared.{Declared}
use Rattle.zim_typed.specs.declared.scope.Declared.TheVariants as declared

-- the name of a declaration that is a set, with brackets or without
abbrev pub set_name : List ℕ × Declared → Option (List ℕ)
set_name (name, declared.Set false) = Some name
set_name (name, _) = None

-- that of an indexed set
abbrev pub indexed_set_name : List ℕ × Declared → Option (List ℕ)
indexed_set_name (name, declared.Set true) = Some name
indexed_set_name (name, _) = None

-- that of a parameter without brackets
abbrev pub param_name : List ℕ × Declared → Option (List ℕ)
param_name (name, declared.Parameter false) = Some name
param_name (name, _) = None

-- that of a parameter with brackets
abbrev pub indexed_param_name : List ℕ × Declared → Option (List ℕ)
indexed_param_name (name, declared.Parameter true) = Some name
indexed_param_name (name, _) = None

-- that of a function, with the number of its parameters
abbrev pub function_name : List ℕ × Declared → Option (List ℕ × ℕ)
function_name (name, declared.Function count nesting) = Some (name, count)
function_name (name, _) = None

-- a world keeps each set, indexed set, parameter and function of a scope and no other, in order, each function with as many parameters as it has
-- there; and each function's body suits the scope before its definition, with its parameters
pub record StandsFor (world : World) (scope : Scope) : Type 0 where
  pub sets : keys_of world.sets ≡ filter_map set_name scope
  pub indexed_sets : keys_of world.indexed_sets ≡ filter_map indexed_set_name scope
  pub params : keys_of world.params ≡ filter_map param_name scope
  pub indexed_params : keys_of world.indexed_params ≡ filter_map indexed_param_name scope
  pub functions : map (λ definition. (definition.name, length definition.params)) world.functions ≡ filter_map function_name scope
  pub bodies : (before others : Scope) (what : Declared) (definition : Definition) →
      scope ≡ before ++ (definition.name, what) ∷ others → defined world.functions definition.name ≡ Some definition →
      SuitsConst before definition.params definition.body
