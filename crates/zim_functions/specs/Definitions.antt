-- Which function a name has in a list of definitions, and how the list is kept.
use Rattle.std.specs.Prelude.{ℕ, ◌≡◌, nat_eq, List, map, Option, find}
use Rattle.std.specs.Cmp.Lexicographic.{pointwise}
use Rattle.std.specs.List.{AllByRecursion, IsDistinct}
use Rattle.std.specs.Map.{keys_of}
use Rattle.zim_functions.specs.declared.definitions.Definition.{Definition}

-- the first definition of the name
unfoldable pub defined : List Definition → List ℕ → Option Definition
defined definitions name = find (λ definition. pointwise nat_eq name definition.name) definitions

-- the names that are defined, in order
abbrev pub defined_names : List Definition → List (List ℕ)
defined_names definitions = map (λ definition. definition.name) definitions

-- no name is defined twice
abbrev pub AreNamesDistinct : List Definition → Type 0
AreNamesDistinct definitions = IsDistinct (pointwise nat_eq) (defined_names definitions)

-- ---- for the type's invariant alone

-- how definitions are kept: each under its own name, and no two under one name
pub record AreKept (kept : List (List ℕ × Definition)) : Type 0 where
  pub named : AllByRecursion (λ entry. entry.0 ≡ entry.1.name) kept
  pub distinct : IsDistinct (pointwise nat_eq) (keys_of kept)
