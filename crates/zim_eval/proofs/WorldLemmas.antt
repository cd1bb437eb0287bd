-- The world with one entry more.
use Rattle.std.proofs.Common.{◌≡◌, ℕ, List, [], ◌∷◌, ◌++◌, refl}
use Rattle.zim_meaning.specs.World.{World, IndexedSet, IndexedParam, world_with_set, world_with_indexed_set, world_with_param, world_with_indexed_param}
use Rattle.zim_meaning.specs.declared.values.Value.{Value}
use Rattle.zim_tuples.specs.declared.elements.Elem.{Elem}

pub sets_with : (world : World) (more : List (List ℕ × List (List Elem))) (name : List ℕ) (added : List (List Elem)) → more ≡ world.sets ++ (name, added) ∷ [] → record { sets = more; indexed_sets = world.indexed_sets; params = world.params; indexed_params = world.indexed_params; functions = world.functions } ≡ world_with_set world name added
sets_with world more name added is = rw is refl

pub indexed_sets_with : (world : World) (more : List (List ℕ × IndexedSet)) (name : List ℕ) (added : IndexedSet) → more ≡ world.indexed_sets ++ (name, added) ∷ [] → record { sets = world.sets; indexed_sets = more; params = world.params; indexed_params = world.indexed_params; functions = world.functions } ≡ world_with_indexed_set world name added
indexed_sets_with world more name added is = rw is refl

pub params_with : (world : World) (more : List (List ℕ × Value)) (name : List ℕ) (added : Value) → more ≡ world.params ++ (name, added) ∷ [] → record { sets = world.sets; indexed_sets = world.indexed_sets; params = more; indexed_params = world.indexed_params; functions = world.functions } ≡ world_with_param world name added
params_with world more name added is = rw is refl

pub indexed_params_with : (world : World) (more : List (List ℕ × IndexedParam)) (name : List ℕ) (added : IndexedParam) → more ≡ world.indexed_params ++ (name, added) ∷ [] → record { sets = world.sets; indexed_sets = world.indexed_sets; params = world.params; indexed_params = more; functions = world.functions } ≡ world_with_indexed_param world name added
indexed_params_with world more name added is = rw is refl
