-- What a name stands for in an environment.
use Rattle.std.specs.Prelude.{ℕ, List, Option, option_map, find, nat_eq, reverse}
use Rattle.std.specs.Cmp.Lexicographic.{pointwise}
use Rattle.zim_tuples.specs.declared.elements.Elem.{Elem}
use Rattle.zim_tuples.specs.declared.environments.Binding.{Binding}

-- the element that a name stands for, if it stands for one: where the name stands more than once, the last one counts
unfoldable pub element_named : List Binding → List ℕ → Option Elem
element_named env name = option_map (λ binding. binding.value) (find (λ binding. pointwise nat_eq name binding.name) (reverse env))
