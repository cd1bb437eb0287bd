-- When a tuple agrees with the slots of a pattern, and what it binds.
use Rattle.std.specs.Prelude.{Bool, true, false, ◌&&◌, ◌==◌, cond, length, List, [], ◌∷◌, ◌++◌, Option, Some, None, slice_get, unwrap_or, option_map}
use Rattle.std.specs.List.{list_all, flat_map, zip}
use Rattle.zim_tuples.specs.Elements.{same_element}
use Rattle.zim_tuples.specs.declared.elements.Elem.{Elem}
use Rattle.zim_tuples.specs.declared.environments.Binding.{Binding}
use Rattle.zim_tuples.specs.declared.patterns.Slot.{Slot}
use Rattle.zim_tuples.specs.declared.patterns.Slot.TheVariants.{Free, Again, Fixed}

-- whether a component agrees with its slot: with any free one, with a repeated one where the tuple has
-- the same component at that position, and with a fixed one where it is that element
abbrev pub slot_agrees : List Elem → Slot → Elem → Bool
slot_agrees tuple (Free name) component = true
slot_agrees tuple (Again at) component = unwrap_or (option_map (λ earlier. same_element earlier component) (slice_get tuple at)) false
slot_agrees tuple (Fixed element) component = same_element element component

-- whether a tuple has as many components as there are slots, and each agrees with its slot
abbrev pub agrees : List Slot → List Elem → Bool
agrees slots tuple = length slots == length tuple && list_all (λ pair. slot_agrees tuple pair.0 pair.1) (zip slots tuple)

-- what a slot binds: the name of a free one, to the component
abbrev pub bound_by : Slot → Elem → List Binding
bound_by (Free name) component = record { name = name; value = component } ∷ []
bound_by (Again at) component = []
bound_by (Fixed element) component = []

-- what the free slots bind, in order
abbrev pub bound : List Slot → List Elem → List Binding
bound slots tuple = flat_map (λ pair. bound_by pair.0 pair.1) (zip slots tuple)

-- the environment with what is bound at its end, where the tuple agrees
abbrev pub matched : List Binding → List Slot → List Elem → Option (List Binding)
matched env slots tuple = cond (agrees slots tuple) (Some (env ++ bound slots tuple)) None
