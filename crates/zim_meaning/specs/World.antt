-- What is known after the statements before: the sets, the parameters and the functions, each by its name.
use Rattle.std.specs.Prelude.{ℕ, List, [], ◌∷◌, ◌++◌, nat_eq, if◌then◌else◌, Option, None, Result, Ok, Err}
use Rattle.std.specs.Cmp.Lexicographic.{pointwise}
use Rattle.std.specs.Map.{lookup}
use Rattle.std.specs.Option.{option_or}
use Rattle.zim_answer.specs.Answer.{Answer}
use Rattle.zim_fault.specs.declared.faults.Fault.{Fault}
use Rattle.zim_fault.specs.declared.faults.Place.{Place}
use Rattle.zim_fault.specs.declared.kinds.Kind.{Kind}
use Rattle.zim_fault.specs.declared.kinds.Kind.TheVariants.{NoEntry}
use Rattle.zim_functions.specs.declared.definitions.Definition.{Definition}
use Rattle.zim_meaning.specs.declared.values.Value.{Value}
use Rattle.zim_params.specs.Values.{Values, value_at}
use Rattle.zim_sets.specs.Sets.{has}
use Rattle.zim_tuples.specs.declared.elements.Elem.{Elem}

-- ---- answers at places

-- a fault of this kind at a place
abbrev pub fault_of : Place → Kind → Fault
fault_of place kind = record { place = place; kind = kind }

-- the same answer, what stops it being a fault at a place
abbrev pub at_place : {A : Type 0} → Place → Result A Kind → Answer A Fault
at_place place (Ok value) = Ok value
at_place place (Err kind) = Err (fault_of place kind)

-- what is there; where nothing is, there is no entry
abbrev pub entry : {A : Type 0} → Option A → Result A Kind
entry (Option.Some value) = Ok value
entry None = Err NoEntry

-- ---- the world

-- an indexed set: its whole index set in order, and the sets of those indices that have one
pub record IndexedSet : Type 0 where
  pub indices : List (List Elem)
  pub members : Values (List (List Elem))

-- a parameter with brackets: its whole index set in order, the values of those indices that were given one, and the value of all other indices of
-- the index set, if there is a default
pub record IndexedParam : Type 0 where
  pub indices : List (List Elem)
  pub given : Values Value
  pub default : Option Value

-- the sets, the indexed sets, the parameters without and with brackets and the functions of the statements before, each in the order of declaration
pub record World : Type 0 where
  pub sets : List (List ℕ × List (List Elem))
  pub indexed_sets : List (List ℕ × IndexedSet)
  pub params : List (List ℕ × Value)
  pub indexed_params : List (List ℕ × IndexedParam)
  pub functions : List Definition

-- before the first statement
abbrev pub empty_world : World
empty_world = record { sets = []; indexed_sets = []; params = []; indexed_params = []; functions = [] }

-- what has this name, if anything has
abbrev pub entry_named : {V : Type 0} → List (List ℕ × V) → List ℕ → Option V
entry_named entries name = lookup (pointwise nat_eq name) entries

-- no value was given to an index
abbrev pub nothing_given : {V : Type 0} → Values V
nothing_given = record { entries = []; default = None }

-- the parameter's value at an index: the one that was given to it, else the default where the index is in the index set
unfoldable pub param_at : IndexedParam → List Elem → Option Value
param_at param index = option_or (value_at param.given index) (if has param.indices index then param.default else None)

-- the set at an index: the one that was given to it
unfoldable pub set_at : IndexedSet → List Elem → Option (List (List Elem))
set_at family index = value_at family.members index

-- ---- the world with one name more

-- with a set
abbrev pub world_with_set : World → List ℕ → List (List Elem) → World
world_with_set world name tuples =
    record { sets = world.sets ++ (name, tuples) ∷ []; indexed_sets = world.indexed_sets; params = world.params; indexed_params = world.indexed_params; functions = world.functions }

-- with an indexed set
abbrev pub world_with_indexed_set : World → List ℕ → IndexedSet → World
world_with_indexed_set world name family =
    record { sets = world.sets; indexed_sets = world.indexed_sets ++ (name, family) ∷ []; params = world.params; indexed_params = world.indexed_params; functions = world.functions }

-- with a parameter without brackets
abbrev pub world_with_param : World → List ℕ → Value → World
world_with_param world name value =
    record { sets = world.sets; indexed_sets = world.indexed_sets; params = world.params ++ (name, value) ∷ []; indexed_params = world.indexed_params; functions = world.functions }

-- with a parameter with brackets
abbrev pub world_with_indexed_param : World → List ℕ → IndexedParam → World
world_with_indexed_param world name param =
    record { sets = world.sets; indexed_sets = world.indexed_sets; params = world.params; indexed_params = world.indexed_params ++ (name, param) ∷ []; functions = world.functions }

-- with a function
abbrev pub world_with_function : World → Definition → World
world_with_function world definition =
    record { sets = world.sets; indexed_sets = world.indexed_sets; params = world.params; indexed_params = world.indexed_params; functions = world.functions ++ definition ∷ [] }
