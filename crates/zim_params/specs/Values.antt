-- What a parameter has at each index, and what it is after a value was given to one more.
use Rattle.std.specs.Prelude.{cond, is_some, List, [], ◌∷◌, ◌++◌, Option, Result, Ok, Err}
use Rattle.std.specs.Cmp.Lexicographic.{pointwise}
use Rattle.std.specs.List.{IsDistinct}
use Rattle.std.specs.Map.{keys_of, lookup}
use Rattle.std.specs.Option.{option_or}
use Rattle.zim_params.specs.declared.param.InsertFault.{InsertFault}
use Rattle.zim_params.specs.declared.param.InsertFault.TheVariants.{Twice}
use Rattle.zim_tuples.specs.Elements.{same_element}
use Rattle.zim_tuples.specs.declared.elements.Elem.{Elem}

-- the values of a parameter: the indices to which one was given, in order of insertion, each with its value, and the
-- default, if there is one
pub record Values (V : Type 0) : Type 0 where
  pub entries : List (List Elem × V)
  pub default : Option V

-- no index stands twice
abbrev pub AreDistinct : {V : Type 0} → List (List Elem × V) → Type 0
AreDistinct entries = IsDistinct (pointwise same_element) (keys_of entries)

-- the value that was given to the index
abbrev pub own_value : {V : Type 0} → Values V → List Elem → Option V
own_value values index = lookup (pointwise same_element index) values.entries

-- the parameter's value at the index: the one that was given to it, else the default
unfoldable pub value_at : {V : Type 0} → Values V → List Elem → Option V
value_at values index = option_or (own_value values index) values.default

-- the values with one more, at the end
abbrev pub with_entry : {V : Type 0} → Values V → List Elem → V → Values V
with_entry values index value = record { entries = values.entries ++ (index, value) ∷ []; default = values.default }

-- the values after this one is given to the index, which is refused where one was given to it before
unfoldable pub value_inserted : {V : Type 0} → Values V → List Elem → V → Result (Values V) InsertFault
value_inserted values index value = cond (is_some (own_value values index)) (Err Twice) (Ok (with_entry values index value))
