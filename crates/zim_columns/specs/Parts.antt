-- What declared columns hold, as their numbers and bytes are made.
use Rattle.std.specs.Prelude.{ℕ, ◌<◌, List, All, IfSome}
use Rattle.zim_rows.specs.Program.{IsWithin}
use Rattle.zim_tuples.specs.declared.elements.Elem.{Elem}
use Rattle.zim_tuples.specs.declared.elements.Elem.TheVariants.{Number, Text}
use Rattle.zim_columns.specs.declared.declared.Declared.{Declared}

-- A component holds a number within the limit, or bytes.
abbrev pub IsComponentWithin : Elem → Type 0
IsComponentWithin (Number q) = IsWithin q
IsComponentWithin (Text bytes) = All (λ (b : ℕ). b < 256) bytes

-- The numbers of a declared column are within the limit, and its strings are bytes.
pub record HasPartsWithin (declared : Declared) : Type 0 where
  pub tuple : All IsComponentWithin declared.tuple
  pub priority : IfSome declared.priority IsWithin
  pub startval : IfSome declared.startval IsWithin
