-- What each name is after the statements before, and what a use of a name stands for.
use Rattle.std.specs.Prelude.{ℕ, List, Bool, true, false, ◌||◌, ◌==◌, Option, Some, None, option_map, find, is_some, nat_eq, if◌then◌else◌}
use Rattle.std.specs.List.{list_any}
use Rattle.std.specs.Cmp.Lexicographic.{pointwise}
use Rattle.zim_fault.specs.declared.words.Word.{Word}
use Rattle.zim_fault.specs.declared.words.Word.TheVariants.{WMin, WMax, WOrd, WSubstr, WSubsets}
use Rattle.zim_typed.specs.declared.scope.Declared.{Declared}
use Rattle.zim_typed.specs.declared.scope.Declared.TheVariants.{Set, Parameter, Variable, Function}
use Rattle.zim_typed.specs.declared.constant.Resolved.{Resolved}
use Rattle.zim_typed.specs.declared.constant.Resolved.TheVariants as resolved

-- a name
abbrev pub Text : Type 0
Text = List ℕ

-- the names that are bound around a place: those of the indices there, and the parameters of the function whose body it is
abbrev pub Names : Type 0
Names = List Text

-- each declared name with what it is
abbrev pub Scope : Type 0
Scope = List (Text × Declared)

-- whether a name is bound around a place
abbrev pub is_local : Names → Text → Bool
is_local names name = list_any (pointwise nat_eq name) names

-- what a name is declared to be, if it is declared
abbrev pub kind_of_name : Scope → Text → Option Declared
kind_of_name scope name = option_map (λ entry. entry.1) (find (λ entry. pointwise nat_eq name entry.0) scope)

-- whether a name is declared, or bound around a place
abbrev pub is_known : Scope → Names → Text → Bool
is_known scope names name = is_local names name || is_some (kind_of_name scope name)

-- what a use of a name stands for: a value without variables, a variable, or nothing, as it isn't declared, or has other brackets or another
-- number of arguments
pub data Use : Type 0 where
  Stands : Resolved → Use
  Varies : Use
  Unknown : Use
  Misused : Use

-- a use of a name: one thing where it is bound around it, and else what its declaration says
abbrev pub use_of : Names → Scope → (Option Declared → Use) → Use → Text → Use
use_of names scope of_declared of_local name = if is_local names name then of_local else of_declared (kind_of_name scope name)

-- a bare name of a declaration
abbrev pub bare_declared : Option Declared → Use
bare_declared None = Unknown
bare_declared (Some (Set false)) = Stands resolved.Set
bare_declared (Some (Parameter false)) = Stands resolved.Parameter
bare_declared (Some (Variable false)) = Varies
bare_declared (Some _) = Misused

-- a bare name
abbrev pub bare : Scope → Names → Text → Use
bare scope names = use_of names scope bare_declared (Stands resolved.Local)

-- a name of a declaration with brackets
abbrev pub indexed_declared : Option Declared → Use
indexed_declared None = Unknown
indexed_declared (Some (Set true)) = Stands resolved.Set
indexed_declared (Some (Parameter true)) = Stands resolved.Parameter
indexed_declared (Some (Variable true)) = Varies
indexed_declared (Some _) = Misused

-- a name with brackets
abbrev pub indexed : Scope → Names → Text → Use
indexed scope names = use_of names scope indexed_declared Misused

-- a name of a declaration with so many arguments in parentheses
abbrev pub called_declared : ℕ → Option Declared → Use
called_declared count None = Unknown
called_declared count (Some (Function parameters nesting)) = if count == parameters then Stands resolved.Function else Misused
called_declared count (Some _) = Misused

-- a name with so many arguments in parentheses
abbrev pub called : ℕ → Scope → Names → Text → Use
called count scope names = use_of names scope (called_declared count) Misused

-- a name is that of an indexed set, whose index set `indexset` gives
abbrev pub is_indexed_set : Option Declared → Bool
is_indexed_set (Some (Set true)) = true
is_indexed_set _ = false

-- whether a function that is a word has so many arguments; `min` and `max` have any number of them
abbrev pub takes : Word → ℕ → Bool
takes WMin count = true
takes WMax count = true
takes WOrd count = count == 3
takes WSubstr count = count == 3
takes WSubsets count = count == 2
takes _ count = count == 1
