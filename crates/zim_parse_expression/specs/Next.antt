-- What the next tokens are, as far as a parser has to know to choose a rule.
use Rattle.std.specs.Prelude.{ℕ, List, [], ◌∷◌, Bool, true, false, not, if◌then◌else◌}
use Rattle.zim_fault.specs.declared.tokens.Placed.{Placed}
use Rattle.zim_tree.specs.declared.classes.Class.{Class}
use Rattle.zim_tree.specs.declared.classes.Class.TheVariants as class
use Rattle.zim_scan.specs.Nesting.{class_at, begins_paren}
use Rattle.zim_tree.specs.Levels.{Level, primary, postfix, power, unary, product, big, loop, term, sum, comparison, negation, conjunction, disjunction, whole, Chain, products, sums, relations, conjunctions, disjunctions}

-- `)`
abbrev pub is_right_paren : Class → Bool
is_right_paren class.RightParen = true
is_right_paren _ = false

-- `]`
abbrev pub is_right_bracket : Class → Bool
is_right_bracket class.RightBracket = true
is_right_bracket _ = false

-- `}`
abbrev pub is_right_brace : Class → Bool
is_right_brace class.RightBrace = true
is_right_brace _ = false

-- `,`
abbrev pub is_comma : Class → Bool
is_comma class.Comma = true
is_comma _ = false

-- `<`
abbrev pub is_less : Class → Bool
is_less class.Less = true
is_less _ = false

-- `>`
abbrev pub is_greater : Class → Bool
is_greater class.Greater = true
is_greater _ = false

-- `in`
abbrev pub is_in : Class → Bool
is_in class.In = true
is_in _ = false

-- `then`
abbrev pub is_then : Class → Bool
is_then class.Then = true
is_then _ = false

-- `else`
abbrev pub is_else : Class → Bool
is_else class.Else = true
is_else _ = false

-- `end`
abbrev pub is_end : Class → Bool
is_end class.End = true
is_end _ = false

-- `by`
abbrev pub is_by : Class → Bool
is_by class.By = true
is_by _ = false

-- `!`
abbrev pub is_exclamation : Class → Bool
is_exclamation class.Exclamation = true
is_exclamation _ = false

-- whether the word of a loop comes next: `min` and `max` before a `(` are none
abbrev pub begins_loop : Class → List Placed → Bool
begins_loop class.Loop rest = true
begins_loop class.MinOrMax rest = not (begins_paren rest)
begins_loop _ rest = false

-- whether a loop's word comes first
abbrev pub starts_loop : List Placed → Bool
starts_loop [] = false
starts_loop (t ∷ rest) = begins_loop (class_at t) rest

-- how tokens begin
pub data Start : Type 0 where
  an_operand : Start
  a_signed : Start
  a_loop : Start
  a_signed_loop : Start
  a_less : Start
  a_not : Start
  a_forall : Start
  nothing : Start

-- how tokens begin whose first is of this class
abbrev pub start_at : Class → List Placed → Start
start_at class.PlusOrMinus rest = if starts_loop rest then a_signed_loop else a_signed
start_at class.Loop rest = a_loop
start_at class.MinOrMax rest = if begins_paren rest then an_operand else a_loop
start_at class.Less rest = a_less
start_at class.Not rest = a_not
start_at class.Forall rest = a_forall
start_at class.Number rest = an_operand
start_at class.Text rest = an_operand
start_at class.Truth rest = an_operand
start_at class.Infinity rest = an_operand
start_at class.Name rest = an_operand
start_at class.Function rest = an_operand
start_at class.Proj rest = an_operand
start_at class.LeftParen rest = an_operand
start_at class.LeftBrace rest = an_operand
start_at class.IfOrVif rest = an_operand
start_at _ rest = nothing

-- how tokens begin
abbrev pub start_of : List Placed → Start
start_of [] = nothing
start_of (t ∷ rest) = start_at (class_at t) rest

-- whether tokens begin with a loop, with or without a sign
abbrev pub is_open : Start → Bool
is_open a_loop = true
is_open a_signed_loop = true
is_open _ = false

-- whether these tokens begin with a loop
abbrev pub opens : List Placed → Bool
opens ts = is_open (start_of ts)

-- how loosely an operator of this class binds, where a loop opens behind it or not; 10 is no operator
abbrev pub class_looseness : Class → Bool → ℕ
class_looseness class.LeftBracket open_behind = 1
class_looseness class.LeftParen open_behind = 1
class_looseness class.Exclamation open_behind = 2
class_looseness class.Power open_behind = 3
class_looseness class.Product true = 5
class_looseness class.Product false = 4
class_looseness class.PlusOrMinus open_behind = 6
class_looseness class.OtherSum open_behind = 6
class_looseness class.Less open_behind = 7
class_looseness class.Greater open_behind = 7
class_looseness class.OtherRelation open_behind = 7
class_looseness class.And open_behind = 8
class_looseness class.OrOrXor open_behind = 9
class_looseness _ open_behind = 10

-- how loosely the next token binds as an operator
abbrev pub looseness : List Placed → ℕ
looseness [] = 10
looseness (t ∷ rest) = class_looseness (class_at t) (opens rest)

-- the looseness of the operators of a list
abbrev pub rank : Chain → ℕ
rank products = 4
rank sums = 6
rank relations = 7
rank conjunctions = 8
rank disjunctions = 9

-- a level goes on at an operator that binds at most as loosely
abbrev pub level_bound : Level → ℕ
level_bound primary = 1
level_bound postfix = 2
level_bound power = 3
level_bound unary = 3
level_bound product = 4
level_bound big = 5
level_bound loop = 5
level_bound term = 5
level_bound sum = 6
level_bound comparison = 7
level_bound negation = 7
level_bound conjunction = 8
level_bound disjunction = 9
level_bound whole = 9
