-- The levels of the grammar of expressions, from what binds closest to what binds loosest.
use Rattle.std.specs.Prelude.{ℕ, ◌≤◌, List, [], ◌∷◌, map, Bool, true, false, Option, Some, None, if◌then◌else◌}
use Rattle.zim_fault.specs.declared.faults.Place.{Place}
use Rattle.zim_fault.specs.declared.tokens.Token.{Token}
use Rattle.zim_fault.specs.declared.tokens.Token.TheVariants.{Word as word_token, Sign as sign_token}
use Rattle.zim_fault.specs.declared.tokens.Placed.{Placed}
use Rattle.zim_fault.specs.declared.tokens.Relation.{Relation}
use Rattle.zim_fault.specs.declared.tokens.Relation.TheVariants.{LessThan, AtMost, EqualTo, NotEqualTo, AtLeast, GreaterThan}
use Rattle.zim_fault.specs.declared.signs.Sign.TheVariants.{SColon, SLess, SLessEqual, SGreaterEqual, SEqual, SNotEqual, SPlus, SMinus, SExclamation, SBar, SDots}
use Rattle.zim_fault.specs.declared.words.Word.TheVariants.{WDo, WXor, WTrue, WFalse, WIf, WVif, WWith, WTo}
use Rattle.zim_tree.specs.declared.expr.Expr.{Expr}
use Rattle.zim_tree.specs.declared.expr.Expr.TheVariants.{Times, Plus, Compare, And, Or, Factorial}
use Rattle.zim_tree.specs.declared.classes.Class.{Class}
use Rattle.zim_tree.specs.declared.classes.Class.TheVariants as class

-- a level is the name of a rule
pub data Level : Type 0 where
  primary : Level
  postfix : Level
  power : Level
  unary : Level
  product : Level
  big : Level
  loop : Level
  term : Level
  sum : Level
  comparison : Level
  negation : Level
  conjunction : Level
  disjunction : Level
  whole : Level

-- the levels that are a list of operands with operators between them
pub data Chain : Type 0 where
  products : Chain
  sums : Chain
  relations : Chain
  conjunctions : Chain
  disjunctions : Chain

-- the level of such a list
abbrev pub level_of : Chain → Level
level_of products = product
level_of sums = sum
level_of relations = comparison
level_of conjunctions = conjunction
level_of disjunctions = disjunction

-- the level of its operands
abbrev pub operand_of : Chain → Level
operand_of products = unary
operand_of sums = term
operand_of relations = sum
operand_of conjunctions = negation
operand_of disjunctions = conjunction

-- whether a token of this class is one of its operators
abbrev pub joins : Chain → Class → Bool
joins products class.Product = true
joins sums class.PlusOrMinus = true
joins sums class.OtherSum = true
joins relations class.Less = true
joins relations class.Greater = true
joins relations class.OtherRelation = true
joins conjunctions class.And = true
joins disjunctions class.OrOrXor = true
joins _ _ = false

-- there are at most two relations behind one another
abbrev pub Limits : Chain → ℕ → Type 0
Limits relations count = count ≤ 2
Limits _ count = Unit {0}

-- the relation that a sign spells
abbrev pub relation_of : Token → Relation
relation_of (sign_token SLess) = LessThan
relation_of (sign_token SLessEqual) = AtMost
relation_of (sign_token SEqual) = EqualTo
relation_of (sign_token SNotEqual) = NotEqualTo
relation_of (sign_token SGreaterEqual) = AtLeast
relation_of _ = GreaterThan

-- whether a token is `xor`
abbrev pub is_xor : Token → Bool
is_xor (word_token WXor) = true
is_xor _ = false

-- operators with their places, each with the operand behind it
abbrev pub Operands : Type 0
Operands = List (Place × Token × Expr)

-- operands with relations before them
abbrev pub compared : Operands → List (Place × Relation × Expr)
compared = map (λ x. (x.0, relation_of x.1, x.2))

-- operands with `and` before them
abbrev pub conjoined : Operands → List (Place × Expr)
conjoined = map (λ x. (x.0, x.2))

-- operands with `or` or `xor` before them
abbrev pub disjoined : Operands → List (Place × Bool × Expr)
disjoined = map (λ x. (x.0, is_xor x.1, x.2))

-- the node of a first operand and at least one further one
abbrev pub chained : Chain → Expr → Operands → Expr
chained products first others = Times first others
chained sums first others = Plus first others
chained relations first others = Compare first (compared others)
chained conjunctions first others = And first (conjoined others)
chained disjunctions first others = Or first (disjoined others)

-- the tree of a list of operands: a single one stands for itself
abbrev pub joined : Chain → Expr → Operands → Expr
joined chain first [] = first
joined chain first (other ∷ others) = chained chain first (other ∷ others)

-- the tree of an operand with `!` at these places: without one it stands for itself
abbrev pub factorial : Expr → List Place → Expr
factorial operand [] = operand
factorial operand (mark ∷ marks) = Factorial operand (mark ∷ marks)

-- a token at a place
abbrev pub placed : Place → Token → Placed
placed place token = record { token = token; place = place }

-- `!` at each place
abbrev pub exclamations : List Place → List Placed
exclamations = map (λ place. placed place (sign_token SExclamation))

-- `-` or `+`
abbrev pub sign_token_of : Bool → Token
sign_token_of minus = sign_token (if minus then SMinus else SPlus)

-- the sign of an exponent, if it has one
abbrev pub exponent_sign : Option (Place × Bool) → List Placed
exponent_sign None = []
exponent_sign (Some sign) = placed sign.0 (sign_token_of sign.1) ∷ []

-- `do` or `:`
abbrev pub separator_token : Bool → Token
separator_token with_do = if with_do then word_token WDo else sign_token SColon

-- a bar or `with`
abbrev pub condition_token : Bool → Token
condition_token bar = if bar then sign_token SBar else word_token WWith

-- `to` or `..`
abbrev pub span_token : Bool → Token
span_token with_to = if with_to then word_token WTo else sign_token SDots

-- `true` or `false`
abbrev pub truth_token : Bool → Token
truth_token truth = word_token (if truth then WTrue else WFalse)

-- `vif` or `if`
abbrev pub if_token : Bool → Token
if_token vif = word_token (if vif then WVif else WIf)

-- a function's name that is a word
abbrev pub is_function : Class → Bool
is_function class.Function = true
is_function class.MinOrMax = true
is_function _ = false

-- a word that begins a loop
abbrev pub is_loop : Class → Bool
is_loop class.Loop = true
is_loop class.MinOrMax = true
is_loop _ = false
