-- What each form of an expression answers, in an environment, where it is known what its parts answer. Operands are taken from left to right, and
-- the first fault is the answer.
--
-- A part is anything of which it is known where it begins and what its value is in an environment.
use Rattle.std.specs.Prelude.{ℕ, Bool, true, false, if◌then◌else◌, List, [], ◌∷◌, ◌++◌, Option, Some, None, option_map, Ok}
use Rattle.zim_answer.specs.Answer.{Answer, ◌>>=◌, goes}
use Rattle.zim_fault.specs.declared.faults.Fault.{Fault}
use Rattle.zim_fault.specs.declared.faults.Place.{Place}
use Rattle.zim_fault.specs.declared.tokens.Token.{Token}
use Rattle.zim_fault.specs.declared.tokens.Relation.{Relation}
use Rattle.zim_fault.specs.declared.words.Word.{Word}
use Rattle.zim_meaning.specs.Operations.{truth_of_value, set_of_value, element_of_value, value_of_element, values_operated, value_raised, values_compared, value_signed, value_factorial, value_negated, word_applied, set_of_members, set_between, projection}
use Rattle.zim_meaning.specs.World.{World, IndexedSet, IndexedParam, at_place, entry, entry_named, param_at, set_at}
use Rattle.zim_meaning.specs.declared.values.Value.{Value}
use Rattle.zim_meaning.specs.declared.values.Value.TheVariants as of_value
use Rattle.zim_rational.specs.Rational.{one}
use Rattle.zim_sets.specs.Listing.{set_listed}
use Rattle.zim_sets.specs.Sets.{has}
use Rattle.zim_tuples.specs.Environments.{element_named}
use Rattle.zim_tuples.specs.declared.elements.Elem.{Elem}
use Rattle.zim_tuples.specs.declared.environments.Binding.{Binding}
use Rattle.zim_typed.specs.declared.constant.Resolved.{Resolved}
use Rattle.zim_typed.specs.declared.constant.Resolved.TheVariants as resolved

-- what is known of parts: where each begins, and its value in an environment
pub record Known (P : Type 0) : Type 0 where
  pub first : P → Place
  pub value : P → List Binding → Answer Value Fault

-- what a function of the model gives where it is called at a place
abbrev pub Calls : Type 0
Calls = Place → List ℕ → List Elem → Answer Value Fault

-- ---- lists of parts

-- the values of parts
abbrev pub values_of : {P : Type 0} → Known P → List Binding → List P → Answer (List Value) Fault
values_of known env parts = goes (λ values part. known.value part env >>= λ v. Ok (values ++ v ∷ [])) [] parts

-- a component of a tuple: a number or a text, and wrong where it begins if it is neither
unfoldable pub component : {P : Type 0} → Known P → List Binding → P → Answer Elem Fault
component known env part = known.value part env >>= λ v. at_place (known.first part) (element_of_value v)

-- a tuple with one component more
abbrev pub with_component : {P : Type 0} → Known P → List Binding → List Elem → P → Answer (List Elem) Fault
with_component known env tuple part = component known env part >>= λ next. Ok (tuple ++ next ∷ [])

-- the tuple of components, each looked at before the next one is evaluated
unfoldable pub tuple_of_parts : {P : Type 0} → Known P → List Binding → List P → Answer (List Elem) Fault
tuple_of_parts known env parts = goes (with_component known env) [] parts

-- ---- names

-- a bare name: the element that it is bound to, the value of the parameter, the set, or of an indexed set, which stands in `indexset` alone, the whole
-- index set
unfoldable pub bare_name_value : World → List Binding → List ℕ → Resolved → Option Value
bare_name_value world env name resolved.Local = option_map value_of_element (element_named env name)
bare_name_value world env name resolved.Parameter = entry_named world.params name
bare_name_value world env name resolved.Set = set_named (entry_named world.sets name) (entry_named world.indexed_sets name)
  where
    set_named : Option (List (List Elem)) → Option IndexedSet → Option Value
    set_named (Some tuples) family = Some (of_value.Set tuples)
    set_named None family = option_map (λ f. of_value.Set f.indices) family
bare_name_value world env name resolved.Function = None

-- a name with an index: the value of the parameter or the set of the indexed set there
unfoldable pub indexed_name_value : World → List ℕ → Resolved → List Elem → Option Value
indexed_name_value world name resolved.Parameter index = at_index (entry_named world.indexed_params name)
  where
    at_index : Option IndexedParam → Option Value
    at_index (Some param) = param_at param index
    at_index None = None
indexed_name_value world name resolved.Set index = at_index (entry_named world.indexed_sets name)
  where
    at_index : Option IndexedSet → Option Value
    at_index (Some family) = option_map of_value.Set (set_at family index)
    at_index None = None
indexed_name_value world name _ index = None

-- `p[a, b]`
unfoldable pub item_value : {P : Type 0} → World → Known P → List Binding → Place → List ℕ → List P → Resolved → Answer Value Fault
item_value world known env place name parts resolved = tuple_of_parts known env parts >>= λ index. at_place place (entry (indexed_name_value world name resolved index))

-- `f(a, b)`
unfoldable pub call_value : {P : Type 0} → Calls → Known P → List Binding → Place → List ℕ → List P → Answer Value Fault
call_value calls known env place name parts = tuple_of_parts known env parts >>= λ given. calls place name given

-- ---- operators

-- a value with an operator and its second operand: the operator is applied as soon as that is there
abbrev pub with_operand : {P : Type 0} → Known P → List Binding → Value → Place × Token × P → Answer Value Fault
with_operand known env v (place, token, part) = known.value part env >>= λ w. at_place place (values_operated token v w)

-- `a + b - c` and `a * b / c`
unfoldable pub chain_value : {P : Type 0} → Known P → List Binding → P → List (Place × Token × P) → Answer Value Fault
chain_value known env first others = known.value first env >>= λ v. goes (with_operand known env) v others

-- `a!!`
unfoldable pub factorial_value : {P : Type 0} → Known P → List Binding → P → List Place → Answer Value Fault
factorial_value known env operand places = known.value operand env >>= λ v. goes (λ v place. at_place place (value_factorial v)) v places

-- an exponent with its sign, if it has one
abbrev pub exponent_value : {P : Type 0} → Known P → List Binding → Option (Place × Bool) → P → Answer Value Fault
exponent_value known env None part = known.value part env
exponent_value known env (Some (place, minus)) part = known.value part env >>= λ v. at_place place (value_signed minus v)

-- `a ^ b`
unfoldable pub power_value : {P : Type 0} → Known P → List Binding → Place → P → Option (Place × Bool) → P → Answer Value Fault
power_value known env place base sign exponent = do
  v ← known.value base env
  w ← exponent_value known env sign exponent
  at_place place (value_raised v w)

-- `+a` and `-a`
unfoldable pub signed_value : {P : Type 0} → Known P → List Binding → Place → Bool → P → Answer Value Fault
signed_value known env place minus operand = known.value operand env >>= λ v. at_place place (value_signed minus v)

-- `a <= b` and the like
unfoldable pub comparison_value : {P : Type 0} → Known P → List Binding → Place → Relation → P → P → Answer Value Fault
comparison_value known env place relation left right = do
  v ← known.value left env
  w ← known.value right env
  at_place place (values_compared relation v w)

-- `<a, b> in c`: a tuple of another length is in no set
unfoldable pub member_value : {P : Type 0} → Known P → List Binding → Place → List P → P → Answer Value Fault
member_value known env place parts set = do
  tuple ← tuple_of_parts known env parts
  v ← known.value set env
  a ← at_place place (set_of_value v)
  Ok (of_value.Truth (has a tuple))

-- `not a`
unfoldable pub not_value : {P : Type 0} → Known P → List Binding → Place → P → Answer Value Fault
not_value known env place operand = known.value operand env >>= λ v. at_place place (value_negated v)

-- the truth value of a part, which is wrong at the place of its operator if it is none
unfoldable pub truth_at : {P : Type 0} → Known P → List Binding → Place → P → Answer Bool Fault
truth_at known env place part = known.value part env >>= λ v. at_place place (truth_of_value v)

-- a value and the next operand behind an `and`: false skips it
abbrev pub with_conjunct : {P : Type 0} → Known P → List Binding → Value → Place × P → Answer Value Fault
with_conjunct known env v (place, part) =
    at_place place (truth_of_value v) >>= λ before. if before then (truth_at known env place part >>= λ b. Ok (of_value.Truth b)) else Ok (of_value.Truth false)

-- `a and b`
unfoldable pub and_value : {P : Type 0} → Known P → List Binding → P → List (Place × P) → Answer Value Fault
and_value known env first others = known.value first env >>= λ v. goes (with_conjunct known env) v others

-- whether exactly one of two is true
abbrev pub differ : Bool → Bool → Bool
differ true true = false
differ true false = true
differ false b = b

-- a value and the next operand behind an `or`, which true skips, or behind an `xor`, which skips nothing
abbrev pub with_disjunct : {P : Type 0} → Known P → List Binding → Value → Place × Bool × P → Answer Value Fault
with_disjunct known env v (place, false, part) =
    at_place place (truth_of_value v) >>= λ before. if before then Ok (of_value.Truth true) else (truth_at known env place part >>= λ b. Ok (of_value.Truth b))
with_disjunct known env v (place, true, part) = do
  w ← known.value part env
  before ← at_place place (truth_of_value v)
  b ← at_place place (truth_of_value w)
  Ok (of_value.Truth (differ before b))

-- `a or b` and `a xor b`
unfoldable pub or_value : {P : Type 0} → Known P → List Binding → P → List (Place × Bool × P) → Answer Value Fault
or_value known env first others = known.value first env >>= λ v. goes (with_disjunct known env) v others

-- `if a then b else c end`: the chosen branch alone is evaluated
unfoldable pub if_value : {P : Type 0} → Known P → List Binding → Place → P → P → P → Answer Value Fault
if_value known env place test branch otherwise = truth_at known env place test >>= λ b. if b then known.value branch env else known.value otherwise env

-- `abs(a)` and the like
unfoldable pub function_value : {P : Type 0} → Known P → List Binding → Place → Word → List P → Answer Value Fault
function_value known env place word parts = values_of known env parts >>= λ values. at_place place (word_applied word values)

-- `proj(a, <b, c>)`
unfoldable pub projection_value : {P : Type 0} → Known P → List Binding → Place → P → List P → Answer Value Fault
projection_value known env place set parts = do
  v ← known.value set env
  values ← values_of known env parts
  at_place place (projection v values)

-- ---- braces

-- `{a, b}`
unfoldable pub members_value : {P : Type 0} → Known P → List Binding → Place → List P → Answer Value Fault
members_value known env place parts = values_of known env parts >>= λ values. at_place place (set_of_members values)

-- `{<a, b>, <c, d>}`
unfoldable pub tuples_value : {P : Type 0} → Known P → List Binding → Place → List (List P) → Answer Value Fault
tuples_value known env place listed = do
  tuples ← goes (λ tuples parts. tuple_of_parts known env parts >>= λ tuple. Ok (tuples ++ tuple ∷ [])) [] listed
  a ← at_place place (set_listed tuples)
  Ok (of_value.Set a)

-- a step, 1 where none is given
abbrev pub step_value : {P : Type 0} → Known P → List Binding → Option P → Answer Value Fault
step_value known env None = Ok (of_value.Number one)
step_value known env (Some part) = known.value part env

-- `{a .. b by c}`
unfoldable pub span_value : {P : Type 0} → Known P → List Binding → Place → P → P → Option P → Answer Value Fault
span_value known env place from to by = do
  n ← known.value from env
  m ← known.value to env
  s ← step_value known env by
  at_place place (set_between n m s)
