-- The ground formula that a term, a condition or a constraint becomes in a world and an environment, or the first fault: each constant is its value
-- and each variable its column. Operands are taken from left to right, and none is left out in a part with variables; both parts of a `vif` are
-- taken, the condition first, but of an `if` the branch alone that its condition picks.
use Rattle.std.specs.Prelude.{ℕ, Bool, ◌&&◌, if◌then◌else◌, List, [], ◌∷◌, ◌++◌, Option, Some, None, Result, Ok, Err}
use Rattle.zim_answer.specs.Answer.{Answer, ◌>>=◌, goes}
use Rattle.zim_fault.specs.declared.faults.Fault.{Fault}
use Rattle.zim_fault.specs.declared.faults.Place.{Place}
use Rattle.zim_fault.specs.declared.kinds.Kind.{Kind}
use Rattle.zim_fault.specs.declared.kinds.Kind.TheVariants.{DivZero}
use Rattle.zim_fault.specs.declared.tokens.Join.{Join}
use Rattle.zim_formula.specs.declared.ground.GTerm.{GTerm}
use Rattle.zim_formula.specs.declared.ground.GTerm.TheVariants as ground_term
use Rattle.zim_formula.specs.declared.ground.GCond.{GCond}
use Rattle.zim_formula.specs.declared.ground.GCond.TheVariants as ground_condition
use Rattle.zim_formula.specs.declared.ground.GCon.{GCon}
use Rattle.zim_formula.specs.declared.ground.GCon.TheVariants as ground_constraint
use Rattle.zim_ground.specs.declared.operands.TermOperand.{TermOperand}
use Rattle.zim_ground.specs.declared.operands.TermOperand.TheVariants as operand
use Rattle.zim_ground.specs.declared.operands.CondOperand.{CondOperand}
use Rattle.zim_ground.specs.declared.operands.CondOperand.TheVariants as condition
use Rattle.zim_meaning.specs.Expressions.{tuple_of_parts}
use Rattle.zim_meaning.specs.Operations.{number_of_value, truth_of_value}
use Rattle.zim_meaning.specs.Statements.{const_known}
use Rattle.zim_meaning.specs.Value.{value, index_choices}
use Rattle.zim_meaning.specs.World.{World, at_place, entry}
use Rattle.zim_meaning.specs.declared.choices.Choice.{Choice}
use Rattle.zim_meaning.specs.declared.values.Value.{Value}
use Rattle.zim_rational.specs.Rational.{Rational, zero, same}
use Rattle.zim_tuples.specs.declared.elements.Elem.{Elem}
use Rattle.zim_tuples.specs.declared.environments.Binding.{Binding}
use Rattle.zim_typed.specs.FirstPlace.{const_first_place}
use Rattle.zim_typed.specs.declared.constant.Const.{Const}
use Rattle.zim_typed.specs.declared.constraint.Term.{Term, Term-F, fold-Term}
use Rattle.zim_typed.specs.declared.constraint.Cond.{Cond, Cond-F, fold-Cond}
use Rattle.zim_typed.specs.declared.constraint.Con.{Con, Con-F, fold-Con}

-- the number of the column that is declared with a name and an index, if there is one
abbrev pub Columns : Type 0
Columns = List ℕ → List Elem → Option ℕ

-- the truth value of a part without variables, wrong at a place if it is none
abbrev pub truth_known : World → List Binding → Place → Const → Answer Bool Fault
truth_known world env place c = value world env c >>= λ v. at_place place (truth_of_value v)

-- ---- terms

-- the ground term that an operand is where a number is wanted
abbrev pub term_wanted : TermOperand → Result GTerm Kind
term_wanted (operand.Value v) = number_of_value v >>= λ q. Ok (ground_term.Known q)
term_wanted (operand.Ground t) = Ok t

-- what is known of a term: where it begins, and the operand that it is in an environment. A part without variables stays a value until an operator
-- takes it
pub record TermGround : Type 0 where
  pub first : Place
  pub ground : List Binding → Answer TermOperand Fault

-- the ground term that an operand is, wrong at a place if it is no number
abbrev pub term_at : Place → TermOperand → Answer GTerm Fault
term_at place t = at_place place (term_wanted t)

-- operands so far, and one more, which is added or taken off as soon as it is there
abbrev pub with_added_term : List Binding → TermOperand × List (Place × Bool × GTerm) → Place × Bool × TermGround → Answer (TermOperand × List (Place × Bool × GTerm)) Fault
with_added_term env (first, others) (place, minus, part) = do
  t ← part.ground env
  before ← term_at place first
  next ← term_at place t
  Ok (operand.Ground before, others ++ (place, minus, next) ∷ [])

-- the sum of a first operand and others, or the first alone
abbrev pub summed : TermOperand × List (Place × Bool × GTerm) → TermOperand
summed (operand.Value v, others) = operand.Value v
summed (operand.Ground t, others) = operand.Ground (ground_term.Sum t others)

-- a factor before a term, if there is one
abbrev pub factor_value : World → List Binding → Option (Const × Place) → Answer (Option (Value × Place)) Fault
factor_value world env None = Ok None
factor_value world env (Some (c, place)) = value world env c >>= λ v. Ok (Some (v, place))

-- a term and the factor before it, if there is one, which is applied as soon as the term is there
abbrev pub multiplied_first : Option (Value × Place) → TermOperand → Answer (Option (Rational × Place) × TermOperand) Fault
multiplied_first None t = Ok (None, t)
multiplied_first (Some (v, place)) t = do
  q ← at_place place (number_of_value v)
  s ← term_at place t
  Ok (Some (q, place), operand.Ground s)

-- a number that multiplies, or that divides and isn't 0
abbrev pub multiplier : Bool → Rational → Result Rational Kind
multiplier divides q = if divides && same q zero then Err DivZero else Ok q

-- a term and the numbers so far by which it is multiplied or divided, and one more
abbrev pub with_multiplier : World → List Binding → TermOperand × List (Place × Bool × Rational) → Place × Bool × Const → Answer (TermOperand × List (Place × Bool × Rational)) Fault
with_multiplier world env (t, others) (place, divides, c) = do
  v ← value world env c
  before ← term_at place t
  q ← at_place place (number_of_value v)
  p ← at_place place (multiplier divides q)
  Ok (operand.Ground before, others ++ (place, divides, p) ∷ [])

-- the product of a factor, a term and further numbers
abbrev pub product_made : Option (Rational × Place) → TermOperand × List (Place × Bool × Rational) → TermOperand
product_made factor (operand.Value v, others) = operand.Value v
product_made factor (operand.Ground t, others) = operand.Ground (ground_term.Product factor t others)

-- where a product begins: at the factor before it, if there is one
abbrev pub product_first : Option (Const × Place) → Place → Place
product_first None first = first
product_first (Some factor) first = const_first_place factor.0

-- the members of a sum so far with that at a choice, which is wrong at the sum's first token if it is no number
abbrev pub with_chosen_term : TermGround → Place → List GTerm → Choice → Answer (List GTerm) Fault
with_chosen_term part place members choice = do
  t ← part.ground choice.env
  next ← term_at place t
  Ok (members ++ next ∷ [])

-- what is known of a term whose parts are known
abbrev pub term_ground_step : World → Columns → Term-F TermGround → TermGround
term_ground_step world columns (Term-F.Known c) = record {
  first = const_first_place c;
  ground = λ env. value world env c >>= λ v. Ok (operand.Value v);
}
term_ground_step world columns (Term-F.Column place name index) = record {
  first = place;
  ground = λ env. do
    tuple ← tuple_of_parts (const_known world) env index
    j ← at_place place (entry (columns name tuple))
    Ok (operand.Ground (ground_term.Column j));
}
term_ground_step world columns (Term-F.Sum first others) = record {
  first = first.first;
  ground = λ env. do
    t ← first.ground env
    all ← goes (with_added_term env) (t, []) others
    Ok (summed all);
}
term_ground_step world columns (Term-F.Product factor term others) = record {
  first = product_first factor term.first;
  ground = λ env. do
    v ← factor_value world env factor
    t ← term.ground env
    made ← multiplied_first v t
    all ← goes (with_multiplier world env) (made.1, []) others
    Ok (product_made made.0 all);
}
term_ground_step world columns (Term-F.Minus place term) = record {
  first = place;
  ground = λ env. do
    t ← term.ground env
    s ← term_at place t
    Ok (operand.Ground (ground_term.Minus place s));
}
term_ground_step world columns (Term-F.SumOver place index term) = record {
  first = place;
  ground = λ env. do
    choices ← index_choices world env index
    members ← goes (with_chosen_term term place) [] choices
    Ok (operand.Ground (ground_term.SumOver place members));
}
term_ground_step world columns (Term-F.If place test branch otherwise) = record {
  first = place;
  ground = λ env. truth_known world env place test >>= λ b. if b then branch.ground env else otherwise.ground env;
}
term_ground_step world columns (Term-F.Abs place term) = record {
  first = place;
  ground = λ env. do
    t ← term.ground env
    s ← term_at place t
    Ok (operand.Ground (ground_term.Abs place s));
}

-- what is known of a term
unfoldable pub grounding_of_term : World → Columns → Term → TermGround
grounding_of_term world columns = fold-Term TermGround (term_ground_step world columns)

-- the operand that a term is in an environment
abbrev pub ground_of_term : World → Columns → List Binding → Term → Answer TermOperand Fault
ground_of_term world columns env t = (grounding_of_term world columns t).ground env

-- ---- conditions

-- the ground condition that an operand is where a truth value is wanted
abbrev pub condition_wanted : CondOperand → Result GCond Kind
condition_wanted (condition.Value v) = truth_of_value v >>= λ b. Ok (ground_condition.Known b)
condition_wanted (condition.Ground c) = Ok c

-- the ground condition that an operand is, wrong at a place if it is no truth value
abbrev pub condition_at : Place → CondOperand → Answer GCond Fault
condition_at place c = at_place place (condition_wanted c)

-- what is known of a condition: the operand that it is in an environment
abbrev pub ConditionGround : Type 0
ConditionGround = List Binding → Answer CondOperand Fault

-- two terms of a comparison, wrong at its place if one is no number
abbrev pub compared_terms : World → Columns → List Binding → Place → Term → Term → Answer (GTerm × GTerm) Fault
compared_terms world columns env place left right = do
  s ← ground_of_term world columns env left
  t ← ground_of_term world columns env right
  p ← term_at place s
  q ← term_at place t
  Ok (p, q)

-- conditions so far, and one more, which is joined as soon as it is there
abbrev pub with_joined : List Binding → CondOperand × List (Place × Join × GCond) → Place × Join × ConditionGround → Answer (CondOperand × List (Place × Join × GCond)) Fault
with_joined env (first, others) (place, join, part) = do
  c ← part env
  before ← condition_at place first
  next ← condition_at place c
  Ok (condition.Ground before, others ++ (place, join, next) ∷ [])

-- a first condition and those that are joined to it, or the first alone
abbrev pub chain_made : CondOperand × List (Place × Join × GCond) → CondOperand
chain_made (condition.Value v, others) = condition.Value v
chain_made (condition.Ground c, others) = condition.Ground (ground_condition.Chain c others)

-- what is known of a condition whose parts are known
abbrev pub condition_ground_step : World → Columns → Cond-F ConditionGround → ConditionGround
condition_ground_step world columns (Cond-F.Known c) = λ env. value world env c >>= λ v. Ok (condition.Value v)
condition_ground_step world columns (Cond-F.Compare place relation left right) = λ env. do
  terms ← compared_terms world columns env place left right
  Ok (condition.Ground (ground_condition.Compare place relation terms.0 terms.1))
condition_ground_step world columns (Cond-F.Chain first others) = λ env. do
  c ← first env
  all ← goes (with_joined env) (c, []) others
  Ok (chain_made all)
condition_ground_step world columns (Cond-F.Not place operand) = λ env. do
  c ← operand env
  d ← condition_at place c
  Ok (condition.Ground (ground_condition.Not place d))

-- the operand that a condition is in an environment
unfoldable pub ground_of_condition : World → Columns → List Binding → Cond → Answer CondOperand Fault
ground_of_condition world columns env c = fold-Cond ConditionGround (condition_ground_step world columns) c env

-- ---- constraints

-- what is known of a constraint: what it becomes in an environment
abbrev pub ConstraintGround : Type 0
ConstraintGround = List Binding → Answer GCon Fault

-- the parts so far and one more
abbrev pub with_part : List Binding → List GCon → ConstraintGround → Answer (List GCon) Fault
with_part env parts part = part env >>= λ c. Ok (parts ++ c ∷ [])

-- the parts so far with that at a choice
abbrev pub with_chosen_part : ConstraintGround → List GCon → Choice → Answer (List GCon) Fault
with_chosen_part part parts choice = part choice.env >>= λ c. Ok (parts ++ c ∷ [])

-- a part that may be there; where it isn't, nothing is asked
abbrev pub part_or_nothing : List Binding → Option ConstraintGround → Answer GCon Fault
part_or_nothing env None = Ok (ground_constraint.And [])
part_or_nothing env (Some part) = part env

-- a second part that may be there
abbrev pub second_part : List Binding → Option ConstraintGround → Answer (Option GCon) Fault
second_part env None = Ok None
second_part env (Some part) = part env >>= λ c. Ok (Some c)

-- what a constraint becomes whose parts are known
abbrev pub constraint_ground_step : World → Columns → Con-F ConstraintGround → ConstraintGround
constraint_ground_step world columns (Con-F.Compare place relation left right) = λ env. do
  terms ← compared_terms world columns env place left right
  Ok (ground_constraint.Compare place relation terms.0 terms.1)
constraint_ground_step world columns (Con-F.Range place relation first term last) = λ env. do
  v ← value world env first
  t ← ground_of_term world columns env term
  w ← value world env last
  a ← at_place place (number_of_value v)
  s ← term_at place t
  b ← at_place place (number_of_value w)
  Ok (ground_constraint.Range place relation a s b)
constraint_ground_step world columns (Con-F.And parts) = λ env. goes (with_part env) [] parts >>= λ all. Ok (ground_constraint.And all)
constraint_ground_step world columns (Con-F.Forall place index inside) = λ env. do
  choices ← index_choices world env index
  parts ← goes (with_chosen_part inside) [] choices
  Ok (ground_constraint.And parts)
constraint_ground_step world columns (Con-F.If place test branch otherwise) = λ env.
    truth_known world env place test >>= λ b. if b then branch env else part_or_nothing env otherwise
constraint_ground_step world columns (Con-F.Vif place test branch otherwise) = λ env. do
  c ← ground_of_condition world columns env test
  d ← condition_at place c
  first ← branch env
  second ← second_part env otherwise
  Ok (ground_constraint.Vif place d first second)

-- the ground constraint that a constraint becomes in an environment, or its first fault
unfoldable pub ground_of_constraint : World → Columns → List Binding → Con → Answer GCon Fault
ground_of_constraint world columns env c = fold-Con ConstraintGround (constraint_ground_step world columns) c env

-- that of a statement's constraint, around which nothing is bound
abbrev pub constraint_answer : World → Columns → Con → Answer GCon Fault
constraint_answer world columns c = ground_of_constraint world columns [] c

-- the ground term of an objective, wrong where it begins if it is no number
unfoldable pub objective_answer : World → Columns → Term → Answer GTerm Fault
objective_answer world columns t = ground_of_term world columns [] t >>= λ s. term_at (grounding_of_term world columns t).first s
