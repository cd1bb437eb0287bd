-- What terms, conditions and constraints say where numbers are put for variables: they are read as the source is, and know no form, no column's
-- number and no row.
use Rattle.std.specs.Prelude.{ℕ, Bool, false, not, ◌&&◌, if◌then◌else◌, List, [], map, option_map, Ok, Err}
use Rattle.zim_answer.specs.Answer.{Answer}
use Rattle.zim_fault.specs.declared.faults.Fault.{Fault}
use Rattle.zim_fault.specs.declared.faults.Place.{Place}
use Rattle.zim_fault.specs.declared.tokens.Join.{Join}
use Rattle.zim_formula.specs.Ground.{sum_from, product_from, with_factor, related, chain_from, all_hold, otherwise_holds}
use Rattle.zim_meaning.specs.Expressions.{tuple_of_parts}
use Rattle.zim_meaning.specs.Statements.{const_known}
use Rattle.zim_meaning.specs.Value.{value, index_choices}
use Rattle.zim_meaning.specs.World.{World}
use Rattle.zim_meaning.specs.declared.choices.Choice.{Choice}
use Rattle.zim_meaning.specs.declared.values.Value.{Value}
use Rattle.zim_meaning.specs.declared.values.Value.TheVariants as of_value
use Rattle.zim_rational.specs.Rational.{Rational, zero, negate, total}
use Rattle.zim_rational.specs.Rounding.{absolute}
use Rattle.zim_tuples.specs.declared.elements.Elem.{Elem}
use Rattle.zim_tuples.specs.declared.environments.Binding.{Binding}
use Rattle.zim_typed.specs.declared.constant.Const.{Const}
use Rattle.zim_typed.specs.declared.constant.Loop.{Loop}
use Rattle.zim_typed.specs.declared.constraint.Term.{Term, Term-F, fold-Term}
use Rattle.zim_typed.specs.declared.constraint.Cond.{Cond, Cond-F, fold-Cond}
use Rattle.zim_typed.specs.declared.constraint.Con.{Con, Con-F, fold-Con}

-- the fraction that each declared variable is assigned, by its name and its index
abbrev pub Assignment : Type 0
Assignment = List ℕ → List Elem → Rational

-- ---- parts without variables

-- the number that a value is; 0 where it is none
abbrev pub number_or_zero : Value → Rational
number_or_zero (of_value.Number q) = q
number_or_zero (of_value.Text text) = zero
number_or_zero (of_value.Truth truth) = zero
number_or_zero (of_value.Set tuples) = zero

-- the truth value that a value is; false where it is none
abbrev pub truth_or_false : Value → Bool
truth_or_false (of_value.Number q) = false
truth_or_false (of_value.Text text) = false
truth_or_false (of_value.Truth truth) = truth
truth_or_false (of_value.Set tuples) = false

-- what is said of the value of an answer, or else what is taken for it
abbrev pub said_if_answered : {A B : Type 0} → B → (A → B) → Answer A Fault → B
said_if_answered other said (Ok v) = said v
said_if_answered other said (Err fault) = other

-- the number of a part without variables; 0 where it has none
unfoldable pub known_number : World → List Binding → Const → Rational
known_number world env c = said_if_answered zero number_or_zero (value world env c)

-- the truth value of a part without variables; false where it has none
unfoldable pub known_truth : World → List Binding → Const → Bool
known_truth world env c = said_if_answered false truth_or_false (value world env c)

-- the index of a variable; empty where a component has a fault
unfoldable pub known_index : World → List Binding → List Const → List Elem
known_index world env parts = said_if_answered [] (λ tuple. tuple) (tuple_of_parts (const_known world) env parts)

-- the environments of the choices of an index, in order; none where it has a fault
unfoldable pub chosen_environments : World → List Binding → Loop → List (List Binding)
chosen_environments world env index = said_if_answered [] (map (λ (choice : Choice). choice.env)) (index_choices world env index)

-- ---- terms

-- what is known of a term: its number in an environment
abbrev pub TermNumber : Type 0
TermNumber = List Binding → Rational

-- the number of a term whose parts are their numbers
abbrev pub term_number_step : World → Assignment → Term-F TermNumber → TermNumber
term_number_step world a (Term-F.Known c) = λ env. known_number world env c
term_number_step world a (Term-F.Column place name index) = λ env. a name (known_index world env index)
term_number_step world a (Term-F.Sum first others) = λ env. sum_from (first env) (map (λ (t : Place × Bool × TermNumber). (t.0, t.1, t.2 env)) others)
term_number_step world a (Term-F.Product factor term others) = λ env.
    product_from
    (with_factor (option_map (λ (f : Const × Place). (known_number world env f.0, f.1)) factor) (term env))
    (map (λ (t : Place × Bool × Const). (t.0, t.1, known_number world env t.2)) others)
term_number_step world a (Term-F.Minus place term) = λ env. negate (term env)
term_number_step world a (Term-F.SumOver place index term) = λ env. total (map term (chosen_environments world env index))
term_number_step world a (Term-F.If place test branch otherwise) = λ env. if known_truth world env test then branch env else otherwise env
term_number_step world a (Term-F.Abs place term) = λ env. absolute (term env)

-- the number of a term in a world and an environment, where each variable is the fraction that it is assigned: a sum over an index adds the numbers at
-- its choices, an `if` is the branch that its condition picks, and `vabs` is the absolute value
unfoldable pub number_of_term : World → Assignment → List Binding → Term → Rational
number_of_term world a env term = fold-Term TermNumber (term_number_step world a) term env

-- ---- conditions

-- what is known of a condition: its truth in an environment
abbrev pub ConditionTruth : Type 0
ConditionTruth = List Binding → Bool

-- the truth of a condition whose parts are their truth values
abbrev pub condition_truth_step : World → Assignment → Cond-F ConditionTruth → ConditionTruth
condition_truth_step world a (Cond-F.Known c) = λ env. known_truth world env c
condition_truth_step world a (Cond-F.Compare place relation left right) = λ env.
    related relation (number_of_term world a env left) (number_of_term world a env right)
condition_truth_step world a (Cond-F.Chain first others) = λ env. chain_from (first env) (map (λ (c : Place × Join × ConditionTruth). (c.0, c.1, c.2 env)) others)
condition_truth_step world a (Cond-F.Not place operand) = λ env. not (operand env)

-- whether a condition is true: numbers are compared, and truth values joined from the left
unfoldable pub truth_of_condition : World → Assignment → List Binding → Cond → Bool
truth_of_condition world a env c = fold-Cond ConditionTruth (condition_truth_step world a) c env

-- ---- constraints

-- what is known of a constraint: its truth in an environment
abbrev pub ConstraintTruth : Type 0
ConstraintTruth = List Binding → Bool

-- the truth of a constraint whose parts are their truth values
abbrev pub constraint_truth_step : World → Assignment → Con-F ConstraintTruth → ConstraintTruth
constraint_truth_step world a (Con-F.Compare place relation left right) = λ env.
    related relation (number_of_term world a env left) (number_of_term world a env right)
constraint_truth_step world a (Con-F.Range place relation first term last) = λ env.
    related relation (known_number world env first) (number_of_term world a env term) && related relation (number_of_term world a env term) (known_number world env last)
constraint_truth_step world a (Con-F.And parts) = λ env. all_hold (map (λ (part : ConstraintTruth). part env) parts)
constraint_truth_step world a (Con-F.Forall place index inside) = λ env. all_hold (map inside (chosen_environments world env index))
constraint_truth_step world a (Con-F.If place test branch otherwise) = λ env.
    if known_truth world env test then branch env else otherwise_holds (option_map (λ (part : ConstraintTruth). part env) otherwise)
constraint_truth_step world a (Con-F.Vif place test branch otherwise) = λ env.
    if truth_of_condition world a env test then branch env else otherwise_holds (option_map (λ (part : ConstraintTruth). part env) otherwise)

-- whether a constraint is true: `and` asks all its parts, `forall` every choice of its index, and `if` and `vif` the part that their condition picks,
-- where there is one
unfoldable pub truth_of_constraint : World → Assignment → List Binding → Con → Bool
truth_of_constraint world a env c = fold-Con ConstraintTruth (constraint_truth_step world a) c env
