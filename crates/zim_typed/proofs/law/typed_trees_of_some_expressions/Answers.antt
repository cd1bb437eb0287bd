-- Each by the rules that it is an example of.
use Rattle.zim_typed.proofs.WorkedLemmas.{quotients_multiply, repeated_names, chains_are_ranges, bounds_may_pick, bodies_name}
use Rattle.zim_typed.proofs.law.typed_trees_of_some_expressions.Goals as goal

pub returns-clause-term : goal.returns-clause-term
returns-clause-term c = quotients_multiply

pub returns-clause-index : goal.returns-clause-index
returns-clause-index c = repeated_names

pub returns-clause-constraint : goal.returns-clause-constraint
returns-clause-constraint c = chains_are_ranges

pub returns-clause-bound : goal.returns-clause-bound
returns-clause-bound c = bounds_may_pick

pub returns-clause-definition : goal.returns-clause-definition
returns-clause-definition c = bodies_name
