-- Typed trees suit the scope that they were resolved under.
use Rattle.zim_typed.proofs.ConstantLemmas.{const_suits}
use Rattle.zim_typed.proofs.TermLemmas.{term_suits, cond_suits, con_suits}
use Rattle.zim_typed.proofs.StatementLemmas.{statement_suits}
use Rattle.zim_typed.proofs.law.typed_trees_suit.Goals as goal

pub returns-clause-constant : goal.returns-clause-constant
returns-clause-constant c = λ scope names e k d. const_suits d

pub returns-clause-term : goal.returns-clause-term
returns-clause-term c = λ scope names e t d. term_suits d

pub returns-clause-condition : goal.returns-clause-condition
returns-clause-condition c = λ scope names e k d. cond_suits d

pub returns-clause-constraint : goal.returns-clause-constraint
returns-clause-constraint c = λ scope names e k d. con_suits d

pub returns-clause-statement : goal.returns-clause-statement
returns-clause-statement c = λ scope stmt typed made new d. statement_suits made new d
