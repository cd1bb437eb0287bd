-- A statement or a fault, each once.
use Rattle.zim_parse.proofs.AnswerLaws.{has_answer, accepted_as_one, accepted_is_not_refused, refused_with_one, fault_is_at_token}
use Rattle.zim_parse.proofs.law.answers_are_unique.Goals as goal

pub returns-clause-some : goal.returns-clause-some
returns-clause-some c = has_answer

pub returns-clause-statement : goal.returns-clause-statement
returns-clause-statement c = accepted_as_one

pub returns-clause-either : goal.returns-clause-either
returns-clause-either c = accepted_is_not_refused

pub returns-clause-fault : goal.returns-clause-fault
returns-clause-fault c = refused_with_one

pub returns-clause-place : goal.returns-clause-place
returns-clause-place c = fault_is_at_token
