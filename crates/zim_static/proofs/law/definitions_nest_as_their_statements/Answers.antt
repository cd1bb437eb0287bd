-- Form by form.
use Rattle.zim_static.proofs.ConstantCallsLemmas.{const_calls_alike}
use Rattle.zim_static.proofs.DefinitionLemmas.{definition_nests, definition_keeps}
use Rattle.zim_static.proofs.law.definitions_nest_as_their_statements.Goals as goal

pub returns-clause-constant : goal.returns-clause-constant
returns-clause-constant c = λ scope names e k d. const_calls_alike d

pub returns-clause-definition : goal.returns-clause-definition
returns-clause-definition c = λ scope stmt typed d h. definition_nests c.constants_nest_as_their_trees.ensures d h

pub returns-clause-kept : goal.returns-clause-kept
returns-clause-kept c = λ scope stmt typed word parameters body d h. definition_keeps c.constants_nest_as_their_trees.ensures d word parameters body h
