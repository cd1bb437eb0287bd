-- What belongs to a tree suits the scope.
use Rattle.std.proofs.lemmas.Bool.{ltb-false}
use Rattle.zim_static.specs.Calls.{full_nesting}
use Rattle.zim_typing.specs.Typing.{typed_const, some_term, some_cond, typed_con}
use Rattle.zim_typing.specs.Statements.{typed_statement}
use Rattle.zim_typing.proofs.StatementBelongLaws.{no_fault, statement_new}
use Rattle.zim_typing.proofs.law.made_trees_suit.Goals as goal

pub returns-clause-constant : goal.returns-clause-constant
returns-clause-constant c = λ scope names e made numbers quiet. c.typed_trees_suit.ensures.constant scope names e (typed_const scope names e) (c.typed_trees_belong.ensures.constant scope names e made numbers quiet)

pub returns-clause-term : goal.returns-clause-term
returns-clause-term c = λ scope names e made bind numbers quiet. c.typed_trees_suit.ensures.term scope names e (some_term scope names e) (c.typed_trees_belong.ensures.term scope names e made bind numbers quiet)

pub returns-clause-condition : goal.returns-clause-condition
returns-clause-condition c = λ scope names e made bind numbers quiet. c.typed_trees_suit.ensures.condition scope names e (some_cond scope names e) (c.typed_trees_belong.ensures.condition scope names e made bind numbers quiet)

pub returns-clause-constraint : goal.returns-clause-constraint
returns-clause-constraint c = λ scope names e made bind numbers quiet. c.typed_trees_suit.ensures.constraint scope names e (typed_con scope names e) (c.typed_trees_belong.ensures.constraint scope names e made bind numbers quiet)

pub returns-clause-statement : goal.returns-clause-statement
returns-clause-statement c = λ scope stmt made numbers none.
    c.typed_trees_suit.ensures.statement scope stmt (typed_statement scope stmt) made (statement_new scope made (no_fault scope stmt none).1) (c.typed_trees_belong.ensures.statement scope stmt made numbers none)

pub returns-clause-nesting : goal.returns-clause-nesting
returns-clause-nesting c = λ scope stmt made numbers none.
    c.definitions_nest_as_their_statements.ensures.definition scope stmt (typed_statement scope stmt) (c.typed_trees_belong.ensures.statement scope stmt made numbers none) (ltb-false 200 (full_nesting scope stmt) (no_fault scope stmt none).0)
