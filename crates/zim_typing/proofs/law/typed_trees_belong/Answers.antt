-- By what it is to go over, as a value and under the same names.
use Rattle.std.proofs.Common.{refl}
use Rattle.zim_static.specs.declared.role.Role.TheVariants as role
use Rattle.zim_typing.proofs.BelongLaws.{goes}
use Rattle.zim_typing.proofs.StillLemmas.{still}
use Rattle.zim_typing.proofs.MeasuredLemmas.{fits}
use Rattle.zim_typing.proofs.TermBelongLaws.{measured}
use Rattle.zim_typing.proofs.DecidedLemmas.{fits_condition}
use Rattle.zim_typing.proofs.ConditionBelongLaws.{decided}
use Rattle.zim_typing.proofs.ConstraintBelongLaws.{constrains}
use Rattle.zim_typing.proofs.BoundBelongLaws.{bounded}
use Rattle.zim_typing.proofs.StatementBelongLaws.{no_fault, statement_belongs}
use Rattle.zim_typing.proofs.law.typed_trees_belong.Goals as goal

pub returns-clause-constant : goal.returns-clause-constant
returns-clause-constant c = λ scope names e made numbers quiet. (goes scope made role.Value names names (λ name. refl) numbers quiet tt).0

pub returns-clause-term : goal.returns-clause-term
returns-clause-term c = λ scope names e made bind numbers quiet. (fits scope e (goes scope made) (still scope made) (measured scope made) names names (λ name. refl) bind numbers quiet).0

pub returns-clause-condition : goal.returns-clause-condition
returns-clause-condition c = λ scope names e made bind numbers quiet. (fits_condition scope e (goes scope made) (still scope made) (decided scope made) names names (λ name. refl) bind numbers quiet).0

pub returns-clause-constraint : goal.returns-clause-constraint
returns-clause-constraint c = λ scope names e made bind numbers quiet. constrains scope made names names (λ name. refl) bind numbers quiet

pub returns-clause-bound : goal.returns-clause-bound
returns-clause-bound c = λ scope names e made numbers quiet. bounded scope made names names (λ name. refl) numbers quiet

pub returns-clause-statement : goal.returns-clause-statement
returns-clause-statement c = λ scope stmt made numbers none. statement_belongs scope made numbers (no_fault scope stmt none).1
