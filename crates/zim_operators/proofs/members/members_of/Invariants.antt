-- The list so far leads on to the whole answer.
use Rattle.std.proofs.Common.{◌≡◌, [], drop}
use Rattle.zim_answer.specs.Answer.{goes}
use Rattle.zim_meaning.specs.Operations.{with_member}
use Rattle.zim_operators.proofs.members.members_of.Given as goal

abbrev pub invariant-loop-value : goal.invariant-loop-value
invariant-loop-value l = goes with_member l.tuples (drop l.value-index l.values) ≡ goes with_member [] l.values
