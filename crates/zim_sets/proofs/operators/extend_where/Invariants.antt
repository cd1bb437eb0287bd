use Rattle.std.proofs.Common.{◌≡◌, drop}
use Rattle.std.specs.Bool.{beq}
use Rattle.zim_answer.specs.Answer.{goes}
use Rattle.zim_sets.specs.Insertion.{inserted_where}
use Rattle.zim_sets.specs.Sets.{has}
use Rattle.zim_sets.proofs.operators.extend_where.Given as goal

abbrev pub invariant-loop-tuple : goal.invariant-loop-tuple
invariant-loop-tuple l =
    goes (inserted_where (λ t. beq (has l.other t) l.wanted)) l.made (drop l.tuple-index l.from) ≡ goes (inserted_where (λ t. beq (has l.other t) l.wanted)) l.initial.made l.from
