use Rattle.zim_plain.proofs.ReadLaws.{IsSeeking}
use Rattle.zim_plain.proofs.sides.any_has_name.Given as goal

abbrev pub invariant-loop-further : goal.invariant-loop-further
invariant-loop-further l = IsSeeking l.others l.further-index
