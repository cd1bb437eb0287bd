use Rattle.zim_plain.specs.Reader.{sum_said}
use Rattle.zim_plain.proofs.ReadLaws.{IsTotalling}
use Rattle.zim_plain.proofs.sides.known.Given as goal

abbrev pub invariant-loop-further : goal.invariant-loop-further
invariant-loop-further l = IsTotalling (sum_said l.sum) l.further-items l.further-index l.total
