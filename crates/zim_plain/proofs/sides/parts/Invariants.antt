use Rattle.zim_plain.specs.Reader.{sum_said}
use Rattle.zim_plain.proofs.ReadLaws.{IsReading}
use Rattle.zim_plain.proofs.sides.parts.Given as goal

abbrev pub invariant-loop-further : goal.invariant-loop-further
invariant-loop-further l = IsReading l.variables.keys (sum_said l.sum) l.further-items l.further-index l.parts.items
