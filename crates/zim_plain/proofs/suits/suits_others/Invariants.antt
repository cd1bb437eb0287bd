use Rattle.zim_plain.proofs.SuitLaws.{IsTesting}
use Rattle.zim_plain.proofs.suits.suits_others.Given as goal

abbrev pub invariant-loop-further : goal.invariant-loop-further
invariant-loop-further l = IsTesting l.variables.keys l.others l.further-index
