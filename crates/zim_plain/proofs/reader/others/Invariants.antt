use Rattle.zim_plain.proofs.OthersLoop.{IsReadAsFar}
use Rattle.zim_plain.proofs.reader.others.Given as goal

abbrev pub invariant-loop-operand : goal.invariant-loop-operand
invariant-loop-operand l = IsReadAsFar l.operands l.operand-index l.others.items
