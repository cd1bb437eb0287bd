-- The operands so far are over the columns.
use Rattle.std.proofs.Common.{IsTrue}
use Rattle.encoding_bench.proofs.OverLemmas.{are_over}
use Rattle.encoding_bench.proofs.conjunction.conjunction.Given as goal

abbrev pub invariant-loop-number : goal.invariant-loop-number
invariant-loop-number l = IsTrue (are_over l.columns l.others)
