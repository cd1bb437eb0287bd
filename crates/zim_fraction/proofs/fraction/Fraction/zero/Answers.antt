-- The whole number over 1 is in lowest terms.
use Rattle.std.proofs.Common.{pos, arith}
use Rattle.zim_fraction.proofs.FieldLemmas.{kept_whole, ratio_zero}
use Rattle.zim_fraction.proofs.fraction.Fraction.zero.Goals as goal

pub invariant_of-result : goal.invariant_of-result
invariant_of-result c = kept_whole (pos 0) (omega arith)

pub returns : goal.returns
returns c = ratio_zero
