-- A number is whole where its denominator is 1.
use Rattle.std.proofs.Common.{ℤ, nat_eq, of_z, ap}
use Rattle.std.specs.Int.{w128}
use Rattle.zim_rational.specs.Rational.{is_whole}
use Rattle.zim_encoding_table.proofs.columns.is_whole.Goals as goal

pub returns : goal.returns
unfolding is_whole
returns c = ap (λ (d : ℤ). nat_eq (of_z w128 d) 1) c.denom.ensures.value
