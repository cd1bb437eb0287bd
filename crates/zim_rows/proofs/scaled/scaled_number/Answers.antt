use Rattle.std.proofs.Common.{arith}
use Rattle.std.specs.Int.{w128}
use Rattle.std.proofs.lemmas.Int.{to_z_pos}
use Rattle.zim_rows.proofs.ScaledLemmas.{number_answered}
use Rattle.zim_rows.proofs.scaled.scaled_number.Goals as goal

pub returns : goal.returns
returns c = number_answered _ _ _ _ _ c.mul.ensures.answer c.whole.ensures (let small = c.requires in to_z_pos w128 c.args.k (omega arith))
