-- The answer is the least common multiple of the two numbers' sizes.
use Rattle.std.proofs.Common.{SFits}
use Rattle.std.specs.Int.{w128}
use Rattle.std.proofs.lemmas.Int.{to_z-of_z}
use Rattle.zim_fraction.proofs.DivisorLemmas.{lcm_ok, lcm_past}
use Rattle.zim_fraction.proofs.divisor.lcm.Goals as goal

pub returns-in-Some-clause-answer : goal.returns-in-Some-clause-answer
returns-in-Some-clause-answer c =
    let a : SFits w128 c.args.a = c.ranges.a in
    let b : SFits w128 c.args.b = c.ranges.b in
    let h = simp to_z-of_z at c.in-Some.ensures in lcm_ok _ _ _ h.0 h.1

pub returns-in-None-clause-answer : goal.returns-in-None-clause-answer
returns-in-None-clause-answer c =
    let a : SFits w128 c.args.a = c.ranges.a in
    let b : SFits w128 c.args.b = c.ranges.b in lcm_past _ _ (simp to_z-of_z at c.in-None.ensures)
