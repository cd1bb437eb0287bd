use Rattle.std.proofs.Common.{pos, arith}
use Rattle.std.specs.Int.{w128}
use Rattle.std.proofs.lemmas.Int.{to_z_pos}
use Rattle.zim_fraction.proofs.PartLaws.{carried}
use Rattle.zim_rows.proofs.FactorLemmas.{more_made, more_past, more_back}
use Rattle.zim_rows.proofs.factors.more.Goals as goal

pub returns-in-Ok-clause-positive : goal.returns-in-Ok-clause-positive
returns-in-Ok-clause-positive c =
    more_back
    c.args.k
    c.args.q
    _
    c.requires.positive
    (more_made c.args.k c.args.q _ _ _ (let small = c.requires.small in to_z_pos w128 c.args.k (omega arith)) (carried _ (pos c.args.q.denom) c.denom.ensures.bound c.denom.ensures.value) c.in-Ok.ensures.answer)

pub returns-in-Err-clause-answer : goal.returns-in-Err-clause-answer
returns-in-Err-clause-answer c =
    more_past
    c.args.k
    c.args.q
    _
    _
    _
    (let small = c.requires.small in to_z_pos w128 c.args.k (omega arith))
    (carried _ (pos c.args.q.denom) c.denom.ensures.bound c.denom.ensures.value)
    c.in-Err.ensures.answer
