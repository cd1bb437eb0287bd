-- The number that the form is multiplied by, then the multiple.
use Rattle.zim_vabs.proofs.FactorTurnLemmas.{divisor_some, turn_gives, turn_stops, turn_past}
use Rattle.zim_vabs.proofs.terms.times.Goals as goal

pub scale-requires : goal.scale-requires
scale-requires c = divisor_some c.args.other.now c.requires

pub returns-in-Err : goal.returns-in-Err
returns-in-Err c = turn_past c.args.form c.args.other.now (record {}) c.past_at.result c.in-Err.ensures c.past_at.ensures

pub returns-in-Ok-multiple : goal.returns-in-Ok-multiple
returns-in-Ok-multiple c = turn_gives c.args.form c.args.other.now c.in-Ok.q c.in-Ok-multiple.form c.in-Ok.ensures c.in-Ok-multiple.ensures

pub returns : goal.returns
returns c =
    turn_stops c.args.form c.args.other.now c.in-Ok.q c.in-Err-multiple.fault c.past_at-in-Err-multiple.result c.in-Ok.ensures c.past_at-in-Err-multiple.ensures c.in-Err-multiple.ensures
