-- A point stands where the rest isn't 0.
use Rattle.std.proofs.Common.{arith, take}
use Rattle.zim_decimal.proofs.DecimalLemmas.{put_nothing, put_point}
use Rattle.zim_decimal.proofs.text.put_point_and_decimals.Goals as goal

pub returns-then-rest-eq0-clause-text : goal.returns-then-rest-eq0-clause-text
returns-then-rest-eq0-clause-text c = put_nothing (take c.args.at c.args.to.now) c.args.denom c.args.rest c.if-rest-eq0.true

pub returns-clause-text : goal.returns-clause-text
returns-clause-text c =
    put_point
    c.args.to.now
    (take c.put_decimals.result c.put_decimals.new.to)
    c.args.at
    c.args.denom
    c.args.rest
    (omega arith)
    c.if-rest-eq0.false
    c.put_decimals.ensures.text
