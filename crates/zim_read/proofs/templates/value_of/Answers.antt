-- A digit more, whose number stays small.
use Rattle.zim_read.proofs.TemplateLemmas.{value_next}
use Rattle.zim_read.proofs.templates.value_of.Goals as goal

pub loop-digit-preserved : goal.loop-digit-preserved
loop-digit-preserved c =
    value_next c.args.digits.now c.loop-digit.digit-index c.loop-digit.value c.min-value.result c.loop-digit-test.true c.requires c.loop-digit.invariant c.min-value.ensures
