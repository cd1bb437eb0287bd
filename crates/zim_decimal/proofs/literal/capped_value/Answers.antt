-- One digit more, and no more than the cap.
use Rattle.std.proofs.Common.{refl, ◌∙◌}
use Rattle.zim_decimal.proofs.TokenLaws.{digit_at}
use Rattle.zim_decimal.proofs.LiteralLemmas.{capped_next}
use Rattle.zim_decimal.proofs.literal.capped_value.Goals as goal

pub loop-digit-preserved : goal.loop-digit-preserved
loop-digit-preserved c =
    c.min-size.ensures
    ∙ capped_next
    c.args.digits.now
    c.loop-digit.digit-index
    c.loop-digit.size
    _
    c.loop-digit-test.true
    refl
    (digit_at c.args.digits.now c.loop-digit.digit-index c.requires c.loop-digit-test.true)
    c.loop-digit.invariant
