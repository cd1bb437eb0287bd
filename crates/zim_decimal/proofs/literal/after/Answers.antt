-- One byte more is left out.
use Rattle.zim_decimal.proofs.TokenLaws.{after_some}
use Rattle.zim_decimal.proofs.literal.after.Goals as goal

pub returns-else-at-text : goal.returns-else-at-text
returns-else-at-text c = after_some c.args.text.now c.args.at
