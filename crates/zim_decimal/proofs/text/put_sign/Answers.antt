-- The byte that is put is the text's first.
use Rattle.std.proofs.Common.{arith}
use Rattle.zim_decimal.proofs.DecimalLemmas.{put_first}
use Rattle.zim_decimal.proofs.text.put_sign.Goals as goal

pub returns-then-negative-clause-text : goal.returns-then-negative-clause-text
returns-then-negative-clause-text c = rw c.if-negative.true (put_first c.args.to.now 45 (omega arith))
