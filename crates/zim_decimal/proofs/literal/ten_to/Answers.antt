-- Ten to the power 38 fits.
use Rattle.zim_decimal.proofs.LiteralLemmas.{ten_fits}
use Rattle.zim_decimal.proofs.literal.ten_to.Goals as goal

pub pow-requires : goal.pow-requires
pow-requires c = ten_fits c.args.k c.requires
