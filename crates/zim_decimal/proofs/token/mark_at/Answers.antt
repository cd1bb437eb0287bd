-- The first place is that of the byte that was found, or the length.
use Rattle.zim_decimal.specs.Token.{is_mark}
use Rattle.zim_decimal.proofs.TokenLaws.{found_at, found_none}
use Rattle.zim_decimal.proofs.token.mark_at.Goals as goal

pub returns-in-Some : goal.returns-in-Some
returns-in-Some c = found_at is_mark c.args.text.now c.in-Some.i c.in-Some.ensures

pub returns-in-None : goal.returns-in-None
returns-in-None c = found_none is_mark c.args.text.now c.in-None.ensures
