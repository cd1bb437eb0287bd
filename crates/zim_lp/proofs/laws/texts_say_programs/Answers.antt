-- Each program that a finished system may be can be read back.
use Rattle.zim_lp.proofs.TextLaws.{text_says}
use Rattle.zim_lp.proofs.laws.texts_say_programs.Goals as goal

pub returns : goal.returns
returns c = text_says
