-- The numbers of each program that a finished system may be read back.
use Rattle.zim_mps.proofs.TextLaws.{text_says}
use Rattle.zim_mps.proofs.laws.texts_say_programs.Goals as goal

pub returns : goal.returns
returns c = text_says
