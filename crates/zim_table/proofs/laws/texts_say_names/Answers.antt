-- Each list of names that can be listed is read back.
use Rattle.zim_table.proofs.TextLaws.{text_says}
use Rattle.zim_table.proofs.laws.texts_say_names.Goals as goal

pub returns : goal.returns
returns c = text_says
