-- The sum of the forms is past where that of the part's column is.
use Rattle.zim_plain.proofs.PartLaws.{added_answer}
use Rattle.zim_plain.proofs.parts.add_part.Goals as goal

pub returns : goal.returns
returns c =
    added_answer c.args.form.now c.in_ok-more.more c.add_to.new.form c.args.part.now c.add_to.result c.requires.terms c.requires.numbers c.requires.part c.in_ok-more.ensures c.add_to.ensures
