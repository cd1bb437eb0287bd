-- A number is a constant form, and a multiple of a column is within the limit.
use Rattle.zim_plain.proofs.PartLaws.{form_of_number, part_answer}
use Rattle.zim_plain.proofs.parts.part_form.Goals as goal

pub returns-in-None : goal.returns-in-None
returns-in-None c = form_of_number c.args.part.now c.constant.result c.requires c.in-None.is c.constant.ensures

pub returns-in_ok-column-in-Some : goal.returns-in_ok-column-in-Some
returns-in_ok-column-in-Some c = part_answer c.args.part.now c.in_ok-column-in-Some.column c.in-Some.j c.scale.result c.requires c.in-Some.is c.in_ok-column-in-Some.ensures c.scale.ensures
