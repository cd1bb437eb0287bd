-- A number is a constant form, and parts have theirs.
use Rattle.zim_plain.proofs.PartLaws.{known_form, parts_have_form}
use Rattle.zim_plain.proofs.parts.side_form.Goals as goal

pub returns-in-Known : goal.returns-in-Known
returns-in-Known c = known_form c.args.side.now c.in-Known.number c.constant.result c.requires c.in-Known.is c.constant.ensures

pub returns-in-Parts : goal.returns-in-Parts
returns-in-Parts c = parts_have_form c.args.side.now c.in-Parts.parts c.as_slice.result.now c.parts_form.result c.in-Parts.is c.as_slice.ensures.value c.parts_form.ensures
