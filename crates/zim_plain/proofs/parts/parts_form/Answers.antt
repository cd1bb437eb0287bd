-- Each part is added to the form, and the first that is past is the fault.
use Rattle.std.proofs.Common.{◌∙◌, ap, []}
use Rattle.zim_linear.specs.Forms.{form_of}
use Rattle.zim_plain.proofs.PartLaws.{add_start, add_step, add_past, add_end, none_left, part_first}
use Rattle.zim_plain.proofs.parts.parts_form.Goals as goal

pub loop-part-init : goal.loop-part-init
loop-part-init c = add_start c.args.rest.now c.constant-form.result c.requires (c.constant-form.ensures ∙ ap (form_of []) c.zero.ensures)

pub add_part-requires-clause-terms : goal.add_part-requires-clause-terms
add_part-requires-clause-terms c = c.loop-part.invariant.form_is.terms

pub add_part-requires-clause-numbers : goal.add_part-requires-clause-numbers
add_part-requires-clause-numbers c = c.loop-part.invariant.form_is.within

pub add_part-requires-clause-part : goal.add_part-requires-clause-part
add_part-requires-clause-part c = part_first _ _ _ _ _ c.loop-part.invariant c.in-Some.ensures.cases.0

pub loop-part-preserved : goal.loop-part-preserved
loop-part-preserved c = add_step _ _ _ _ _ _ c.loop-part.invariant c.in-Some.ensures.cases.0 c.in-Ok.ensures

pub returns-in-Err-Past : goal.returns-in-Err-Past
returns-in-Err-Past c =
    add_past c.args.rest.now c.loop-part.form c.loop-part.rest.now c.in-Some.more.now c.in-Some.part.now c.past_at.result c.loop-part.invariant c.in-Some.ensures.cases.0 (rw c.in-Err-Past.field-0-is at c.in-Err-Past.ensures) c.past_at.ensures

pub returns : goal.returns
returns c = add_end _ _ _ c.loop-part.invariant (none_left _ c.in_default.ensures.cases)
