-- One component more.
use Rattle.std.proofs.Common.{ℕ, List, ◌++◌, sym, ap, ◌∙◌}
use Rattle.zim_meaning.specs.Printing.{element_output}
use Rattle.zim_perform.specs.Private.{behind_commas}
use Rattle.zim_perform.proofs.TextLemmas.{behind_byte, nil_right, one_more}
use Rattle.zim_perform.proofs.texts.put_further_elements.Goals as goal

pub loop-element-init : goal.loop-element-init
loop-element-init c = sym (nil_right c.args.to.now)

pub loop-element-preserved : goal.loop-element-preserved
loop-element-preserved c =
    c.in_ok-put_element.ensures ∙ ap (λ (t : List ℕ). t ++ element_output c.element-item.result) c.in_ok-push.ensures.ok ∙ behind_byte c.loop-element.to 44 (element_output c.element-item.result)
    ∙ one_more (behind_commas element_output) c.args.elements.now c.loop-element.element-index c.element-item.result c.args.to.now c.loop-element.to c.loop-element-test.true c.element-item.is c.loop-element.invariant
