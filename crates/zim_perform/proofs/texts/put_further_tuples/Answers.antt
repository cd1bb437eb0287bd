-- One tuple more.
use Rattle.std.proofs.Common.{ℕ, List, ◌++◌, sym, ap, ◌∙◌}
use Rattle.zim_meaning.specs.Printing.{tuple_output}
use Rattle.zim_perform.specs.Private.{behind_commas}
use Rattle.zim_perform.proofs.TextLemmas.{behind_byte, nil_right, one_more}
use Rattle.zim_perform.proofs.texts.put_further_tuples.Goals as goal
use Rattle.zim_tuples.specs.declared.elements.Elem.{Elem}

pub loop-tuple-init : goal.loop-tuple-init
loop-tuple-init c = sym (nil_right c.args.to.now)

pub loop-tuple-preserved : goal.loop-tuple-preserved
loop-tuple-preserved c =
    c.in_ok-put_tuple.ensures ∙ ap (λ (t : List Elem). c.push.new.self ++ tuple_output t) c.as_slice.ensures ∙ ap (λ (t : List ℕ). t ++ tuple_output c.tuple-item.result) c.in_ok-push.ensures.ok ∙ behind_byte c.loop-tuple.to 44 (tuple_output c.tuple-item.result)
    ∙ one_more (behind_commas tuple_output) c.args.tuples.now c.loop-tuple.tuple-index c.tuple-item.result c.args.to.now c.loop-tuple.to c.loop-tuple-test.true c.tuple-item.is c.loop-tuple.invariant
