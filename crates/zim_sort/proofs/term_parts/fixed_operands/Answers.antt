-- One operand more, which is a constant or isn't.
use Rattle.std.proofs.Common.{sym, ◌∙◌}
use Rattle.zim_sort.specs.Parts.{fixed_operand}
use Rattle.zim_sort.proofs.CodeLemmas.{filtered_some, filtered_none}
use Rattle.zim_sort.proofs.term_parts.fixed_operands.Goals as goal

pub loop-place-preserved-in-Continue-1 : goal.loop-place-preserved-in-Continue-1
loop-place-preserved-in-Continue-1 c =
    c.in_ok-push-in-Some-fixed_operand.ensures.ok ∙ filtered_some fixed_operand c.loop-place.yielded (c.in-Some.place, c.in-Some.token, c.in-Some.part) c.in-Some-fixed_operand.operand _ _ c.fixed_operand.ensures c.in-Some-fixed_operand.is c.loop-place.invariant

pub loop-place-preserved : goal.loop-place-preserved
loop-place-preserved c = filtered_none fixed_operand c.loop-place.yielded (c.in-Some.place, c.in-Some.token, c.in-Some.part) _ _ c.fixed_operand.ensures c.in-None-fixed_operand.is c.loop-place.invariant
