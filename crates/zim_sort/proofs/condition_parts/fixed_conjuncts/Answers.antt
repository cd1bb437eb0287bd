-- One operand more, which is a constant or isn't.
use Rattle.std.proofs.Common.{◌∙◌}
use Rattle.zim_sort.specs.Parts.{fixed_conjunct}
use Rattle.zim_sort.proofs.CodeLemmas.{filtered_some, filtered_none}
use Rattle.zim_sort.proofs.condition_parts.fixed_conjuncts.Goals as goal

pub loop-place-preserved-in-Continue-1 : goal.loop-place-preserved-in-Continue-1
loop-place-preserved-in-Continue-1 c = c.in_ok-push-in-Some-fixed_conjunct.ensures.ok ∙ filtered_some fixed_conjunct c.loop-place.yielded (c.in-Some.place, c.in-Some.part) c.in-Some-fixed_conjunct.operand _ _ c.fixed_conjunct.ensures c.in-Some-fixed_conjunct.is c.loop-place.invariant

pub loop-place-preserved : goal.loop-place-preserved
loop-place-preserved c = filtered_none fixed_conjunct c.loop-place.yielded (c.in-Some.place, c.in-Some.part) _ _ c.fixed_conjunct.ensures c.in-None-fixed_conjunct.is c.loop-place.invariant
