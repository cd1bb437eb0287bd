-- One operand more, which is a constant or isn't.
use Rattle.std.proofs.Common.{◌∙◌}
use Rattle.zim_sort.specs.Parts.{fixed_disjunct}
use Rattle.zim_sort.proofs.CodeLemmas.{filtered_some, filtered_none}
use Rattle.zim_sort.proofs.condition_parts.fixed_disjuncts.Goals as goal

pub loop-place-preserved-in-Continue-1 : goal.loop-place-preserved-in-Continue-1
loop-place-preserved-in-Continue-1 c = c.in_ok-push-in-Some-fixed_disjunct.ensures.ok ∙ filtered_some fixed_disjunct c.loop-place.yielded (c.in-Some.place, c.in-Some.xor, c.in-Some.part) c.in-Some-fixed_disjunct.operand _ _ c.fixed_disjunct.ensures c.in-Some-fixed_disjunct.is c.loop-place.invariant

pub loop-place-preserved : goal.loop-place-preserved
loop-place-preserved c = filtered_none fixed_disjunct c.loop-place.yielded (c.in-Some.place, c.in-Some.xor, c.in-Some.part) _ _ c.fixed_disjunct.ensures c.in-None-fixed_disjunct.is c.loop-place.invariant
