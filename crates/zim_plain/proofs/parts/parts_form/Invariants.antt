use Rattle.std.proofs.Common.{length}
use Rattle.zim_plain.proofs.PartLaws.{IsAdding}
use Rattle.zim_plain.proofs.parts.parts_form.Given as goal

abbrev pub invariant-loop-part : goal.invariant-loop-part
invariant-loop-part l = IsAdding l.fn.rest l.form l.rest

abbrev pub decreases-loop-part : goal.decreases-loop-part
decreases-loop-part l = length l.rest
