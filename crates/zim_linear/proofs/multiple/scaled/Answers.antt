use Rattle.zim_linear.proofs.FormLaws.{none_from_length}
use Rattle.zim_linear.proofs.ScaleLaws.{scale_start, scale_step, scale_end}
use Rattle.zim_linear.proofs.multiple.scaled.Goals as goal

pub loop-t-init : goal.loop-t-init
loop-t-init c = rw c.new-made.ensures.items (scale_start _ _ c.requires)

pub loop-t-preserved : goal.loop-t-preserved
loop-t-preserved c =
    scale_step _ _ _ _ _ _ _ c.loop-t.invariant (c.in-Some.ensures.cases.0) c.in_ok-push_product.ensures

pub returns : goal.returns
returns c = scale_end _ _ _ _ c.loop-t.invariant (none_from_length _ c.in_default.ensures.cases)
