use Rattle.zim_linear.proofs.ScaleLaws.{scaled_answer, scaled_past}
use Rattle.zim_linear.proofs.multiple.scale.Goals as goal

pub returns-in-Ok : goal.returns-in-Ok
returns-in-Ok c =
    scaled_answer _ _ _ _ _ _ _ c.in_ok-terms.ensures c.terms.ensures.value c.in-Ok.ensures.answer c.in-Ok.ensures.ok c.constant_part.ensures c.of_terms.ensures

pub returns-in-Err : goal.returns-in-Err
returns-in-Err c = scaled_past _ _ _ _ c.in-Err.ensures.answer c.constant_part.ensures
