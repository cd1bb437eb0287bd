use Rattle.zim_linear.proofs.SumLemmas.{added_answer, past_constants}
use Rattle.zim_linear.proofs.sum.add.Goals as goal

pub returns-in-Ok : goal.returns-in-Ok
returns-in-Ok c =
    added_answer _ _ _ _ _ _ _ _ _ c.in_ok-terms.ensures c.terms.ensures.value c.terms-2.ensures.value c.in-Ok.ensures.answer c.in-Ok.ensures.ok c.constant_part.ensures c.constant_part-2.ensures c.of_terms.ensures

pub returns-in-Err : goal.returns-in-Err
returns-in-Err c =
    past_constants _ _ _ _ _ c.in-Err.ensures.answer c.constant_part.ensures c.constant_part-2.ensures
