use Rattle.std.proofs.Common.{refl}
use Rattle.zim_linear.proofs.SumLemmas.{added_answer, past_constants}
use Rattle.zim_linear.proofs.AppendLemmas.{appended_answer}
use Rattle.zim_linear.proofs.sum.add_to.Goals as goal

pub returns-in-Err : goal.returns-in-Err
returns-in-Err c =
    (past_constants _ _ _ _ _ c.in-Err.ensures.answer c.constant_part.ensures c.constant_part-2.ensures, refl)

pub returns-then-all_after : goal.returns-then-all_after
returns-then-all_after c =
    appended_answer _ _ _ _ _ _ _ _ _ (c.all_after.ensures c.if-all_after.true) c.terms.ensures.value c.terms-2.ensures.value c.terms-then-all_after.ensures.value c.in-Ok.ensures.answer c.in-Ok.ensures.ok c.constant_part.ensures c.constant_part-2.ensures c.in_ok-append.ensures.ok

pub returns : goal.returns
returns c =
    added_answer _ _ _ _ _ _ _ _ _ c.in_ok-terms.ensures c.terms-3.ensures.value c.terms-4.ensures.value c.in-Ok.ensures.answer c.in-Ok.ensures.ok c.constant_part.ensures c.constant_part-2.ensures c.of_terms.ensures
