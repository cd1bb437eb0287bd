-- The factor grows by each denominator, and is that of all coefficients in the end.
use Rattle.std.proofs.Common.{ap}
use Rattle.zim_rows.specs.Factors.{coefficients}
use Rattle.zim_linear.proofs.FormLaws.{none_from_length}
use Rattle.zim_rows.proofs.FactorLemmas.{factor_start, factor_step, factor_past, factor_end}
use Rattle.zim_rows.proofs.factors.terms_factor.Goals as goal

pub loop-t-init : goal.loop-t-init
loop-t-init c = factor_start _

pub returns-in-Err-clause-answer : goal.returns-in-Err-clause-answer
returns-in-Err-clause-answer c =
    factor_past _ _ _ _ _ c.loop-t.invariant (ap coefficients (c.in-Some.ensures.cases.0)) c.in-Err.ensures.answer

pub loop-t-preserved : goal.loop-t-preserved
loop-t-preserved c =
    factor_step _ _ _ _ _ _ c.loop-t.invariant (ap coefficients (c.in-Some.ensures.cases.0)) c.in-Ok.ensures.answer

pub returns-clause-answer : goal.returns-clause-answer
returns-clause-answer c =
    factor_end _ _ _ c.loop-t.invariant (ap coefficients (none_from_length _ c.in_default.ensures.cases))
