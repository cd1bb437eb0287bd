use Rattle.std.proofs.Common.{subst}
use Rattle.zim_rows.specs.Factors.{IsFactor}
use Rattle.zim_rows.proofs.FactorLemmas.{also_made, also_past}
use Rattle.zim_rows.proofs.factors.also.Goals as goal

pub returns-in-Ok-clause-answer : goal.returns-in-Ok-clause-answer
returns-in-Ok-clause-answer c =
    λ numbers so_far. also_made numbers c.args.q c.in-Ok.k c.more.result c.more.ensures.answer (subst (IsFactor numbers) c.in-Ok.is so_far)

pub returns-in-Err-clause-answer : goal.returns-in-Err-clause-answer
returns-in-Err-clause-answer c =
    λ numbers so_far. also_past numbers c.args.q (subst (IsFactor numbers) c.in-Err.is so_far)
