-- Without a factor the form itself, else its multiple.
use Rattle.zim_vabs.proofs.FactorTurnLemmas.{no_factor, factor_gives, factor_stops}
use Rattle.zim_vabs.proofs.terms.with_factor.Goals as goal

pub returns-in-None : goal.returns-in-None
returns-in-None c = rw c.in-None.is (no_factor c.args.form)

pub returns-in-Ok : goal.returns-in-Ok
returns-in-Ok c = rw c.in-Some.is (factor_gives c.in-Some.q c.in-Some.place c.args.form c.in-Ok.form c.in-Ok.ensures)

pub returns : goal.returns
returns c =
    rw c.in-Some.is (factor_stops c.in-Some.q c.in-Some.place c.args.form c.in-Err.fault c.past_at.result c.past_at.ensures c.in-Err.ensures)
