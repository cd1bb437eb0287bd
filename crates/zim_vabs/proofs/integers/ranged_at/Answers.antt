-- Where no column offends, the multiple and its ends at the place.
use Rattle.std.proofs.Common.{ap, ◌∙◌, refl}
use Rattle.zim_vabs.specs.IntegerForms.{offence}
use Rattle.zim_vabs.proofs.IntegerCallLemmas.{at_offends, at_gives, at_stops}
use Rattle.zim_vabs.proofs.integers.ranged_at.Goals as goal

pub returns-in-Some-clause-ranged : goal.returns-in-Some-clause-ranged
returns-in-Some-clause-ranged c =
    at_offends c.args.place c.args.form.now c.args.system.now.columns _ c.in-Some.kind (c.in-Some.ensures ∙ ap (offence c.args.system.now.columns) c.terms.ensures.value) refl

pub returns-in-Ok-clause-ranged : goal.returns-in-Ok-clause-ranged
returns-in-Ok-clause-ranged c =
    at_gives c.args.place c.args.form.now c.args.system.now.columns _ _ (c.in-None.ensures ∙ ap (offence c.args.system.now.columns) c.terms.ensures.value) refl c.in-Ok.ensures.ranged

pub returns-in-Err-clause-ranged : goal.returns-in-Err-clause-ranged
returns-in-Err-clause-ranged c =
    at_stops c.args.place c.args.form.now c.args.system.now.columns _ c.in-Err.fault c.past_at.result (c.in-None.ensures ∙ ap (offence c.args.system.now.columns) c.terms.ensures.value) refl c.past_at.ensures c.in-Err.ensures.ranged
