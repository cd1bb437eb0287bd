-- The finished system says the model.
use Rattle.std.proofs.Common.{refl}
use Rattle.zim_plain.specs.Build.{built}
use Rattle.zim_plain.proofs.ModelLaws.{says_model}
use Rattle.zim_plain.proofs.plain_form.finish.Goals as goal

pub returns-in-Ok : goal.returns-in-Ok
returns-in-Ok c model plain stands =
    says_model model (built c.args.builder) _ plain stands
    (record { faultless = c.in-Ok.ensures.answer.0; program = c.in-Ok.ensures.answer.1; points = c.in-Ok.ensures.points; objective = c.in-Ok.ensures.objective; covered = c.in-Ok.ensures.covered })
    refl refl refl
