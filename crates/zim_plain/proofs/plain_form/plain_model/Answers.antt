-- What the system of all statements says.
use Rattle.zim_plain.specs.Build.{built}
use Rattle.zim_plain.proofs.ModelLaws.{answered}
use Rattle.zim_plain.proofs.plain_form.plain_model.Goals as goal

pub returns-in-Ok : goal.returns-in-Ok
returns-in-Ok c = answered c.args.statements.now (built c.in-Ok.builder) c.finish.result c.in-Ok.ensures c.finish.ensures
