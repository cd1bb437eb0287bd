-- The first item, and the further ones.
use Rattle.zim_eval.specs.Causes.{eval_cause}
use Rattle.zim_perform.proofs.LineLemmas.{first_given, first_stops, no_items}
use Rattle.zim_perform.proofs.lines.put_items.Goals as goal

pub returns-in-Ok : goal.returns-in-Ok
returns-in-Ok c =
    first_given c.args.world.now c.args.env.now c.args.line.now c.put_item.new.line c.args.items.now c.in-Some.first.now c.in-Some.further.now _ c.put_further_items.result c.in-Some.ensures.cases.0 c.in-Ok.ensures c.put_further_items.ensures

pub returns-in-Err : goal.returns-in-Err
returns-in-Err c = first_stops c.args.world.now c.args.env.now c.args.line.now c.args.items.now c.in-Some.first.now c.in-Some.further.now (eval_cause c.in-Err.stop) c.in-Some.ensures.cases.0 c.in-Err.ensures

pub returns-in-None : goal.returns-in-None
returns-in-None c = no_items c.args.world.now c.args.env.now c.args.line.now c.args.items.now c.in-None.ensures.cases
