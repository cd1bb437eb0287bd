-- The function that the name's position has, or none.
use Rattle.std.proofs.Common.{sym, ◌∙◌}
use Rattle.zim_eval.proofs.CallLemmas.{call_none, call_some}
use Rattle.zim_eval.proofs.callee.callee.Goals as goal

pub returns-in-None-clause-calls : goal.returns-in-None-clause-calls
returns-in-None-clause-calls c = λ place given. call_none c.args.world.now c.functions.result.now c.args.known c.args.name.now place given c.functions.ensures c.in-None.ensures.value

pub returns-in-Some-clause-calls : goal.returns-in-Some-clause-calls
returns-in-Some-clause-calls c = λ place given.
    call_some c.args.world.now c.functions.result.now c.args.known c.in-Some.position c.args.name.now place given c.functions.ensures c.in-Some.ensures.value c.in-Some.ensures.distinct
    ∙ sym (c.callee_at.ensures.found place given)
