-- Each parameter is bound to the element at its position.
use Rattle.zim_eval.proofs.BindingLemmas.{all_bound}
use Rattle.zim_eval.proofs.callee.bound.Goals as goal

pub returns : goal.returns
returns c =
    all_bound c.loop-name.env c.args.params.now c.args.given.now c.loop-name.yielded c.into_iter-name-iterator.result c.loop-name.name-iterator c.next.new.self (cc) (cc) c.loop-name.yielded_by c.in-None.ensures.steps c.loop-name.invariant
