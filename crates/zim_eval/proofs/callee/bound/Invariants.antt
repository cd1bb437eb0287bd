-- The names so far are bound to the elements so far.
use Rattle.std.proofs.Common.{◌≡◌, map}
use Rattle.zim_eval.proofs.callee.bound.Given as goal

abbrev pub invariant-loop-name : goal.invariant-loop-name
invariant-loop-name l = l.env ≡ map (λ pair. record { name = pair.0.now; value = pair.1.now }) l.yielded
