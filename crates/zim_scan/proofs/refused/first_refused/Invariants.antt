-- No word of the tokens so far is refused.
use Rattle.std.proofs.Common.{◌≡◌, length}
use Rattle.zim_scan.specs.Refused.{first_refused}
use Rattle.zim_scan.proofs.refused.first_refused.Given as goal

abbrev pub invariant-loop-rest : goal.invariant-loop-rest
invariant-loop-rest l = first_refused l.fn.tokens ≡ first_refused l.rest

abbrev pub decreases-loop-rest : goal.decreases-loop-rest
decreases-loop-rest l = length l.rest
