-- The nesting passes the limit nowhere so far.
use Rattle.std.proofs.Common.{◌≡◌, ◌+◌, ◌<◌, length}
use Rattle.zim_scan.specs.Nesting.{first_deep}
use Rattle.zim_scan.proofs.nesting.first_deep.Given as goal

abbrev pub invariant-loop-rest : goal.invariant-loop-rest
invariant-loop-rest l = (first_deep 0 0 l.fn.tokens ≡ first_deep l.opened l.loops l.rest) × (l.opened + l.loops < 201)

abbrev pub decreases-loop-rest : goal.decreases-loop-rest
decreases-loop-rest l = length l.rest
