-- The positions so far are those of the numbers so far.
use Rattle.std.proofs.Common.{◌≡◌, map, take, unsigned_abs}
use Rattle.zim_operators.proofs.members.as_positions.Given as goal

abbrev pub invariant-loop-number : goal.invariant-loop-number
invariant-loop-number l = l.positions ≡ map (λ q. unsigned_abs q.numer) (take l.number-index l.numbers)
