use Rattle.std.proofs.Common.{◌≡◌, ◌≤◌, ◌+◌, ◌-◌, ◌+ℤ◌, ◌++◌, map, length, unsigned_abs}
use Rattle.zim_fraction.specs.Limit.{limit}
use Rattle.zim_sets.specs.Ranges.{progression, range_count, single, range_tuples}
use Rattle.zim_sets.proofs.ranges.numbers_within.Given as goal

abbrev pub decreases-steps : goal.decreases-steps
decreases-steps l = l.count - length l.made

abbrev pub invariant-steps : goal.invariant-steps
invariant-steps l = record {
  listed : l.made ++ map single (progression (l.number +ℤ l.s) l.s (l.count - length l.made)) ≡ range_tuples l.n l.m l.s;
  within : length l.made ≤ l.count;
  left : range_count l.number l.m l.s + length l.made ≡ l.count + 1;
  bounded : unsigned_abs l.number ≤ limit;
}
