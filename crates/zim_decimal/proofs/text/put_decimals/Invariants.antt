use Rattle.std.proofs.Common.{◌≡◌, ◌<◌, ◌≤◌, ◌+◌, ◌-◌, ◌++◌, take}
use Rattle.zim_decimal.specs.Short.{decimals}
use Rattle.zim_decimal.proofs.text.put_decimals.Given as goal

abbrev pub invariant-loop-place : goal.invariant-loop-place
invariant-loop-place l = record {
  within : l.end ≤ l.fn.at + l._place;
  below : l.left < l.denom;
  text : take l.end l.to ++ decimals (15 - l._place) l.denom l.left ≡ take l.fn.at l.fn.to ++ decimals 15 l.denom l.rest;
}
