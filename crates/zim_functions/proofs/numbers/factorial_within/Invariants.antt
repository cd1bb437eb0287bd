-- So far it is the product of the numbers up to k, and within the limit.
use Rattle.std.proofs.Common.{◌≡◌, ◌≤◌, pos}
use Rattle.zim_fraction.specs.Limit.{limit}
use Rattle.zim_functions.specs.Numbers.{product_to}
use Rattle.zim_rational.specs.Rational.{whole}
use Rattle.zim_functions.proofs.numbers.factorial_within.Given as goal

abbrev pub invariant-loop-k : goal.invariant-loop-k
invariant-loop-k l = record {
  product : l.product ≡ whole (pos (product_to l.k));
  within : product_to l.k ≤ limit;
}
