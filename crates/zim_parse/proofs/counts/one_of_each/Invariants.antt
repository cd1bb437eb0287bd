-- The bounds from below and from above so far.
use Rattle.std.proofs.Common.{◌≡◌, ◌≤◌, not, take, count_by}
use Rattle.zim_tree.specs.declared.stmt.Limit.{Limit}
use Rattle.zim_parse.proofs.counts.one_of_each.Given as goal

abbrev pub invariant-loop-limit : goal.invariant-loop-limit
invariant-loop-limit l = record {
  lower : l.lower ≡ count_by (λ (x : Limit). x.lower) (take l.limit-index l.limits);
  upper : l.upper ≡ count_by (λ (x : Limit). not x.lower) (take l.limit-index l.limits);
  few : (l.lower ≤ l.limit-index) × (l.upper ≤ l.limit-index);
}
