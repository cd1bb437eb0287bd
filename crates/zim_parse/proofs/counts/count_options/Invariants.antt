-- The options with the word so far.
use Rattle.std.proofs.Common.{◌≡◌, ◌≤◌, take}
use Rattle.zim_parse.specs.StatementSteps.{count_options}
use Rattle.zim_parse.proofs.counts.count_options.Given as goal

abbrev pub invariant-loop-place : goal.invariant-loop-place
invariant-loop-place l = record {
  counted : l.count ≡ count_options l.wanted (take l._place-index l.options);
  few : l.count ≤ l._place-index;
}
