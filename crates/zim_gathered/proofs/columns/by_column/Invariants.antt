-- The tree holds the terms so far.
use Rattle.std.proofs.Common.{◌≡◌, take}
use Rattle.zim_gathered.proofs.columns.by_column.Given as goal

abbrev pub invariant-loop-term : goal.invariant-loop-term
invariant-loop-term l = l.made.entries ≡ take l.term-index l.terms
