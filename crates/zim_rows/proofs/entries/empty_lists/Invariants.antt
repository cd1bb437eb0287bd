use Rattle.std.proofs.Common.{◌≡◌, [], replicate}
use Rattle.zim_rows.proofs.entries.empty_lists.Given as goal

abbrev pub invariant-loop-column : goal.invariant-loop-column
invariant-loop-column l = l.lists.items ≡ replicate l._column []
