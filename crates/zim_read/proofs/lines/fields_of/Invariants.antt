-- The fields so far, and those of the rest behind the bytes of a field that is open.
use Rattle.std.proofs.Common.{◌≡◌, ◌≤◌, ◌++◌, drop}
use Rattle.std.specs.Prelude.{slice_range}
use Rattle.zim_read.specs.Lines.{line_fields}
use Rattle.zim_read.specs.Private.{lent}
use Rattle.zim_read.proofs.LineLemmas.{fields_behind}
use Rattle.zim_read.proofs.lines.fields_of.Given as goal

abbrev pub invariant-loop-at : goal.invariant-loop-at
invariant-loop-at l = record {
  from : l.from ≤ l.at;
  fields : line_fields l.line ≡ lent l.fields.items ++ fields_behind (slice_range l.line l.from l.at) l.inside (drop l.at l.line);
}
