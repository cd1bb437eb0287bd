-- What is open here decides what is open at the end.
use Rattle.std.proofs.Common.{◌≡◌, false, drop}
use Rattle.zim_read.specs.Lines.{is_left_open}
use Rattle.zim_read.proofs.lines.is_left_open.Given as goal

abbrev pub invariant-loop-byte : goal.invariant-loop-byte
invariant-loop-byte l = is_left_open l.inside (drop l.byte-index l.line) ≡ is_left_open false l.line
