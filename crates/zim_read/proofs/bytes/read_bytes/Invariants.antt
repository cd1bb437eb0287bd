-- What is taken and what is left are the file that was open, and what is taken is within the limit.
use Rattle.std.proofs.Common.{◌≡◌, ◌-◌, ◌≤◌, length}
use Rattle.std.specs.Io.KnownBytes.{prepend_known}
use Rattle.zim_read.specs.Lines.{most_file_bytes}
use Rattle.zim_gate.specs.Folder.{OnlyRead}
use Rattle.zim_read.proofs.bytes.read_bytes.Given as goal

abbrev pub invariant-loop-count : goal.invariant-loop-count
invariant-loop-count g l =
    let state = g.F.Folder.state in
    record {
      only : OnlyRead (state l.fn.folder) (state l.folder);
      begun : (state l.folder).begun ≡ (state l.fn.folder).begun;
      taken : (state l.fn.folder).rest ≡ prepend_known l.bytes (state l.folder).rest;
      limit : length l.bytes ≤ most_file_bytes;
    }

abbrev pub decreases-loop-count : goal.decreases-loop-count
decreases-loop-count g l = most_file_bytes - length l.bytes
