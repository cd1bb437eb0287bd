-- What is taken and what is left are the file that was open, and what is taken and the room are the limit.
use Rattle.std.proofs.Common.{◌≡◌, ◌+◌, length}
use Rattle.std.specs.Io.KnownBytes.{prepend_known}
use Rattle.zim_gate.specs.Folder.{OnlyRead}
use Rattle.zim_lex.proofs.reading.read_lines.Given as goal

abbrev pub invariant-loop-count : goal.invariant-loop-count
invariant-loop-count g l =
    let state = g.F.Folder.state in
    record {
      only : OnlyRead (state l.fn.folder) (state l.folder);
      begun : (state l.folder).begun ≡ (state l.fn.folder).begun;
      taken : (state l.fn.folder).rest ≡ prepend_known l.text (state l.folder).rest;
      limit : l.room + length l.text ≡ l.most;
    }

abbrev pub decreases-loop-count : goal.decreases-loop-count
decreases-loop-count g l = l.room
