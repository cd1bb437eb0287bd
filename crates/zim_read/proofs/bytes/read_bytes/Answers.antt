-- What is taken at the file's end, or at its first byte too many.
use Rattle.std.proofs.Common.{arith}
use Rattle.zim_read.proofs.FolderLemmas.{all_taken, too_many}
use Rattle.zim_read.proofs.bytes.read_bytes.Goals as goal

pub returns-then-count-eq0-clause-tells : goal.returns-then-count-eq0-clause-tells
returns-then-count-eq0-clause-tells g c =
    all_taken (g.F.Folder.state c.args.folder.now).rest (g.F.Folder.state c.loop-count.folder).rest c.loop-count.bytes c.loop-count.invariant.taken (c.in-Ok.ensures.ok.at_end c.if-count-eq0.true) c.loop-count.invariant.limit

pub returns-then-count-room-clause-tells : goal.returns-then-count-room-clause-tells
returns-then-count-room-clause-tells g c =
    rw c.in_ok-extend_from_slice.ensures.ok
    (too_many (g.F.Folder.state c.args.folder.now).rest (g.F.Folder.state c.loop-count.folder).rest (g.F.Folder.state c.read.new.self).rest c.loop-count.bytes c.read.new.buf c.in-Ok.count _
    c.loop-count.invariant.taken c.in-Ok.ensures.ok.rest (omega (arith, c.len-room.ensures, c.loop-count.invariant.limit)) c.if-count-room.true c.in-Ok.ensures.ok.within)
