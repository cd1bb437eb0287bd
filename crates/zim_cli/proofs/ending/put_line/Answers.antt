-- Each line is what its ending has.
use Rattle.zim_cli.proofs.ending.put_line.Goals as goal

pub returns-in-Unread : goal.returns-in-Unread
returns-in-Unread g c = rw (c.in-Unread.is, ← c.as_slice.ensures) c.put_named.ensures

pub returns-in-Unwritten : goal.returns-in-Unwritten
returns-in-Unwritten g c = rw (c.in-Unwritten.is, ← c.as_slice-in-Unwritten.ensures) c.put_named-in-Unwritten.ensures

pub returns-in-Memory : goal.returns-in-Memory
returns-in-Memory g c = rw c.in-Memory.is c.put-in-Memory.ensures
