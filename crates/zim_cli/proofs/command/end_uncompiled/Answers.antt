-- What was printed by then was put, or a first part of it.
use Rattle.zim_cli.proofs.command.end_uncompiled.Goals as goal

pub returns-in-Refused : goal.returns-in-Refused
returns-in-Refused g c = rw (c.in-Refused.is, ← c.as_slice.ensures) c.end_with.ensures

pub returns-in-Read : goal.returns-in-Read
returns-in-Read g c = rw (c.in-Read.is, ← c.as_slice-in-Read.ensures) c.end_with-in-Read.ensures
