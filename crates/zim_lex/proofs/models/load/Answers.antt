-- The model's load is its expansion from nothing.
use Rattle.zim_lex.proofs.LoadLemmas.{loads_all, loads_stop}
use Rattle.zim_lex.proofs.models.load.Goals as goal

pub returns-in-Ok : goal.returns-in-Ok
returns-in-Ok g c =
    let expands = rw (c.new.ensures, c.new-2.ensures) at c.in-Ok.ensures.expands in
    loads_all (g.F.Folder.state c.args.folder.now) (g.F.Folder.state c.expand-result.new.folder) c.args.name.now c.expand-result.new.so_far c.in-Ok.field-0 expands (rw c.new-2.ensures at c.in-Ok.ensures.opened) c.in-Ok.ensures.begun

pub returns-in-Err : goal.returns-in-Err
returns-in-Err g c =
    let expands = rw (c.new.ensures, c.new-2.ensures) at c.in-Err.ensures.expands in
    rw c.load_fault.ensures (loads_stop (g.F.Folder.state c.args.folder.now) (g.F.Folder.state c.expand-result.new.folder) c.args.name.now c.expand-result.new.so_far c.in-Err.stop expands (rw c.new-2.ensures at c.in-Err.ensures.opened) c.in-Err.ensures.begun)
