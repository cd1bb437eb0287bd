-- What is taken at the file's end, or at its first byte too many.
use Rattle.std.proofs.Common.{arith}
use Rattle.std.proofs.lemmas.Result.{err_from_is_err_and}
use Rattle.zim_lex.proofs.ReadingLemmas.{all_taken, too_many}
use Rattle.zim_lex.proofs.LinesLemmas.{lines_short}
use Rattle.zim_lex.proofs.reading.read_lines.Goals as goal

pub returns-in_err-lines-clause-text : goal.returns-in_err-lines-clause-text
returns-in_err-lines-clause-text g c =
    let p = err_from_is_err_and c.from_residual.result c.from_residual.ensures.1 in rw (p.1, p.2) tt

pub returns-in_err-add-clause-text : goal.returns-in_err-add-clause-text
returns-in_err-add-clause-text g c =
    let p = err_from_is_err_and c.from_residual-in_err-add.result c.from_residual-in_err-add.ensures.1 in rw (p.1, p.2) tt

pub returns-in_err-add-2-clause-text : goal.returns-in_err-add-2-clause-text
returns-in_err-add-2-clause-text g c =
    let p = err_from_is_err_and c.from_residual-in_err-add-2.result c.from_residual-in_err-add-2.ensures.1 in rw (p.1, p.2) tt

pub returns-then-count-eq0-clause-text : goal.returns-then-count-eq0-clause-text
returns-then-count-eq0-clause-text g c =
    all_taken (g.F.Folder.state c.args.folder.now).rest (g.F.Folder.state c.loop-count.folder).rest c.loop-count.text (record { lines = c.in_ok-lines.lines; room = c.loop-count.room }) c.args.most c.loop-count.invariant.taken (c.in-Ok.ensures.ok.at_end c.if-count-eq0.true) c.loop-count.invariant.limit c.in_ok-lines.ensures

pub returns-then-count-room-clause-text : goal.returns-then-count-room-clause-text
returns-then-count-room-clause-text g c =
    rw (c.line.ensures, c.in_ok-add.ensures)
    (too_many (g.F.Folder.state c.args.folder.now).rest (g.F.Folder.state c.loop-count.folder).rest (g.F.Folder.state c.read.new.self).rest c.loop-count.text c.read.new.buf c.in-Ok.count c.loop-count.room c.args.most
    c.loop-count.invariant.taken c.in-Ok.ensures.ok.rest c.loop-count.invariant.limit c.if-count-room.true c.in-Ok.ensures.ok.within)

pub returns-then-count-eq0-clause-within : goal.returns-then-count-eq0-clause-within
returns-then-count-eq0-clause-within g c = rw c.in_ok-lines.ensures (omega (arith, c.loop-count.invariant.limit, lines_short c.loop-count.text))
