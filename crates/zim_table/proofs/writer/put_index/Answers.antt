-- Nothing is put where there is no tuple, and else the tuple of the first component and the others.
use Rattle.std.proofs.Common.{ℕ, List, subst}
use Rattle.zim_gate.specs.Pen.{Writes}
use Rattle.zim_gate.proofs.PenLaws.{◌▸◌, Writes-nothing}
use Rattle.zim_table.proofs.PieceLemmas.{no_index, index_of}
use Rattle.zim_table.proofs.writer.put_index.Goals as goal

pub returns-in-None : goal.returns-in-None
returns-in-None g c = rw (no_index c.as_slice.result.now c.args.tuple.now c.as_slice.ensures c.in-None.ensures.cases) (Writes-nothing c.args.pen.now)

pub returns-in-Some : goal.returns-in-Some
returns-in-Some g c =
    subst
    (λ (t : List ℕ). Writes g.F.Folder.state c.args.pen.now c.put_tuple.new.pen t)
    (index_of c.as_slice.result.now c.args.tuple.now c.in-Some.first.now c.in-Some.others.now c.as_slice.ensures c.in-Some.ensures.cases.0)
    (c.put.ensures ▸ c.put_tuple.ensures)
