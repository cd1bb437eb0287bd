-- One byte more.
use Rattle.std.proofs.Common.{List, ℕ, sym, subst}
use Rattle.zim_gate.specs.Pen.{Writes}
use Rattle.zim_gate.proofs.PenLaws.{◌▸◌, Writes-nothing}
use Rattle.zim_table.specs.Text.{escaped_byte}
use Rattle.zim_table.proofs.FoundLemmas.{text_next}
use Rattle.zim_table.proofs.tuples.put_escaped.Goals as goal

pub loop-byte-init : goal.loop-byte-init
loop-byte-init g c = Writes-nothing c.args.pen.now

pub loop-byte-preserved : goal.loop-byte-preserved
loop-byte-preserved g c =
    subst
    (λ (t : List ℕ). Writes g.F.Folder.state c.args.pen.now c.put_byte.new.pen t)
    (sym (text_next escaped_byte c.args.bytes.now c.loop-byte.byte-index 0 c.loop-byte-test.true))
    (c.loop-byte.invariant ▸ c.put_byte.ensures)
