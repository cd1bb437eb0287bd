-- One entry more.
use Rattle.std.proofs.Common.{sym, subst}
use Rattle.zim_gate.specs.Pen.{Writes}
use Rattle.zim_gate.proofs.PenLaws.{Writes-nothing, Writes-next}
use Rattle.zim_linear.specs.Forms.{Term}
use Rattle.zim_rows.specs.Program.{IsShortTerm}
use Rattle.zim_mps.specs.Puts.{name_text}
use Rattle.zim_mps.specs.Text.{entry_text}
use Rattle.zim_mps.proofs.columns.put_entries.Goals as goal

pub loop-entry-init : goal.loop-entry-init
loop-entry-init g c = Writes-nothing c.args.pen.now

pub loop-entry-preserved : goal.loop-entry-preserved
loop-entry-preserved g c =
    Writes-next (entry_text (name_text c.args.name)) c.args.entries.now c.loop-entry.entry-index c.entry-item.result c.loop-entry-test.true c.loop-entry.invariant
    (subst (λ (e : Term). Writes g.F.Folder.state c.loop-entry.pen c.put_entry.new.pen (entry_text (name_text c.args.name) e)) c.entry-item.is c.put_entry.ensures)

pub put_entry-requires : goal.put_entry-requires
put_entry-requires g c =
    subst IsShortTerm (sym c.entry-item.is) (c.requires c.loop-entry.entry-index c.entry-item.result c.loop-entry-test.true)
