-- One component more.
use Rattle.std.proofs.Common.{List, ℕ, ◌++◌, take, sym, subst}
use Rattle.std.specs.Prelude.{flat_map}
use Rattle.zim_gate.specs.Pen.{Writes}
use Rattle.zim_gate.proofs.PenLaws.{◌▸◌, Writes-nothing}
use Rattle.zim_tuples.specs.declared.elements.Elem.{Elem}
use Rattle.zim_table.specs.Text.{further_text}
use Rattle.zim_table.proofs.FoundLemmas.{text_next}
use Rattle.zim_table.proofs.tuples.put_others.Goals as goal

pub loop-element-init : goal.loop-element-init
loop-element-init g c = Writes-nothing c.args.pen.now

pub loop-element-preserved : goal.loop-element-preserved
loop-element-preserved g c =
    subst
    (λ (t : List ℕ). Writes g.F.Folder.state c.args.pen.now c.put_element.new.pen t)
    (sym (text_next further_text c.args.others.now c.loop-element.element-index c.element-item.result c.loop-element-test.true))
    (subst
    (λ (e : Elem). Writes g.F.Folder.state c.args.pen.now c.put_element.new.pen (flat_map further_text (take c.loop-element.element-index c.args.others.now) ++ further_text e))
    c.element-item.is
    (c.loop-element.invariant ▸ (c.put.ensures ▸ c.put_element.ensures)))
