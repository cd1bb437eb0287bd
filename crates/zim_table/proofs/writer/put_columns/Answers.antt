-- One column more.
use Rattle.std.proofs.Common.{List, ℕ, ◌+◌, IsTrue, Option, drop, refl, sym, ap, ◌∙◌, subst, arith}
use Rattle.zim_columns.specs.declared.declared.Declared.{Declared}
use Rattle.zim_columns.specs.Names.{are_rising}
use Rattle.zim_gate.specs.Pen.{Writes}
use Rattle.zim_gate.proofs.PenLaws.{◌▸◌, Writes-nothing}
use Rattle.zim_table.specs.Text.{declared_at, lines_text, column_text}
use Rattle.zim_table.proofs.FoundLemmas.{range_next, stepped}
use Rattle.zim_table.proofs.writer.put_columns.Goals as goal

pub loop-index-init : goal.loop-index-init
loop-index-init g c = record {
  put = Writes-nothing c.args.pen.now;
  few = omega arith;
  left = λ j h. refl;
  rising = c.requires.rising;
}

pub loop-index-preserved : goal.loop-index-preserved
loop-index-preserved g c =
    let ds : List Declared = c.args.declared.now in
    let i : ℕ = c.loop-index.index in
    let known = c.loop-index.invariant in
    let step = stepped ds i c.loop-index.next known.left known.rising in
    let next = c.put_column-next.ensures.next in
    record {
      put =
          subst
          (λ (t : List ℕ). Writes g.F.Folder.state c.args.pen.now c.put_column-next.new.pen t)
          (sym (range_next (column_text ds) i))
          (known.put ▸ subst (λ (found : Option Declared). Writes g.F.Folder.state c.loop-index.pen c.put_column-next.new.pen (lines_text (i + 1) found)) (sym step.is) c.put_column-next.ensures.put);
      few = let few = step.few in let before = known.few in omega (arith, few, before, next);
      left = λ j h. step.left j h ∙ ap (λ (n : ℕ). declared_at (drop n ds) j) (sym next);
      rising = subst (λ (n : ℕ). IsTrue (are_rising (i + 1 + 1) (drop n ds))) (sym next) step.rising;
    }
