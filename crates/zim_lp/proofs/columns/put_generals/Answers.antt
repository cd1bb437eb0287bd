-- The heading stands exactly where a column is integer.
use Rattle.std.proofs.Common.{ℕ, List, sym, subst, ◌∙◌}
use Rattle.zim_gate.specs.Pen.{Writes}
use Rattle.zim_gate.proofs.PenLaws.{◌▸◌, Writes-nothing}
use Rattle.zim_lp.proofs.Pieces.{generals_in_two, no_generals}
use Rattle.zim_lp.proofs.columns.put_generals.Goals as goal

pub returns-then-has_integer : goal.returns-then-has_integer
returns-then-has_integer g c =
    subst
    (λ (t : List ℕ). Writes g.F.Folder.state c.args.pen.now c.put_integer_names.new.pen t)
    (generals_in_two c.args.columns.now (sym c.has_integer.ensures ∙ c.if-has_integer.true))
    (c.put.ensures ▸ c.put_integer_names.ensures)

pub returns-else-has_integer : goal.returns-else-has_integer
returns-else-has_integer g c =
    subst
    (λ (t : List ℕ). Writes g.F.Folder.state c.args.pen.now c.args.pen.now t)
    (no_generals c.args.columns.now (sym c.has_integer.ensures ∙ c.if-has_integer.false))
    (Writes-nothing c.args.pen.now)
