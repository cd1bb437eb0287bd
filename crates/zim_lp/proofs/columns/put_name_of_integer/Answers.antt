-- The pieces of an integer column's line.
use Rattle.std.proofs.Common.{ℕ, List, cond, [], sym, ap, subst}
use Rattle.zim_gate.specs.Pen.{Writes}
use Rattle.zim_gate.proofs.PenLaws.{◌▸◌, Writes-nothing}
use Rattle.zim_lp.specs.FileText.{general_text}
use Rattle.zim_lp.specs.Text.{lp_column}
use Rattle.zim_lp.proofs.columns.put_name_of_integer.Goals as goal

pub returns-then-column : goal.returns-then-column
returns-then-column g c =
    subst
    (λ (t : List ℕ). Writes g.F.Folder.state c.args.pen.now c.put-then-column.new.self t)
    (sym (ap (λ b. cond b (general_text (lp_column (c.args.number, c.args.column.now))) []) c.if-column.true))
    (c.put.ensures ▸ c.put_column_name.ensures ▸ c.put-then-column.ensures)

pub returns-else-column : goal.returns-else-column
returns-else-column g c =
    subst
    (λ (t : List ℕ). Writes g.F.Folder.state c.args.pen.now c.args.pen.now t)
    (sym (ap (λ b. cond b (general_text (lp_column (c.args.number, c.args.column.now))) []) c.if-column.false))
    (Writes-nothing c.args.pen.now)
