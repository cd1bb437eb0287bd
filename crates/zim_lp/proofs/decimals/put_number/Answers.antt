-- The sign, and the magnitude.
use Rattle.std.proofs.Common.{ℕ, List, ◌++◌, cond, [], pos, ap, subst, ◌∙◌}
use Rattle.std.specs.Prelude.{codes, int_lt}
use Rattle.zim_gate.specs.Pen.{Writes}
use Rattle.zim_gate.proofs.PenLaws.{◌▸◌}
use Rattle.zim_lp.specs.Text.{short_number}
use Rattle.zim_lp.proofs.Pieces.{signed_text}
use Rattle.zim_lp.proofs.decimals.put_number.Goals as goal

pub returns : goal.returns
returns g c =
    subst
    (λ (t : List ℕ). Writes g.F.Folder.state c.args.pen.now c.put_magnitude.new.pen t)
    (ap (λ sign. sign ++ (short_number c.args.number).absolute) (c.minus.ensures ∙ ap (λ b. cond b (codes "-") []) c.is_negative.ensures)
    ∙ signed_text (int_lt c.args.number.numer (pos 0)) (short_number c.args.number).absolute)
    (c.put.ensures ▸ c.put_magnitude.ensures)
