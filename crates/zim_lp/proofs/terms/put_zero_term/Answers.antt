-- The number 0 and the name.
use Rattle.std.proofs.Common.{ℕ, List, ◌++◌, ap, subst, ◌∙◌}
use Rattle.std.specs.Prelude.{codes}
use Rattle.zim_gate.specs.Pen.{Writes}
use Rattle.zim_gate.proofs.PenLaws.{◌▸◌}
use Rattle.zim_lp.proofs.Pieces.{zero_text}
use Rattle.zim_lp.proofs.terms.put_zero_term.Goals as goal

pub returns : goal.returns
returns g c =
    subst
    (λ (t : List ℕ). Writes g.F.Folder.state c.args.pen.now c.put-2.new.self t)
    (ap (λ name. codes "0 " ++ name) c.name_of_first.ensures ∙ zero_text c.args.columns)
    (c.put.ensures ▸ c.put-2.ensures)
