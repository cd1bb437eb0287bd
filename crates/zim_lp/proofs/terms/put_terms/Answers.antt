-- The first term and the further ones.
use Rattle.std.proofs.Common.{ℕ, List, subst}
use Rattle.zim_gate.specs.Pen.{Writes}
use Rattle.zim_gate.proofs.PenLaws.{◌▸◌}
use Rattle.zim_lp.proofs.Pieces.{terms_in_two}
use Rattle.zim_lp.proofs.terms.put_terms.Goals as goal

pub returns-in-len1-up : goal.returns-in-len1-up
returns-in-len1-up g c =
    subst
    (λ (t : List ℕ). Writes g.F.Folder.state c.args.pen.now c.put_further_terms.new.pen t)
    (terms_in_two c.args.columns c.args.terms.now c.first-item.result c.in-len1-up.len_at_least c.first-item.is)
    (c.put_first_term.ensures ▸ c.put_further_terms.ensures)
