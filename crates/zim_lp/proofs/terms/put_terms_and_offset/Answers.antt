-- The first term, the further ones and the constant.
use Rattle.std.proofs.Common.{ℕ, List, subst}
use Rattle.zim_gate.specs.Pen.{Writes}
use Rattle.zim_gate.proofs.PenLaws.{◌▸◌}
use Rattle.zim_rows.specs.Named.{offset_name}
use Rattle.zim_lp.specs.Text.{short_number}
use Rattle.zim_lp.proofs.Pieces.{terms_in_three}
use Rattle.zim_lp.proofs.terms.put_terms_and_offset.Goals as goal

pub returns-in-len1-up : goal.returns-in-len1-up
returns-in-len1-up g c =
    subst
    (λ (t : List ℕ). Writes g.F.Folder.state c.args.pen.now c.put_further_offset.new.pen t)
    (terms_in_three c.args.terms.now c.first-item.result (record { number = short_number c.args.constant; name = offset_name }) c.in-len1-up.len_at_least c.first-item.is)
    (c.put_first_term.ensures ▸ c.put_further_terms.ensures ▸ c.put_further_offset.ensures)
