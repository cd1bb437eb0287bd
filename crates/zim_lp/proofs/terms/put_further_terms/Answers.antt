-- One more.
use Rattle.std.proofs.Common.{ℕ, List, subst}
use Rattle.zim_gate.specs.Pen.{Writes}
use Rattle.zim_gate.proofs.PenLaws.{◌▸◌, Writes-nothing}
use Rattle.zim_lp.proofs.Pieces.{numbered_term, numbered_step}
use Rattle.zim_lp.proofs.terms.put_further_terms.Goals as goal

pub loop-index-init : goal.loop-index-init
loop-index-init g c = Writes-nothing c.args.pen.now

pub loop-index-preserved : goal.loop-index-preserved
loop-index-preserved g c =
    subst
    (λ (t : List ℕ). Writes g.F.Folder.state c.args.pen.now c.put_further_term.new.pen t)
    (numbered_step numbered_term 1 c.args.terms.now c.loop-index.index c.index-terms-index.result c.loop-index-test.true c.index-terms-index.is)
    (c.loop-index.invariant ▸ c.put_further_term.ensures)
