use Rattle.std.proofs.Common.{ap}
use Rattle.zim_nesting.specs.declared.counts.Counts.{Counts}
use Rattle.zim_nesting.proofs.stmts.nesting.Goals as goal

pub returns : goal.returns
returns c = ap (λ (x : Counts). x.deepest) (simp c.get.ensures at c.depth_of_shape.ensures)
