-- The fault of the name, and then those of what stands behind it.
use Rattle.zim_static.proofs.FirstLaws.{of_two}
use Rattle.zim_static.proofs.statements.statement_fault.Goals as goal

pub returns : goal.returns
returns c = of_two _ _ (simp (simp c.get.ensures at c.is_declared_again.ensures) at c.mark.ensures) (simp c.get-2.ensures at c.shape_fault.ensures) c.or.ensures
