-- A loop, its index and what is done for each choice.
use Rattle.zim_nesting.specs.Depth.{a_loop}
use Rattle.zim_nesting.proofs.CountsLemmas.{given}
use Rattle.zim_nesting.proofs.StatementNesting.{depth-Forall}
use Rattle.zim_nesting.proofs.stmts.+depth_of_doing.Goals as goal

pub returns-in-Forall : goal.returns-in-Forall
returns-in-Forall t c =
    given _ _ (c.then.ensures a_loop _ c.a_loop.ensures (c.then-rest.ensures _ _ c.depth_of_index.ensures c.depth_of_doing.ensures)) (simp (c.get-in-Forall.ensures, c.get-in-Forall-2.ensures, c.in-Forall.is, depth-Forall))
