-- Brackets with nothing in them.
use Rattle.zim_nesting.specs.Depth.{no_nesting, nesting_in_brackets}
use Rattle.zim_nesting.proofs.CountsLemmas.{given}
use Rattle.zim_nesting.proofs.stmts.depth_of_bracket.Goals as goal

pub returns-in-Empty : goal.returns-in-Empty
returns-in-Empty c = given (nesting_in_brackets no_nesting) _ (c.inside.ensures no_nesting c.plain.ensures) (simp c.in-Empty.is)
