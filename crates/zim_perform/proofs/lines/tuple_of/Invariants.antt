-- What was made so far leads on to the whole tuple.
use Rattle.std.proofs.Common.{◌≡◌, drop}
use Rattle.zim_answer.specs.Answer.{goes}
use Rattle.zim_meaning.specs.Expressions.{with_component}
use Rattle.zim_meaning.specs.Statements.{const_known}
use Rattle.zim_perform.specs.Private.{tuple_printed}
use Rattle.zim_perform.proofs.lines.tuple_of.Given as goal

abbrev pub invariant-loop-tree : goal.invariant-loop-tree
invariant-loop-tree l = goes (with_component (const_known l.world) l.env) l.made (drop l.tree-index l.trees) ≡ tuple_printed l.world l.env l.trees
