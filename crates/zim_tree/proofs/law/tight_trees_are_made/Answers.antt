use Rattle.zim_tree.proofs.MadeLemmas.{reads-made}
use Rattle.zim_tree.proofs.StatementMadeLemmas.{statement-made}
use Rattle.zim_tree.proofs.law.tight_trees_are_made.Goals as goal

pub returns-clause-expressions : goal.returns-clause-expressions
returns-clause-expressions c = λ level ts e d. reads-made d

pub returns-clause-statements : goal.returns-clause-statements
returns-clause-statements c = λ ts stmt d. statement-made d
