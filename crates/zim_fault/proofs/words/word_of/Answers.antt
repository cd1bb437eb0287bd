-- What is found is spelled so, and each word is found by its spelling.
use Rattle.std.proofs.Common.{◌∙◌}
use Rattle.zim_fault.proofs.WordLemmas.{first_spelled-by, IsSpelled-first}
use Rattle.zim_fault.proofs.words.word_of.Goals as goal

pub returns-clause-spelled : goal.returns-clause-spelled
returns-clause-spelled c = rw c.first_spelled.ensures (IsSpelled-first c.args.text.now)

pub returns-clause-every : goal.returns-clause-every
returns-clause-every c word spelled = c.first_spelled.ensures ∙ first_spelled-by word c.args.text.now spelled
