use Rattle.std.proofs.Common.{ap, ◌∙◌}
use Rattle.zim_static.specs.Around.{names_in}
use Rattle.zim_sort.specs.Parts.{as_term}
use Rattle.zim_sort.proofs.CodeLemmas.{becomes}
use Rattle.zim_sort.proofs.PartLemmas.{as_some_term}
use Rattle.zim_sort.proofs.terms.boxed_term.Goals as goal

pub returns : goal.returns
returns c = becomes _ (ap as_term c.in_ok-part.ensures ∙ as_some_term c.args.scope.now (names_in c.args.scope.now c.args.around.now) c.args.tree.now) c.boxed_term_of.ensures
