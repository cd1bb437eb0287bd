-- What the absolute value of a term makes is a form that is it.
use Rattle.zim_vabs.proofs.TermCallLemmas.{absolute_made}
use Rattle.zim_vabs.proofs.terms.absolute.Goals as goal

pub returns-clause-made : goal.returns-clause-made
returns-clause-made c = absolute_made c.args.from c.args.t.now c.args.system.now _ _ c.valid.ensures c.requires c.absolute_term.ensures
