-- What a term makes is a form that is its number.
use Rattle.zim_vabs.proofs.TermCallLemmas.{form_made}
use Rattle.zim_vabs.proofs.terms.form_of.Goals as goal

pub returns-clause-made : goal.returns-clause-made
returns-clause-made c = form_made c.args.from c.args.t.now c.args.system.now _ _ c.valid.ensures c.requires c.term.ensures
