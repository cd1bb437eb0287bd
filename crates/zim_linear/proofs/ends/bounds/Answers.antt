use Rattle.std.proofs.Common.{ap, sym, ◌∙◌}
use Rattle.zim_linear.specs.Ends.{end_answer}
use Rattle.zim_linear.specs.declared.sides.End.TheVariants.{Least, Greatest}
use Rattle.zim_linear.proofs.ReachLemmas.{ends_from_answers}
use Rattle.zim_linear.proofs.ends.bounds.Goals as goal

pub returns-clause-ends : goal.returns-clause-ends
returns-clause-ends c =
    ends_from_answers _ _ _ c.terms.ensures.ordered (sym (c.in-Ok.ensures ∙ ap (end_answer Least c.args.sides.now) c.terms.ensures.value)) (sym (c.in-Ok-end.ensures ∙ ap (end_answer Greatest c.args.sides.now) c.terms-2.ensures.value))
