use Rattle.std.proofs.Common.{subst, sym, ap, ap₂, ◌∙◌}
use Rattle.zim_linear.specs.Forms.{AreTerms, form_of}
use Rattle.zim_linear.specs.Sums.{negated_terms}
use Rattle.zim_rational.specs.Rational.{negate}
use Rattle.zim_linear.proofs.NegationLaws.{negated_from}
use Rattle.zim_linear.proofs.sum.negated.Goals as goal

pub of_terms-requires : goal.of_terms-requires
of_terms-requires c =
    subst AreTerms (sym (c.in_ok-terms.ensures ∙ ap negated_terms c.terms.ensures.value)) (negated_from 0 c.args.a.now.terms c.terms.ensures.ordered)

pub returns : goal.returns
returns c =
    c.of_terms.ensures ∙ ap₂ form_of (c.in_ok-terms.ensures ∙ ap negated_terms c.terms.ensures.value) (c.negated.ensures ∙ ap negate c.constant_part.ensures)
