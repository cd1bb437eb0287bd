-- A difference is the sum with the negated number.
use Rattle.std.proofs.Common.{◌≡◌, ap, subst, IfOk, ◌∙◌}
use Rattle.zim_rational.specs.Rational.{Rational, plus, minus}
use Rattle.zim_fraction.specs.Answers.{sum_answer}
use Rattle.zim_fraction.proofs.SumLaws.{difference_is}
use Rattle.zim_fraction.proofs.sum.sub.Goals as goal

pub returns-clause-answer : goal.returns-clause-answer
returns-clause-answer c = c.add.ensures.answer ∙ ap (sum_answer c.args.a) c.negated.ensures ∙ difference_is c.args.a c.args.b

pub returns-clause-ok : goal.returns-clause-ok
unfolding minus
returns-clause-ok c =
    subst (λ (r : Rational). IfOk c.add.result (λ q. q ≡ plus c.args.a r)) c.negated.ensures c.add.ensures.ok
