-- One term after another, until one of them stops the call.
use Rattle.std.proofs.Common.{sym, arith}
use Rattle.std.proofs.lemmas.Result.{err_from_is_err_and}
use Rattle.zim_answer.specs.Answer.{goes}
use Rattle.zim_answer.proofs.GivesLemmas.{Stops-goes}
use Rattle.zim_answer.proofs.GoesLemmas.{goes_next, goes_done}
use Rattle.zim_gathered.specs.Added.{term_added}
use Rattle.zim_gathered.proofs.columns.add_terms.Goals as goal

pub returns-in_err-add_term-clause-sum : goal.returns-in_err-add_term-clause-sum
returns-in_err-add_term-clause-sum c =
    let p = err_from_is_err_and c.from_residual.result c.from_residual.ensures.1 in
    rw (p.1, p.2)
    (Stops-goes term_added c.loop-term.coefficients.entries c.args.terms.now c.loop-term.term-index c.term-item.result _ (goes term_added c.args.coefficients.now.entries c.args.terms.now) c.loop-term-test.true (sym c.term-item.is) c.in_err-add_term.ensures.sum c.loop-term.invariant.leads)

pub loop-term-preserved : goal.loop-term-preserved
loop-term-preserved c = record {
  ordered = c.in_ok-add_term.ensures.ordered;
  leads = goes_next term_added c.loop-term.coefficients.entries c.add_term.new.coefficients.entries c.args.terms.now c.loop-term.term-index c.term-item.result _ c.loop-term-test.true (sym c.term-item.is) c.in_ok-add_term.ensures.sum c.loop-term.invariant.leads;
}

pub returns-clause-sum : goal.returns-clause-sum
returns-clause-sum c =
    goes_done term_added c.loop-term.coefficients.entries c.args.terms.now c.loop-term.term-index _ (omega (arith, c.loop-term-test.false)) c.loop-term.invariant.leads
