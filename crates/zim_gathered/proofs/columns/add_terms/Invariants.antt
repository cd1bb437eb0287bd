-- The terms from here on lead from what the tree holds now to what all terms make.
use Rattle.std.proofs.Common.{◌≡◌, drop}
use Rattle.zim_answer.specs.Answer.{goes}
use Rattle.zim_linear.specs.Forms.{AreTerms}
use Rattle.zim_gathered.specs.Added.{term_added}
use Rattle.zim_gathered.proofs.columns.add_terms.Given as goal

abbrev pub invariant-loop-term : goal.invariant-loop-term
invariant-loop-term l = record {
  ordered : AreTerms l.coefficients.entries;
  leads : goes term_added l.coefficients.entries (drop l.term-index l.terms) ≡ goes term_added l.fn.coefficients.entries l.fn.terms;
}
