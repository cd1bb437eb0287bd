-- Terms that begin at another column don't have it, and 0 is short.
use Rattle.std.proofs.Common.{ap, ◌∙◌}
use Rattle.zim_linear.specs.Forms.{Term}
use Rattle.zim_mps.proofs.CostLemmas.{no_cost_here}
use Rattle.zim_mps.proofs.Numbers.{short_zero}
use Rattle.zim_mps.proofs.costs.split_cost.Goals as goal

pub returns-in-empty-clause-short : goal.returns-in-empty-clause-short
returns-in-empty-clause-short c = short_zero _ c.zero.ensures

pub returns-else-first-column-clause-cost : goal.returns-else-first-column-clause-cost
returns-else-first-column-clause-cost c =
    c.zero-else-first-column.ensures
    ∙ no_cost_here c.args.column c.args.terms.now c.first-item.result c.in-len1-up.len_at_least c.requires (λ e. c.if-first-column.false (ap (λ (t : Term). t.0) c.first-item.is ∙ e))

pub returns-else-first-column-clause-short : goal.returns-else-first-column-clause-short
returns-else-first-column-clause-short c = short_zero _ c.zero-else-first-column.ensures
