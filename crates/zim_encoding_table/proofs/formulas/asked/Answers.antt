-- What is made of parts over some columns is over them.
use Rattle.std.proofs.Common.{refl}
use Rattle.zim_encoding_table.proofs.OverLemmas.{term_here, at_most_over, at_least_over, equal_over}
use Rattle.zim_encoding_table.proofs.formulas.asked.Goals as goal

pub invariant_of-result : goal.invariant_of-result
invariant_of-result c = record { over = at_most_over c.args.left.columns _ c.in_ok-left.left c.in_ok-right.right (term_here refl c.in_ok-left.ensures c.args.left.over) (term_here c.if-right-columns.false c.in_ok-right.ensures c.args.right.over) }

pub invariant_of-result-in-AtLeast : goal.invariant_of-result-in-AtLeast
invariant_of-result-in-AtLeast c = record { over = at_least_over c.args.left.columns _ c.in_ok-left.left c.in_ok-right.right (term_here refl c.in_ok-left.ensures c.args.left.over) (term_here c.if-right-columns.false c.in_ok-right.ensures c.args.right.over) }

pub invariant_of-result-in-Equal : goal.invariant_of-result-in-Equal
invariant_of-result-in-Equal c = record { over = equal_over c.args.left.columns _ c.in_ok-left.left c.in_ok-right.right (term_here refl c.in_ok-left.ensures c.args.left.over) (term_here c.if-right-columns.false c.in_ok-right.ensures c.args.right.over) }
