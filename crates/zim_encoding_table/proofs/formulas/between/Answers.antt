-- What is made of parts over some columns is over them.
use Rattle.std.proofs.Common.{refl}
use Rattle.zim_encoding_table.proofs.OverLemmas.{term_here, rising_over, falling_over}
use Rattle.zim_encoding_table.proofs.formulas.between.Goals as goal

pub invariant_of-result : goal.invariant_of-result
invariant_of-result c = record { over = rising_over c.args.term.columns _ c.args.first c.args.last c.in_ok-term.term (term_here refl c.in_ok-term.ensures c.args.term.over) }

pub invariant_of-result-else-rising : goal.invariant_of-result-else-rising
invariant_of-result-else-rising c = record { over = falling_over c.args.term.columns _ c.args.first c.args.last c.in_ok-term.term (term_here refl c.in_ok-term.ensures c.args.term.over) }
