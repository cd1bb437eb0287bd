-- What is made of parts over some columns is over them.
use Rattle.std.proofs.Common.{refl}
use Rattle.zim_encoding_table.proofs.OverLemmas.{alone, term_here, sum_over}
use Rattle.zim_encoding_table.proofs.formulas.sum.Goals as goal

pub invariant_of-result : goal.invariant_of-result
invariant_of-result c = record { over = sum_over c.args.left.columns c.in_ok-new.field-0 c.args.right.tree _ c.args.minus c.push.new.self (alone c.in_ok-push.ensures.ok c.new-others.ensures) (term_here refl c.in_ok-new.ensures c.args.left.over) (term_here c.if-right-columns.false refl c.args.right.over) }
