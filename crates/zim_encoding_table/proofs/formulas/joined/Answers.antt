-- What is made of parts over some columns is over them.
use Rattle.std.proofs.Common.{refl}
use Rattle.zim_encoding_table.proofs.OverLemmas.{alone, condition_here, joined_over}
use Rattle.zim_encoding_table.proofs.formulas.joined.Goals as goal

pub invariant_of-result : goal.invariant_of-result
invariant_of-result c = record { over = joined_over c.args.left.columns c.in_ok-new.field-0 c.args.right.tree _ c.args.join c.push.new.self (alone c.in_ok-push.ensures.ok c.new-others.ensures) (condition_here refl c.in_ok-new.ensures c.args.left.over) (condition_here c.if-right-columns.false refl c.args.right.over) }
