-- What is made of parts over some columns is over them.
use Rattle.std.proofs.Common.{refl}
use Rattle.zim_encoding_table.proofs.OverLemmas.{alone, two, constraint_here, both_over}
use Rattle.zim_encoding_table.proofs.formulas.both.Goals as goal

pub invariant_of-result : goal.invariant_of-result
invariant_of-result c = record { over = both_over c.args.first.columns c.args.first.tree c.args.second.tree c.push-2.new.self (two c.in_ok-push-2.ensures.ok (alone c.in_ok-push.ensures.ok c.new-parts.ensures)) c.args.first.over (constraint_here c.if-second-columns.false refl c.args.second.over) }
