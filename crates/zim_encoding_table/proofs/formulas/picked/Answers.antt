-- What is made of parts over some columns is over them.
use Rattle.std.proofs.Common.{refl}
use Rattle.zim_encoding_table.proofs.OverLemmas.{condition_here, constraint_here, picked_over}
use Rattle.zim_encoding_table.proofs.formulas.picked.Goals as goal

pub invariant_of-result : goal.invariant_of-result
invariant_of-result c = record { over = picked_over c.args.test.columns _ c.in_ok-new.field-0 c.in_ok-new-2.field-0 (condition_here refl c.in_ok-new.ensures c.args.test.over) (constraint_here c.if-first-columns.false c.in_ok-new-2.ensures c.args.first.over) }
