-- What is made of parts over some columns is over them.
use Rattle.std.proofs.Common.{refl}
use Rattle.zim_encoding_table.proofs.OverLemmas.{term_here, product_over}
use Rattle.zim_encoding_table.proofs.formulas.product.Goals as goal

pub invariant_of-result : goal.invariant_of-result
invariant_of-result c = record { over = product_over c.args.term.columns _ c.in_ok-new.field-0 c.new-2.result c.new-2.ensures (term_here refl c.in_ok-new.ensures c.args.term.over) }
