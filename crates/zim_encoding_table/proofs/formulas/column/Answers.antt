-- What is made of parts over some columns is over them.
use Rattle.zim_encoding_table.proofs.OverLemmas.{column_over}
use Rattle.zim_encoding_table.proofs.formulas.column.Goals as goal

pub invariant_of-result : goal.invariant_of-result
invariant_of-result c = record { over = column_over c.args.columns c.args.number c.if-number-eq0.false c.if-columns-number.false }
