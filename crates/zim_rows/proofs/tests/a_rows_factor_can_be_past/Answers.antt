-- A multiple of a column's form has no other column.
use Rattle.std.proofs.Common.{rules, length}
use Rattle.zim_rows.proofs.tests.a_rows_factor_can_be_past.Goals as goal

pub add_row-requires : goal.add_row-requires
add_row-requires g c = c.in_ok-form.ensures.1.columns (length c.new_column.new.self.columns) (search rules)

pub add_row-requires-2 : goal.add_row-requires-2
add_row-requires-2 g c = c.in_ok-form.ensures.1.columns (length c.add_row.new.self.columns) (search rules)
