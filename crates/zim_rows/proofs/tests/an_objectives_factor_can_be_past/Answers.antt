-- A multiple of a column's form has no other column, and neither has its sum with a constant.
use Rattle.std.proofs.Common.{rules, ℕ, length}
use Rattle.zim_rows.proofs.tests.an_objectives_factor_can_be_past.Goals as goal

pub set_objective-requires : goal.set_objective-requires
set_objective-requires g c =
    let n : ℕ = length c.new_column.new.self.columns in
    c.in_ok-add.ensures.1.columns n (c.in_ok-form.ensures.1.columns n (search rules)) (search rules)
