-- The step is that of the ask, so the answer, the system after it and the list are those of the declaration.
use Rattle.std.proofs.Common.{ℕ, ◌+◌, map, ap, ◌∙◌}
use Rattle.zim_rows.specs.Steps.{given_row}
use Rattle.zim_columns.proofs.DeclaringLaws.{column_may_be, crossed_stops, made, step_stops, outcome}
use Rattle.zim_columns.proofs.declaring.declare.Goals as goal

pub returns-then-cross-clause-answer : goal.returns-then-cross-clause-answer
returns-then-cross-clause-answer c =
    crossed_stops c.args.columns.now c.args.system.now c.args.from c.args.ask c.sides_of-sides.result c.cross.result c.crossed.result c.sides_of-sides.ensures c.cross.ensures c.if-cross.true c.crossed.ensures

pub add_step-requires-clause-columns : goal.add_step-requires-clause-columns
add_step-requires-clause-columns c =
    column_may_be c.args.ask c.is_integer-integer.result c.sides_of-sides.result c.cross.result c.is_integer-integer.ensures c.sides_of-sides.ensures c.cross.ensures c.if-cross.false

pub returns-in-Err-clause-answer : goal.returns-in-Err-clause-answer
returns-in-Err-clause-answer c =
    step_stops c.args.columns.now c.args.system.now c.add_step.new.self c.args.from c.args.ask _ c.add_step.result c.in-Err.fault
    (made c.args.system.now c.args.from c.args.ask c.is_integer-integer.result c.sides_of-sides.result c.cross.result (map given_row c.as_slice.result.now) (c.column_count.result + 1) c.is_integer-integer.ensures c.sides_of-sides.ensures c.cross.ensures c.if-cross.false (ap (λ (n : ℕ). n + 1) c.column_count.ensures.value) (ap (map given_row) c.as_slice.ensures ∙ c.in_ok-rows.ensures.rows))
    c.add_step.ensures c.in-Err.is

pub returns-clause-answer : goal.returns-clause-answer
returns-clause-answer c =
    (outcome c.args.columns.now c.push.new.self c.args.system.now c.add_step.new.self c.args.from c.args.ask _ c.add_step.result c.in-Ok.field-0 (c.column_count.result + 1)
    (made c.args.system.now c.args.from c.args.ask c.is_integer-integer.result c.sides_of-sides.result c.cross.result (map given_row c.as_slice.result.now) (c.column_count.result + 1) c.is_integer-integer.ensures c.sides_of-sides.ensures c.cross.ensures c.if-cross.false (ap (λ (n : ℕ). n + 1) c.column_count.ensures.value) (ap (map given_row) c.as_slice.ensures ∙ c.in_ok-rows.ensures.rows))
    c.add_step.ensures c.in-Ok.is (ap (λ (n : ℕ). n + 1) c.column_count.ensures.value) c.in_ok-push.ensures.ok c.requires.in_system).answer

pub returns-clause-extends : goal.returns-clause-extends
returns-clause-extends c =
    (outcome c.args.columns.now c.push.new.self c.args.system.now c.add_step.new.self c.args.from c.args.ask _ c.add_step.result c.in-Ok.field-0 (c.column_count.result + 1)
    (made c.args.system.now c.args.from c.args.ask c.is_integer-integer.result c.sides_of-sides.result c.cross.result (map given_row c.as_slice.result.now) (c.column_count.result + 1) c.is_integer-integer.ensures c.sides_of-sides.ensures c.cross.ensures c.if-cross.false (ap (λ (n : ℕ). n + 1) c.column_count.ensures.value) (ap (map given_row) c.as_slice.ensures ∙ c.in_ok-rows.ensures.rows))
    c.add_step.ensures c.in-Ok.is (ap (λ (n : ℕ). n + 1) c.column_count.ensures.value) c.in_ok-push.ensures.ok c.requires.in_system).extends

pub returns-clause-covered : goal.returns-clause-covered
returns-clause-covered c =
    (outcome c.args.columns.now c.push.new.self c.args.system.now c.add_step.new.self c.args.from c.args.ask _ c.add_step.result c.in-Ok.field-0 (c.column_count.result + 1)
    (made c.args.system.now c.args.from c.args.ask c.is_integer-integer.result c.sides_of-sides.result c.cross.result (map given_row c.as_slice.result.now) (c.column_count.result + 1) c.is_integer-integer.ensures c.sides_of-sides.ensures c.cross.ensures c.if-cross.false (ap (λ (n : ℕ). n + 1) c.column_count.ensures.value) (ap (map given_row) c.as_slice.ensures ∙ c.in_ok-rows.ensures.rows))
    c.add_step.ensures c.in-Ok.is (ap (λ (n : ℕ). n + 1) c.column_count.ensures.value) c.in_ok-push.ensures.ok c.requires.in_system).covered

pub returns-clause-listed : goal.returns-clause-listed
returns-clause-listed c =
    (outcome c.args.columns.now c.push.new.self c.args.system.now c.add_step.new.self c.args.from c.args.ask _ c.add_step.result c.in-Ok.field-0 (c.column_count.result + 1)
    (made c.args.system.now c.args.from c.args.ask c.is_integer-integer.result c.sides_of-sides.result c.cross.result (map given_row c.as_slice.result.now) (c.column_count.result + 1) c.is_integer-integer.ensures c.sides_of-sides.ensures c.cross.ensures c.if-cross.false (ap (λ (n : ℕ). n + 1) c.column_count.ensures.value) (ap (map given_row) c.as_slice.ensures ∙ c.in_ok-rows.ensures.rows))
    c.add_step.ensures c.in-Ok.is (ap (λ (n : ℕ). n + 1) c.column_count.ensures.value) c.in_ok-push.ensures.ok c.requires.in_system).in_system
