-- The constant, then the columns of the two literals and the joining one, each behind those before it.
use Rattle.std.proofs.Common.{pos, neg_ℤ, if◌then◌else◌, ℤ, ap, ◌∙◌}
use Rattle.std.specs.Int.{w8}
use Rattle.std.proofs.lemmas.Int.{to_z-of_z}
use Rattle.zim_rational.specs.Rational.{whole}
use Rattle.zim_logic_rows.proofs.JoinRowLemmas.{byte_fits, sum_fits, wide_fits, rest_fits, behind_first, behind_further, row_gives}
use Rattle.zim_logic_rows.proofs.joins.row.Goals as goal

pub with_column-requires : goal.with_column-requires
with_column-requires c = behind_first c.args.on.p.column c.constant-known.result c.whole.result c.constant-known.ensures c.requires.from_one

pub with_column-requires-2 : goal.with_column-requires-2
with_column-requires-2 c =
    behind_further c.args.on.p.column c.args.on.q.column c.constant-known.result c.in_ok-with_p.with_p c.coefficient_of.result c.in_ok-with_p.ensures c.requires.in_order
    (behind_first c.args.on.p.column c.constant-known.result c.whole.result c.constant-known.ensures c.requires.from_one)

pub with_column-requires-3 : goal.with_column-requires-3
with_column-requires-3 c =
    behind_further c.args.on.q.column c.args.on.r c.in_ok-with_p.with_p c.in_ok-with_q.with_q c.coefficient_of-2.result c.in_ok-with_q.ensures c.requires.behind
    (behind_further c.args.on.p.column c.args.on.q.column c.constant-known.result c.in_ok-with_p.with_p c.coefficient_of.result c.in_ok-with_p.ensures c.requires.in_order
    (behind_first c.args.on.p.column c.constant-known.result c.whole.result c.constant-known.ensures c.requires.from_one))

pub returns : goal.returns
returns c =
    let p = byte_fits c.constant_of.result c.constant_of.ensures.above c.constant_of.ensures.below in
    let q = byte_fits c.constant_of-2.result c.constant_of-2.ensures.above c.constant_of-2.ensures.below in
    let sum = sum_fits c.constant_of.result c.constant_of-2.result c.constant_of.ensures.above c.constant_of.ensures.below c.constant_of-2.ensures.above c.constant_of-2.ensures.below in
    let right = wide_fits c.args.right c.ranges.right in
    let rest = rest_fits c.args.right c.constant_of.result c.constant_of-2.result c.ranges.right c.constant_of.ensures.above c.constant_of.ensures.below c.constant_of-2.ensures.above c.constant_of-2.ensures.below in
    let r = wide_fits c.args.r c.ranges.r in
    let known_is = simp (to_z-of_z, p, q, sum) at c.whole.ensures in
    let share_is = simp (to_z-of_z, c.ranges.r, r) at c.whole-2.ensures in
    let right_is = simp (to_z-of_z, c.ranges.right, right, p, q, sum, rest) at c.whole-right.ensures in
    row_gives c.args.on.from c.args.on.p c.args.on.q c.args.on.r c.args.r c.args.p c.args.q c.args.sense c.args.right c.constant_of.result c.constant_of-2.result c.constant-known.result c.in_ok-with_p.with_p c.in_ok-with_q.with_q c.in_ok-form.form c.whole.result c.coefficient_of.result c.coefficient_of-2.result c.whole-2.result c.whole-right.result c.new_row.result
    (c.constant_of.ensures.value ∙ ap (λ (n : ℤ). if c.args.on.p.positive then pos 0 else n) (to_z-of_z w8 c.args.p c.ranges.p))
    (c.constant_of-2.ensures.value ∙ ap (λ (n : ℤ). if c.args.on.q.positive then pos 0 else n) (to_z-of_z w8 c.args.q c.ranges.q))
    known_is c.constant-known.ensures
    (c.coefficient_of.ensures ∙ ap (λ (n : ℤ). whole (if c.args.on.p.positive then n else neg_ℤ n)) (to_z-of_z w8 c.args.p c.ranges.p))
    c.in_ok-with_p.ensures
    (c.coefficient_of-2.ensures ∙ ap (λ (n : ℤ). whole (if c.args.on.q.positive then n else neg_ℤ n)) (to_z-of_z w8 c.args.q c.ranges.q))
    c.in_ok-with_q.ensures
    share_is c.in_ok-form.ensures right_is c.new_row.ensures
