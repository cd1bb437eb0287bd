use Rattle.std.proofs.Common.{ℤ, ◌≡◌, ◌≤◌, ◌<◌, ◌+◌, ◌+ℤ◌, ◌∙◌, [], ◌∷◌, ◌++◌, length, length-append, refl, sym, ap, arith, FitsSigned, to_z}
use Rattle.std.specs.Int.{w128}
use Rattle.std.proofs.lemmas.Int.{to_z-of_z}
use Rattle.zim_fraction.specs.Limit.{limit}
use Rattle.zim_sets.proofs.RangeLaws.{ranged_none, ranged_begins, ranged_next, ranged_ends, count_next, next_within, limit_fits}
use Rattle.zim_sets.specs.Ranges.{range_count, single}
use Rattle.zim_sets.proofs.ranges.numbers_within.Goals as goal

pub returns-then-count-eq0 : goal.returns-then-count-eq0
returns-then-count-eq0 c = c.new-made.ensures ∙ sym (ranged_none c.args.n c.args.m c.args.s (sym c.requires.all ∙ c.if-count-eq0.true))

pub steps-init : goal.steps-init
steps-init c =
    let fn : FitsSigned w128 c.args.n = c.ranges.n in
    let fm : FitsSigned w128 c.args.m = c.ranges.m in
    let fs : FitsSigned w128 c.args.s = c.ranges.s in
    let one = simp to_z-of_z at c.in_ok-single.ensures in
    let first : c.push.new.self ≡ single c.args.n ∷ [] = c.in_ok-push.ensures.ok ∙ (λ i. c.new-made.ensures i ++ one i ∷ []) in
    let long : length c.push.new.self ≡ 1 = ap length first in
    let some : 0 < c.args.count = omega (arith, c.if-count-eq0.false) in
    simp to_z-of_z (record {
      listed = ranged_begins c.push.new.self c.args.n c.args.m c.args.s c.args.count c.requires.all some first;
      within = omega arith;
      left = rw (← c.requires.all, long) refl;
      bounded = c.requires.first;
    })

pub overflow_add-number : goal.overflow_add-number
overflow_add-number c =
    let fm : FitsSigned w128 c.args.m = c.ranges.m in
    let fs : FitsSigned w128 c.args.s = c.ranges.s in
    let x : ℤ = to_z w128 c.steps.number-bits in
    let left = simp to_z-of_z at c.steps.invariant.left in
    let many : 2 ≤ range_count x c.args.m c.args.s = omega (arith, left, c.len.ensures) in
    simp to_z-of_z (limit_fits (x +ℤ c.args.s) (next_within x c.args.m c.args.s limit c.requires.step many c.steps.invariant.bounded c.requires.last))

pub single-requires-in-steps : goal.single-requires-in-steps
single-requires-in-steps c =
    let fm : FitsSigned w128 c.args.m = c.ranges.m in
    let fs : FitsSigned w128 c.args.s = c.ranges.s in
    let x : ℤ = to_z w128 c.steps.number-bits in
    let left = simp to_z-of_z at c.steps.invariant.left in
    let many : 2 ≤ range_count x c.args.m c.args.s = omega (arith, left, c.len.ensures) in
    let bounded = next_within x c.args.m c.args.s limit c.requires.step many c.steps.invariant.bounded c.requires.last in
    let fits = limit_fits (x +ℤ c.args.s) bounded in
    simp to_z-of_z bounded

pub steps-preserved : goal.steps-preserved
steps-preserved c =
    let fn : FitsSigned w128 c.args.n = c.ranges.n in
    let fm : FitsSigned w128 c.args.m = c.ranges.m in
    let fs : FitsSigned w128 c.args.s = c.ranges.s in
    let x : ℤ = to_z w128 c.steps.number-bits in
    let left = simp to_z-of_z at c.steps.invariant.left in
    let listed = simp to_z-of_z at c.steps.invariant.listed in
    let many : 2 ≤ range_count x c.args.m c.args.s = omega (arith, left, c.len.ensures) in
    let bounded = next_within x c.args.m c.args.s limit c.requires.step many c.steps.invariant.bounded c.requires.last in
    let fits = limit_fits (x +ℤ c.args.s) bounded in
    let one = simp to_z-of_z at c.in_ok-single-2.ensures in
    let next : c.push-in-steps.new.self ≡ c.steps.made ++ single (x +ℤ c.args.s) ∷ [] = c.in_ok-push-2.ensures.ok ∙ ap (λ tuple. c.steps.made ++ tuple ∷ []) one in
    let long : length c.push-in-steps.new.self ≡ length c.steps.made + 1 = ap length next ∙ length-append c.steps.made (single (x +ℤ c.args.s) ∷ []) in
    let fewer = count_next x c.args.m c.args.s c.requires.step many in
    let short : length c.steps.made < c.args.count = omega (arith, c.len.ensures) in
    simp to_z-of_z (record {
      listed = ranged_next c.steps.made c.push-in-steps.new.self x c.args.s c.args.count _ short next listed;
      within = omega arith;
      left = omega (arith, left);
      bounded = bounded;
    })

pub returns : goal.returns
returns c =
    let fn : FitsSigned w128 c.args.n = c.ranges.n in
    let fm : FitsSigned w128 c.args.m = c.ranges.m in
    let fs : FitsSigned w128 c.args.s = c.ranges.s in
    let x : ℤ = to_z w128 c.steps.number-bits in
    let listed = simp to_z-of_z at c.steps.invariant.listed in
    ranged_ends c.steps.made x c.args.s c.args.count _ (let done : c.args.count ≤ length c.steps.made = omega (arith, c.len.ensures) in done) listed
