use Rattle.std.proofs.Common.{◌≤◌, ◌<◌, arith, FitsSigned}
use Rattle.std.specs.Int.{w128}
use Rattle.std.proofs.lemmas.Int.{to_z-of_z}
use Rattle.zim_fraction.proofs.AnswerLaws.{zero_from_bits}
use Rattle.zim_sets.proofs.RangeLaws.{range_few, range_many, range_stands, ranged_set, some_from_bits}
use Rattle.zim_sets.specs.Ranges.{range_count}
use Rattle.zim_sets.specs.Sets.{most}
use Rattle.zim_sets.proofs.ranges.range.Goals as goal

pub returns-then-s-eq0 : goal.returns-then-s-eq0
returns-then-s-eq0 c = range_stands c.args.n c.args.m c.args.s (zero_from_bits c.args.s c.ranges.s c.if-s-eq0.true)

pub range_count-count-requires : goal.range_count-count-requires
range_count-count-requires c =
    let fn : FitsSigned w128 c.args.n = c.ranges.n in
    let fm : FitsSigned w128 c.args.m = c.ranges.m in
    let fs : FitsSigned w128 c.args.s = c.ranges.s in
    simp to_z-of_z (record {
      first = c.requires.first;
      last = c.requires.last;
      step = some_from_bits c.args.s c.if-s-eq0.false;
    })

pub returns-then-count : goal.returns-then-count
returns-then-count c =
    let fn : FitsSigned w128 c.args.n = c.ranges.n in
    let fm : FitsSigned w128 c.args.m = c.ranges.m in
    let fs : FitsSigned w128 c.args.s = c.ranges.s in
    let count = simp to_z-of_z at c.range_count-count.ensures in
    let many : most < range_count c.args.n c.args.m c.args.s = omega (arith, count, c.if-count.true) in
    range_many c.args.n c.args.m c.args.s (some_from_bits c.args.s c.if-s-eq0.false) many

pub of_tuples-requires : goal.of_tuples-requires
of_tuples-requires c =
    let fn : FitsSigned w128 c.args.n = c.ranges.n in
    let fm : FitsSigned w128 c.args.m = c.ranges.m in
    let fs : FitsSigned w128 c.args.s = c.ranges.s in
    let count = simp to_z-of_z at c.range_count-count.ensures in
    let made = simp to_z-of_z at c.in_ok-made.ensures in
    let few : range_count c.args.n c.args.m c.args.s ≤ most = omega (arith, count, c.if-count.false) in
    rw made (ranged_set c.args.n c.args.m c.args.s (some_from_bits c.args.s c.if-s-eq0.false) few)

pub returns : goal.returns
returns c =
    let fn : FitsSigned w128 c.args.n = c.ranges.n in
    let fm : FitsSigned w128 c.args.m = c.ranges.m in
    let fs : FitsSigned w128 c.args.s = c.ranges.s in
    let count = simp to_z-of_z at c.range_count-count.ensures in
    let made = simp to_z-of_z at c.in_ok-made.ensures in
    let few : range_count c.args.n c.args.m c.args.s ≤ most = omega (arith, count, c.if-count.false) in
    rw (c.of_tuples.ensures, made) (range_few c.args.n c.args.m c.args.s (some_from_bits c.args.s c.if-s-eq0.false) few)
