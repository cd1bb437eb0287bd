use Rattle.std.proofs.Common.{◌<◌, ◌+◌, ◌-◌, sym, arith}
use Rattle.zim_sets.proofs.WayLaws.{ways-zero, ways_many, ways_counted, ways_fewer, few_ways, many_ways}
use Rattle.zim_sets.specs.Choices.{ways}
use Rattle.zim_sets.specs.Sets.{most}
use Rattle.zim_sets.proofs.families.are_few.Goals as goal

pub returns-then-n-size : goal.returns-then-n-size
returns-then-n-size c =
    few_ways c.args.size c.args.n (rw (ways_many c.args.size c.args.n c.if-n-size.true) (omega arith))

pub loop-chosen-init : goal.loop-chosen-init
loop-chosen-init c = record { counted = sym (ways-zero _); few = omega arith }

pub returns-then-count-gt-MOST : goal.returns-then-count-gt-MOST
returns-then-count-gt-MOST c =
    let chosen = c.loop-chosen.chosen in
    let counted = ways_counted (c.args.size - c.args.n) chosen c.loop-chosen.count c.loop-chosen.invariant.counted in
    let many : most < ways (c.args.size - c.args.n + (chosen + 1)) (chosen + 1) = (rw counted at c.if-count-gt-MOST.true) in
    let fewer = ways_fewer c.args.size c.args.n chosen c.if-n-size.false c.loop-chosen-test.true in
    many_ways c.args.size c.args.n (omega arith)

pub loop-chosen-preserved : goal.loop-chosen-preserved
loop-chosen-preserved c = record {
  counted = ways_counted (c.args.size - c.args.n) c.loop-chosen.chosen c.loop-chosen.count c.loop-chosen.invariant.counted;
  few = c.if-count-gt-MOST.false;
}
