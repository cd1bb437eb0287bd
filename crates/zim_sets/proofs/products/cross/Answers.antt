use Rattle.std.proofs.Common.{◌≤◌, ◌*◌, length}
use Rattle.zim_sets.proofs.ProductLaws.{cross_few, cross_many, crossed_set}
use Rattle.zim_sets.specs.Sets.{most}
use Rattle.zim_sets.proofs.products.cross.Goals as goal

pub returns-then-len-gt-MOST : goal.returns-then-len-gt-MOST
returns-then-len-gt-MOST c =
    let a = c.args.a.now in
    let b = c.args.b.now in
    cross_many a b (rw (c.len.ensures.value, c.len-2.ensures.value) at c.if-len-gt-MOST.true)

pub of_tuples-requires : goal.of_tuples-requires
of_tuples-requires c =
    let a = c.args.a.now in
    let b = c.args.b.now in
    let few : length a * length b ≤ most = (rw (c.len.ensures.value, c.len-2.ensures.value) at c.if-len-gt-MOST.false) in
    rw (c.in_ok-made.ensures, c.as_slice.ensures.value, c.as_slice-2.ensures.value) (crossed_set a b c.as_slice.ensures.set c.as_slice-2.ensures.set few)

pub returns : goal.returns
returns c =
    let a = c.args.a.now in
    let b = c.args.b.now in
    let few : length a * length b ≤ most = (rw (c.len.ensures.value, c.len-2.ensures.value) at c.if-len-gt-MOST.false) in
    rw (c.of_tuples.ensures, c.in_ok-made.ensures, c.as_slice.ensures.value, c.as_slice-2.ensures.value) (cross_few a b few)
