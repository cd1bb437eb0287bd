-- The range of the numerators of whole numbers.
use Rattle.std.proofs.Common.{sym, ◌∙◌, to_z, of_z}
use Rattle.std.specs.Int.{w128}
use Rattle.zim_sets.specs.Ranges.{range_of}
use Rattle.zim_operators.proofs.SetLemmas.{between_made, passed}
use Rattle.zim_operators.proofs.members.between.Goals as goal

pub returns : goal.returns
returns c =
    let n = to_z w128 (of_z w128 c.numer.result) in
    let m = to_z w128 (of_z w128 c.numer-2.result) in
    let s = to_z w128 (of_z w128 c.numer-3.result) in
    between_made c.args.n.now c.args.m.now c.args.s.now n m s c.set_or_stop.result (sym c.are_three_whole.ensures ∙ c.if-not-are_three_whole.false) (passed c.numer.result _ c.numer.ensures.value c.numer.ensures.bound) (passed c.numer-2.result _ c.numer-2.ensures.value c.numer-2.ensures.bound) (passed c.numer-3.result _ c.numer-3.ensures.value c.numer-3.ensures.bound) (c.set_or_stop.ensures (range_of n m s) c.range.ensures)
