-- The tuples are cut to the positions that the numbers are.
use Rattle.std.proofs.Common.{Ok, sym, ◌∙◌}
use Rattle.zim_sets.specs.Products.{projected}
use Rattle.zim_operators.proofs.SetLemmas.{cut_made}
use Rattle.zim_operators.proofs.members.cut.Goals as goal

pub returns : goal.returns
returns c =
    cut_made c.args.a.now c.args.length c.args.numbers.now c.in_ok-positions.positions c.as_slice.result.now c.set_or_stop.result (sym c.are_within.ensures ∙ c.if-not-are_within.false) c.in_ok-positions.ensures c.as_slice.ensures (c.set_or_stop.ensures (Ok (projected c.args.a.now c.as_slice.result.now)) c.proj.ensures)
