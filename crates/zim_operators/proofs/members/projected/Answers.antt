-- No tuple has a component, so each number is a position.
use Rattle.std.proofs.Common.{sym, ◌∙◌}
use Rattle.zim_operators.proofs.SetLemmas.{projected_none}
use Rattle.zim_operators.proofs.members.projected.Goals as goal

pub returns-in-empty : goal.returns-in-empty
returns-in-empty c =
    projected_none c.args.a.now c.as_slice.result.now c.args.numbers.now c.new.result c.as_slice.ensures.value c.in-empty.len_below (sym c.are_whole.ensures ∙ c.if-not-are_whole.false) c.new.ensures
