-- As its items.
use Rattle.std.proofs.Common.{sym, ◌∙◌}
use Rattle.zim_static.proofs.CallsLemmas.{calls-angle}
use Rattle.zim_static.proofs.deep.tuple_calls.Goals as goal

pub returns : goal.returns
returns c = simp c.as_slice.ensures at c.all_calls.ensures ∙ sym (calls-angle c.args.scope.now _)
