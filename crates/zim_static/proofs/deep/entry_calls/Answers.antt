-- Its index and what belongs to it.
use Rattle.std.proofs.Common.{refl}
use Rattle.zim_static.proofs.CallsLemmas.{greater_of}
use Rattle.zim_static.proofs.deep.entry_calls.Goals as goal

pub returns : goal.returns
returns c = greater_of c.max.ensures c.tuple_calls.ensures c.calls.ensures refl
