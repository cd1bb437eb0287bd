-- Its items and its values.
use Rattle.std.proofs.Common.{refl}
use Rattle.zim_static.proofs.CallsLemmas.{greater_of}
use Rattle.zim_static.proofs.deep.row_calls.Goals as goal

pub returns : goal.returns
returns c = greater_of c.max.ensures (simp c.as_slice.ensures at c.all_calls.ensures) (simp c.as_slice-2.ensures at c.all_calls-2.ensures) refl
