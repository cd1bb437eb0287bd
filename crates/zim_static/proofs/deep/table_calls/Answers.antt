-- Its head and its rows.
use Rattle.std.proofs.Common.{refl}
use Rattle.zim_static.proofs.CallsLemmas.{greater_of}
use Rattle.zim_static.proofs.deep.table_calls.Goals as goal

pub returns : goal.returns
returns c = greater_of c.max.ensures (simp c.as_slice.ensures at c.all_calls.ensures) (simp c.as_slice-2.ensures at c.rows_calls.ensures) refl
