-- The file, the template and the options.
use Rattle.std.proofs.Common.{refl}
use Rattle.zim_static.proofs.CallsLemmas.{greater_of}
use Rattle.zim_static.proofs.deep.reading_calls.Goals as goal

pub returns : goal.returns
returns c =
    greater_of c.max.ensures (simp c.get-2.ensures at c.calls-2.ensures)
    (greater_of c.max-rest.ensures (simp c.get.ensures at c.calls.ensures) (simp c.as_slice.ensures at c.options_calls.ensures) refl) refl
