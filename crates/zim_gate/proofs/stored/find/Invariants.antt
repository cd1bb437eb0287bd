-- None of the files so far has the name.
use Rattle.std.proofs.Common.{◌≡◌, drop}
use Rattle.std.specs.FinMap as finite
use Rattle.zim_gate.specs.Stored.{files_of}
use Rattle.zim_gate.proofs.stored.find.Given as goal

abbrev pub invariant-loop-file : goal.invariant-loop-file
invariant-loop-file l = finite.get (files_of l.files) l.name ≡ finite.get (files_of (drop l.file-index l.files)) l.name
