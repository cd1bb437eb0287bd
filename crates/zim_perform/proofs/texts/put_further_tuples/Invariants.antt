-- What was put so far.
use Rattle.std.proofs.Common.{◌≡◌, ◌++◌, take}
use Rattle.std.specs.Prelude.{flat_map}
use Rattle.zim_meaning.specs.Printing.{tuple_output}
use Rattle.zim_perform.specs.Private.{behind_commas}
use Rattle.zim_perform.proofs.texts.put_further_tuples.Given as goal

abbrev pub invariant-loop-tuple : goal.invariant-loop-tuple
invariant-loop-tuple l = l.to ≡ l.initial.to ++ flat_map (behind_commas tuple_output) (take l.tuple-index l.tuples)
