use Rattle.std.proofs.Common.{take}
use Rattle.zim_spelling.specs.Speller.{Spells}
use Rattle.zim_tree.specs.Spelling as spec
use Rattle.zim_spelling.proofs.signs.put_marks.Given as goal

abbrev pub invariant-loop-place : goal.invariant-loop-place
invariant-loop-place l = Spells l.initial.to l.to (spec.marks (take l._place-index l.places))
