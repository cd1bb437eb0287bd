-- What was put so far.
use Rattle.std.proofs.Common.{◌≡◌, ◌++◌, take}
use Rattle.std.specs.Prelude.{flat_map}
use Rattle.zim_meaning.specs.Printing.{element_output}
use Rattle.zim_perform.specs.Private.{behind_commas}
use Rattle.zim_perform.proofs.texts.put_further_elements.Given as goal

abbrev pub invariant-loop-element : goal.invariant-loop-element
invariant-loop-element l = l.to ≡ l.initial.to ++ flat_map (behind_commas element_output) (take l.element-index l.elements)
