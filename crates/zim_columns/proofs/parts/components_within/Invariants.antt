-- The components so far.
use Rattle.std.specs.Prelude.{All, take}
use Rattle.zim_columns.specs.Parts.{IsComponentWithin}
use Rattle.zim_columns.proofs.parts.components_within.Given as goal

abbrev pub invariant-loop-component : goal.invariant-loop-component
invariant-loop-component l = All IsComponentWithin (take l.component-index l.components)
