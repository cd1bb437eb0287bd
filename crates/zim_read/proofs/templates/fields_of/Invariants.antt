-- The fields so far, and those of the rest behind them.
use Rattle.std.proofs.Common.{◌≡◌, ◌++◌, List, length}
use Rattle.std.specs.Prelude.{option_map}
use Rattle.zim_read.specs.declared.templates.Field.{Field}
use Rattle.zim_read.specs.Templates.{fields_spelled}
use Rattle.zim_read.proofs.templates.fields_of.Given as goal

abbrev pub invariant-loop-comma : goal.invariant-loop-comma
invariant-loop-comma l = fields_spelled l.text ≡ option_map (λ (fields : List Field). l.fields ++ fields) (fields_spelled l.rest)

abbrev pub decreases-loop-comma : goal.decreases-loop-comma
decreases-loop-comma l = length l.rest
