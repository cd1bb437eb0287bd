use Rattle.std.proofs.Common.{map, take}
use Rattle.zim_spelling.specs.Speller.{Spells}
use Rattle.zim_tree.specs.Spelling as spec
use Rattle.zim_tree.specs.StatementSpelling as stmt_spec
use Rattle.zim_spelling.proofs.stmts.spell_parameters.Given as goal

abbrev pub invariant-loop-place : goal.invariant-loop-place
invariant-loop-place l = Spells l.initial.to l.to (spec.after_commas (map stmt_spec.parameter_spelling (take l._place-index l.others)))
