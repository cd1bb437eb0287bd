use Rattle.std.proofs.Common.{take}
use Rattle.std.specs.List.{flat_map}
use Rattle.zim_spelling.specs.Speller.{Spells}
use Rattle.zim_tree.specs.StatementSpelling as stmt_spec
use Rattle.zim_spelling.proofs.stmts.spell_options.Given as goal

abbrev pub invariant-loop-place : goal.invariant-loop-place
invariant-loop-place l = Spells l.initial.to l.to (flat_map stmt_spec.option_spelling (take l._place-index l.options))
