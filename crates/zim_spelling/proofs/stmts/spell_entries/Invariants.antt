use Rattle.std.proofs.Common.{map, take}
use Rattle.zim_spelling.specs.Speller.{Spells}
use Rattle.zim_tree.specs.Spelling as spec
use Rattle.zim_tree.specs.StatementSpelling as stmt_spec
use Rattle.zim_spelling.proofs.stmts.spell_entries.Given as goal

abbrev pub invariant-loop-entry : goal.invariant-loop-entry
invariant-loop-entry l = Spells l.initial.to l.to (spec.after_commas (map stmt_spec.entry_spelling (take l.entry-index l.others)))
