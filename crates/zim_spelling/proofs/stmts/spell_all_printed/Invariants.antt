use Rattle.std.proofs.Common.{map, take}
use Rattle.zim_spelling.specs.Speller.{Spells}
use Rattle.zim_tree.specs.Spelling as spec
use Rattle.zim_tree.specs.StatementSpelling as stmt_spec
use Rattle.zim_spelling.proofs.stmts.spell_all_printed.Given as goal

abbrev pub invariant-loop-item : goal.invariant-loop-item
invariant-loop-item l = Spells l.initial.to l.to (spec.after_commas (map stmt_spec.printed_spelling (take l.item-index l.others)))
