use Rattle.std.proofs.Common.{take}
use Rattle.std.specs.List.{flat_map}
use Rattle.zim_spelling.specs.Speller.{Spells}
use Rattle.zim_tree.specs.StatementSpelling as stmt_spec
use Rattle.zim_spelling.proofs.stmts.spell_table.Given as goal

abbrev pub invariant-loop-items : goal.invariant-loop-items
invariant-loop-items l = Spells l.initial.to l.to (flat_map stmt_spec.row_spelling (take l.items-index l.rows))
