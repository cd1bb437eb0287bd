use Rattle.std.proofs.Common.{take}
use Rattle.std.specs.List.{flat_map}
use Rattle.zim_spelling.specs.Speller.{Spells}
use Rattle.zim_tree.specs.StatementSpelling as stmt_spec
use Rattle.zim_spelling.proofs.stmts.spell_limits.Given as goal

abbrev pub invariant-loop-limit : goal.invariant-loop-limit
invariant-loop-limit l = Spells l.initial.to l.to (flat_map stmt_spec.limit_spelling (take l.limit-index l.limits))
