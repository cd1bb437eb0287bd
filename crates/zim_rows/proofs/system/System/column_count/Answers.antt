use Rattle.std.proofs.Common.{sym, ◌∙◌}
use Rattle.zim_rows.proofs.ColumnLemmas.{count_is, count_within}
use Rattle.zim_rows.proofs.system.System.column_count.Goals as goal

pub returns-clause-value : goal.returns-clause-value
returns-clause-value c = c.len.ensures ∙ sym (count_is _ _ _ _ _ c.self.invariant c.self.view_is)

pub returns-clause-within : goal.returns-clause-within
returns-clause-within c = count_within _ _ _ _ _ c.self.invariant c.len.ensures
