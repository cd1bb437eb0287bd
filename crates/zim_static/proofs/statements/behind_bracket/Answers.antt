-- The names that an index binds.
use Rattle.std.proofs.Common.{[], Some, sym, ap, ◌∙◌}
use Rattle.zim_tree.specs.declared.expr.Angle.{out-Angle}
use Rattle.zim_tree.specs.declared.expr.Index.{Index, out-Index}
use Rattle.zim_tree.specs.declared.stmt.Bracket.{Bracket}
use Rattle.zim_static.specs.StatementFaults.{brackets_names}
use Rattle.zim_static.proofs.IndexLaws.{behind_names}
use Rattle.zim_static.proofs.statements.behind_bracket.Goals as goal

pub returns-in-Loop : goal.returns-in-Loop
returns-in-Loop c =
    λ scope outside.
    behind_names scope [] c.in-Loop.index _ _ outside (c.as_slice.ensures ∙ ap (λ (index : Index). (out-Angle (out-Index index).tuple).items) c.get.ensures)
    ∙ sym (ap (λ (bracket : Bracket). brackets_names scope (Some bracket)) c.in-Loop.is)
