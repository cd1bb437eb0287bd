-- There are as many functions as entries.
use Rattle.std.proofs.Common.{sym, ◌∙◌}
use Rattle.std.proofs.lemmas.List.{length-map}
use Rattle.zim_functions.proofs.definitions.Defs.len.Goals as goal

pub returns : goal.returns
returns c = rw (← c.self.view_is) (c.len.ensures.len ∙ sym (length-map c.self.inside.kept.entries (λ entry. entry.1)))
