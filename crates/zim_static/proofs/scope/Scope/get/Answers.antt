-- A name is looked up as the first entry that has it.
use Rattle.std.proofs.Common.{nat_eq, ◌∙◌}
use Rattle.std.specs.Cmp.Lexicographic.{pointwise}
use Rattle.zim_static.proofs.ScopeLemmas.{looked_up}
use Rattle.zim_static.proofs.scope.Scope.get.Goals as goal

pub returns : goal.returns
returns c = rw (← c.self.view_is) (c.get.ensures.value ∙ looked_up (pointwise nat_eq c.args.name.now) c.self.inside.entries.entries)
