-- The entry stands at the end.
use Rattle.std.proofs.Common.{◌∙◌, nat_eq}
use Rattle.std.specs.Cmp.Lexicographic.{pointwise}
use Rattle.indexmap.proofs.CallerLemmas.{insert_entry-new}
use Rattle.zim_eval.specs.contracts.world.World.{the_view}
use Rattle.zim_eval.proofs.WorldLemmas.{indexed_sets_with}
use Rattle.zim_eval.proofs.world.World.add_indexed_set.Goals as goal

pub returns-clause-ok : goal.returns-clause-ok
returns-clause-ok c =
    rw (← c.self.view_is)
    (indexed_sets_with (the_view c.self.inside) c.insert.new.self.entries c.args.name c.args.family
    (c.in_ok-insert.ensures.entries ∙ insert_entry-new (pointwise nat_eq) c.self.inside.indexed_sets c.args.name c.args.family (rw (← c.self.view_is) at c.requires)))
