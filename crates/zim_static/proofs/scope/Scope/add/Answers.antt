-- The name stands at the end, and no name stands twice.
use Rattle.std.proofs.Common.{◌∙◌, nat_eq}
use Rattle.std.specs.Cmp.Lexicographic.{pointwise}
use Rattle.indexmap.proofs.CallerLemmas.{insert_entry-new}
use Rattle.zim_static.proofs.ScopeLemmas.{absent, added}
use Rattle.zim_static.proofs.scope.Scope.add.Goals as goal

pub returns-clause-ok : goal.returns-clause-ok
returns-clause-ok c =
    let free = absent c.self.inside.entries.entries c.args.self.now c.in_ok-key.key c.args.name.now c.self.view_is c.in_ok-key.ensures c.requires in
    added c.self.inside.entries.entries c.insert.new.self.entries c.args.self.now c.in_ok-key.key c.args.name.now c.args.what c.self.view_is c.in_ok-key.ensures
    (c.in_ok-insert.ensures.entries ∙ insert_entry-new (pointwise nat_eq) c.self.inside.entries c.in_ok-key.key c.args.what free)
