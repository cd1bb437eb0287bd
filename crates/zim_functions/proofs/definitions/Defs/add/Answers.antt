-- The definition stands at the end, under its own name.
use Rattle.std.proofs.Common.{◌∙◌, nat_eq}
use Rattle.std.specs.Cmp.Lexicographic.{pointwise}
use Rattle.indexmap.proofs.CallerLemmas.{insert_entry-new}
use Rattle.zim_functions.proofs.DefinitionLemmas.{absent, kept_more, added}
use Rattle.zim_functions.proofs.definitions.Defs.add.Goals as goal

pub invariant_of-self-2 : goal.invariant_of-self-2
invariant_of-self-2 c =
    let free = absent c.self.inside.kept.entries c.args.self.now c.in_ok-name.name c.args.definition.name c.self.invariant c.self.view_is c.in_ok-name.ensures c.requires in
    kept_more c.self.inside.kept.entries c.insert.new.self.entries c.in_ok-name.name c.args.definition c.self.invariant (c.in_ok-insert.ensures.entries ∙ insert_entry-new (pointwise nat_eq) c.self.inside.kept c.in_ok-name.name c.args.definition free) c.in_ok-name.ensures c.insert.ensures.unique

pub returns-clause-ok : goal.returns-clause-ok
returns-clause-ok c =
    let free = absent c.self.inside.kept.entries c.args.self.now c.in_ok-name.name c.args.definition.name c.self.invariant c.self.view_is c.in_ok-name.ensures c.requires in
    added c.self.inside.kept.entries c.insert.new.self.entries c.args.self.now c.in_ok-name.name c.args.definition c.self.view_is (c.in_ok-insert.ensures.entries ∙ insert_entry-new (pointwise nat_eq) c.self.inside.kept c.in_ok-name.name c.args.definition free)
