-- The index was given a value before, or it stands at the end with this one.
use Rattle.std.proofs.Common.{sym, ◌∙◌}
use Rattle.indexmap.proofs.CallerLemmas.{insert_entry-new}
use Rattle.std.specs.Cmp.Lexicographic.{pointwise}
use Rattle.zim_params.proofs.InsertLemmas.{inserted_twice, inserted_new, none_from}
use Rattle.zim_tuples.specs.Elements.{same_element}
use Rattle.zim_params.proofs.param.Param.insert.Goals as goal

pub returns-then-contains_key-clause-answer : goal.returns-then-contains_key-clause-answer
returns-then-contains_key-clause-answer g c =
    rw (← c.self.view_is) (inserted_twice _ c.args.at c.args.value (sym c.contains_key.ensures ∙ c.if-contains_key.true))

pub returns-in-Ok-clause-answer : goal.returns-in-Ok-clause-answer
returns-in-Ok-clause-answer g c =
    let free = sym c.contains_key.ensures ∙ c.if-contains_key.false in
    rw (← c.self.view_is, c.in-Ok.ensures.entries, insert_entry-new (pointwise same_element) c.self.inside.entries c.args.at c.args.value (none_from _ free)) (inserted_new _ c.args.at c.args.value free)
