-- A name's position among the keys is that among the names, and no name is defined twice.
use Rattle.std.proofs.Common.{nat_eq, ◌∙◌, ap, subst, List, ℕ}
use Rattle.std.specs.Prelude.{position}
use Rattle.std.specs.Cmp.Lexicographic.{pointwise}
use Rattle.std.specs.List.{IsDistinct}
use Rattle.zim_functions.proofs.DefinitionLemmas.{keys}
use Rattle.zim_functions.proofs.definitions.Defs.position_of.Goals as goal

pub returns-clause-value : goal.returns-clause-value
returns-clause-value c =
    rw (← c.self.view_is) (c.get_index_of.ensures.index ∙ ap (position (pointwise nat_eq c.args.name.now)) (keys c.self.inside.kept.entries c.self.invariant.named))

pub returns-clause-distinct : goal.returns-clause-distinct
returns-clause-distinct c =
    rw (← c.self.view_is) (subst (λ (names : List (List ℕ)). IsDistinct (pointwise nat_eq) names) (keys c.self.inside.kept.entries c.self.invariant.named) c.self.invariant.distinct)
