-- What is found under a name is the definition of that name, and no name is defined twice.
use Rattle.std.proofs.Common.{nat_eq, ◌∙◌, subst, List, ℕ}
use Rattle.std.specs.Cmp.Lexicographic.{pointwise}
use Rattle.std.specs.List.{IsDistinct}
use Rattle.zim_functions.proofs.DefinitionLemmas.{found, keys}
use Rattle.zim_functions.specs.Definitions.{defined}
use Rattle.zim_functions.proofs.definitions.Defs.get.Goals as goal

pub returns-clause-value : goal.returns-clause-value
unfolding defined
returns-clause-value c =
    rw (← c.self.view_is) (c.get.ensures.value ∙ found (pointwise nat_eq c.args.name.now) c.self.inside.kept.entries c.self.invariant.named)

pub returns-clause-distinct : goal.returns-clause-distinct
returns-clause-distinct c =
    rw (← c.self.view_is) (subst (λ (names : List (List ℕ)). IsDistinct (pointwise nat_eq) names) (keys c.self.inside.kept.entries c.self.invariant.named) c.self.invariant.distinct)
