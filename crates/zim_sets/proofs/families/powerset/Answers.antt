use Rattle.std.proofs.Common.{◌≡◌, ◌≤◌, ◌<◌, ◌+◌, ◌∙◌, ◌++◌, length, sym, ap, arith, Ok}
use Rattle.zim_sets.proofs.FamilyLaws.{powerset_few, powerset_many, below_next, below_none}
use Rattle.zim_sets.specs.Choices.{choices, choices_below}
use Rattle.zim_sets.proofs.families.powerset.Goals as goal

pub returns-then-len-gt-MOST_WITH_POWERSET : goal.returns-then-len-gt-MOST_WITH_POWERSET
returns-then-len-gt-MOST_WITH_POWERSET c = powerset_many c.args.a.now (let many : 20 < length c.args.a.now = omega (arith, c.len.ensures.value) in many)

pub loop-n-init : goal.loop-n-init
loop-n-init c = c.new-family.ensures ∙ sym (below_none c.args.a.now)

pub loop-n-preserved : goal.loop-n-preserved
loop-n-preserved c =
    c.in_ok-extend_subsets.ensures ∙ ap (λ family. family ++ choices c.loop-n.n c.args.a.now) c.loop-n.invariant ∙ sym (below_next c.loop-n.n c.args.a.now)

pub returns : goal.returns
returns c =
    let a = c.args.a.now in
    let all : c.loop-n.n ≡ length a + 1 = omega (arith, c.len-n-end.ensures.value) in
    powerset_few a (let few : length a ≤ 20 = omega (arith, c.len.ensures.value) in few) ∙ sym (ap Ok (c.into_vec.ensures ∙ c.loop-n.invariant ∙ ap (λ k. choices_below k a) all))
