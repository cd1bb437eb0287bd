-- The objective is added, or it may not follow, or one of its numbers is past.
use Rattle.std.proofs.Common.{◌++◌, ◌∷◌, [], ◌∙◌, ap, sym, refl, nat_eq, Some, ℕ}
use mathlib.Core.Bool.{true≢false}
use Rattle.std.specs.Cmp.Lexicographic.{pointwise}
use Rattle.indexmap.specs.IndexSet.{insert_key}
use Rattle.zim_plain.specs.Statements.{Objective, WrittenText}
use Rattle.zim_plain.specs.Reader.{heading_of, sum_said}
use Rattle.zim_plain.specs.Build.{built}
use Rattle.zim_plain.proofs.AddLaws.{refused, objective_faulty, built_objective, added_objective}
use Rattle.zim_plain.proofs.BuildLaws.{taken_stays_out, one_objective, unsuited_objective}
use Rattle.zim_plain.proofs.builder.Builder.add_objective.Goals as goal

pub returns-then-is_some-clause-adds : goal.returns-then-is_some-clause-adds
returns-then-is_some-clause-adds c before s =
    refused before (Objective c.args.maximize (heading_of c.args.head.now) (sum_said c.args.sum.now)) (built c.args.self.now) c.unsuited.result c.unsuited.ensures
    (one_objective before (built c.args.self.now) c.args.maximize (heading_of c.args.head.now) (sum_said c.args.sum.now) s (sym c.is_some.ensures ∙ c.if-is_some.true))

pub returns-then-is_taken-clause-adds : goal.returns-then-is_taken-clause-adds
returns-then-is_taken-clause-adds c before s =
    refused before (Objective c.args.maximize (heading_of c.args.head.now) (sum_said c.args.sum.now)) (built c.args.self.now) c.unsuited-then-is_taken.result c.unsuited-then-is_taken.ensures
    (taken_stays_out before (built c.args.self.now) (Objective c.args.maximize (heading_of c.args.head.now) (sum_said c.args.sum.now)) s (sym c.is_taken.ensures ∙ c.if-is_taken.true))

pub returns-then-not-suits_sum-clause-adds : goal.returns-then-not-suits_sum-clause-adds
returns-then-not-suits_sum-clause-adds c before s =
    refused before (Objective c.args.maximize (heading_of c.args.head.now) (sum_said c.args.sum.now)) (built c.args.self.now) c.unsuited-then-not-suits_sum.result c.unsuited-then-not-suits_sum.ensures
    (unsuited_objective before (built c.args.self.now) c.args.maximize (heading_of c.args.head.now) (sum_said c.args.sum.now) s (λ h. true≢false (sym (c.suits_sum.ensures.1 h) ∙ c.if-not-suits_sum.true)))

pub returns-in-Err-clause-adds : goal.returns-in-Err-clause-adds
returns-in-Err-clause-adds c =
    objective_faulty (built c.args.self.now) (built c.args.self.now) c.args.maximize (heading_of c.args.head.now) (sum_said c.args.sum.now) c.in-Err.stop
    (sym c.is_some.ensures ∙ c.if-is_some.false) (sym c.is_taken.ensures ∙ c.if-is_taken.false) (c.suits_sum.ensures.0 c.if-not-suits_sum.false) c.in-Err.ensures

pub returns-clause-adds : goal.returns-clause-adds
returns-clause-adds c =
    let old = built c.args.self.now in
    let head = heading_of c.args.head.now in
    let free = sym c.is_taken.ensures ∙ c.if-is_taken.false in
    added_objective old _ c.args.maximize head (sum_said c.args.sum.now) c.in-Ok.form
    (built_objective old _ c.args.maximize head.name head.at c.in-Ok.form free
    refl
    refl
    (c.in_ok-insert.ensures.keys ∙ ap (insert_key (pointwise nat_eq) c.args.self.now.others.keys) c.in_ok-copy.ensures)
    (c.in_ok-push.ensures.ok ∙ ap (λ (n : WrittenText). c.args.self.now.statements ++ n ∷ []) c.in_ok-copy-2.ensures)
    (ap (λ (n : ℕ). Some n) c.len.ensures)
    c.set_objective.ensures)
    (sym c.is_some.ensures ∙ c.if-is_some.false)
    free
    (c.suits_sum.ensures.0 c.if-not-suits_sum.false)
    c.in-Ok.ensures
