-- The constraint is added, or it may not follow, or one of its numbers is past, or there are too many rows.
use Rattle.std.proofs.Common.{◌++◌, ◌∷◌, [], ◌∙◌, ap, sym, refl, nat_eq}
use mathlib.Core.Bool.{true≢false}
use Rattle.std.specs.Cmp.Lexicographic.{pointwise}
use Rattle.indexmap.specs.IndexSet.{insert_key}
use Rattle.zim_rational.specs.Rational.{negate}
use Rattle.zim_rows.specs.System.{row_of}
use Rattle.zim_rows.specs.declared.rows.RowKind.TheVariants.{One}
use Rattle.zim_plain.specs.Statements.{Constraint, WrittenText}
use Rattle.zim_plain.specs.Reader.{heading_of, sum_said}
use Rattle.zim_plain.specs.Build.{built}
use Rattle.zim_plain.proofs.AddLaws.{refused, pushed_row, constraint_faulty, row_refused, built_constraint, added_constraint}
use Rattle.zim_plain.proofs.BuildLaws.{taken_stays_out, unsuited_left, unsuited_right}
use Rattle.zim_plain.proofs.builder.Builder.add_constraint.Goals as goal

pub returns-then-is_taken-clause-adds : goal.returns-then-is_taken-clause-adds
returns-then-is_taken-clause-adds c before s =
    let statement = Constraint (heading_of c.args.head.now) (sum_said c.args.left.now) c.args.sense c.args.at (sum_said c.args.right.now) in
    refused before statement (built c.args.self.now) c.unsuited.result c.unsuited.ensures
    (taken_stays_out before (built c.args.self.now) statement s (sym c.is_taken.ensures ∙ c.if-is_taken.true))

pub returns-then-not-suits_sum-clause-adds : goal.returns-then-not-suits_sum-clause-adds
returns-then-not-suits_sum-clause-adds c before s =
    refused before (Constraint (heading_of c.args.head.now) (sum_said c.args.left.now) c.args.sense c.args.at (sum_said c.args.right.now)) (built c.args.self.now) c.unsuited-then-not-suits_sum.result c.unsuited-then-not-suits_sum.ensures
    (unsuited_left before (built c.args.self.now) (heading_of c.args.head.now) (sum_said c.args.left.now) c.args.sense c.args.at (sum_said c.args.right.now) s (λ h. true≢false (sym (c.suits_sum.ensures.1 h) ∙ c.if-not-suits_sum.true)))

pub returns-then-not-suits_sum-2-clause-adds : goal.returns-then-not-suits_sum-2-clause-adds
returns-then-not-suits_sum-2-clause-adds c before s =
    refused before (Constraint (heading_of c.args.head.now) (sum_said c.args.left.now) c.args.sense c.args.at (sum_said c.args.right.now)) (built c.args.self.now) c.unsuited-then-not-suits_sum-2.result c.unsuited-then-not-suits_sum-2.ensures
    (unsuited_right before (built c.args.self.now) (heading_of c.args.head.now) (sum_said c.args.left.now) c.args.sense c.args.at (sum_said c.args.right.now) s (λ h. true≢false (sym (c.suits_sum-2.ensures.1 h) ∙ c.if-not-suits_sum-2.true)))

pub returns-in-Err-clause-adds : goal.returns-in-Err-clause-adds
returns-in-Err-clause-adds c =
    constraint_faulty (built c.args.self.now) (built c.args.self.now) (heading_of c.args.head.now) (sum_said c.args.left.now) c.args.sense c.args.at (sum_said c.args.right.now) c.in-Err.stop
    (sym c.is_taken.ensures ∙ c.if-is_taken.false) (c.suits_sum.ensures.0 c.if-not-suits_sum.false) (c.suits_sum-2.ensures.0 c.if-not-suits_sum-2.false) c.in-Err.ensures

pub returns-in-Err-add_row-clause-adds : goal.returns-in-Err-add_row-clause-adds
returns-in-Err-add_row-clause-adds c =
    row_refused (built c.args.self.now)
    (record { variables = c.args.self.now.variables.keys; columns = c.args.self.now.columns; others = c.args.self.now.others.keys; statements = c.args.self.now.statements; objective = c.args.self.now.objective; system = c.add_row.new.self })
    (heading_of c.args.head.now) (sum_said c.args.left.now) c.args.sense c.args.at (sum_said c.args.right.now) c.in-Ok.form
    (row_of (record { statement = c.len.result; place = c.args.at }) c.in-Ok.form.terms (One c.args.sense c.negated.result)) c.add_row.new.self c.in-Err-add_row.fault c.unadded.result
    (sym c.is_taken.ensures ∙ c.if-is_taken.false) (c.suits_sum.ensures.0 c.if-not-suits_sum.false) (c.suits_sum-2.ensures.0 c.if-not-suits_sum-2.false) c.in-Ok.ensures c.in-Err-add_row.ensures c.unadded.ensures

pub returns-clause-adds : goal.returns-clause-adds
returns-clause-adds c =
    let old = built c.args.self.now in
    let head = heading_of c.args.head.now in
    let free = sym c.is_taken.ensures ∙ c.if-is_taken.false in
    added_constraint old _ head (sum_said c.args.left.now) c.args.sense c.args.at (sum_said c.args.right.now) c.in-Ok.form
    (built_constraint old _ head.name c.args.at c.in-Ok.form c.args.sense free
    refl
    refl
    (c.in_ok-insert.ensures.keys ∙ ap (insert_key (pointwise nat_eq) c.args.self.now.others.keys) c.in_ok-copy.ensures)
    (c.in_ok-push.ensures.ok ∙ ap (λ (n : WrittenText). c.args.self.now.statements ++ n ∷ []) c.in_ok-copy-2.ensures)
    refl
    (c.in-Ok-add_row.ensures.1 ∙ pushed_row c.args.self.now.system c.args.at c.args.sense c.in-Ok.form.terms _ _ _ _ c.len.ensures (c.negated.ensures ∙ ap negate c.constant_part.ensures)))
    c.in-Ok-add_row.ensures.0
    free
    (c.suits_sum.ensures.0 c.if-not-suits_sum.false)
    (c.suits_sum-2.ensures.0 c.if-not-suits_sum-2.false)
    c.in-Ok.ensures
