-- What each form of a constraint makes, by what its parts make.
use Rattle.std.proofs.Common.{length, ◌≤◌, arith, ap, ◌∙◌}
use Rattle.std.proofs.lemmas.Result.{err_from_is_err_and}
use Rattle.zim_vabs.proofs.TermLaws.{columns_after}
use Rattle.zim_vif.specs.Constraints.{makes_constraint}
use Rattle.zim_vif.proofs.OverConstraintLaws.{constraint_over_more, part_here, otherwise_here, and_members, vif_parts}
use Rattle.zim_vif.proofs.ConstraintWeightLemmas.{weight, parts_weigh, weight-And, weight-Vif, part_weighs, other_weight}
use Rattle.zim_vif.proofs.ConstraintCallLemmas.{guard_later, made_literal, guard_before, literal_later, part_literal, under_stops, under_told, constraint_extends, under_extends, asking_begins, asking_stops, asking_goes_on, asking_ends, test_stops, first_stops, negation_of, negation_before}
use Rattle.zim_vif.proofs.constraints.+constraint.Goals as goal

-- ---- parts one after another

pub each-constraint-requires : goal.each-constraint-requires
each-constraint-requires t c =
    let small = part_weighs c.args.parts.now c.loop-part.part-index c.part-item.result c.loop-part-test.true c.part-item.is in
    let over = part_here (length c.args.system.now.columns) (length c.loop-part.system.columns) c.args.parts.now c.loop-part.part-index c.part-item.result (columns_after c.loop-part.system c.args.system.now c.loop-part.invariant.extends) c.loop-part-test.true c.part-item.is c.requires.over in
    (omega (arith, c.decreases), (over, guard_later c.args.system.now c.loop-part.system c.args.guard c.loop-part.invariant.extends c.requires.guard))

pub each-loop-part-init : goal.each-loop-part-init
each-loop-part-init t c = asking_begins c.args.statement c.args.guard c.args.system.now c.args.parts.now

pub each-returns-in_err-constraint : goal.each-returns-in_err-constraint
each-returns-in_err-constraint t c =
    let p = err_from_is_err_and c.from_residual.result c.from_residual.ensures.1 in
    rw (p.1, p.2)
    (asking_stops c.args.statement c.args.guard c.args.system.now c.loop-part.system c.args.parts.now c.loop-part.part-index c.part-item.result _ c.loop-part-test.true c.part-item.is c.loop-part.invariant c.in_err-constraint.ensures)

pub each-loop-part-preserved : goal.each-loop-part-preserved
each-loop-part-preserved t c =
    let over = part_here (length c.args.system.now.columns) (length c.loop-part.system.columns) c.args.parts.now c.loop-part.part-index c.part-item.result (columns_after c.loop-part.system c.args.system.now c.loop-part.invariant.extends) c.loop-part-test.true c.part-item.is c.requires.over in
    asking_goes_on c.args.statement c.args.guard c.args.system.now c.loop-part.system c.constraint.new.system c.args.parts.now c.loop-part.part-index c.part-item.result c.loop-part-test.true c.part-item.is c.loop-part.invariant c.in_ok-constraint.ensures
    (constraint_extends c.args.statement c.args.guard c.part-item.result c.loop-part.system c.constraint.new.system c.valid.ensures (guard_later c.args.system.now c.loop-part.system c.args.guard c.loop-part.invariant.extends c.requires.guard) over c.in_ok-constraint.ensures)

pub each-returns : goal.each-returns
each-returns t c =
    asking_ends c.args.statement c.args.guard c.args.system.now c.loop-part.system c.args.parts.now c.loop-part.part-index (omega (arith, c.loop-part-test.false)) c.loop-part.invariant

-- ---- the choice of a `vif`

pub choice-returns-in_err-b : goal.choice-returns-in_err-b
choice-returns-in_err-b t c =
    let p = err_from_is_err_and c.from_residual.result c.from_residual.ensures.1 in
    rw (p.1, p.2) (test_stops c.args.from c.args.guard c.args.test.now c.args.first.now c.args.otherwise.now c.args.system.now _ c.in_err-b.ensures.steps)

pub choice-under-requires : goal.choice-under-requires
choice-under-requires t c =
    let made = c.in_ok-b.ensures.made in (
      omega (arith, c.decreases),
      (
        constraint_over_more (length c.args.system.now.columns) (length c.truth.new.system.columns) c.args.first.now (columns_after c.truth.new.system c.args.system.now made.widens.extends) c.requires.first,
        (guard_later c.args.system.now c.truth.new.system c.args.guard made.widens.extends c.requires.guard, (made_literal c.args.system.now c.truth.new.system _ c.in_ok-b.b made, guard_before c.args.system.now c.truth.new.system c.args.guard _ c.in_ok-b.b c.requires.guard made)),
      ),
    )

pub choice-returns-in_err-under : goal.choice-returns-in_err-under
choice-returns-in_err-under t c =
    let p = err_from_is_err_and c.from_residual-in_err-under.result c.from_residual-in_err-under.ensures.1 in
    rw (p.1, p.2) (first_stops c.args.from c.args.guard c.args.test.now c.args.first.now c.args.otherwise.now c.in_ok-b.b c.args.system.now c.truth.new.system _ c.in_ok-b.ensures.steps c.in_err-under.ensures)

pub choice-under-requires-in-Some : goal.choice-under-requires-in-Some
choice-under-requires-in-Some t c =
    let made = c.in_ok-b.ensures.made in
    let literal = made_literal c.args.system.now c.truth.new.system _ c.in_ok-b.b made in
    let guard = guard_later c.args.system.now c.truth.new.system c.args.guard made.widens.extends c.requires.guard in
    let few = columns_after c.truth.new.system c.args.system.now made.widens.extends in
    let first = constraint_over_more (length c.args.system.now.columns) (length c.truth.new.system.columns) c.args.first.now few c.requires.first in
    let more = under_extends c.args.from c.args.guard c.in_ok-b.b c.args.first.now c.truth.new.system c.under.new.system c.valid-2.ensures guard literal first c.in_ok-under.ensures in
    let some = columns_after c.under.new.system c.truth.new.system more in
    let less : length c.args.system.now.columns ≤ length c.under.new.system.columns = omega arith in
    let small = other_weight c.args.otherwise.now c.in-Some.part c.in-Some.is in
    let same = ap weight c.get.ensures in (
      omega (arith, c.decreases),
      (
        rw c.get.ensures (otherwise_here (length c.args.system.now.columns) (length c.under.new.system.columns) c.args.otherwise.now c.in-Some.part less c.in-Some.is c.requires.otherwise),
        (
          guard_later c.truth.new.system c.under.new.system c.args.guard more guard,
          (
            negation_of c.under.new.system c.in_ok-b.b c.negation.result c.negation.ensures (literal_later c.truth.new.system c.under.new.system c.in_ok-b.b more literal),
            negation_before c.args.guard c.in_ok-b.b c.negation.result c.negation.ensures (guard_before c.args.system.now c.truth.new.system c.args.guard _ c.in_ok-b.b c.requires.guard made),
          ),
        ),
      ),
    )

-- ---- a part under its literal

pub under-returns-in_err-l : goal.under-returns-in_err-l
under-returns-in_err-l t c =
    let p = err_from_is_err_and c.from_residual.result c.from_residual.ensures.1 in
    rw (p.1, p.2) (under_stops c.args.from c.args.guard c.args.b (makes_constraint c.args.from.statement c.args.c.now) c.args.system.now _ c.in_err-l.ensures)

pub under-constraint-requires : goal.under-constraint-requires
under-constraint-requires t c =
    let made = part_literal c.args.from c.args.guard c.args.b c.in_ok-l.l c.args.system.now c.part_guard.new.system c.valid.ensures c.requires.guard c.requires.literal c.in_ok-l.ensures in
    (omega (arith, c.decreases), (constraint_over_more (length c.args.system.now.columns) (length c.part_guard.new.system.columns) c.args.c.now (columns_after c.part_guard.new.system c.args.system.now made.extends) c.requires.over, made.literal))

pub under-returns : goal.under-returns
under-returns t c = under_told c.args.from c.args.guard c.args.b c.in_ok-l.l (makes_constraint c.args.from.statement c.args.c.now) c.args.system.now c.part_guard.new.system c.constraint.new.system c.constraint.result c.in_ok-l.ensures c.constraint.ensures

-- ---- the forms

pub constraint-each-requires : goal.constraint-each-requires
constraint-each-requires t c =
    let small = ap weight c.in-And.is ∙ weight-And c.in-And.parts in
    let same = ap parts_weigh c.as_slice.ensures in
    (omega (arith, c.decreases), (rw c.as_slice.ensures (and_members (length c.args.system.now.columns) c.args.c.now c.in-And.parts c.in-And.is c.requires.over), c.requires.guard))

pub constraint-choice-requires : goal.constraint-choice-requires
constraint-choice-requires t c =
    let small = ap weight c.in-Vif.is ∙ weight-Vif c.in-Vif.place c.in-Vif.test c.in-Vif.first c.in-Vif.otherwise in
    let same = ap weight c.get-in-Vif-2.ensures in
    let parts = vif_parts (length c.args.system.now.columns) c.args.c.now c.in-Vif.place c.in-Vif.test c.in-Vif.first c.in-Vif.otherwise c.in-Vif.is c.requires.over in
    (omega (arith, c.decreases), (rw c.get-in-Vif.ensures parts.test_over, (rw c.get-in-Vif-2.ensures parts.first_over, (parts.other_over, c.requires.guard))))
