use Rattle.std.proofs.Common.{ℤ, pos, ◌≡◌, ◌≤◌, unsigned_abs, to_z, refl, subst}
use Rattle.std.specs.Int.{w128}
use Rattle.zim_fraction.specs.Limit.{limit}
use Rattle.zim_fraction.proofs.PartLaws.{wrapped, carried}
use Rattle.zim_linear.specs.Integers.{multiple_from}
use Rattle.zim_linear.proofs.FormLaws.{none_from_length}
use Rattle.zim_linear.proofs.IntegerLemmas.{multiple_step, multiple_past, multiple_end, wrapped_multiple}
use Rattle.zim_linear.proofs.integers.multiple.Goals as goal

pub returns-in-Err : goal.returns-in-Err
returns-in-Err c =
    subst
    (λ (f : ℤ). ¬ (multiple_from (unsigned_abs f) c.args.rest.now ≤ limit))
    (wrapped c.args.first c.args.first refl c.requires.bound)
    (multiple_past _ _ _ _ _ _ _ _ c.loop-t.invariant (c.in-Some.ensures.cases.0) (carried _ (pos c.in-Some.t.now.1.denom) c.denom.ensures.bound c.denom.ensures.value) c.in-Err.ensures.answer)

pub loop-t-preserved : goal.loop-t-preserved
loop-t-preserved c =
    wrapped_multiple _ _ _ _ (multiple_step _ _ _ _ _ _ _ _ c.loop-t.invariant (c.in-Some.ensures.cases.0) (carried _ (pos c.in-Some.t.now.1.denom) c.denom.ensures.bound c.denom.ensures.value) c.in-Ok.ensures.answer)

pub returns : goal.returns
returns c =
    subst
    (λ (f : ℤ). (multiple_from (unsigned_abs f) c.args.rest.now ≤ limit) × (to_z w128 c.loop-t.k-bits ≡ pos (multiple_from (unsigned_abs f) c.args.rest.now)))
    (wrapped c.args.first c.args.first refl c.requires.bound)
    (multiple_end _ _ _ _ c.loop-t.invariant (none_from_length _ c.in_default.ensures.cases))
