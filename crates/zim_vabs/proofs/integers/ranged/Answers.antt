-- The multiple, then its ends, then the constant.
use Rattle.std.proofs.lemmas.Result.{err_from_is_err_and}
use Rattle.zim_vabs.proofs.IntegerCallLemmas.{ranged_stops, multiple_over, ranged_ends_past, ranged_gives}
use Rattle.zim_vabs.proofs.integers.ranged.Goals as goal

pub returns-in_err-multiple-clause-ranged : goal.returns-in_err-multiple-clause-ranged
returns-in_err-multiple-clause-ranged c =
    let p = err_from_is_err_and c.from_residual.result c.from_residual.ensures.1 in
    rw (p.1, p.2) (ranged_stops c.args.system.now.columns c.args.form.now _ c.in_err-multiple.ensures.answer)

pub ends-requires : goal.ends-requires
ends-requires c = multiple_over c.args.system.now.columns c.args.form.now _ _ c.in_ok-multiple.ensures.answer c.requires c.sides.ensures

pub returns-in-Err-clause-ranged : goal.returns-in-Err-clause-ranged
returns-in-Err-clause-ranged c =
    ranged_ends_past c.args.system.now.columns c.args.form.now c.in_ok-multiple.multiple _ (record {}) c.in_ok-multiple.ensures.answer c.sides.ensures c.in-Err.ensures

pub returns-in-Ok-with_ends-clause-ranged : goal.returns-in-Ok-with_ends-clause-ranged
returns-in-Ok-with_ends-clause-ranged c =
    ranged_gives c.args.system.now.columns c.args.form.now c.in_ok-multiple.multiple _ c.in-Ok.sides _ c.in_ok-multiple.ensures.answer c.sides.ensures c.in-Ok.ensures c.in-Ok-with_ends.ensures

pub returns-in-Err-with_ends-clause-ranged : goal.returns-in-Err-with_ends-clause-ranged
returns-in-Err-with_ends-clause-ranged c =
    ranged_gives c.args.system.now.columns c.args.form.now c.in_ok-multiple.multiple _ c.in-Ok.sides _ c.in_ok-multiple.ensures.answer c.sides.ensures c.in-Ok.ensures c.in-Err-with_ends.ensures
