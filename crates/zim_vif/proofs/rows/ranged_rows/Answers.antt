-- The sides less the constant, or the ends and the rows under the literal.
use Rattle.std.proofs.Common.{sym}
use Rattle.std.proofs.lemmas.Result.{err_from_is_err_and}
use Rattle.zim_vif.proofs.RowCallLemmas.{range_gives, range_past, range_stops, range_told}
use Rattle.zim_vif.proofs.rows.ranged_rows.Goals as goal

pub returns-in_err-ends-in-Some : goal.returns-in_err-ends-in-Some
returns-in_err-ends-in-Some c =
    let p = err_from_is_err_and c.from_residual-in_err-ends-in-Some.result c.from_residual-in_err-ends-in-Some.ensures.1 in
    rw (p.1, p.2) (range_stops c.args.from c.args.guard c.in-Some.l c.args.form.now c.args.low c.args.high c.args.system.now _ c.in-Some.is c.in_err-ends-in-Some.ensures)

pub returns-in_ok-range_rows-in-Ok : goal.returns-in_ok-range_rows-in-Ok
returns-in_ok-range_rows-in-Ok c =
    range_gives c.args.from c.args.guard c.args.form.now c.args.low c.args.high c.in-Ok.limits _ c.args.system.now c.in-None.is (sym c.in-Ok.ensures) c.in_ok-range_rows-in-Ok.ensures

pub returns-in-Err : goal.returns-in-Err
returns-in-Err c =
    range_past c.args.from c.args.guard c.args.form.now c.args.low c.args.high _ c.args.system.now c.past_at.result c.in-None.is c.past_at.ensures (sym c.in-Err.ensures)

pub returns-in_ok-ends-in-Some : goal.returns-in_ok-ends-in-Some
returns-in_ok-ends-in-Some c =
    range_told c.args.from c.args.guard c.in-Some.l c.args.form.now c.args.low c.args.high c.in_ok-ends-in-Some.ends c.args.system.now c.guarded_range.result c.in-Some.is c.in_ok-ends-in-Some.ensures c.guarded_range.ensures
