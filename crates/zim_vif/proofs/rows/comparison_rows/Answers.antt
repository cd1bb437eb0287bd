-- The row of the form alone, or the ends and the rows under the literal.
use Rattle.std.proofs.Common.{ap, ◌∙◌}
use Rattle.std.proofs.lemmas.Result.{err_from_is_err_and}
use Rattle.zim_rational.specs.Rational.{negate}
use Rattle.zim_vif.proofs.RowCallLemmas.{plain_gives, guarded_stops, guarded_told}
use Rattle.zim_vif.proofs.rows.comparison_rows.Goals as goal

pub returns-in_ok-plain_rows-in-None : goal.returns-in_ok-plain_rows-in-None
returns-in_ok-plain_rows-in-None c =
    plain_gives c.args.from c.args.guard c.args.relation c.args.form.now _ c.args.system.now c.in-None.is c.in_ok-plain_rows-in-None.ensures

pub returns-in_err-ends-in-Some : goal.returns-in_err-ends-in-Some
returns-in_err-ends-in-Some c =
    let p = err_from_is_err_and c.from_residual-in_err-ends-in-Some.result c.from_residual-in_err-ends-in-Some.ensures.1 in
    rw (p.1, p.2) (guarded_stops c.args.from c.args.guard c.in-Some.l c.args.relation c.args.form.now c.args.system.now _ c.in-Some.is c.in_err-ends-in-Some.ensures)

pub guarded_rows-requires-clause-right_side : goal.guarded_rows-requires-clause-right_side
guarded_rows-requires-clause-right_side c = c.negated-right.ensures ∙ ap negate c.constant_part.ensures

pub returns-in_ok-ends-in-Some : goal.returns-in_ok-ends-in-Some
returns-in_ok-ends-in-Some c =
    guarded_told c.args.from c.args.guard c.in-Some.l c.args.relation c.args.form.now c.in_ok-ends-in-Some.ends c.args.system.now c.guarded_rows.result c.in-Some.is c.in_ok-ends-in-Some.ensures c.guarded_rows.ensures
