-- The column, as a literal.
use Rattle.std.proofs.lemmas.Result.{err_from_is_err_and}
use Rattle.zim_cond.specs.Conditions.{equal_column}
use Rattle.zim_cond.proofs.CompareCallLemmas.{signed_stops, signed_gives}
use Rattle.zim_cond.proofs.comparisons.equal.Goals as goal

pub returns-in_err-column : goal.returns-in_err-column
returns-in_err-column c =
    let p = err_from_is_err_and c.from_residual.result c.from_residual.ensures.1 in
    rw (p.1, p.2) (signed_stops (equal_column c.args.from c.args.t.now) c.args.positive c.args.system.now _ c.in_err-column.ensures)

pub returns : goal.returns
returns c = signed_gives (equal_column c.args.from c.args.t.now) c.args.positive c.args.system.now c.equal_column.new.system c.in_ok-column.column c.in_ok-column.ensures
