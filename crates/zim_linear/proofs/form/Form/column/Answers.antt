use Rattle.std.proofs.Common.{◌≤◌, arith}
use Rattle.zim_rational.proofs.Whole.{one_different}
use Rattle.zim_linear.proofs.form.Form.column.Goals as goal

pub invariant_of-result : goal.invariant_of-result
invariant_of-result c =
    let first : 0 ≤ c.args.j = omega arith in
    rw (c.in_ok-push.ensures.items, c.new-terms.ensures.items, c.one.ensures) (first, one_different, tt)
