-- The least whole multiple with its ends, and its comparison with 0.
use Rattle.std.proofs.lemmas.Result.{err_from_is_err_and}
use Rattle.zim_cond.proofs.CompareCallLemmas.{ranged_over, form_stops, form_told}
use Rattle.zim_cond.proofs.comparisons.compared.Goals as goal

pub compared_with_zero-requires : goal.compared_with_zero-requires
compared_with_zero-requires c = ranged_over c.args.from c.args.form.now c.in_ok-multiple.multiple.ranged c.args.system.now c.valid.ensures c.requires c.in_ok-multiple.ensures.ranged

pub returns-in_err-multiple : goal.returns-in_err-multiple
returns-in_err-multiple c =
    let p = err_from_is_err_and c.from_residual.result c.from_residual.ensures.1 in
    rw (p.1, p.2) (form_stops c.args.from c.args.relation c.args.form.now c.args.system.now _ c.in_err-multiple.ensures.ranged)

pub returns : goal.returns
returns c =
    form_told c.args.from c.args.relation c.args.form.now c.in_ok-multiple.multiple.ranged c.args.system.now c.compared_with_zero.new.system c.compared_with_zero.result c.in_ok-multiple.ensures.ranged c.compared_with_zero.ensures
