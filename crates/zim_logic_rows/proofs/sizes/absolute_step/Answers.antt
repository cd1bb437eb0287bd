-- The step by the rows of the sign and its own numbers, and past where one of them is.
use Rattle.std.proofs.lemmas.Result.{err_from_is_err_and}
use Rattle.std.proofs.Common.{arith}
use Rattle.zim_logic_rows.proofs.SizeStepLemmas.{size_stops, size_past, size_gives}
use Rattle.zim_logic_rows.proofs.sizes.absolute_step.Goals as goal

pub returns-in_err-rows : goal.returns-in_err-rows
returns-in_err-rows c =
    let p = err_from_is_err_and c.from_residual.result c.from_residual.ensures.1 in
    rw (p.1, p.2) (size_stops c.args.from c.args.t.now c.args.p c.zero.result _ c.zero.ensures c.in_err-rows.ensures)

pub returns-in-Err : goal.returns-in-Err
returns-in-Err c = size_past c.args.from c.args.t.now c.args.p c.zero.result _ (record {}) c.zero.ensures c.in_ok-rows.ensures c.in-Err.ensures

pub returns : goal.returns
returns c =
    size_gives c.args.from c.args.t.now c.args.p c.zero.result c.in-Ok.numbers _ _ _ (let low = c.requires.behind.1 in omega arith) c.terms-ordered.ensures.ordered c.zero.ensures c.in_ok-rows.ensures c.in-Ok.ensures c.in_ok-add_size_rows.ensures c.in_ok-columns.ensures
