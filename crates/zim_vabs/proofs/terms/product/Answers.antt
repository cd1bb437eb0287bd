-- The factor, then the numbers behind it, one after another.
use Rattle.std.proofs.Common.{arith, sym, ◌∙◌}
use Rattle.std.proofs.lemmas.Result.{err_from_is_err_and}
use Rattle.zim_answer.proofs.GivesLemmas.{Stops-goes}
use Rattle.zim_answer.proofs.GoesLemmas.{goes_next, goes_done}
use Rattle.zim_rows.specs.Steps.{encode_cause}
use Rattle.zim_vabs.specs.Turns.{further_factor, term_product}
use Rattle.zim_vabs.proofs.TermCallLemmas.{factor_here, factors_begin}
use Rattle.zim_vabs.proofs.terms.product.Goals as goal

pub times-requires : goal.times-requires
times-requires c = factor_here c.args.others.now c.loop-other.other-index c.other-item.result c.loop-other-test.true c.other-item.is c.requires

pub returns-in_err-form-2 : goal.returns-in_err-form-2
returns-in_err-form-2 c =
    let p = err_from_is_err_and c.from_residual-in_err-form-2.result c.from_residual-in_err-form-2.ensures.1 in
    rw (p.1, p.2)
    (Stops-goes further_factor c.loop-other.form c.args.others.now c.loop-other.other-index c.other-item.result (encode_cause c.in_err-form-2.field-0.0) (term_product c.args.factor.now c.args.others.now c.args.form) c.loop-other-test.true (sym c.other-item.is) c.in_err-form-2.ensures
    (c.loop-other.invariant ∙ factors_begin c.args.factor.now c.args.others.now c.args.form c.in_ok-form.form c.in_ok-form.ensures))

pub loop-other-preserved : goal.loop-other-preserved
loop-other-preserved c =
    goes_next further_factor c.loop-other.form c.in_ok-form-2.form c.args.others.now c.loop-other.other-index c.other-item.result _ c.loop-other-test.true (sym c.other-item.is) c.in_ok-form-2.ensures c.loop-other.invariant

pub returns : goal.returns
returns c =
    goes_done further_factor c.loop-other.form c.args.others.now c.loop-other.other-index (term_product c.args.factor.now c.args.others.now c.args.form) (omega (arith, c.loop-other-test.false))
    (c.loop-other.invariant ∙ factors_begin c.args.factor.now c.args.others.now c.args.form c.in_ok-form.form c.in_ok-form.ensures)
