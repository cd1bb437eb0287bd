use Rattle.zim_rows.proofs.ScaledLemmas.{form_factor_past, form_terms_stop, form_constant_past, form_made}
use Rattle.zim_rows.proofs.scaled.scaled_objective.Goals as goal

pub returns-in-Err : goal.returns-in-Err
returns-in-Err c = form_factor_past c.args.given.now c.in-Err.ensures.answer

pub returns-in-Err-scaled_terms : goal.returns-in-Err-scaled_terms
returns-in-Err-scaled_terms c =
    form_terms_stop c.args.given.now _ _ _ c.terms.ensures.value c.in-Ok.ensures.answer c.in-Err-scaled_terms.ensures

pub returns-in-Ok-scaled_number : goal.returns-in-Ok-scaled_number
returns-in-Ok-scaled_number c =
    form_made c.args.given.now _ _ _ _ _ c.terms.ensures.value c.constant_part.ensures c.in-Ok.ensures.answer c.in-Ok-scaled_terms.ensures c.in-Ok-scaled_number.ensures

pub returns-in-Err-scaled_number : goal.returns-in-Err-scaled_number
returns-in-Err-scaled_number c =
    form_constant_past c.args.given.now _ _ _ c.constant_part.ensures c.in-Ok.ensures.answer c.in-Err-scaled_number.ensures
