use Rattle.std.proofs.Common.{Err, sym, ◌∙◌, ap}
use Rattle.zim_forms.proofs.QuotientLemmas.{quotient_ok, quotient_past, quotient_zero}
use Rattle.zim_forms.proofs.numbers.exact_quotient.Goals as goal

pub returns-in-Ok : goal.returns-in-Ok
returns-in-Ok c = quotient_ok c.args.a c.args.b c.in-Ok.q (sym c.in-Ok.is ∙ c.div.ensures.answer)

pub returns-in-Err-Past : goal.returns-in-Err-Past
returns-in-Err-Past c = quotient_past c.args.a c.args.b (ap Err (sym c.in-Err-Past.field-0-is) ∙ sym c.in-Err-Past.is ∙ c.div.ensures.answer)

pub returns-in-Err-DivZero : goal.returns-in-Err-DivZero
returns-in-Err-DivZero c = absurd (quotient_zero c.args.a c.args.b c.requires (ap Err (sym c.in-Err-DivZero.field-0-is) ∙ sym c.in-Err-DivZero.is ∙ c.div.ensures.answer))
