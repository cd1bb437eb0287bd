-- The sum of the constants first, then the terms one after another.
use Rattle.std.proofs.Common.{sym, ap, ◌∙◌}
use Rattle.std.proofs.lemmas.Result.{err_from_is_err_and}
use Rattle.zim_fraction.specs.Answers.{sum_answer}
use Rattle.zim_linear.specs.Forms.{LinearForm, form_of}
use Rattle.zim_gathered.proofs.SumLemmas.{sum_gave, sum_stops, sum_past}
use Rattle.zim_gathered.proofs.columns.ColumnForm.add.Goals as goal

pub returns-in-Err : goal.returns-in-Err
returns-in-Err c =
    let a : LinearForm = form_of c.self.inside.coefficients.entries c.self.inside.constant in
    rw (← c.self.view_is) (sum_past a c.args.more.now (record {}) (sym c.in-Err.is ∙ c.add.ensures.answer ∙ ap (sum_answer a.constant) c.constant_part.ensures))

pub returns-in_err-add_terms : goal.returns-in_err-add_terms
returns-in_err-add_terms c =
    let a : LinearForm = form_of c.self.inside.coefficients.entries c.self.inside.constant in
    let p = err_from_is_err_and c.from_residual.result c.from_residual.ensures.1 in
    rw (p.1, p.2, ← c.self.view_is) (sum_stops a c.args.more.now _ c.terms.ensures.ordered (rw (sym c.terms.ensures.value) c.in_err-add_terms.ensures.sum))

pub returns : goal.returns
returns c =
    let a : LinearForm = form_of c.self.inside.coefficients.entries c.self.inside.constant in
    rw (← c.self.view_is)
    (sum_gave a c.args.more.now c.in-Ok.constant c.add_terms.new.coefficients.entries c.terms.ensures.ordered (sym c.in-Ok.is ∙ c.add.ensures.answer ∙ ap (sum_answer a.constant) c.constant_part.ensures) (rw (sym c.terms.ensures.value) c.in_ok-add_terms.ensures.sum))
