-- A text without angles, fields, and the value's field behind them.
use Rattle.std.proofs.Common.{sym, ap, refl, ◌∙◌}
use Rattle.std.specs.Prelude.{option_map}
use Rattle.std.proofs.lemmas.Result.{err_from_is_err_and}
use Rattle.zim_read.specs.Causes.{spelled}
use Rattle.zim_read.specs.Private.{seen_both}
use Rattle.zim_read.proofs.TemplateLemmas.{no_angles, indexed_given, indexed_stops}
use Rattle.zim_read.proofs.templates.indexed_template.Goals as goal

pub returns-in_default : goal.returns-in_default
returns-in_default c = ap spelled (no_angles c.args.text.now (sym c.in_angles.ensures ∙ ap (option_map seen_both) c.in_default.is)).1

pub returns-in_err-index : goal.returns-in_err-index
returns-in_err-index c =
    let p = err_from_is_err_and c.from_residual.result c.from_residual.ensures.1 in
    rw (p.1, p.2)
    (indexed_stops c.args.text.now c.in-Some.inner.now c.in-Some.rest.now c.in_err-index.field-0.0 (rw (c.in-Some.inner-is, c.in-Some.rest-is) (sym c.in-Some.ensures)) c.in_err-index.ensures)

pub returns-in_default-field_of : goal.returns-in_default-field_of
returns-in_default-field_of c =
    ap spelled (indexed_given c.args.text.now c.in-Some.inner.now c.in-Some.rest.now c.in_ok-index.index (rw (c.in-Some.inner-is, c.in-Some.rest-is) (sym c.in-Some.ensures)) c.in_ok-index.ensures)
    ∙ rw (sym c.field_of.ensures ∙ c.in_default-field_of.is) refl

pub returns : goal.returns
returns c =
    ap spelled (indexed_given c.args.text.now c.in-Some.inner.now c.in-Some.rest.now c.in_ok-index.index (rw (c.in-Some.inner-is, c.in-Some.rest-is) (sym c.in-Some.ensures)) c.in_ok-index.ensures)
    ∙ rw (sym c.field_of.ensures ∙ c.in-Some-field_of.is) refl
