-- A text without angles, something behind them, every field, and fields.
use Rattle.std.proofs.Common.{sym, ap, ◌∙◌}
use Rattle.std.proofs.lemmas.Result.{err_from_is_err_and}
use Rattle.std.specs.Prelude.{option_map}
use Rattle.zim_read.specs.Causes.{spelled}
use Rattle.zim_read.specs.Private.{seen_both}
use Rattle.zim_read.proofs.TemplateLemmas.{no_angles, by_angles, set_followed, set_every, set_given, set_stops}
use Rattle.zim_read.proofs.templates.set_template.Goals as goal

pub returns-in_default : goal.returns-in_default
returns-in_default c = ap spelled (no_angles c.args.text.now (sym c.in_angles.ensures ∙ ap (option_map seen_both) c.in_default.is)).0

pub returns-then-not-is_blank_only : goal.returns-then-not-is_blank_only
returns-then-not-is_blank_only c =
    ap spelled ((by_angles c.args.text.now c.in-Some.inner.now c.in-Some.rest.now (rw (c.in-Some.inner-is, c.in-Some.rest-is) (sym c.in-Some.ensures))).0
    ∙ set_followed c.in-Some.inner.now c.in-Some.rest.now (sym c.is_blank_only.ensures ∙ c.if-not-is_blank_only.true))

pub returns-in-Some-every_of : goal.returns-in-Some-every_of
returns-in-Some-every_of c =
    ap spelled ((by_angles c.args.text.now c.in-Some.inner.now c.in-Some.rest.now (rw (c.in-Some.inner-is, c.in-Some.rest-is) (sym c.in-Some.ensures))).0
    ∙ set_every c.in-Some.inner.now c.in-Some.rest.now c.in-Some-every_of.kind (sym c.is_blank_only.ensures ∙ c.if-not-is_blank_only.false) (sym c.every_of.ensures ∙ c.in-Some-every_of.is))

pub returns-in_err-fields_of : goal.returns-in_err-fields_of
returns-in_err-fields_of c =
    let p = err_from_is_err_and c.from_residual.result c.from_residual.ensures.1 in
    rw (p.1, p.2)
    (set_stops c.args.text.now c.in-Some.inner.now c.in-Some.rest.now c.in_err-fields_of.field-0.0 (rw (c.in-Some.inner-is, c.in-Some.rest-is) (sym c.in-Some.ensures)) (sym c.is_blank_only.ensures ∙ c.if-not-is_blank_only.false) (sym c.every_of.ensures ∙ c.in_default-every_of.is) c.in_err-fields_of.ensures)

pub returns : goal.returns
returns c =
    set_given c.args.text.now c.in-Some.inner.now c.in-Some.rest.now _ (rw (c.in-Some.inner-is, c.in-Some.rest-is) (sym c.in-Some.ensures)) (sym c.is_blank_only.ensures ∙ c.if-not-is_blank_only.false) (sym c.every_of.ensures ∙ c.in_default-every_of.is) c.in_ok-fields_of.ensures
