use Rattle.std.proofs.Common.{sym, ap, ◌∙◌}
use Rattle.zim_forms.proofs.ColumnLaws.{made_terms, made_form}
use Rattle.zim_linear.specs.Forms.{form_of}
use Rattle.zim_forms.proofs.forms.with_column.Goals as goal

pub of_terms-requires : goal.of_terms-requires
of_terms-requires c =
    made_terms c.args.a.now c.args.x c.args.q _ c.requires c.terms.ensures.ordered (rw (sym c.terms.ensures.value) c.in_ok-terms.ensures.more) (rw (sym c.terms.ensures.value) c.in_ok-terms.ensures.same)

pub returns : goal.returns
returns c =
    c.of_terms.ensures
    ∙ ap (form_of _) c.constant_part.ensures
    ∙ made_form c.args.a.now c.args.x c.args.q _ c.requires c.terms.ensures.ordered (rw (sym c.terms.ensures.value) c.in_ok-terms.ensures.more) (rw (sym c.terms.ensures.value) c.in_ok-terms.ensures.same)
