-- A value's field, and none.
use Rattle.std.proofs.Common.{sym, ap, refl, ◌∙◌}
use Rattle.zim_read.specs.Causes.{spelled}
use Rattle.zim_read.proofs.TemplateLemmas.{scalar_is}
use Rattle.zim_read.proofs.templates.scalar_template.Goals as goal

pub returns-in-Some : goal.returns-in-Some
returns-in-Some c = ap spelled (scalar_is c.args.text.now) ∙ rw (sym c.field_of.ensures ∙ c.in-Some.is, c.new.ensures) refl

pub returns-in-None : goal.returns-in-None
returns-in-None c = ap spelled (scalar_is c.args.text.now) ∙ rw (sym c.field_of.ensures ∙ c.in-None.is) refl
