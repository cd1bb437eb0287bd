-- The constant goes to the right side with its sign turned.
use Rattle.std.proofs.Common.{ap, ◌∙◌}
use Rattle.zim_rational.specs.Rational.{negate}
use Rattle.zim_vif.proofs.RowCallLemmas.{compared_told}
use Rattle.zim_vif.proofs.rows.compared.Goals as goal

pub returns : goal.returns
returns c =
    compared_told c.args.from c.args.form.now c.args.sense c.negated-right.result _ c.alone.result (c.negated-right.ensures ∙ ap negate c.constant_part.ensures) c.in_ok-row.ensures c.alone.ensures
