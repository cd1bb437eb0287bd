-- Each new column stands behind those of the form before it.
use Rattle.zim_linear.specs.Sums.{negated_form}
use Rattle.zim_logic_rows.proofs.ColumnLaws.{behind_negated, behind_next}
use Rattle.zim_logic_rows.proofs.sizes.add_size_rows.Goals as goal

pub with_column-requires : goal.with_column-requires
with_column-requires c = rw c.in_ok-turned.ensures (behind_negated c.args.p c.args.form.now c.requires.behind)

pub with_column-requires-3 : goal.with_column-requires-3
with_column-requires-3 c =
    rw (c.in_ok-less.ensures, c.in_ok-turned.ensures) (behind_next c.args.p (negated_form c.args.form.now) c.one.result (behind_negated c.args.p c.args.form.now c.requires.behind))

pub with_column-requires-4 : goal.with_column-requires-4
with_column-requires-4 c = rw c.in_ok-more.ensures (behind_next c.args.p c.args.form.now c.one-2.result c.requires.behind)
