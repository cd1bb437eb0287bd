-- By the order of the two numbers.
use Rattle.std.specs.declared.cmp.Ordering.TheVariants.{Less, Equal, Greater}
use Rattle.zim_vif.proofs.RowCallLemmas.{ordered_as, less_told, equal_told, crossed_told}
use Rattle.zim_vif.proofs.rows.range_rows.Goals as goal

pub returns-in_ok-row-in-Less : goal.returns-in_ok-row-in-Less
returns-in_ok-row-in-Less c =
    less_told c.args.from c.args.form.now c.args.low c.args.high _ c.alone.result (ordered_as c.args.low c.args.high c.compare.result Less c.compare.ensures c.in-Less.is) c.in_ok-row-in-Less.ensures c.alone.ensures

pub returns-in_ok-row-in-Equal : goal.returns-in_ok-row-in-Equal
returns-in_ok-row-in-Equal c =
    equal_told c.args.from c.args.form.now c.args.low c.args.high _ c.alone-in-Equal.result (ordered_as c.args.low c.args.high c.compare.result Equal c.compare.ensures c.in-Equal.is) c.in_ok-row-in-Equal.ensures c.alone-in-Equal.ensures

pub returns-in_ok-under-in-Greater : goal.returns-in_ok-under-in-Greater
returns-in_ok-under-in-Greater c =
    crossed_told c.args.from c.args.form.now c.args.low c.args.high _ _ c.pair.result (ordered_as c.args.low c.args.high c.compare.result Greater c.compare.ensures c.in-Greater.is) c.in_ok-above-in-Greater.ensures c.in_ok-under-in-Greater.ensures c.pair.ensures
