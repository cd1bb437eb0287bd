-- One more.
use Rattle.zim_tree.specs.StatementSpelling as stmt_spec
use Rattle.zim_spelling.proofs.SpellerLaws.{◌▸◌, Spells-nothing, Spells-next-item}
use Rattle.zim_spelling.proofs.stmts.spell_options.Goals as goal

pub loop-place-init : goal.loop-place-init
loop-place-init c = Spells-nothing _

pub loop-place-preserved : goal.loop-place-preserved
loop-place-preserved c =
    Spells-next-item stmt_spec.option_spelling c.args.options.now c.loop-place._place-index c.loop-place-item.result c.loop-place-test.true c.loop-place-item.is c.loop-place.invariant (c.put_word.ensures ▸ c.spell_expr.ensures)
