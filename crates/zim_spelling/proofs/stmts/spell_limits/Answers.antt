-- One more.
use Rattle.zim_tree.specs.StatementSpelling as stmt_spec
use Rattle.zim_spelling.proofs.SpellerLaws.{◌▸◌, given, Spells-nothing, Spells-next-item}
use Rattle.zim_spelling.proofs.stmts.spell_limits.Goals as goal

pub loop-limit-init : goal.loop-limit-init
loop-limit-init c = Spells-nothing _

pub loop-limit-preserved : goal.loop-limit-preserved
loop-limit-preserved c =
    Spells-next-item stmt_spec.limit_spelling c.args.limits.now c.loop-limit.limit-index c.limit-item.result c.loop-limit-test.true c.limit-item.is c.loop-limit.invariant (given (c.put_one_sign.ensures ▸ c.spell_expr.ensures) (simp c.get.ensures))
