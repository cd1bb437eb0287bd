-- One row more.
use Rattle.zim_tree.specs.StatementSpelling as stmt_spec
use Rattle.zim_spelling.proofs.SpellerLaws.{◌▸◌, given, Spells-nothing, Spells-next-item}
use Rattle.zim_spelling.proofs.stmts.spell_table.Goals as goal

pub loop-items-init : goal.loop-items-init
loop-items-init c = Spells-nothing _

pub loop-items-preserved : goal.loop-items-preserved
loop-items-preserved c =
    Spells-next-item
    stmt_spec.row_spelling
    c.as_slice-rows.result.now
    c.loop-items.items-index
    c.loop-items-item.result
    c.loop-items-test.true
    c.loop-items-item.is
    c.loop-items.invariant
    (given (c.spell_barred-in-loop-items.ensures ▸ c.spell_exprs.ensures ▸ c.put_sign.ensures) (simp (c.as_slice-in-loop-items.ensures, c.as_slice-in-loop-items-2.ensures)))
