-- One more.
use Rattle.std.proofs.Common.{◌++◌}
use Rattle.zim_fault.specs.declared.signs.Sign.TheVariants.{SComma}
use Rattle.zim_tree.specs.Spelling.{Tokens, a_sign}
use Rattle.zim_tree.specs.StatementSpelling as stmt_spec
use Rattle.zim_spelling.proofs.SpellerLaws.{◌▸◌, Spells-nothing, Spells-next-map}
use Rattle.zim_spelling.proofs.stmts.spell_all_printed.Goals as goal

pub loop-item-init : goal.loop-item-init
loop-item-init c = Spells-nothing _

pub loop-item-preserved : goal.loop-item-preserved
loop-item-preserved c =
    Spells-next-map (λ (part : Tokens). a_sign SComma ++ part) stmt_spec.printed_spelling c.in-Some.others.now c.loop-item.item-index c.item-item.result c.loop-item-test.true c.item-item.is c.loop-item.invariant (c.put_sign.ensures ▸ c.spell_printed-in-loop-item.ensures)
