-- One more.
use Rattle.std.proofs.Common.{◌++◌}
use Rattle.zim_fault.specs.declared.signs.Sign.TheVariants.{SComma}
use Rattle.zim_tree.specs.Spelling.{Tokens, a_sign}
use Rattle.zim_tree.specs.StatementSpelling as stmt_spec
use Rattle.zim_spelling.proofs.SpellerLaws.{◌▸◌, Spells-nothing, Spells-next-map}
use Rattle.zim_spelling.proofs.stmts.spell_entries.Goals as goal

pub loop-entry-init : goal.loop-entry-init
loop-entry-init c = Spells-nothing _

pub loop-entry-preserved : goal.loop-entry-preserved
loop-entry-preserved c =
    Spells-next-map (λ (part : Tokens). a_sign SComma ++ part) stmt_spec.entry_spelling c.in-Some.others.now c.loop-entry.entry-index c.entry-item.result c.loop-entry-test.true c.entry-item.is c.loop-entry.invariant (c.put_sign.ensures ▸ c.spell_entry-in-loop-entry.ensures)
