-- One more.
use Rattle.std.proofs.Common.{◌++◌}
use Rattle.zim_fault.specs.declared.signs.Sign.TheVariants.{SComma}
use Rattle.zim_tree.specs.Spelling.{Tokens, a_sign}
use Rattle.zim_tree.specs.StatementSpelling as stmt_spec
use Rattle.zim_spelling.proofs.SpellerLaws.{◌▸◌, Spells-nothing, Spells-next-map}
use Rattle.zim_spelling.proofs.stmts.spell_parameters.Goals as goal

pub loop-place-init : goal.loop-place-init
loop-place-init c = Spells-nothing _

pub loop-place-preserved : goal.loop-place-preserved
loop-place-preserved c =
    Spells-next-map (λ (part : Tokens). a_sign SComma ++ part) stmt_spec.parameter_spelling c.in-Some.others.now c.loop-place._place-index c.loop-place-item.result c.loop-place-test.true c.loop-place-item.is c.loop-place.invariant (c.put_sign.ensures ▸ c.put_name-in-loop-place.ensures)
