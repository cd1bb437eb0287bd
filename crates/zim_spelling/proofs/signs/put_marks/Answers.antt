-- One more place is one more `!`.
use Rattle.zim_fault.specs.declared.faults.Place.{Place}
use Rattle.zim_fault.specs.declared.signs.Sign.TheVariants.{SExclamation}
use Rattle.zim_tree.specs.Spelling.{a_sign}
use Rattle.zim_spelling.proofs.SpellerLaws.{Spells-nothing, Spells-next}
use Rattle.zim_spelling.proofs.signs.put_marks.Goals as goal

pub loop-place-init : goal.loop-place-init
loop-place-init c = Spells-nothing _

pub loop-place-preserved : goal.loop-place-preserved
loop-place-preserved c =
    Spells-next (λ (place : Place). a_sign SExclamation) c.args.places.now c.loop-place._place-index (record { file = 0; line = 0 }) c.loop-place-test.true c.loop-place.invariant c.put_sign.ensures
