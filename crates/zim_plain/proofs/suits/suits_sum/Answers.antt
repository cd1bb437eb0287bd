-- The first item suits, and so do the further ones, which are those of the slice.
use Rattle.std.proofs.Common.{List, map, subst, sym}
use Rattle.zim_plain.specs.declared.statement.Further as code
use Rattle.zim_plain.specs.Reader.{further_of, sum_said}
use Rattle.zim_plain.specs.Sides.{SuitOthers}
use Rattle.zim_plain.proofs.SuitLaws.{sum_from, sum_others}
use Rattle.zim_plain.proofs.suits.suits_sum.Goals as goal

pub returns-then-suits_item : goal.returns-then-suits_item
returns-then-suits_item c =
    let names = c.args.variables.now.keys in
    let sum = sum_said c.args.sum.now in (
      λ t. sum_from names sum (c.suits_item.ensures.0 c.if-suits_item.true) (subst (λ (fs : List code.Further). SuitOthers names (map further_of fs)) c.as_slice.ensures.value (c.suits_others.ensures.0 t)),
      λ h. c.suits_others.ensures.1 (subst (λ (fs : List code.Further). SuitOthers names (map further_of fs)) (sym c.as_slice.ensures.value) (sum_others names sum h)),
    )
