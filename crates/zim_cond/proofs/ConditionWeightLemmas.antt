-- How much of a condition is left for the calls: a number that is less in its parts.
use Rattle.std.proofs.Common.{ℕ, zero, suc, ◌≡◌, ◌<◌, ◌≤◌, ◌+◌, List, [], ◌∷◌, length, map, get_or, arith, ap, sym, ◌∙◌}
use Rattle.zim_fault.specs.declared.faults.Place.{Place}
use Rattle.zim_fault.specs.declared.tokens.Join.{Join}
use Rattle.zim_formula.specs.declared.ground.GCond.{GCond, GCond-F, fold-GCond, fold-roll-GCond}
use Rattle.zim_formula.specs.declared.ground.GCond.TheVariants as condition

unfoldable pub all_joined : List (Place × Join × ℕ) → ℕ
all_joined [] = 0
all_joined (t ∷ ts) = t.2 + all_joined ts

abbrev weight_step : GCond-F ℕ → ℕ
weight_step (GCond-F.Known truth) = 1
weight_step (GCond-F.Compare place relation left right) = 1
weight_step (GCond-F.Chain first others) = 1 + first + all_joined others
weight_step (GCond-F.Not place operand) = 1 + operand

unfoldable pub weight : GCond → ℕ
weight = fold-GCond ℕ weight_step

abbrev pub joined_weigh : List (Place × Join × GCond) → ℕ
joined_weigh others = all_joined (map (λ (t : Place × Join × GCond). (t.0, t.1, weight t.2)) others)

pub weight-Chain : (first : GCond) (others : List (Place × Join × GCond)) → weight (condition.Chain first others) ≡ 1 + weight first + joined_weigh others
unfolding weight
weight-Chain first others = ap weight (sym (condition.rolls-Chain first others)) ∙ fold-roll-GCond ℕ weight_step (GCond-F.Chain first others)

pub weight-Not : (place : Place) (operand : GCond) → weight (condition.Not place operand) ≡ 1 + weight operand
unfolding weight
weight-Not place operand = ap weight (sym (condition.rolls-Not place operand)) ∙ fold-roll-GCond ℕ weight_step (GCond-F.Not place operand)

operand_less : (os : List (Place × Join × GCond)) (i : ℕ) (d : Place × Join × GCond) → i < length os → weight (get_or os i d).2 ≤ joined_weigh os
unfolding all_joined
operand_less [] i d lt = absurd (omega arith)
operand_less (o ∷ os) zero d lt = omega arith
operand_less (o ∷ os) (suc i) d lt = let h : weight (get_or os i d).2 ≤ joined_weigh os = operand_less os i d (omega arith) in omega arith

-- an operand weighs at most what all of them do
pub operand_weighs : (os : List (Place × Join × GCond)) (i : ℕ) (o : Place × Join × GCond) → i < length os → o ≡ get_or os i o → weight o.2 ≤ joined_weigh os
operand_weighs os i o lt is = let e = ap (λ (t : Place × Join × GCond). weight t.2) is in let h = operand_less os i o lt in omega arith
