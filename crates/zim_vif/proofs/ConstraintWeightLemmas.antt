-- How much of a constraint is left for the calls: a number that is less in its parts.
use Rattle.std.proofs.Common.{ℕ, zero, suc, ◌≡◌, ◌<◌, ◌≤◌, ◌+◌, List, [], ◌∷◌, length, map, get_or, Option, Some, None, option_map, arith, ap, sym, ◌∙◌}
use Rattle.zim_fault.specs.declared.faults.Place.{Place}
use Rattle.zim_formula.specs.declared.ground.GCond.{GCond}
use Rattle.zim_formula.specs.declared.ground.GCon.{GCon, GCon-F, fold-GCon, fold-roll-GCon}
use Rattle.zim_formula.specs.declared.ground.GCon.TheVariants as constraint

unfoldable pub all_weights : List ℕ → ℕ
all_weights [] = 0
all_weights (n ∷ ns) = n + all_weights ns

unfoldable pub weight_or_none : Option ℕ → ℕ
weight_or_none None = 0
weight_or_none (Some n) = n

abbrev weight_step : GCon-F ℕ → ℕ
weight_step (GCon-F.Compare place relation left right) = 1
weight_step (GCon-F.Range place relation first term last) = 1
weight_step (GCon-F.And parts) = 1 + all_weights parts
weight_step (GCon-F.Vif place test first otherwise) = 1 + first + weight_or_none otherwise

unfoldable pub weight : GCon → ℕ
weight = fold-GCon ℕ weight_step

abbrev pub parts_weigh : List GCon → ℕ
parts_weigh parts = all_weights (map weight parts)

abbrev pub other_weighs : Option GCon → ℕ
other_weighs otherwise = weight_or_none (option_map weight otherwise)

pub weight-And : (parts : List GCon) → weight (constraint.And parts) ≡ 1 + parts_weigh parts
unfolding weight
weight-And parts = ap weight (sym (constraint.rolls-And parts)) ∙ fold-roll-GCon ℕ weight_step (GCon-F.And parts)

pub weight-Vif : (place : Place) (test : GCond) (first : GCon) (otherwise : Option GCon) → weight (constraint.Vif place test first otherwise) ≡ 1 + weight first + other_weighs otherwise
unfolding weight
weight-Vif place test first None = ap weight (sym (constraint.rolls-Vif place test first None)) ∙ fold-roll-GCon ℕ weight_step (GCon-F.Vif place test first None)
weight-Vif place test first (Some otherwise) = ap weight (sym (constraint.rolls-Vif place test first (Some otherwise))) ∙ fold-roll-GCon ℕ weight_step (GCon-F.Vif place test first (Some otherwise))

part_less : (parts : List GCon) (i : ℕ) (d : GCon) → i < length parts → weight (get_or parts i d) ≤ parts_weigh parts
unfolding all_weights
part_less [] i d lt = absurd (omega arith)
part_less (c ∷ cs) zero d lt = omega arith
part_less (c ∷ cs) (suc i) d lt = let h : weight (get_or cs i d) ≤ parts_weigh cs = part_less cs i d (omega arith) in omega arith

-- a part weighs at most what all of them do
pub part_weighs : (parts : List GCon) (i : ℕ) (c : GCon) → i < length parts → c ≡ get_or parts i c → weight c ≤ parts_weigh parts
part_weighs parts i c lt is = let e = ap weight is in let h = part_less parts i c lt in omega arith

-- the part behind `else` weighs what it may
pub other_weight : (otherwise : Option GCon) (c : GCon) → otherwise ≡ Some c → other_weighs otherwise ≡ weight c
unfolding weight_or_none
other_weight otherwise c e = ap other_weighs e
