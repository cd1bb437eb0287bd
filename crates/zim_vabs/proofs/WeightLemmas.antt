-- How much of a term is left for the calls: a number that is less in its parts.
use Rattle.std.proofs.Common.{ℕ, zero, suc, ◌≡◌, ◌<◌, ◌≤◌, ◌+◌, Bool, List, [], ◌∷◌, length, map, get_or, Option, arith, ap, sym, ◌∙◌}
use Rattle.zim_fault.specs.declared.faults.Place.{Place}
use Rattle.zim_rational.specs.Rational.{Rational}
use Rattle.zim_formula.specs.declared.ground.GTerm.{GTerm, GTerm-F, fold-GTerm, fold-roll-GTerm}
use Rattle.zim_formula.specs.declared.ground.GTerm.TheVariants as term

unfoldable pub all_of : List ℕ → ℕ
all_of [] = 0
all_of (n ∷ ns) = n + all_of ns

unfoldable pub all_behind : List (Place × Bool × ℕ) → ℕ
all_behind [] = 0
all_behind (t ∷ ts) = t.2 + all_behind ts

abbrev weight_step : GTerm-F ℕ → ℕ
weight_step (GTerm-F.Known q) = 1
weight_step (GTerm-F.Column j) = 1
weight_step (GTerm-F.Sum first others) = 1 + first + all_behind others
weight_step (GTerm-F.Product factor t others) = 1 + t
weight_step (GTerm-F.Minus place t) = 1 + t
weight_step (GTerm-F.SumOver place ts) = 1 + all_of ts
weight_step (GTerm-F.Abs place t) = 1 + t

unfoldable pub weight : GTerm → ℕ
weight = fold-GTerm ℕ weight_step

abbrev pub operands_weigh : List (Place × Bool × GTerm) → ℕ
operands_weigh others = all_behind (map (λ (t : Place × Bool × GTerm). (t.0, t.1, weight t.2)) others)

abbrev pub members_weigh : List GTerm → ℕ
members_weigh ts = all_of (map weight ts)

pub weight-Sum : (first : GTerm) (others : List (Place × Bool × GTerm)) → weight (term.Sum first others) ≡ 1 + weight first + operands_weigh others
unfolding weight
weight-Sum first others = ap weight (sym (term.rolls-Sum first others)) ∙ fold-roll-GTerm ℕ weight_step (GTerm-F.Sum first others)

pub weight-Product : (factor : Option (Rational × Place)) (t : GTerm) (others : List (Place × Bool × Rational)) → weight (term.Product factor t others) ≡ 1 + weight t
unfolding weight
weight-Product factor t others = ap weight (sym (term.rolls-Product factor t others)) ∙ fold-roll-GTerm ℕ weight_step (GTerm-F.Product factor t others)

pub weight-Minus : (place : Place) (t : GTerm) → weight (term.Minus place t) ≡ 1 + weight t
unfolding weight
weight-Minus place t = ap weight (sym (term.rolls-Minus place t)) ∙ fold-roll-GTerm ℕ weight_step (GTerm-F.Minus place t)

pub weight-SumOver : (place : Place) (ts : List GTerm) → weight (term.SumOver place ts) ≡ 1 + members_weigh ts
unfolding weight
weight-SumOver place ts = ap weight (sym (term.rolls-SumOver place ts)) ∙ fold-roll-GTerm ℕ weight_step (GTerm-F.SumOver place ts)

pub weight-Abs : (place : Place) (t : GTerm) → weight (term.Abs place t) ≡ 1 + weight t
unfolding weight
weight-Abs place t = ap weight (sym (term.rolls-Abs place t)) ∙ fold-roll-GTerm ℕ weight_step (GTerm-F.Abs place t)

operand_less : (os : List (Place × Bool × GTerm)) (i : ℕ) (d : Place × Bool × GTerm) → i < length os → weight (get_or os i d).2 ≤ operands_weigh os
unfolding all_behind
operand_less [] i d lt = absurd (omega arith)
operand_less (o ∷ os) zero d lt = omega arith
operand_less (o ∷ os) (suc i) d lt = let h : weight (get_or os i d).2 ≤ operands_weigh os = operand_less os i d (omega arith) in omega arith

member_less : (os : List GTerm) (i : ℕ) (d : GTerm) → i < length os → weight (get_or os i d) ≤ members_weigh os
unfolding all_of
member_less [] i d lt = absurd (omega arith)
member_less (o ∷ os) zero d lt = omega arith
member_less (o ∷ os) (suc i) d lt = let h : weight (get_or os i d) ≤ members_weigh os = member_less os i d (omega arith) in omega arith

-- an operand weighs at most what all of them do, and so does a member
pub operand_weighs : (os : List (Place × Bool × GTerm)) (i : ℕ) (o : Place × Bool × GTerm) → i < length os → o ≡ get_or os i o → weight o.2 ≤ operands_weigh os
operand_weighs os i o lt is = let e = ap (λ (t : Place × Bool × GTerm). weight t.2) is in let h = operand_less os i o lt in omega arith

pub member_weighs : (os : List GTerm) (i : ℕ) (o : GTerm) → i < length os → o ≡ get_or os i o → weight o ≤ members_weigh os
member_weighs os i o lt is = let e = ap weight is in let h = member_less os i o lt in omega arith
