-- A condition over some columns is one over more, and so are its parts.
use Rattle.std.proofs.Common.{ℕ, zero, suc, ◌≡◌, ◌<◌, ◌≤◌, Bool, IsTrue, List, [], ◌∷◌, length, map, get_or, arith, sym, subst}
use Rattle.std.proofs.lemmas.Bool.{and_from, and_parts}
use Rattle.zim_fault.specs.declared.faults.Place.{Place}
use Rattle.zim_fault.specs.declared.tokens.Join.{Join}
use Rattle.zim_fault.specs.declared.tokens.Relation.{Relation}
use Rattle.zim_formula.specs.GroundRules.{joined_hold, is_term_over, is_condition_over, condition_rule}
use Rattle.zim_formula.specs.declared.ground.GTerm.{GTerm}
use Rattle.zim_formula.specs.declared.ground.GCond.TheVariants as condition
use Rattle.zim_formula.specs.declared.ground.GCond.{GCond, GCond-F, map-GCond, roll-GCond, fold-roll-GCond, ind-GCond}
use Rattle.zim_vabs.proofs.OverTermLaws.{term_over_more}
use Rattle.zim_cond.specs.ConditionTurns.{operands_are_over}

abbrev Grows : ℕ → ℕ → GCond → Type 0
Grows m n c = m ≤ n → IsTrue (is_condition_over m c) → IsTrue (is_condition_over n c)

abbrev Part : ℕ → ℕ → Type 0
Part m n = (c : GCond) × Grows m n c

abbrev bare : (m n : ℕ) → GCond-F (Part m n) → GCond-F GCond
bare m n y = map-GCond (Part m n) GCond (λ e. e.0) y

operands_more : (m n : ℕ) (os : List (Place × Join × Part m n)) → m ≤ n
    → IsTrue (operands_are_over m (map (λ (t : Place × Join × Part m n). (t.0, t.1, t.2.0)) os)) → IsTrue (operands_are_over n (map (λ (t : Place × Join × Part m n). (t.0, t.1, t.2.0)) os))
unfolding joined_hold
operands_more m n [] le h = h
operands_more m n (o ∷ os) le h =
    let parts = and_parts (is_condition_over m o.2.0) _ h in
    and_from (is_condition_over n o.2.0) _ (o.2.1 le parts.0) (operands_more m n os le parts.1)

inner : (m n : ℕ) (y : GCond-F (Part m n)) → m ≤ n → IsTrue (condition_rule m (map-GCond GCond Bool (is_condition_over m) (bare m n y))) → IsTrue (condition_rule n (map-GCond GCond Bool (is_condition_over n) (bare m n y)))
inner m n (GCond-F.Known truth) le h = h
inner m n (GCond-F.Compare place relation left right) le h =
    let parts = and_parts (is_term_over m left) (is_term_over m right) h in
    and_from (is_term_over n left) (is_term_over n right) (term_over_more m n left le parts.0) (term_over_more m n right le parts.1)
inner m n (GCond-F.Chain first others) le h =
    let parts = and_parts (is_condition_over m first.0) _ h in
    and_from (is_condition_over n first.0) _ (first.1 le parts.0) (operands_more m n others le parts.1)
inner m n (GCond-F.Not place operand) le h = operand.1 le h

layer : (m n : ℕ) (y : GCond-F (Part m n)) → Grows m n (roll-GCond (bare m n y))
layer m n y le h =
    let d : GCond-F GCond = bare m n y in
    subst IsTrue (sym (fold-roll-GCond Bool (condition_rule n) d)) (inner m n y le (subst IsTrue (fold-roll-GCond Bool (condition_rule m) d) h))

-- a condition over m columns is one over n
pub condition_over_more : (m n : ℕ) (c : GCond) → m ≤ n → IsTrue (is_condition_over m c) → IsTrue (is_condition_over n c)
condition_over_more m n = ind-GCond (Grows m n) (λ x y is. subst (λ (z : GCond-F GCond). Grows m n (roll-GCond z)) is (layer m n y))

operand_over : (n : ℕ) (os : List (Place × Join × GCond)) (i : ℕ) (d : Place × Join × GCond) → i < length os → IsTrue (operands_are_over n os) → IsTrue (is_condition_over n (get_or os i d).2)
unfolding joined_hold
operand_over n [] i d lt h = absurd (omega arith)
operand_over n (o ∷ os) zero d lt h = (and_parts (is_condition_over n o.2) _ h).0
operand_over n (o ∷ os) (suc i) d lt h = operand_over n os i d (omega arith) (and_parts (is_condition_over n o.2) _ h).1

-- an operand over the columns of a system that grew
pub operand_here : (m n : ℕ) (os : List (Place × Join × GCond)) (i : ℕ) (o : Place × Join × GCond) → m ≤ n → i < length os → o ≡ get_or os i o → IsTrue (operands_are_over m os) → IsTrue (is_condition_over n o.2)
operand_here m n os i o le lt is h =
    condition_over_more m n o.2 le (subst (λ (t : Place × Join × GCond). IsTrue (is_condition_over m t.2)) (sym is) (operand_over m os i o lt h))

-- operands over more columns
pub all_operands_more : (m n : ℕ) (os : List (Place × Join × GCond)) → m ≤ n → IsTrue (operands_are_over m os) → IsTrue (operands_are_over n os)
unfolding joined_hold
all_operands_more m n [] le h = h
all_operands_more m n (o ∷ os) le h =
    let parts = and_parts (is_condition_over m o.2) _ h in
    and_from (is_condition_over n o.2) _ (condition_over_more m n o.2 le parts.0) (all_operands_more m n os le parts.1)

-- the parts of each form
rule_of : (n : ℕ) (d : GCond-F GCond) → IsTrue (is_condition_over n (roll-GCond d)) → IsTrue (condition_rule n (map-GCond GCond Bool (is_condition_over n) d))
rule_of n d h = subst IsTrue (fold-roll-GCond Bool (condition_rule n) d) h

pub compare_terms : (n : ℕ) (c : GCond) (place : Place) (relation : Relation) (left right : GTerm) → c ≡ condition.Compare place relation left right → IsTrue (is_condition_over n c) → IsTrue (is_term_over n left) × IsTrue (is_term_over n right)
compare_terms n c place relation left right e h =
    and_parts (is_term_over n left) (is_term_over n right)
    (rule_of n (GCond-F.Compare place relation left right) (subst (λ (k : GCond). IsTrue (is_condition_over n k)) (sym (condition.rolls-Compare place relation left right)) (subst (λ (k : GCond). IsTrue (is_condition_over n k)) e h)))

pub chain_parts : (n : ℕ) (c first : GCond) (others : List (Place × Join × GCond)) → c ≡ condition.Chain first others → IsTrue (is_condition_over n c) → IsTrue (is_condition_over n first) × IsTrue (operands_are_over n others)
chain_parts n c first others e h =
    and_parts (is_condition_over n first) (operands_are_over n others)
    (rule_of n (GCond-F.Chain first others) (subst (λ (k : GCond). IsTrue (is_condition_over n k)) (sym (condition.rolls-Chain first others)) (subst (λ (k : GCond). IsTrue (is_condition_over n k)) e h)))

pub not_operand : (n : ℕ) (c operand : GCond) (place : Place) → c ≡ condition.Not place operand → IsTrue (is_condition_over n c) → IsTrue (is_condition_over n operand)
not_operand n c operand place e h =
    rule_of n (GCond-F.Not place operand) (subst (λ (k : GCond). IsTrue (is_condition_over n k)) (sym (condition.rolls-Not place operand)) (subst (λ (k : GCond). IsTrue (is_condition_over n k)) e h))
