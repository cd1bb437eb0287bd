-- What callers promise of each form of a ground tree, from its parts: one equation for each.
use Rattle.std.proofs.Common.{◌≡◌, ℕ, Bool, true, ◌&&◌, List, map, Option, Some, None, option_map, sym, ap, ◌∙◌}
use Rattle.zim_fault.specs.declared.faults.Place.{Place}
use Rattle.zim_fault.specs.declared.tokens.Relation.{Relation}
use Rattle.zim_fault.specs.declared.tokens.Join.{Join}
use Rattle.zim_rational.specs.Rational.{Rational}
use Rattle.zim_formula.specs.Ground.{all_hold, otherwise_holds}
use Rattle.zim_formula.specs.GroundRules.{divides, operands_hold, joined_hold, is_column, term_rule, is_term_over, condition_rule, is_condition_over, is_row_relation, is_range_relation, constraint_rule, is_constraint_over}
use Rattle.zim_formula.specs.declared.ground.GTerm.{GTerm, GTerm-F, roll-GTerm, map-GTerm, fold-roll-GTerm}
use Rattle.zim_formula.specs.declared.ground.GTerm.TheVariants as term
use Rattle.zim_formula.specs.declared.ground.GCond.{GCond, GCond-F, roll-GCond, map-GCond, fold-roll-GCond}
use Rattle.zim_formula.specs.declared.ground.GCond.TheVariants as condition
use Rattle.zim_formula.specs.declared.ground.GCon.{GCon, GCon-F, roll-GCon, map-GCon, fold-roll-GCon}
use Rattle.zim_formula.specs.declared.ground.GCon.TheVariants as constraint

-- ---- terms

at_term : (n : ℕ) (d : GTerm-F GTerm) → is_term_over n (roll-GTerm d) ≡ term_rule n (map-GTerm GTerm Bool (is_term_over n) d)
at_term n = fold-roll-GTerm Bool (term_rule n)

pub over-term-Known : (n : ℕ) (q : Rational) → is_term_over n (term.Known q) ≡ true
over-term-Known n q = ap (is_term_over n) (sym (term.rolls-Known q)) ∙ at_term n (GTerm-F.Known q)

pub over-term-Column : (n : ℕ) (j : ℕ) → is_term_over n (term.Column j) ≡ is_column n j
over-term-Column n j = ap (is_term_over n) (sym (term.rolls-Column j)) ∙ at_term n (GTerm-F.Column j)

pub over-term-Sum : (n : ℕ) (first : GTerm) (others : List (Place × Bool × GTerm)) → is_term_over n (term.Sum first others) ≡ (is_term_over n first && operands_hold (map (λ (t : Place × Bool × GTerm). (t.0, t.1, is_term_over n t.2)) others))
over-term-Sum n first others = ap (is_term_over n) (sym (term.rolls-Sum first others)) ∙ at_term n (GTerm-F.Sum first others)

pub over-term-Product : (n : ℕ) (factor : Option (Rational × Place)) (t : GTerm) (others : List (Place × Bool × Rational)) → is_term_over n (term.Product factor t others) ≡ (is_term_over n t && divides others)
over-term-Product n factor t others = ap (is_term_over n) (sym (term.rolls-Product factor t others)) ∙ at_term n (GTerm-F.Product factor t others)

pub over-term-Minus : (n : ℕ) (place : Place) (t : GTerm) → is_term_over n (term.Minus place t) ≡ is_term_over n t
over-term-Minus n place t = ap (is_term_over n) (sym (term.rolls-Minus place t)) ∙ at_term n (GTerm-F.Minus place t)

pub over-term-SumOver : (n : ℕ) (place : Place) (ts : List GTerm) → is_term_over n (term.SumOver place ts) ≡ all_hold (map (is_term_over n) ts)
over-term-SumOver n place ts = ap (is_term_over n) (sym (term.rolls-SumOver place ts)) ∙ at_term n (GTerm-F.SumOver place ts)

pub over-term-Abs : (n : ℕ) (place : Place) (t : GTerm) → is_term_over n (term.Abs place t) ≡ is_term_over n t
over-term-Abs n place t = ap (is_term_over n) (sym (term.rolls-Abs place t)) ∙ at_term n (GTerm-F.Abs place t)

-- ---- conditions

at_condition : (n : ℕ) (d : GCond-F GCond) → is_condition_over n (roll-GCond d) ≡ condition_rule n (map-GCond GCond Bool (is_condition_over n) d)
at_condition n = fold-roll-GCond Bool (condition_rule n)

pub over-condition-Known : (n : ℕ) (truth : Bool) → is_condition_over n (condition.Known truth) ≡ true
over-condition-Known n truth = ap (is_condition_over n) (sym (condition.rolls-Known truth)) ∙ at_condition n (GCond-F.Known truth)

pub over-condition-Compare : (n : ℕ) (place : Place) (relation : Relation) (left : GTerm) (right : GTerm) → is_condition_over n (condition.Compare place relation left right) ≡ (is_term_over n left && is_term_over n right)
over-condition-Compare n place relation left right = ap (is_condition_over n) (sym (condition.rolls-Compare place relation left right)) ∙ at_condition n (GCond-F.Compare place relation left right)

pub over-condition-Chain : (n : ℕ) (first : GCond) (others : List (Place × Join × GCond)) → is_condition_over n (condition.Chain first others) ≡ (is_condition_over n first && joined_hold (map (λ (c : Place × Join × GCond). (c.0, c.1, is_condition_over n c.2)) others))
over-condition-Chain n first others = ap (is_condition_over n) (sym (condition.rolls-Chain first others)) ∙ at_condition n (GCond-F.Chain first others)

pub over-condition-Not : (n : ℕ) (place : Place) (operand : GCond) → is_condition_over n (condition.Not place operand) ≡ is_condition_over n operand
over-condition-Not n place operand = ap (is_condition_over n) (sym (condition.rolls-Not place operand)) ∙ at_condition n (GCond-F.Not place operand)

-- ---- constraints

at_constraint : (n : ℕ) (d : GCon-F GCon) → is_constraint_over n (roll-GCon d) ≡ constraint_rule n (map-GCon GCon Bool (is_constraint_over n) d)
at_constraint n = fold-roll-GCon Bool (constraint_rule n)

pub over-constraint-Compare : (n : ℕ) (place : Place) (relation : Relation) (left : GTerm) (right : GTerm) → is_constraint_over n (constraint.Compare place relation left right) ≡ (is_row_relation relation && is_term_over n left && is_term_over n right)
over-constraint-Compare n place relation left right = ap (is_constraint_over n) (sym (constraint.rolls-Compare place relation left right)) ∙ at_constraint n (GCon-F.Compare place relation left right)

pub over-constraint-Range : (n : ℕ) (place : Place) (relation : Relation) (first : Rational) (t : GTerm) (last : Rational) → is_constraint_over n (constraint.Range place relation first t last) ≡ (is_range_relation relation && is_term_over n t)
over-constraint-Range n place relation first t last = ap (is_constraint_over n) (sym (constraint.rolls-Range place relation first t last)) ∙ at_constraint n (GCon-F.Range place relation first t last)

pub over-constraint-And : (n : ℕ) (parts : List GCon) → is_constraint_over n (constraint.And parts) ≡ all_hold (map (is_constraint_over n) parts)
over-constraint-And n parts = ap (is_constraint_over n) (sym (constraint.rolls-And parts)) ∙ at_constraint n (GCon-F.And parts)

pub over-constraint-Vif : (n : ℕ) (place : Place) (test : GCond) (first : GCon) (otherwise : Option GCon) → is_constraint_over n (constraint.Vif place test first otherwise) ≡ (is_condition_over n test && is_constraint_over n first && otherwise_holds (option_map (is_constraint_over n) otherwise))
over-constraint-Vif n place test first None = ap (is_constraint_over n) (sym (constraint.rolls-Vif place test first None)) ∙ at_constraint n (GCon-F.Vif place test first None)
over-constraint-Vif n place test first (Some otherwise) = ap (is_constraint_over n) (sym (constraint.rolls-Vif place test first (Some otherwise))) ∙ at_constraint n (GCon-F.Vif place test first (Some otherwise))
