-- Which columns each form of a ground tree names, from its parts: one equation for each.
use Rattle.std.proofs.Common.{◌≡◌, ℕ, Bool, true, ◌&&◌, List, map, Option, Some, None, option_map, refl, sym, ap, ap₂, ◌∙◌}
use Rattle.zim_fault.specs.declared.faults.Place.{Place}
use Rattle.zim_fault.specs.declared.tokens.Relation.{Relation}
use Rattle.zim_fault.specs.declared.tokens.Join.{Join}
use Rattle.zim_rational.specs.Rational.{Rational}
use Rattle.zim_formula.specs.Ground.{all_hold, otherwise_holds}
use Rattle.zim_formula.specs.GroundRules.{divides, operands_hold, joined_hold, is_row_relation, is_range_relation, is_column, term_rule, is_term_over, condition_rule, is_condition_over, constraint_rule, is_constraint_over}
use Rattle.zim_ground.specs.Listed.{term_passes_step, term_passes, condition_passes_step, condition_passes, constraint_passes_step, constraint_passes}
use Rattle.zim_formula.specs.declared.ground.GTerm.{GTerm, GTerm-F, roll-GTerm, map-GTerm, fold-GTerm, fold-roll-GTerm}
use Rattle.zim_formula.specs.declared.ground.GTerm.TheVariants as term
use Rattle.zim_formula.specs.declared.ground.GCond.{GCond, GCond-F, roll-GCond, map-GCond, fold-GCond, fold-roll-GCond}
use Rattle.zim_formula.specs.declared.ground.GCond.TheVariants as condition
use Rattle.zim_formula.specs.declared.ground.GCon.{GCon, GCon-F, roll-GCon, map-GCon, fold-GCon, fold-roll-GCon}
use Rattle.zim_formula.specs.declared.ground.GCon.TheVariants as constraint

-- ---- terms

at_term : (passes : ℕ → Bool) (d : GTerm-F GTerm) → term_passes passes (roll-GTerm d) ≡ term_passes_step passes (map-GTerm GTerm Bool (term_passes passes) d)
at_term passes = fold-roll-GTerm Bool (term_passes_step passes)

pub passes-term-Known : (passes : ℕ → Bool) (q : Rational) → term_passes passes (term.Known q) ≡ true
passes-term-Known passes q = ap (term_passes passes) (sym (term.rolls-Known q)) ∙ at_term passes (GTerm-F.Known q)

pub passes-term-Column : (passes : ℕ → Bool) (j : ℕ) → term_passes passes (term.Column j) ≡ passes j
passes-term-Column passes j = ap (term_passes passes) (sym (term.rolls-Column j)) ∙ at_term passes (GTerm-F.Column j)

pub passes-term-Sum : (passes : ℕ → Bool) (first : GTerm) (others : List (Place × Bool × GTerm)) → term_passes passes (term.Sum first others) ≡ (term_passes passes first && operands_hold (map (λ (t : Place × Bool × GTerm). (t.0, t.1, term_passes passes t.2)) others))
passes-term-Sum passes first others = ap (term_passes passes) (sym (term.rolls-Sum first others)) ∙ at_term passes (GTerm-F.Sum first others)

pub passes-term-Product : (passes : ℕ → Bool) (factor : Option (Rational × Place)) (t : GTerm) (others : List (Place × Bool × Rational)) → term_passes passes (term.Product factor t others) ≡ (term_passes passes t && divides others)
passes-term-Product passes factor t others = ap (term_passes passes) (sym (term.rolls-Product factor t others)) ∙ at_term passes (GTerm-F.Product factor t others)

pub passes-term-Minus : (passes : ℕ → Bool) (place : Place) (t : GTerm) → term_passes passes (term.Minus place t) ≡ term_passes passes t
passes-term-Minus passes place t = ap (term_passes passes) (sym (term.rolls-Minus place t)) ∙ at_term passes (GTerm-F.Minus place t)

pub passes-term-SumOver : (passes : ℕ → Bool) (place : Place) (ts : List GTerm) → term_passes passes (term.SumOver place ts) ≡ all_hold (map (term_passes passes) ts)
passes-term-SumOver passes place ts = ap (term_passes passes) (sym (term.rolls-SumOver place ts)) ∙ at_term passes (GTerm-F.SumOver place ts)

pub passes-term-Abs : (passes : ℕ → Bool) (place : Place) (t : GTerm) → term_passes passes (term.Abs place t) ≡ term_passes passes t
passes-term-Abs passes place t = ap (term_passes passes) (sym (term.rolls-Abs place t)) ∙ at_term passes (GTerm-F.Abs place t)

-- ---- conditions

at_condition : (passes : ℕ → Bool) (d : GCond-F GCond) → condition_passes passes (roll-GCond d) ≡ condition_passes_step passes (map-GCond GCond Bool (condition_passes passes) d)
at_condition passes = fold-roll-GCond Bool (condition_passes_step passes)

pub passes-condition-Known : (passes : ℕ → Bool) (truth : Bool) → condition_passes passes (condition.Known truth) ≡ true
passes-condition-Known passes truth = ap (condition_passes passes) (sym (condition.rolls-Known truth)) ∙ at_condition passes (GCond-F.Known truth)

pub passes-condition-Compare : (passes : ℕ → Bool) (place : Place) (relation : Relation) (left : GTerm) (right : GTerm) → condition_passes passes (condition.Compare place relation left right) ≡ (term_passes passes left && term_passes passes right)
passes-condition-Compare passes place relation left right = ap (condition_passes passes) (sym (condition.rolls-Compare place relation left right)) ∙ at_condition passes (GCond-F.Compare place relation left right)

pub passes-condition-Chain : (passes : ℕ → Bool) (first : GCond) (others : List (Place × Join × GCond)) → condition_passes passes (condition.Chain first others) ≡ (condition_passes passes first && joined_hold (map (λ (c : Place × Join × GCond). (c.0, c.1, condition_passes passes c.2)) others))
passes-condition-Chain passes first others = ap (condition_passes passes) (sym (condition.rolls-Chain first others)) ∙ at_condition passes (GCond-F.Chain first others)

pub passes-condition-Not : (passes : ℕ → Bool) (place : Place) (operand : GCond) → condition_passes passes (condition.Not place operand) ≡ condition_passes passes operand
passes-condition-Not passes place operand = ap (condition_passes passes) (sym (condition.rolls-Not place operand)) ∙ at_condition passes (GCond-F.Not place operand)

-- ---- constraints

at_constraint : (passes : ℕ → Bool) (d : GCon-F GCon) → constraint_passes passes (roll-GCon d) ≡ constraint_passes_step passes (map-GCon GCon Bool (constraint_passes passes) d)
at_constraint passes = fold-roll-GCon Bool (constraint_passes_step passes)

pub passes-constraint-Compare : (passes : ℕ → Bool) (place : Place) (relation : Relation) (left : GTerm) (right : GTerm) → constraint_passes passes (constraint.Compare place relation left right) ≡ (is_row_relation relation && term_passes passes left && term_passes passes right)
passes-constraint-Compare passes place relation left right = ap (constraint_passes passes) (sym (constraint.rolls-Compare place relation left right)) ∙ at_constraint passes (GCon-F.Compare place relation left right)

pub passes-constraint-Range : (passes : ℕ → Bool) (place : Place) (relation : Relation) (first : Rational) (t : GTerm) (last : Rational) → constraint_passes passes (constraint.Range place relation first t last) ≡ (is_range_relation relation && term_passes passes t)
passes-constraint-Range passes place relation first t last = ap (constraint_passes passes) (sym (constraint.rolls-Range place relation first t last)) ∙ at_constraint passes (GCon-F.Range place relation first t last)

pub passes-constraint-And : (passes : ℕ → Bool) (parts : List GCon) → constraint_passes passes (constraint.And parts) ≡ all_hold (map (constraint_passes passes) parts)
passes-constraint-And passes parts = ap (constraint_passes passes) (sym (constraint.rolls-And parts)) ∙ at_constraint passes (GCon-F.And parts)

pub passes-constraint-Vif : (passes : ℕ → Bool) (place : Place) (test : GCond) (first : GCon) (otherwise : Option GCon) → constraint_passes passes (constraint.Vif place test first otherwise) ≡ (condition_passes passes test && constraint_passes passes first && otherwise_holds (option_map (constraint_passes passes) otherwise))
passes-constraint-Vif passes place test first None = ap (constraint_passes passes) (sym (constraint.rolls-Vif place test first None)) ∙ at_constraint passes (GCon-F.Vif place test first None)
passes-constraint-Vif passes place test first (Some otherwise) = ap (constraint_passes passes) (sym (constraint.rolls-Vif place test first (Some otherwise))) ∙ at_constraint passes (GCon-F.Vif place test first (Some otherwise))

-- ---- the columns from 1 to n

term_same : (n : ℕ) (d : GTerm-F Bool) → term_passes_step (is_column n) d ≡ term_rule n d
term_same n (GTerm-F.Known q) = refl
term_same n (GTerm-F.Column j) = refl
term_same n (GTerm-F.Sum first others) = refl
term_same n (GTerm-F.Product factor term others) = refl
term_same n (GTerm-F.Minus place term) = refl
term_same n (GTerm-F.SumOver place terms) = refl
term_same n (GTerm-F.Abs place term) = refl

-- a term passes the test of being one of these columns exactly where it is over them
pub term_over : (n : ℕ) (t : GTerm) → term_passes (is_column n) t ≡ is_term_over n t
term_over n t = λ i. fold-GTerm Bool (λ d. term_same n d i) t

condition_same : (n : ℕ) (d : GCond-F Bool) → condition_passes_step (is_column n) d ≡ condition_rule n d
condition_same n (GCond-F.Known truth) = refl
condition_same n (GCond-F.Compare place relation left right) = ap₂ (λ (p q : Bool). p && q) (term_over n left) (term_over n right)
condition_same n (GCond-F.Chain first others) = refl
condition_same n (GCond-F.Not place operand) = refl

condition_over : (n : ℕ) (c : GCond) → condition_passes (is_column n) c ≡ is_condition_over n c
condition_over n c = λ i. fold-GCond Bool (λ d. condition_same n d i) c

constraint_same : (n : ℕ) (d : GCon-F Bool) → constraint_passes_step (is_column n) d ≡ constraint_rule n d
constraint_same n (GCon-F.Compare place relation left right) = ap₂ (λ (p q : Bool). is_row_relation relation && p && q) (term_over n left) (term_over n right)
constraint_same n (GCon-F.Range place relation first term last) = ap (λ (p : Bool). is_range_relation relation && p) (term_over n term)
constraint_same n (GCon-F.And parts) = refl
constraint_same n (GCon-F.Vif place test first otherwise) = ap (λ (p : Bool). p && first && otherwise_holds otherwise) (condition_over n test)

-- the same of a constraint
pub constraint_over : (n : ℕ) (c : GCon) → constraint_passes (is_column n) c ≡ is_constraint_over n c
constraint_over n c = λ i. fold-GCon Bool (λ d. constraint_same n d i) c
