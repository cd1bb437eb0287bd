-- The number and the truth of each form of a ground tree, from its parts: one equation for each.
use Rattle.std.proofs.Common.{◌≡◌, ℕ, Bool, not, ◌&&◌, if◌then◌else◌, List, map, Option, Some, None, option_map, sym, ap, ◌∙◌}
use Rattle.zim_fault.specs.declared.faults.Place.{Place}
use Rattle.zim_fault.specs.declared.tokens.Relation.{Relation}
use Rattle.zim_fault.specs.declared.tokens.Join.{Join}
use Rattle.zim_rational.specs.Rational.{Rational, negate, total}
use Rattle.zim_rational.specs.Rounding.{absolute}
use Rattle.zim_linear.specs.Forms.{ColumnNumbers}
use Rattle.zim_formula.specs.Ground.{sum_from, product_from, with_factor, term_step, term_number, related, chain_from, condition_step, condition_holds, all_hold, otherwise_holds, constraint_step, constraint_holds}
use Rattle.zim_formula.specs.declared.ground.GTerm.{GTerm, GTerm-F, roll-GTerm, map-GTerm, fold-roll-GTerm}
use Rattle.zim_formula.specs.declared.ground.GTerm.TheVariants as term
use Rattle.zim_formula.specs.declared.ground.GCond.{GCond, GCond-F, roll-GCond, map-GCond, fold-roll-GCond}
use Rattle.zim_formula.specs.declared.ground.GCond.TheVariants as condition
use Rattle.zim_formula.specs.declared.ground.GCon.{GCon, GCon-F, roll-GCon, map-GCon, fold-roll-GCon}
use Rattle.zim_formula.specs.declared.ground.GCon.TheVariants as constraint

-- ---- terms

at_term : (x : ColumnNumbers) (d : GTerm-F GTerm) → term_number x (roll-GTerm d) ≡ term_step x (map-GTerm GTerm Rational (term_number x) d)
at_term x = fold-roll-GTerm Rational (term_step x)

pub number-Known : (x : ColumnNumbers) (q : Rational) → term_number x (term.Known q) ≡ q
number-Known x q = ap (term_number x) (sym (term.rolls-Known q)) ∙ at_term x (GTerm-F.Known q)

pub number-Column : (x : ColumnNumbers) (j : ℕ) → term_number x (term.Column j) ≡ x j
number-Column x j = ap (term_number x) (sym (term.rolls-Column j)) ∙ at_term x (GTerm-F.Column j)

pub number-Sum : (x : ColumnNumbers) (first : GTerm) (others : List (Place × Bool × GTerm)) → term_number x (term.Sum first others) ≡ sum_from (term_number x first) (map (λ (t : Place × Bool × GTerm). (t.0, t.1, term_number x t.2)) others)
number-Sum x first others = ap (term_number x) (sym (term.rolls-Sum first others)) ∙ at_term x (GTerm-F.Sum first others)

pub number-Product : (x : ColumnNumbers) (factor : Option (Rational × Place)) (t : GTerm) (others : List (Place × Bool × Rational)) → term_number x (term.Product factor t others) ≡ product_from (with_factor factor (term_number x t)) others
number-Product x factor t others = ap (term_number x) (sym (term.rolls-Product factor t others)) ∙ at_term x (GTerm-F.Product factor t others)

pub number-Minus : (x : ColumnNumbers) (place : Place) (t : GTerm) → term_number x (term.Minus place t) ≡ negate (term_number x t)
number-Minus x place t = ap (term_number x) (sym (term.rolls-Minus place t)) ∙ at_term x (GTerm-F.Minus place t)

pub number-SumOver : (x : ColumnNumbers) (place : Place) (ts : List GTerm) → term_number x (term.SumOver place ts) ≡ total (map (term_number x) ts)
number-SumOver x place ts = ap (term_number x) (sym (term.rolls-SumOver place ts)) ∙ at_term x (GTerm-F.SumOver place ts)

pub number-Abs : (x : ColumnNumbers) (place : Place) (t : GTerm) → term_number x (term.Abs place t) ≡ absolute (term_number x t)
number-Abs x place t = ap (term_number x) (sym (term.rolls-Abs place t)) ∙ at_term x (GTerm-F.Abs place t)

-- ---- conditions

at_condition : (x : ColumnNumbers) (d : GCond-F GCond) → condition_holds x (roll-GCond d) ≡ condition_step x (map-GCond GCond Bool (condition_holds x) d)
at_condition x = fold-roll-GCond Bool (condition_step x)

pub truth-Known : (x : ColumnNumbers) (truth : Bool) → condition_holds x (condition.Known truth) ≡ truth
truth-Known x truth = ap (condition_holds x) (sym (condition.rolls-Known truth)) ∙ at_condition x (GCond-F.Known truth)

pub truth-Compare : (x : ColumnNumbers) (place : Place) (relation : Relation) (left right : GTerm) → condition_holds x (condition.Compare place relation left right) ≡ related relation (term_number x left) (term_number x right)
truth-Compare x place relation left right = ap (condition_holds x) (sym (condition.rolls-Compare place relation left right)) ∙ at_condition x (GCond-F.Compare place relation left right)

pub truth-Chain : (x : ColumnNumbers) (first : GCond) (others : List (Place × Join × GCond)) → condition_holds x (condition.Chain first others) ≡ chain_from (condition_holds x first) (map (λ (c : Place × Join × GCond). (c.0, c.1, condition_holds x c.2)) others)
truth-Chain x first others = ap (condition_holds x) (sym (condition.rolls-Chain first others)) ∙ at_condition x (GCond-F.Chain first others)

pub truth-Not : (x : ColumnNumbers) (place : Place) (operand : GCond) → condition_holds x (condition.Not place operand) ≡ not (condition_holds x operand)
truth-Not x place operand = ap (condition_holds x) (sym (condition.rolls-Not place operand)) ∙ at_condition x (GCond-F.Not place operand)

-- ---- constraints

at_constraint : (x : ColumnNumbers) (d : GCon-F GCon) → constraint_holds x (roll-GCon d) ≡ constraint_step x (map-GCon GCon Bool (constraint_holds x) d)
at_constraint x = fold-roll-GCon Bool (constraint_step x)

pub asked-Compare : (x : ColumnNumbers) (place : Place) (relation : Relation) (left right : GTerm) → constraint_holds x (constraint.Compare place relation left right) ≡ related relation (term_number x left) (term_number x right)
asked-Compare x place relation left right = ap (constraint_holds x) (sym (constraint.rolls-Compare place relation left right)) ∙ at_constraint x (GCon-F.Compare place relation left right)

pub asked-Range : (x : ColumnNumbers) (place : Place) (relation : Relation) (first : Rational) (t : GTerm) (last : Rational) → constraint_holds x (constraint.Range place relation first t last) ≡ (related relation first (term_number x t) && related relation (term_number x t) last)
asked-Range x place relation first t last = ap (constraint_holds x) (sym (constraint.rolls-Range place relation first t last)) ∙ at_constraint x (GCon-F.Range place relation first t last)

pub asked-And : (x : ColumnNumbers) (parts : List GCon) → constraint_holds x (constraint.And parts) ≡ all_hold (map (constraint_holds x) parts)
asked-And x parts = ap (constraint_holds x) (sym (constraint.rolls-And parts)) ∙ at_constraint x (GCon-F.And parts)

pub asked-Vif : (x : ColumnNumbers) (place : Place) (test : GCond) (first : GCon) (otherwise : Option GCon) → constraint_holds x (constraint.Vif place test first otherwise) ≡ (if condition_holds x test then constraint_holds x first else otherwise_holds (option_map (constraint_holds x) otherwise))
asked-Vif x place test first None = ap (constraint_holds x) (sym (constraint.rolls-Vif place test first None)) ∙ at_constraint x (GCon-F.Vif place test first None)
asked-Vif x place test first (Some otherwise) = ap (constraint_holds x) (sym (constraint.rolls-Vif place test first (Some otherwise))) ∙ at_constraint x (GCon-F.Vif place test first (Some otherwise))
