-- A conjunction of conditions over some columns is over them.
use Rattle.std.proofs.Common.{◌≡◌, ◌<◌, ◌≤◌, ℕ, nat_lt, nat_le, Bool, true, IsTrue, List, [], ◌∷◌, ◌++◌, map, refl, sym, subst}
use Rattle.std.proofs.lemmas.Bool.{and_from, and_parts, lt-ltb, le-leb}
use Rattle.zim_fault.specs.declared.faults.Place.{Place}
use Rattle.zim_fault.specs.declared.tokens.Relation.{Relation}
use Rattle.zim_fault.specs.declared.tokens.Join.{Join}
use Rattle.zim_rational.specs.Rational.{Rational}
use Rattle.zim_formula.specs.GroundRules.{is_column, joined_hold, is_term_over, is_condition_over}
use Rattle.zim_formula.specs.declared.ground.GTerm.{GTerm}
use Rattle.zim_formula.specs.declared.ground.GTerm.TheVariants as term
use Rattle.zim_formula.specs.declared.ground.GCond.{GCond}
use Rattle.zim_formula.specs.declared.ground.GCond.TheVariants as condition
use Rattle.zim_formula.proofs.GroundRuleLaws.{over-term-Known, over-term-Column, over-condition-Compare, over-condition-Chain}

column_over : (n j : ℕ) → 0 < j → j ≤ n → IsTrue (is_term_over n (term.Column j))
unfolding is_column
column_over n j one within = subst IsTrue (sym (over-term-Column n j)) (and_from (nat_lt 0 j) (nat_le j n) (lt-ltb 0 j one) (le-leb j n within))

-- a column compared with a number
pub compared_over : (n j : ℕ) (q : Rational) (place : Place) (relation : Relation) (left right : GTerm) → left ≡ term.Column j → right ≡ term.Known q → 0 < j → j ≤ n →
    IsTrue (is_condition_over n (condition.Compare place relation left right))
compared_over n j q place relation left right is other one within =
    subst IsTrue (sym (over-condition-Compare n place relation left right))
    (and_from (is_term_over n left) (is_term_over n right)
    (subst (λ t. IsTrue (is_term_over n t)) (sym is) (column_over n j one within))
    (subst (λ t. IsTrue (is_term_over n t)) (sym other) (subst IsTrue (sym (over-term-Known n q)) refl)))

-- the operands of a chain are over the columns from 1 to n
unfoldable pub are_over : ℕ → List (Place × Join × GCond) → Bool
are_over n operands = joined_hold (map (λ (c : Place × Join × GCond). (c.0, c.1, is_condition_over n c.2)) operands)

pub none_over : (n : ℕ) (operands : List (Place × Join × GCond)) → operands ≡ [] → IsTrue (are_over n operands)
unfolding are_over joined_hold
none_over n operands is = subst (λ os. IsTrue (are_over n os)) (sym is) refl

one_more : (n : ℕ) (operands : List (Place × Join × GCond)) (place : Place) (join : Join) (c : GCond) → IsTrue (are_over n operands) → IsTrue (is_condition_over n c) → IsTrue (are_over n (operands ++ (place, join, c) ∷ []))
unfolding are_over joined_hold
one_more n [] place join c all is = and_from (is_condition_over n c) true is refl
one_more n (o ∷ operands) place join c all is =
    let parts = and_parts (is_condition_over n o.2) (are_over n operands) all in
    and_from (is_condition_over n o.2) (are_over n (operands ++ (place, join, c) ∷ [])) parts.0 (one_more n operands place join c parts.1 is)

pub more_over : (n : ℕ) (operands more : List (Place × Join × GCond)) (place : Place) (join : Join) (c : GCond) → more ≡ operands ++ (place, join, c) ∷ [] → IsTrue (are_over n operands) → IsTrue (is_condition_over n c) → IsTrue (are_over n more)
more_over n operands more place join c next all is = subst (λ os. IsTrue (are_over n os)) (sym next) (one_more n operands place join c all is)

pub chain_over : (n : ℕ) (first c : GCond) (operands : List (Place × Join × GCond)) → first ≡ c → IsTrue (is_condition_over n c) → IsTrue (are_over n operands) → IsTrue (is_condition_over n (condition.Chain first operands))
unfolding are_over
chain_over n first c operands same is all =
    subst IsTrue (sym (over-condition-Chain n first operands)) (and_from (is_condition_over n first) _ (subst (λ d. IsTrue (is_condition_over n d)) (sym same) is) all)
