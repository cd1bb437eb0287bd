-- What is made of parts over some columns is over these columns.
use Rattle.std.proofs.Common.{◌≡◌, ◌≤◌, ℕ, nat_lt, nat_le, not, ◌&&◌, Bool, true, false, IsTrue, List, [], ◌∷◌, Option, Some, None, arith, refl, sym, ap, ◌∙◌, ◌++◌, subst}
use Rattle.std.proofs.lemmas.Bool.{and_from, lt-ltb, le-leb}
use Rattle.zim_fault.specs.declared.faults.Place.{Place}
use Rattle.zim_fault.specs.declared.tokens.Relation.{Relation}
use Rattle.zim_fault.specs.declared.tokens.Relation.TheVariants.{AtMost, AtLeast, EqualTo}
use Rattle.zim_fault.specs.declared.tokens.Join.{Join}
use Rattle.zim_rational.specs.Rational.{Rational, zero, same}
use Rattle.zim_formula.specs.Ground.{all_hold, otherwise_holds}
use Rattle.zim_formula.specs.GroundRules.{divides, is_column, operands_hold, joined_hold, is_term_over, is_condition_over, is_constraint_over, is_row_relation, is_range_relation}
use Rattle.zim_formula.specs.declared.ground.GTerm.{GTerm}
use Rattle.zim_formula.specs.declared.ground.GTerm.TheVariants as term
use Rattle.zim_formula.specs.declared.ground.GCond.{GCond}
use Rattle.zim_formula.specs.declared.ground.GCond.TheVariants as condition
use Rattle.zim_formula.specs.declared.ground.GCon.{GCon}
use Rattle.zim_formula.specs.declared.ground.GCon.TheVariants as constraint
use Rattle.zim_formula.proofs.GroundRuleLaws.{over-term-Column, over-term-Sum, over-term-Product, over-condition-Chain, over-constraint-Compare, over-constraint-Range, over-constraint-And, over-constraint-Vif}

-- what is put to an empty list stands there alone
pub alone : {A : Type 0} {xs ys : List A} {x : A} → xs ≡ ys ++ x ∷ [] → ys ≡ [] → xs ≡ x ∷ []
alone {A} {xs} {ys} {x} is none = is ∙ ap (λ (zs : List A). zs ++ x ∷ []) none

-- and with one that stood there alone
pub two : {A : Type 0} {xs ys : List A} {x y : A} → xs ≡ ys ++ y ∷ [] → ys ≡ x ∷ [] → xs ≡ x ∷ y ∷ []
two {A} {xs} {ys} {x} {y} is one = is ∙ ap (λ (zs : List A). zs ++ y ∷ []) one

-- the same tree, over as many columns
pub term_here : {m n : ℕ} {t u : GTerm} → m ≡ n → t ≡ u → IsTrue (is_term_over m u) → IsTrue (is_term_over n t)
term_here {m} {n} {t} {u} same is over = subst (λ k. IsTrue (is_term_over k t)) same (subst (λ v. IsTrue (is_term_over m v)) (sym is) over)

pub condition_here : {m n : ℕ} {c d : GCond} → m ≡ n → c ≡ d → IsTrue (is_condition_over m d) → IsTrue (is_condition_over n c)
condition_here {m} {n} {c} {d} same is over = subst (λ k. IsTrue (is_condition_over k c)) same (subst (λ v. IsTrue (is_condition_over m v)) (sym is) over)

pub constraint_here : {m n : ℕ} {c d : GCon} → m ≡ n → c ≡ d → IsTrue (is_constraint_over m d) → IsTrue (is_constraint_over n c)
constraint_here {m} {n} {c} {d} same is over = subst (λ k. IsTrue (is_constraint_over k c)) same (subst (λ v. IsTrue (is_constraint_over m v)) (sym is) over)

pub column_over : (n j : ℕ) → (j ≡ 0 → ⊥) → j ≤ n → IsTrue (is_term_over n (term.Column j))
unfolding is_column
column_over n j one within = subst IsTrue (sym (over-term-Column n j)) (and_from (nat_lt 0 j) (nat_le j n) (lt-ltb 0 j (omega (arith, one))) (le-leb j n within))

pub product_over : (n : ℕ) (factor : Option (Rational × Place)) (t : GTerm) (others : List (Place × Bool × Rational)) → others ≡ [] → IsTrue (is_term_over n t) →
    IsTrue (is_term_over n (term.Product factor t others))
unfolding divides
product_over n factor t others is a =
    subst (λ os. IsTrue (is_term_over n (term.Product factor t os))) (sym is) (subst IsTrue (sym (over-term-Product n factor t [])) (and_from (is_term_over n t) true a refl))

pub quotient_over : (n : ℕ) (t : GTerm) (place : Place) (q : Rational) (others : List (Place × Bool × Rational)) → others ≡ (place, true, q) ∷ [] → same q zero ≡ false → IsTrue (is_term_over n t) →
    IsTrue (is_term_over n (term.Product None t others))
unfolding divides
quotient_over n t place q others is differs a =
    subst (λ os. IsTrue (is_term_over n (term.Product None t os))) (sym is)
    (subst IsTrue (sym (over-term-Product n None t ((place, true, q) ∷ []))) (and_from (is_term_over n t) _ a (subst (λ b. IsTrue (not (true && b) && true)) (sym differs) refl)))

sum_of_two : (n : ℕ) (t u : GTerm) (place : Place) (minus : Bool) → IsTrue (is_term_over n t) → IsTrue (is_term_over n u) →
    IsTrue (is_term_over n (term.Sum t ((place, minus, u) ∷ [])))
unfolding operands_hold
sum_of_two n t u place minus a b =
    subst IsTrue (sym (over-term-Sum n t ((place, minus, u) ∷ []))) (and_from (is_term_over n t) _ a (and_from (is_term_over n u) true b refl))

pub sum_over : (n : ℕ) (t u : GTerm) (place : Place) (minus : Bool) (others : List (Place × Bool × GTerm)) → others ≡ (place, minus, u) ∷ [] →
    IsTrue (is_term_over n t) → IsTrue (is_term_over n u) → IsTrue (is_term_over n (term.Sum t others))
sum_over n t u place minus others is a b = subst (λ os. IsTrue (is_term_over n (term.Sum t os))) (sym is) (sum_of_two n t u place minus a b)

chain_of_two : (n : ℕ) (c d : GCond) (place : Place) (join : Join) → IsTrue (is_condition_over n c) → IsTrue (is_condition_over n d) →
    IsTrue (is_condition_over n (condition.Chain c ((place, join, d) ∷ [])))
unfolding joined_hold
chain_of_two n c d place join a b =
    subst IsTrue (sym (over-condition-Chain n c ((place, join, d) ∷ []))) (and_from (is_condition_over n c) _ a (and_from (is_condition_over n d) true b refl))

pub joined_over : (n : ℕ) (c d : GCond) (place : Place) (join : Join) (others : List (Place × Join × GCond)) → others ≡ (place, join, d) ∷ [] →
    IsTrue (is_condition_over n c) → IsTrue (is_condition_over n d) → IsTrue (is_condition_over n (condition.Chain c others))
joined_over n c d place join others is a b = subst (λ os. IsTrue (is_condition_over n (condition.Chain c os))) (sym is) (chain_of_two n c d place join a b)

compared_over : (n : ℕ) (place : Place) (relation : Relation) (t u : GTerm) → IsTrue (is_row_relation relation) → IsTrue (is_term_over n t) → IsTrue (is_term_over n u) →
    IsTrue (is_constraint_over n (constraint.Compare place relation t u))
compared_over n place relation t u row a b =
    subst IsTrue (sym (over-constraint-Compare n place relation t u)) (and_from (is_row_relation relation && is_term_over n t) (is_term_over n u) (and_from (is_row_relation relation) (is_term_over n t) row a) b)

pub at_most_over : (n : ℕ) (place : Place) (t u : GTerm) → IsTrue (is_term_over n t) → IsTrue (is_term_over n u) → IsTrue (is_constraint_over n (constraint.Compare place AtMost t u))
unfolding is_row_relation
at_most_over n place t u a b = compared_over n place AtMost t u refl a b

pub at_least_over : (n : ℕ) (place : Place) (t u : GTerm) → IsTrue (is_term_over n t) → IsTrue (is_term_over n u) → IsTrue (is_constraint_over n (constraint.Compare place AtLeast t u))
unfolding is_row_relation
at_least_over n place t u a b = compared_over n place AtLeast t u refl a b

pub equal_over : (n : ℕ) (place : Place) (t u : GTerm) → IsTrue (is_term_over n t) → IsTrue (is_term_over n u) → IsTrue (is_constraint_over n (constraint.Compare place EqualTo t u))
unfolding is_row_relation
equal_over n place t u a b = compared_over n place EqualTo t u refl a b

pub rising_over : (n : ℕ) (place : Place) (p q : Rational) (t : GTerm) → IsTrue (is_term_over n t) → IsTrue (is_constraint_over n (constraint.Range place AtMost p t q))
unfolding is_range_relation
rising_over n place p q t a = subst IsTrue (sym (over-constraint-Range n place AtMost p t q)) (and_from true (is_term_over n t) refl a)

pub falling_over : (n : ℕ) (place : Place) (p q : Rational) (t : GTerm) → IsTrue (is_term_over n t) → IsTrue (is_constraint_over n (constraint.Range place AtLeast p t q))
unfolding is_range_relation
falling_over n place p q t a = subst IsTrue (sym (over-constraint-Range n place AtLeast p t q)) (and_from true (is_term_over n t) refl a)

pub both_over : (n : ℕ) (c d : GCon) (parts : List GCon) → parts ≡ c ∷ d ∷ [] → IsTrue (is_constraint_over n c) → IsTrue (is_constraint_over n d) → IsTrue (is_constraint_over n (constraint.And parts))
unfolding all_hold
both_over n c d parts is a b =
    subst (λ ps. IsTrue (is_constraint_over n (constraint.And ps))) (sym is) (subst IsTrue (sym (over-constraint-And n (c ∷ d ∷ []))) (and_from (is_constraint_over n c) _ a (and_from (is_constraint_over n d) true b refl)))

pub picked_over : (n : ℕ) (place : Place) (test : GCond) (c : GCon) → IsTrue (is_condition_over n test) → IsTrue (is_constraint_over n c) →
    IsTrue (is_constraint_over n (constraint.Vif place test c None))
unfolding otherwise_holds
picked_over n place test c t a =
    subst IsTrue (sym (over-constraint-Vif n place test c None)) (and_from (is_condition_over n test && is_constraint_over n c) true (and_from (is_condition_over n test) (is_constraint_over n c) t a) refl)

pub one_picked_over : (n : ℕ) (place : Place) (test : GCond) (c d : GCon) → IsTrue (is_condition_over n test) → IsTrue (is_constraint_over n c) → IsTrue (is_constraint_over n d) →
    IsTrue (is_constraint_over n (constraint.Vif place test c (Some d)))
unfolding otherwise_holds
one_picked_over n place test c d t a b =
    subst IsTrue (sym (over-constraint-Vif n place test c (Some d))) (and_from (is_condition_over n test && is_constraint_over n c) (is_constraint_over n d) (and_from (is_condition_over n test) (is_constraint_over n c) t a) b)
