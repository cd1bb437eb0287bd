-- A constraint over some columns is one over more, and so are its parts.
use Rattle.std.proofs.Common.{ℕ, zero, suc, ◌≡◌, ◌<◌, ◌≤◌, ◌&&◌, Bool, IsTrue, List, [], ◌∷◌, length, map, get_or, Option, Some, None, option_map, arith, ap, sym, ◌∙◌, subst}
use Rattle.std.proofs.lemmas.Bool.{and_from, and_parts}
use Rattle.zim_fault.specs.declared.faults.Place.{Place}
use Rattle.zim_formula.specs.Ground.{all_hold, otherwise_holds}
use Rattle.zim_formula.specs.GroundRules.{is_term_over, is_condition_over, is_row_relation, is_range_relation, constraint_rule, is_constraint_over}
use Rattle.zim_formula.proofs.GroundRuleLaws.{over-constraint-And, over-constraint-Vif}
use Rattle.zim_formula.specs.declared.ground.GCond.{GCond}
use Rattle.zim_formula.specs.declared.ground.GCon.{GCon, GCon-F, map-GCon, roll-GCon, fold-roll-GCon, ind-GCon}
use Rattle.zim_formula.specs.declared.ground.GCon.TheVariants as constraint
use Rattle.zim_vabs.proofs.OverTermLaws.{term_over_more}
use Rattle.zim_cond.proofs.OverConditionLaws.{condition_over_more}

abbrev Grows : ℕ → ℕ → GCon → Type 0
Grows m n c = m ≤ n → IsTrue (is_constraint_over m c) → IsTrue (is_constraint_over n c)

abbrev Part : ℕ → ℕ → Type 0
Part m n = (c : GCon) × Grows m n c

abbrev bare : (m n : ℕ) → GCon-F (Part m n) → GCon-F GCon
bare m n y = map-GCon (Part m n) GCon (λ e. e.0) y

parts_more : (m n : ℕ) (os : List (Part m n)) → m ≤ n → IsTrue (all_hold (map (is_constraint_over m) (map (λ (e : Part m n). e.0) os))) → IsTrue (all_hold (map (is_constraint_over n) (map (λ (e : Part m n). e.0) os)))
unfolding all_hold
parts_more m n [] le h = h
parts_more m n (o ∷ os) le h =
    let parts = and_parts (is_constraint_over m o.0) _ h in
    and_from (is_constraint_over n o.0) _ (o.1 le parts.0) (parts_more m n os le parts.1)

inner : (m n : ℕ) (y : GCon-F (Part m n)) → m ≤ n → IsTrue (constraint_rule m (map-GCon GCon Bool (is_constraint_over m) (bare m n y))) → IsTrue (constraint_rule n (map-GCon GCon Bool (is_constraint_over n) (bare m n y)))
unfolding otherwise_holds
inner m n (GCon-F.Compare place relation left right) le h =
    let parts = and_parts (is_row_relation relation && is_term_over m left) (is_term_over m right) h in
    let others = and_parts (is_row_relation relation) (is_term_over m left) parts.0 in
    and_from (is_row_relation relation && is_term_over n left) (is_term_over n right) (and_from (is_row_relation relation) (is_term_over n left) others.0 (term_over_more m n left le others.1)) (term_over_more m n right le parts.1)
inner m n (GCon-F.Range place relation first term last) le h =
    let parts = and_parts (is_range_relation relation) (is_term_over m term) h in
    and_from (is_range_relation relation) (is_term_over n term) parts.0 (term_over_more m n term le parts.1)
inner m n (GCon-F.And parts) le h = parts_more m n parts le h
inner m n (GCon-F.Vif place test first None) le h =
    let parts = and_parts (is_condition_over m test && is_constraint_over m first.0) _ h in
    let others = and_parts (is_condition_over m test) (is_constraint_over m first.0) parts.0 in
    and_from (is_condition_over n test && is_constraint_over n first.0) _ (and_from (is_condition_over n test) (is_constraint_over n first.0) (condition_over_more m n test le others.0) (first.1 le others.1)) parts.1
inner m n (GCon-F.Vif place test first (Some otherwise)) le h =
    let parts = and_parts (is_condition_over m test && is_constraint_over m first.0) (is_constraint_over m otherwise.0) h in
    let others = and_parts (is_condition_over m test) (is_constraint_over m first.0) parts.0 in
    and_from (is_condition_over n test && is_constraint_over n first.0) (is_constraint_over n otherwise.0) (and_from (is_condition_over n test) (is_constraint_over n first.0) (condition_over_more m n test le others.0) (first.1 le others.1)) (otherwise.1 le parts.1)

layer : (m n : ℕ) (y : GCon-F (Part m n)) → Grows m n (roll-GCon (bare m n y))
layer m n y le h =
    let d : GCon-F GCon = bare m n y in
    subst IsTrue (sym (fold-roll-GCon Bool (constraint_rule n) d)) (inner m n y le (subst IsTrue (fold-roll-GCon Bool (constraint_rule m) d) h))

-- a constraint over m columns is one over n
pub constraint_over_more : (m n : ℕ) (c : GCon) → m ≤ n → IsTrue (is_constraint_over m c) → IsTrue (is_constraint_over n c)
constraint_over_more m n = ind-GCon (Grows m n) (λ x y is. subst (λ (z : GCon-F GCon). Grows m n (roll-GCon z)) is (layer m n y))

part_over : (n : ℕ) (cs : List GCon) (i : ℕ) (d : GCon) → i < length cs → IsTrue (all_hold (map (is_constraint_over n) cs)) → IsTrue (is_constraint_over n (get_or cs i d))
unfolding all_hold
part_over n [] i d lt h = absurd (omega arith)
part_over n (c ∷ cs) zero d lt h = (and_parts (is_constraint_over n c) _ h).0
part_over n (c ∷ cs) (suc i) d lt h = part_over n cs i d (omega arith) (and_parts (is_constraint_over n c) _ h).1

-- a part over the columns of a system that grew
pub part_here : (m n : ℕ) (cs : List GCon) (i : ℕ) (c : GCon) → m ≤ n → i < length cs → c ≡ get_or cs i c → IsTrue (all_hold (map (is_constraint_over m) cs)) → IsTrue (is_constraint_over n c)
part_here m n cs i c le lt is h =
    constraint_over_more m n c le (subst (λ (t : GCon). IsTrue (is_constraint_over m t)) (sym is) (part_over m cs i c lt h))

-- the part behind `else` over the columns of a system that grew
pub otherwise_here : (m n : ℕ) (otherwise : Option GCon) (c : GCon) → m ≤ n → otherwise ≡ Some c → IsTrue (otherwise_holds (option_map (is_constraint_over m) otherwise)) → IsTrue (is_constraint_over n c)
unfolding otherwise_holds
otherwise_here m n otherwise c le e h =
    constraint_over_more m n c le (subst (λ (o : Option GCon). IsTrue (otherwise_holds (option_map (is_constraint_over m) o))) e h)

-- ---- the parts of each form

pub and_members : (n : ℕ) (c : GCon) (parts : List GCon) → c ≡ constraint.And parts → IsTrue (is_constraint_over n c) → IsTrue (all_hold (map (is_constraint_over n) parts))
and_members n c parts e h = subst IsTrue (ap (is_constraint_over n) e ∙ over-constraint-And n parts) h

-- the condition and the two parts of a `vif`
pub record VifOver (n : ℕ) (test : GCond) (first : GCon) (otherwise : Option GCon) : Type 0 where
  pub test_over : IsTrue (is_condition_over n test)
  pub first_over : IsTrue (is_constraint_over n first)
  pub other_over : IsTrue (otherwise_holds (option_map (is_constraint_over n) otherwise))

pub vif_parts : (n : ℕ) (c : GCon) (place : Place) (test : GCond) (first : GCon) (otherwise : Option GCon) → c ≡ constraint.Vif place test first otherwise → IsTrue (is_constraint_over n c) → VifOver n test first otherwise
vif_parts n c place test first otherwise e h =
    let parts = and_parts (is_condition_over n test && is_constraint_over n first) (otherwise_holds (option_map (is_constraint_over n) otherwise)) (subst IsTrue (ap (is_constraint_over n) e ∙ over-constraint-Vif n place test first otherwise) h) in
    let others = and_parts (is_condition_over n test) (is_constraint_over n first) parts.0 in
    record { test_over = others.0; first_over = others.1; other_over = parts.1 }
