-- A term over some columns is one over more, and so are its parts.
use Rattle.std.proofs.Common.{ℕ, zero, suc, ◌≡◌, ◌<◌, ◌≤◌, Bool, IsTrue, nat_lt, nat_le, List, [], ◌∷◌, length, map, get_or, Option, arith, sym, subst}
use Rattle.std.proofs.lemmas.Bool.{and_from, and_parts, leb-true, le-leb}
use Rattle.zim_fault.specs.declared.faults.Place.{Place}
use Rattle.zim_rational.specs.Rational.{Rational}
use Rattle.zim_formula.specs.Ground.{all_hold}
use Rattle.zim_formula.specs.GroundRules.{operands_hold, divides, is_column, is_term_over, term_rule}
use Rattle.zim_formula.proofs.GroundRuleLaws.{over-term-Sum, over-term-Product, over-term-Minus, over-term-SumOver, over-term-Abs}
use Rattle.zim_formula.specs.declared.ground.GTerm.TheVariants as term
use Rattle.zim_formula.specs.declared.ground.GTerm.{GTerm, GTerm-F, map-GTerm, roll-GTerm, fold-roll-GTerm, ind-GTerm}

abbrev Grows : ℕ → ℕ → GTerm → Type 0
Grows m n t = m ≤ n → IsTrue (is_term_over m t) → IsTrue (is_term_over n t)

abbrev Part : ℕ → ℕ → Type 0
Part m n = (t : GTerm) × Grows m n t

abbrev bare : (m n : ℕ) → GTerm-F (Part m n) → GTerm-F GTerm
bare m n y = map-GTerm (Part m n) GTerm (λ e. e.0) y

column_more : (m n j : ℕ) → m ≤ n → IsTrue (is_column m j) → IsTrue (is_column n j)
unfolding is_column
column_more m n j le h =
    let parts = and_parts (nat_lt 0 j) (nat_le j m) h in
    let few : j ≤ m = leb-true j m parts.1 in
    and_from (nat_lt 0 j) (nat_le j n) parts.0 (le-leb j n (omega arith))

operands_more : (m n : ℕ) (os : List (Place × Bool × Part m n)) → m ≤ n
    → IsTrue (operands_hold (map (λ (t : Place × Bool × GTerm). (t.0, t.1, is_term_over m t.2)) (map (λ (t : Place × Bool × Part m n). (t.0, t.1, t.2.0)) os)))
    → IsTrue (operands_hold (map (λ (t : Place × Bool × GTerm). (t.0, t.1, is_term_over n t.2)) (map (λ (t : Place × Bool × Part m n). (t.0, t.1, t.2.0)) os)))
unfolding operands_hold
operands_more m n [] le h = h
operands_more m n (o ∷ os) le h =
    let parts = and_parts (is_term_over m o.2.0) _ h in
    and_from (is_term_over n o.2.0) _ (o.2.1 le parts.0) (operands_more m n os le parts.1)

members_more : (m n : ℕ) (os : List (Part m n)) → m ≤ n → IsTrue (all_hold (map (is_term_over m) (map (λ (e : Part m n). e.0) os))) → IsTrue (all_hold (map (is_term_over n) (map (λ (e : Part m n). e.0) os)))
unfolding all_hold
members_more m n [] le h = h
members_more m n (o ∷ os) le h =
    let parts = and_parts (is_term_over m o.0) _ h in
    and_from (is_term_over n o.0) _ (o.1 le parts.0) (members_more m n os le parts.1)

inner : (m n : ℕ) (y : GTerm-F (Part m n)) → m ≤ n → IsTrue (term_rule m (map-GTerm GTerm Bool (is_term_over m) (bare m n y))) → IsTrue (term_rule n (map-GTerm GTerm Bool (is_term_over n) (bare m n y)))
inner m n (GTerm-F.Known q) le h = h
inner m n (GTerm-F.Column j) le h = column_more m n j le h
inner m n (GTerm-F.Sum first others) le h =
    let parts = and_parts (is_term_over m first.0) _ h in
    and_from (is_term_over n first.0) _ (first.1 le parts.0) (operands_more m n others le parts.1)
inner m n (GTerm-F.Product factor t others) le h =
    let parts = and_parts (is_term_over m t.0) (divides others) h in
    and_from (is_term_over n t.0) (divides others) (t.1 le parts.0) parts.1
inner m n (GTerm-F.Minus place t) le h = t.1 le h
inner m n (GTerm-F.SumOver place ts) le h = members_more m n ts le h
inner m n (GTerm-F.Abs place t) le h = t.1 le h

layer : (m n : ℕ) (y : GTerm-F (Part m n)) → Grows m n (roll-GTerm (bare m n y))
layer m n y le h =
    let d : GTerm-F GTerm = bare m n y in
    subst IsTrue (sym (fold-roll-GTerm Bool (term_rule n) d)) (inner m n y le (subst IsTrue (fold-roll-GTerm Bool (term_rule m) d) h))

-- a term over m columns is one over n
pub term_over_more : (m n : ℕ) (t : GTerm) → m ≤ n → IsTrue (is_term_over m t) → IsTrue (is_term_over n t)
term_over_more m n = ind-GTerm (Grows m n) (λ x y is. subst (λ (z : GTerm-F GTerm). Grows m n (roll-GTerm z)) is (layer m n y))

-- one of the operands, and one of the members
pub operand_over : (n : ℕ) (os : List (Place × Bool × GTerm)) (i : ℕ) (d : Place × Bool × GTerm) → i < length os → IsTrue (operands_hold (map (λ (t : Place × Bool × GTerm). (t.0, t.1, is_term_over n t.2)) os)) → IsTrue (is_term_over n (get_or os i d).2)
unfolding operands_hold
operand_over n [] i d lt h = absurd (omega arith)
operand_over n (o ∷ os) zero d lt h = (and_parts (is_term_over n o.2) _ h).0
operand_over n (o ∷ os) (suc i) d lt h = operand_over n os i d (omega arith) (and_parts (is_term_over n o.2) _ h).1

pub member_over : (n : ℕ) (os : List GTerm) (i : ℕ) (d : GTerm) → i < length os → IsTrue (all_hold (map (is_term_over n) os)) → IsTrue (is_term_over n (get_or os i d))
unfolding all_hold
member_over n [] i d lt h = absurd (omega arith)
member_over n (o ∷ os) zero d lt h = (and_parts (is_term_over n o) _ h).0
member_over n (o ∷ os) (suc i) d lt h = member_over n os i d (omega arith) (and_parts (is_term_over n o) _ h).1

-- an operand, and a member, over the columns of a system that grew
pub operand_here : (m n : ℕ) (os : List (Place × Bool × GTerm)) (i : ℕ) (o : Place × Bool × GTerm) → m ≤ n → i < length os → o ≡ get_or os i o → IsTrue (operands_hold (map (λ (t : Place × Bool × GTerm). (t.0, t.1, is_term_over m t.2)) os)) → IsTrue (is_term_over n o.2)
operand_here m n os i o le lt is h =
    term_over_more m n o.2 le (subst (λ (t : Place × Bool × GTerm). IsTrue (is_term_over m t.2)) (sym is) (operand_over m os i o lt h))

pub member_here : (m n : ℕ) (os : List GTerm) (i : ℕ) (o : GTerm) → m ≤ n → i < length os → o ≡ get_or os i o → IsTrue (all_hold (map (is_term_over m) os)) → IsTrue (is_term_over n o)
member_here m n os i o le lt is h =
    term_over_more m n o le (subst (λ (t : GTerm). IsTrue (is_term_over m t)) (sym is) (member_over m os i o lt h))

-- operands over more columns
pub all_operands_more : (m n : ℕ) (os : List (Place × Bool × GTerm)) → m ≤ n → IsTrue (operands_hold (map (λ (t : Place × Bool × GTerm). (t.0, t.1, is_term_over m t.2)) os)) → IsTrue (operands_hold (map (λ (t : Place × Bool × GTerm). (t.0, t.1, is_term_over n t.2)) os))
unfolding operands_hold
all_operands_more m n [] le h = h
all_operands_more m n (o ∷ os) le h =
    let parts = and_parts (is_term_over m o.2) _ h in
    and_from (is_term_over n o.2) _ (term_over_more m n o.2 le parts.0) (all_operands_more m n os le parts.1)

-- the operands of a sum that is over the columns from 1 to m
pub sum_operands : (m n : ℕ) (t first : GTerm) (others : List (Place × Bool × GTerm)) → m ≤ n → t ≡ term.Sum first others → IsTrue (is_term_over m t) → IsTrue (operands_hold (map (λ (t : Place × Bool × GTerm). (t.0, t.1, is_term_over n t.2)) others))
sum_operands m n t first others le e h =
    all_operands_more m n others le (and_parts (is_term_over m first) _ (subst IsTrue (over-term-Sum m first others) (subst (λ (u : GTerm). IsTrue (is_term_over m u)) e h))).1

pub sum_first : (m : ℕ) (t first : GTerm) (others : List (Place × Bool × GTerm)) → t ≡ term.Sum first others → IsTrue (is_term_over m t) → IsTrue (is_term_over m first)
sum_first m t first others e h =
    (and_parts (is_term_over m first) _ (subst IsTrue (over-term-Sum m first others) (subst (λ (u : GTerm). IsTrue (is_term_over m u)) e h))).0

-- the parts of other terms
pub product_term : (m : ℕ) (t u : GTerm) (factor : Option (Rational × Place)) (others : List (Place × Bool × Rational)) → t ≡ term.Product factor u others → IsTrue (is_term_over m t) → IsTrue (is_term_over m u)
product_term m t u factor others e h =
    (and_parts (is_term_over m u) (divides others) (subst IsTrue (over-term-Product m factor u others) (subst (λ (v : GTerm). IsTrue (is_term_over m v)) e h))).0

pub minus_term : (m : ℕ) (t u : GTerm) (place : Place) → t ≡ term.Minus place u → IsTrue (is_term_over m t) → IsTrue (is_term_over m u)
minus_term m t u place e h = subst IsTrue (over-term-Minus m place u) (subst (λ (v : GTerm). IsTrue (is_term_over m v)) e h)

pub sum_members : (m : ℕ) (t : GTerm) (place : Place) (ts : List GTerm) → t ≡ term.SumOver place ts → IsTrue (is_term_over m t) → IsTrue (all_hold (map (is_term_over m) ts))
sum_members m t place ts e h = subst IsTrue (over-term-SumOver m place ts) (subst (λ (v : GTerm). IsTrue (is_term_over m v)) e h)

pub absolute_inner : (m : ℕ) (t u : GTerm) (place : Place) → t ≡ term.Abs place u → IsTrue (is_term_over m t) → IsTrue (is_term_over m u)
absolute_inner m t u place e h = subst IsTrue (over-term-Abs m place u) (subst (λ (v : GTerm). IsTrue (is_term_over m v)) e h)
