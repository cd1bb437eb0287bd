-- Sums over lists: of joined lists, of sums, products and negations by element, and in another order.
use Rattle.std.proofs.Common.{ℕ, zero as none, suc, get_or, set, ◌≡◌, ◌<◌, List, [], ◌∷◌, ◌++◌, map, length, swap, IsPermutation, arith, refl, sym, ap, ap₂, subst, ⊎_elim, ◌∙◌}
use Rattle.std.proofs.lemmas.Bool.{cases_eq}
use Rattle.std.proofs.lemmas.List.{get_or-set_same, get_or-set_other, length-set}
use Rattle.std.proofs.lemmas.List.Sorted.{IsPermutation-keeps}
use Rattle.std.proofs.lemmas.List.Edits.{swap_is}
use Rattle.zim_rational.proofs.Fraction.{fractions, common3}
use Rattle.zim_rational.specs.Rational.{Rational, zero, plus, negate, times, total, IsAtMost}
use Rattle.zim_rational.proofs.Ring.{plus_assoc, plus_cancel, plus_left_comm, zero_plus, times_plus, times_zero, negate_plus, negate_zero}
use Rattle.zim_rational.proofs.Order.{at_most_refl, plus_at_most}

pub total_append : (xs ys : List Rational) → total (xs ++ ys) ≡ plus (total xs) (total ys)
unfolding total
total_append [] ys = sym (zero_plus (total ys))
total_append (x ∷ xs) ys = ap (plus x) (total_append xs ys) ∙ sym (plus_assoc x (total xs) (total ys))

pub total_map_plus : {X : Type 0} (f g : X → Rational) (xs : List X) → total (map (λ x. plus (f x) (g x)) xs) ≡ plus (total (map f xs)) (total (map g xs))
unfolding total
total_map_plus f g [] = sym (zero_plus zero)
total_map_plus f g (x ∷ xs) =
    rw
    (total_map_plus f g xs, plus_assoc (f x) (g x), plus_assoc (f x) (total (map f xs)))
    (ap (plus (f x)) (plus_left_comm (g x) (total (map f xs)) (total (map g xs))))

pub total_map_times : {X : Type 0} (k : Rational) (f : X → Rational) (xs : List X) → total (map (λ x. times k (f x)) xs) ≡ times k (total (map f xs))
unfolding total
total_map_times k f [] = sym (times_zero k)
total_map_times k f (x ∷ xs) =
    ap (plus (times k (f x))) (total_map_times k f xs) ∙ sym (times_plus k (f x) (total (map f xs)))

pub total_map_negate : {X : Type 0} (f : X → Rational) (xs : List X) → total (map (λ x. negate (f x)) xs) ≡ negate (total (map f xs))
unfolding total
total_map_negate f [] = sym negate_zero
total_map_negate f (x ∷ xs) =
    ap (plus (negate (f x))) (total_map_negate f xs) ∙ sym (negate_plus (f x) (total (map f xs)))

-- sums of numbers that are at most each other, place by place
pub total_map_at_most : {X : Type 0} (f g : X → Rational) (each : (x : X) → IsAtMost (f x) (g x)) (xs : List X) → IsAtMost (total (map f xs)) (total (map g xs))
unfolding total
total_map_at_most f g each [] = at_most_refl zero
total_map_at_most f g each (x ∷ xs) =
    plus_at_most (f x) (g x) (total (map f xs)) (total (map g xs)) (each x) (total_map_at_most f g each xs)

pub total_map_same : {X : Type 0} (f g : X → Rational) (each : (x : X) → f x ≡ g x) (xs : List X) → total (map f xs) ≡ total (map g xs)
unfolding total
total_map_same f g each [] = refl
total_map_same f g each (x ∷ xs) = ap₂ plus (each x) (total_map_same f g each xs)

-- one element replaced
replaced : (x t v : Rational) → plus (plus v t) x ≡ plus (plus x t) v
replaced =
    common3 (λ x t v. plus (plus v t) x ≡ plus (plus x t) v) (λ x y u v s t d some. simp fractions (omega arith))

total-set : (l : List Rational) (i : ℕ) (v d : Rational) → i < length l → plus (total (set l i v)) (get_or l i d) ≡ plus (total l) v
unfolding total
total-set [] i v d h = absurd (omega arith)
total-set (x ∷ xs) none v d h = replaced x (total xs) v
total-set (x ∷ xs) (suc i) v d h =
    plus_assoc x (total (set xs i v)) (get_or xs i d) ∙ ap (plus x) (total-set xs i v d (omega arith)) ∙ sym (plus_assoc x (total xs) v)

total_swap : (l : List Rational) (i j : ℕ) → i < length l → j < length l → total (swap l i j) ≡ total l
total_swap l i j p q =
    let d : Rational = zero in
    let a : Rational = get_or l i d in
    let b : Rational = get_or l j d in
    let w : List Rational = set l i b in
    let there : get_or w j d ≡ b =
    ⊎_elim
    (λ e. ap (λ n. get_or w n d) e ∙ get_or-set_same l i b d p)
    (λ n. get_or-set_other l i j b d n)
    (cases_eq j i) in
    let first : plus (total w) a ≡ plus (total l) b = total-set l i b d p in
    let second : plus (total (set w j a)) (get_or w j d) ≡ plus (total w) a =
    total-set w j a d (subst (λ n. j < n) (sym (length-set l i b)) q) in
    ap total (sym (swap_is l i j d p q)) ∙ plus_cancel (total (set w j a)) (total l) b (ap (plus (total (set w j a))) (sym there) ∙ second ∙ first)

-- the order of the elements makes no difference
pub total_permutation : (xs ys : List Rational) → IsPermutation xs ys → total ys ≡ total xs
total_permutation xs ys p =
    IsPermutation-keeps xs (λ l. total l ≡ total xs) refl (λ l i j h k e. total_swap l i j h k ∙ e) ys p
