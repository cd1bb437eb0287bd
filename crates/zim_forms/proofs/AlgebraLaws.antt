-- The numbers of forms by the operators.
use Rattle.std.proofs.Common.{ℕ, ◌≡◌, Bool, true, false, cond, IsTrue, IsFalse, nat_lt, nat_eq, List, [], ◌∷◌, map, refl, ap, ap₂, sym, ◌∙◌}
use Rattle.std.proofs.lemmas.Bool.{eqb-true}
use Rattle.zim_rational.specs.Rational.{Rational, zero, one, plus, minus, times, same}
use Rattle.zim_rational.proofs.Ring.{plus_zero, zero_plus, zero_times, plus_assoc, plus_comm, plus_times, minus_is, one_times, times_assoc, times_comm}
use Rattle.zim_rational.proofs.Whole.{same_Decides}
use Rattle.zim_linear.specs.Forms.{Term, LinearForm, ColumnNumbers, sum_at, number_at}
use Rattle.zim_linear.specs.Sums.{negated_form}
use Rattle.zim_linear.proofs.NegationLaws.{number_negated}
use Rattle.zim_linear.proofs.FormLaws.{sum_at_none, sum_at_more}
use Rattle.zim_forms.specs.Algebra.{with_term, with_terms, ◌⊕◌, ◌⊖◌, ◌⊙◌, known, the}

pub pick : {X : Type 0} (P : X → Type 0) (b : Bool) (y z : X) → (IsTrue b → P y) → (IsFalse b → P z) → P (cond b y z)
pick P true y z f g = f refl
pick P false y z f g = g refl

-- adding at the end of a sum of two
plus_swap : (a b c : Rational) → plus (plus a b) c ≡ plus (plus a c) b
plus_swap a b c = plus_assoc a b c ∙ ap (plus a) (plus_comm b c) ∙ sym (plus_assoc a c b)

nothing_more : (q v a : Rational) → q ≡ zero → a ≡ plus a (times q v)
nothing_more q v a e = sym (ap (plus a) (ap (λ (r : Rational). times r v) e ∙ zero_times v) ∙ plus_zero a)

pub sum_with_term : (x : ColumnNumbers) (t : Term) (ts : List Term) → sum_at x (with_term t ts) ≡ plus (sum_at x ts) (times t.1 (x t.0))
unfolding with_term
sum_with_term x t [] =
    pick (λ us. sum_at x us ≡ plus (sum_at x []) (times t.1 (x t.0))) (same t.1 zero) [] (t ∷ [])
    (λ h. nothing_more t.1 (x t.0) (sum_at x []) ((same_Decides t.1 zero).0 h))
    (λ h. sum_at_more x t [] ∙ plus_comm (times t.1 (x t.0)) (sum_at x []))
sum_with_term x t (u ∷ us) =
    let P : List Term → Type 0 = λ vs. sum_at x vs ≡ plus (sum_at x (u ∷ us)) (times t.1 (x t.0)) in
    let all : plus (sum_at x (u ∷ us)) (times t.1 (x t.0)) ≡ plus (plus (times u.1 (x u.0)) (times t.1 (x t.0))) (sum_at x us) =
    ap (λ (q : Rational). plus q (times t.1 (x t.0))) (sum_at_more x u us) ∙ plus_swap (times u.1 (x u.0)) (sum_at x us) (times t.1 (x t.0)) in
    pick P (nat_lt u.0 t.0) (u ∷ with_term t us) _
    (λ h.
    sum_at_more x u (with_term t us) ∙ ap (plus (times u.1 (x u.0))) (sum_with_term x t us) ∙ sym (plus_assoc (times u.1 (x u.0)) (sum_at x us) (times t.1 (x t.0))) ∙ ap (λ (q : Rational). plus q (times t.1 (x t.0))) (sym (sum_at_more x u us)))
    (λ _.
    pick P (nat_eq u.0 t.0) _ _
    (λ h.
    let both : plus (times u.1 (x u.0)) (times t.1 (x t.0)) ≡ times (plus u.1 t.1) (x u.0) =
    ap (λ (j : ℕ). plus (times u.1 (x u.0)) (times t.1 (x j))) (sym (eqb-true u.0 t.0 h)) ∙ sym (plus_times u.1 t.1 (x u.0)) in
    pick P (same (plus u.1 t.1) zero) us ((u.0, plus u.1 t.1) ∷ us)
    (λ k. sym (all ∙ ap (λ (q : Rational). plus q (sum_at x us)) (both ∙ ap (λ (q : Rational). times q (x u.0)) ((same_Decides (plus u.1 t.1) zero).0 k) ∙ zero_times (x u.0)) ∙ zero_plus (sum_at x us)))
    (λ k. sum_at_more x (u.0, plus u.1 t.1) us ∙ ap (λ (q : Rational). plus q (sum_at x us)) (sym both) ∙ sym all))
    (λ h.
    pick P (same t.1 zero) (u ∷ us) (t ∷ u ∷ us)
    (λ k. nothing_more t.1 (x t.0) (sum_at x (u ∷ us)) ((same_Decides t.1 zero).0 k))
    (λ k. sum_at_more x t (u ∷ us) ∙ plus_comm (times t.1 (x t.0)) (sum_at x (u ∷ us)))))

pub sum_with_terms : (x : ColumnNumbers) (ts more : List Term) → sum_at x (with_terms ts more) ≡ plus (sum_at x ts) (sum_at x more)
unfolding with_terms
sum_with_terms x ts [] = sym (ap (plus (sum_at x ts)) (sum_at_none x) ∙ plus_zero (sum_at x ts))
sum_with_terms x ts (t ∷ more) =
    sum_with_terms x (with_term t ts) more
    ∙ ap (λ (q : Rational). plus q (sum_at x more)) (sum_with_term x t ts)
    ∙ plus_assoc (sum_at x ts) (times t.1 (x t.0)) (sum_at x more)
    ∙ ap (plus (sum_at x ts)) (sym (sum_at_more x t more))

pub number_sum : (x : ColumnNumbers) (a b : LinearForm) → number_at x (a ⊕ b) ≡ plus (number_at x a) (number_at x b)
unfolding number_at
number_sum x a b =
    let s : Rational = sum_at x a.terms in
    let t : Rational = sum_at x b.terms in
    ap (λ (q : Rational). plus q (plus a.constant b.constant)) (sum_with_terms x a.terms b.terms)
    ∙ plus_assoc s t (plus a.constant b.constant)
    ∙ ap (plus s) (sym (plus_assoc t a.constant b.constant) ∙ ap (λ (q : Rational). plus q b.constant) (plus_comm t a.constant) ∙ plus_assoc a.constant t b.constant)
    ∙ sym (plus_assoc s a.constant (plus t b.constant))

pub number_difference : (x : ColumnNumbers) (a b : LinearForm) → number_at x (a ⊖ b) ≡ minus (number_at x a) (number_at x b)
number_difference x a b =
    number_sum x a (negated_form b) ∙ ap (plus (number_at x a)) (number_negated x b) ∙ sym (minus_is (number_at x a) (number_at x b))

pub number_known : (x : ColumnNumbers) (q : Rational) → number_at x (known q) ≡ q
unfolding number_at
number_known x q = ap (λ (r : Rational). plus r q) (sum_at_none x) ∙ zero_plus q

pub number_the : (x : ColumnNumbers) (j : ℕ) → number_at x (the j) ≡ x j
unfolding number_at
number_the x j =
    plus_zero (sum_at x ((j, one) ∷ [])) ∙ sum_at_more x (j, one) [] ∙ ap (plus (times one (x j))) (sum_at_none x) ∙ plus_zero (times one (x j)) ∙ one_times (x j)

sum_scaled : (x : ColumnNumbers) (q : Rational) (ts : List Term) → sum_at x (map (λ (t : Term). (t.0, times t.1 q)) ts) ≡ times (sum_at x ts) q
sum_scaled x q [] = sum_at_none x ∙ sym (ap (λ (r : Rational). times r q) (sum_at_none x) ∙ zero_times q)
sum_scaled x q (t ∷ ts) =
    sum_at_more x (t.0, times t.1 q) (map (λ (u : Term). (u.0, times u.1 q)) ts)
    ∙ ap₂ plus (times_assoc t.1 q (x t.0) ∙ ap (times t.1) (times_comm q (x t.0)) ∙ sym (times_assoc t.1 (x t.0) q)) (sum_scaled x q ts)
    ∙ sym (ap (λ (r : Rational). times r q) (sum_at_more x t ts) ∙ plus_times (times t.1 (x t.0)) (sum_at x ts) q)

pub number_multiple : (x : ColumnNumbers) (q : Rational) (a : LinearForm) → number_at x (q ⊙ a) ≡ times q (number_at x a)
unfolding number_at
number_multiple x q a =
    ap (λ (r : Rational). plus r (times a.constant q)) (sum_with_terms x [] (map (λ (t : Term). (t.0, times t.1 q)) a.terms) ∙ ap₂ plus (sum_at_none x) (sum_scaled x q a.terms) ∙ zero_plus (times (sum_at x a.terms) q))
    ∙ sym (plus_times (sum_at x a.terms) a.constant q)
    ∙ times_comm (plus (sum_at x a.terms) a.constant) q
