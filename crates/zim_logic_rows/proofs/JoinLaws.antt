-- The rows of a join, and that of an equality, say that its column is 1 exactly where the operands have the joined truth.
use Rattle.std.proofs.Common.{◌≡◌, ◌≢◌, ◌↔◌, ◌&&◌, ◌||◌, if◌then◌else◌, ℕ, Bool, true, false, not, IsTrue, IsFalse, map, refl, ap, ap₂, sym, ◌∙◌, subst}
use Rattle.std.proofs.lemmas.Bool.{and_from, and_parts}
use Rattle.zim_fault.specs.declared.tokens.Join.{Join}
use Rattle.zim_fault.specs.declared.tokens.Join.TheVariants.{And, Or, Xor}
use Rattle.zim_rational.specs.Rational.{Rational, zero, one, plus, minus, negate, IsAtMost, IsBinary}
use Rattle.zim_rational.proofs.Rows.{and_rows, or_rows, xor_rows, equal_row}
use Rattle.zim_linear.specs.Forms.{LinearForm, ColumnNumbers, number_at}
use Rattle.zim_formula.specs.Ground.{joined_truths}
use Rattle.zim_rows.specs.declared.rows.RowFrom.{RowFrom}
use Rattle.zim_rows.specs.Points.{KeepConstraints, given_constraint}
use Rattle.zim_forms.specs.Algebra.{◌⊕◌, ◌⊖◌, the}
use Rattle.zim_forms.proofs.AlgebraLaws.{number_sum, number_difference}
use Rattle.zim_logic_rows.specs.Literals.{number_of, join_rows, equal_rows}
use Rattle.zim_logic_rows.proofs.BinaryLaws.{most_kept, least_kept, equal_kept, number_one, number_zero, number_binary, number_from}

-- ---- truth values

not_one : number_of true ≡ zero → ⊥
not_one h = let e : true ≡ false = (number_zero true).0 h in cc

nought_is : number_of false ≡ zero
nought_is = (number_zero false).1 refl

and_truth : (f g : Bool) → ((number_of f ≡ one) × (number_of g ≡ one)) ↔ IsTrue (f && g)
and_truth f g = (
  λ h. and_from f g ((number_one f).0 h.0) ((number_one g).0 h.1),
  λ h. let k = and_parts f g h in ((number_one f).1 k.0, (number_one g).1 k.1),
)

or_truth : (r f g : Bool) → ((number_of r ≡ zero) ↔ ((number_of f ≡ zero) × (number_of g ≡ zero))) ↔ (IsTrue r ↔ IsTrue (f || g))
or_truth true true g = (λ _. (λ _. refl, λ _. refl), λ _. (λ k. absurd (not_one k), λ k. absurd (not_one k.0)))
or_truth true false true = (λ _. (λ _. refl, λ _. refl), λ _. (λ k. absurd (not_one k), λ k. absurd (not_one k.1)))
or_truth true false false = (λ h. absurd (not_one (h.1 (nought_is, nought_is))), λ h. let e : false ≡ true = h.0 refl in cc)
or_truth false true g = (λ h. absurd (not_one (h.0 nought_is).0), λ h. let e : false ≡ true = h.1 refl in cc)
or_truth false false true = (λ h. absurd (not_one (h.0 nought_is).1), λ h. let e : false ≡ true = h.1 refl in cc)
or_truth false false false = (λ _. (λ t. t, λ t. t), λ _. (λ _. (nought_is, nought_is), λ _. nought_is))

xor_truth : (f g : Bool) → (number_of f ≢ number_of g) ↔ IsTrue (if f then not g else g)
xor_truth true true = (λ h. absurd (h refl), λ h. let e : false ≡ true = h in cc)
xor_truth true false = (λ _. refl, λ _ e. not_one (e ∙ nought_is))
xor_truth false true = (λ _. refl, λ _ e. not_one (sym e ∙ nought_is))
xor_truth false false = (λ h. absurd (h refl), λ h. let e : false ≡ true = h in cc)

-- ---- rows

and_kept : (source : RowFrom) (x : ColumnNumbers) (p q r : LinearForm) (f g : Bool) → IsBinary (number_at x r) → number_at x p ≡ number_of f → number_at x q ≡ number_of g
    → KeepConstraints x (map given_constraint (join_rows source And p q r)) ↔ ((number_at x r ≡ one) ↔ IsTrue (f && g))
and_kept source x p q r f g two e d =
    let R : Rational = number_at x r in
    let less : number_at x (r ⊖ p ⊖ q) ≡ minus (minus R (number_of f)) (number_of g) =
    number_difference x (r ⊖ p) q ∙ ap₂ minus (number_difference x r p ∙ ap (minus R) e) d in
    let twice : number_at x (r ⊕ r ⊖ p ⊖ q) ≡ minus (minus (plus R R) (number_of f)) (number_of g) =
    number_difference x (r ⊕ r ⊖ p) q ∙ ap₂ minus (number_difference x (r ⊕ r) p ∙ ap₂ minus (number_sum x r r) e) d in
    let rows = and_rows (number_of f) (number_of g) R (number_binary f) (number_binary g) two in
    let both = and_truth f g in
    let first = most_kept x source (r ⊕ r ⊖ p ⊖ q) zero in
    let second = least_kept x source (r ⊖ p ⊖ q) (negate one) in (
      λ h.
          let says = rows.0 (subst (λ (n : Rational). IsAtMost n zero) twice (first.0 (h.0, tt)), subst (IsAtMost (negate one)) less (second.0 h.1)) in
          (λ k. both.0 (says.0 k), λ k. says.1 (both.1 k)),
      λ h.
          let kept = rows.1 (λ k. both.1 (h.0 k), λ k. h.1 (both.0 k)) in
          ((first.1 (subst (λ (n : Rational). IsAtMost n zero) (sym twice) kept.0)).0, second.1 (subst (IsAtMost (negate one)) (sym less) kept.1)),
    )

or_kept : (source : RowFrom) (x : ColumnNumbers) (p q r : LinearForm) (f g : Bool) → IsBinary (number_at x r) → number_at x p ≡ number_of f → number_at x q ≡ number_of g
    → KeepConstraints x (map given_constraint (join_rows source Or p q r)) ↔ ((number_at x r ≡ one) ↔ IsTrue (f || g))
or_kept source x p q r f g two e d =
    let R : Rational = number_at x r in
    let less : number_at x (r ⊖ p ⊖ q) ≡ minus (minus R (number_of f)) (number_of g) =
    number_difference x (r ⊖ p) q ∙ ap₂ minus (number_difference x r p ∙ ap (minus R) e) d in
    let twice : number_at x (r ⊕ r ⊖ p ⊖ q) ≡ minus (minus (plus R R) (number_of f)) (number_of g) =
    number_difference x (r ⊕ r ⊖ p) q ∙ ap₂ minus (number_difference x (r ⊕ r) p ∙ ap₂ minus (number_sum x r r) e) d in
    let rows = or_rows (number_of f) (number_of g) R (number_binary f) (number_binary g) two in
    let (b, is) = number_from R two in
    let either = or_truth b f g in
    let first = least_kept x source (r ⊕ r ⊖ p ⊖ q) zero in
    let second = most_kept x source (r ⊖ p ⊖ q) zero in (
      λ h.
          let says = rows.0 (subst (IsAtMost zero) twice (first.0 (h.0, tt)), subst (λ (n : Rational). IsAtMost n zero) less (second.0 h.1)) in
          let t = either.0 (λ k. says.0 (is ∙ k), λ k. sym is ∙ says.1 k) in
          (λ k. t.0 ((number_one b).0 (sym is ∙ k)), λ k. is ∙ (number_one b).1 (t.1 k)),
      λ h.
          let t = either.1 (λ k. h.0 (is ∙ (number_one b).1 k), λ k. (number_one b).0 (sym is ∙ h.1 k)) in
          let kept = rows.1 (λ k. t.0 (sym is ∙ k), λ k. is ∙ t.1 k) in
          ((first.1 (subst (IsAtMost zero) (sym twice) kept.0)).0, second.1 (subst (λ (n : Rational). IsAtMost n zero) (sym less) kept.1)),
    )

xor_kept : (source : RowFrom) (x : ColumnNumbers) (p q r : LinearForm) (f g : Bool) → IsBinary (number_at x r) → number_at x p ≡ number_of f → number_at x q ≡ number_of g
    → KeepConstraints x (map given_constraint (join_rows source Xor p q r)) ↔ ((number_at x r ≡ one) ↔ IsTrue (if f then not g else g))
xor_kept source x p q r f g two e d =
    let R : Rational = number_at x r in
    let F : Rational = number_of f in
    let G : Rational = number_of g in
    let less : number_at x (r ⊖ p) ≡ minus R F = number_difference x r p ∙ ap (minus R) e in
    let more : number_at x (r ⊕ p) ≡ plus R F = number_sum x r p ∙ ap (plus R) e in
    let one_is : number_at x (r ⊖ p ⊖ q) ≡ minus (minus R F) G = number_difference x (r ⊖ p) q ∙ ap₂ minus less d in
    let two_is : number_at x (r ⊖ p ⊕ q) ≡ plus (minus R F) G = number_sum x (r ⊖ p) q ∙ ap₂ plus less d in
    let three_is : number_at x (r ⊕ p ⊖ q) ≡ minus (plus R F) G = number_difference x (r ⊕ p) q ∙ ap₂ minus more d in
    let four_is : number_at x (r ⊕ p ⊕ q) ≡ plus (plus R F) G = number_sum x (r ⊕ p) q ∙ ap₂ plus more d in
    let rows = xor_rows F G R (number_binary f) (number_binary g) two in
    let differ = xor_truth f g in
    let r1 = most_kept x source (r ⊖ p ⊖ q) zero in
    let r2 = least_kept x source (r ⊖ p ⊕ q) zero in
    let r3 = least_kept x source (r ⊕ p ⊖ q) zero in
    let r4 = most_kept x source (r ⊕ p ⊕ q) (plus one one) in (
      λ h.
          let says = rows.0 (subst (λ (n : Rational). IsAtMost n zero) one_is (r1.0 (h.0, tt)), subst (IsAtMost zero) two_is (r2.0 (h.1.0, tt)), subst (IsAtMost zero) three_is (r3.0 (h.1.1.0, tt)), subst (λ (n : Rational). IsAtMost n (plus one one)) four_is (r4.0 h.1.1.1)) in
          (λ k. differ.0 (says.0 k), λ k. says.1 (differ.1 k)),
      λ h.
          let kept = rows.1 (λ k. differ.1 (h.0 k), λ k. h.1 (differ.0 k)) in
          ((r1.1 (subst (λ (n : Rational). IsAtMost n zero) (sym one_is) kept.0)).0, ((r2.1 (subst (IsAtMost zero) (sym two_is) kept.1)).0, ((r3.1 (subst (IsAtMost zero) (sym three_is) kept.2)).0, r4.1 (subst (λ (n : Rational). IsAtMost n (plus one one)) (sym four_is) kept.3)))),
    )

-- whatever the join
pub join_kept : (source : RowFrom) (join : Join) (x : ColumnNumbers) (p q r : LinearForm) (f g : Bool) → IsBinary (number_at x r) → number_at x p ≡ number_of f → number_at x q ≡ number_of g
    → KeepConstraints x (map given_constraint (join_rows source join p q r)) ↔ ((number_at x r ≡ one) ↔ IsTrue (joined_truths join f g))
unfolding joined_truths
join_kept source And x p q r f g two e d = and_kept source x p q r f g two e d
join_kept source Or x p q r f g two e d = or_kept source x p q r f g two e d
join_kept source Xor x p q r f g two e d = xor_kept source x p q r f g two e d

-- the column e of two columns, one of which is true, is their conjunction
pub equal_rows_kept : (source : RowFrom) (x : ColumnNumbers) (g l e : ℕ) (f h : Bool) → IsBinary (number_at x (the e)) → number_at x (the g) ≡ number_of f → number_at x (the l) ≡ number_of h → (IsFalse f → IsFalse h → ⊥)
    → KeepConstraints x (map given_constraint (equal_rows source g l e)) ↔ ((number_at x (the e) ≡ one) ↔ IsTrue (f && h))
equal_rows_kept source x g l e f h two at_g at_l some =
    let R : Rational = number_at x (the e) in
    let value : number_at x (the e ⊖ the g ⊖ the l) ≡ minus (minus R (number_of f)) (number_of h) =
    number_difference x (the e ⊖ the g) (the l) ∙ ap₂ minus (number_difference x (the e) (the g) ∙ ap (minus R) at_g) at_l in
    let row = equal_row (number_of f) (number_of h) R (number_binary f) (number_binary h) two (λ a b. some ((number_zero f).0 a) ((number_zero h).0 b)) in
    let both = and_truth f h in
    let kept = equal_kept x source (the e ⊖ the g ⊖ the l) (negate one) in (
      λ k. let says = row.0 (sym value ∙ kept.0 k) in (λ t. both.0 (says.0 t), λ t. says.1 (both.1 t)),
      λ k. kept.1 (value ∙ row.1 (λ t. both.1 (k.0 t), λ t. k.1 (both.0 t))),
    )
