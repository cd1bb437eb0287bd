-- The rows of a comparison and of a range without a guard, and what they say at a point.
use Rattle.std.proofs.Common.{ℕ, ◌≡◌, ◌↔◌, ◌&&◌, Bool, true, false, cond, IsTrue, List, [], ◌∷◌, map, Ok, All, refl, ap, sym, ◌∙◌, subst}
use Rattle.std.proofs.lemmas.Bool.{and_from, and_parts}
use Rattle.std.proofs.lemmas.List.Elements.{All-cons, All-nil}
use Rattle.zim_answer.proofs.BindLemmas.{bind_gave}
use Rattle.zim_fault.specs.declared.tokens.Relation.{Relation}
use Rattle.zim_fault.specs.declared.tokens.Relation.TheVariants.{LessThan, AtMost, EqualTo, NotEqualTo, AtLeast, GreaterThan}
use Rattle.zim_rational.specs.Rational.{Rational, zero, plus, minus, negate, at_most, below, same, IsAtMost, IsBelow}
use Rattle.zim_rational.proofs.Order.{at_most_refl, at_most_antisymm, at_most_minus, minus_at_most, plus_at_most}
use Rattle.zim_rational.proofs.Ring.{minus_is, minus_self, minus_plus, zero_plus, same_from_minus}
use Rattle.zim_rational.proofs.Whole.{same_Decides}
use Rattle.zim_linear.specs.Forms.{LinearForm, ColumnNumbers, sum_at, number_at}
use Rattle.zim_formula.specs.Ground.{related}
use Rattle.zim_formula.specs.GroundRules.{is_row_relation, is_range_relation}
use Rattle.zim_forms.specs.Exact.{◌⊟◌}
use Rattle.zim_forms.proofs.OverLaws.{IsOver}
use Rattle.zim_rows.specs.declared.rows.GivenRow.{GivenRow}
use Rattle.zim_rows.specs.declared.rows.RowFrom.{RowFrom}
use Rattle.zim_rows.specs.declared.rows.RowKind.TheVariants.{One, Range}
use Rattle.zim_rows.specs.declared.rows.Sense.TheVariants as sense
use Rattle.zim_rows.specs.System.{IsGivenRow, row_of}
use Rattle.zim_rows.specs.Points.{KeepConstraints, given_constraint}
use Rattle.zim_logic_rows.specs.LogicRows.{compared_row}
use Rattle.zim_logic_rows.proofs.BinaryLaws.{most_kept, least_kept, equal_kept}
use Rattle.zim_logic_rows.proofs.TruthLaws.{exact_minus}
use Rattle.zim_logic_rows.proofs.ValidLaws.{row_is}
use Rattle.zim_vif.specs.Constraints.{plain_rows, low_of_range, high_of_range, range_rows, sides_less}

pub both_ways : {A B C : Type 0} → A ↔ B → B ↔ C → A ↔ C
both_ways f g = (λ a. g.0 (f.0 a), λ c. f.1 (g.1 c))

-- ---- a difference and 0

less_says : (a b : Rational) → IsAtMost (minus a b) zero ↔ IsAtMost a b
less_says a b = (
  λ h.
      subst (λ (r : Rational). IsAtMost r b) (minus_plus a b)
      (subst (IsAtMost (plus (minus a b) b)) (zero_plus b) (plus_at_most (minus a b) zero b b h (at_most_refl b))),
  λ h.
      subst (λ (r : Rational). IsAtMost r zero) (sym (minus_is a b))
      (subst (IsAtMost (plus a (negate b))) (sym (minus_is b b) ∙ minus_self b) (plus_at_most a b (negate b) (negate b) h (at_most_refl (negate b)))),
)

same_says : (a b : Rational) → (minus a b ≡ zero) ↔ IsTrue (same a b)
same_says a b = (
  λ h. (same_Decides a b).1 (same_from_minus a b h),
  λ h. ap (λ (r : Rational). minus r b) ((same_Decides a b).0 h) ∙ minus_self b,
)

-- a number that is the difference of a and b, compared with 0
pub most_says : (n a b : Rational) → n ≡ minus a b → IsAtMost n zero ↔ IsTrue (at_most a b)
most_says n a b e = (
  λ h. (less_says a b).0 (subst (λ (r : Rational). IsAtMost r zero) e h),
  λ h. subst (λ (r : Rational). IsAtMost r zero) (sym e) ((less_says a b).1 h),
)

pub least_says : (n a b : Rational) → n ≡ minus a b → IsAtMost zero n ↔ IsTrue (at_most b a)
least_says n a b e = (
  λ h. at_most_minus b a (subst (IsAtMost zero) e h),
  λ h. subst (IsAtMost zero) (sym e) (minus_at_most b a h),
)

pub equal_says : (n a b : Rational) → n ≡ minus a b → (n ≡ zero) ↔ IsTrue (same a b)
equal_says n a b e = (λ h. (same_says a b).0 (sym e ∙ h), λ h. e ∙ (same_says a b).1 h)

-- ---- comparisons

pub plain_kept : (x : ColumnNumbers) (source : RowFrom) (relation : Relation) (f : LinearForm) (a b : Rational) → IsTrue (is_row_relation relation) → number_at x f ≡ minus a b → KeepConstraints x (map given_constraint (plain_rows source relation f)) ↔ IsTrue (related relation a b)
unfolding plain_rows related is_row_relation
plain_kept x source AtMost f a b rule e = both_ways (most_kept x source f zero) (most_says (number_at x f) a b e)
plain_kept x source AtLeast f a b rule e = both_ways (least_kept x source f zero) (least_says (number_at x f) a b e)
plain_kept x source EqualTo f a b rule e = both_ways (equal_kept x source f zero) (equal_says (number_at x f) a b e)
plain_kept x source LessThan f a b rule e = cc
plain_kept x source NotEqualTo f a b rule e = cc
plain_kept x source GreaterThan f a b rule e = cc

pub plain_over : (n : ℕ) (source : RowFrom) (relation : Relation) (f : LinearForm) → IsOver n f → All (IsGivenRow n) (plain_rows source relation f)
unfolding plain_rows
plain_over n source AtMost f over = All-cons (IsGivenRow n) (compared_row source f sense.AtMost zero) [] (row_is n source f sense.AtMost zero over) (All-nil (IsGivenRow n))
plain_over n source AtLeast f over = All-cons (IsGivenRow n) (compared_row source f sense.AtLeast zero) [] (row_is n source f sense.AtLeast zero over) (All-nil (IsGivenRow n))
plain_over n source EqualTo f over = All-cons (IsGivenRow n) (compared_row source f sense.Equal zero) [] (row_is n source f sense.Equal zero over) (All-nil (IsGivenRow n))
plain_over n source LessThan f over = All-nil (IsGivenRow n)
plain_over n source NotEqualTo f over = All-nil (IsGivenRow n)
plain_over n source GreaterThan f over = All-nil (IsGivenRow n)

-- ---- ranges

-- a term lies between the two numbers of a range where both comparisons hold
pub sides_say : (relation : Relation) (first last t : Rational) → IsTrue (is_range_relation relation) → (IsAtMost (low_of_range relation first last) t × IsAtMost t (high_of_range relation first last)) ↔ IsTrue (related relation first t && related relation t last)
unfolding related is_range_relation
sides_say AtMost first last t rule = (λ h. and_from (at_most first t) (at_most t last) h.0 h.1, λ h. and_parts (at_most first t) (at_most t last) h)
sides_say AtLeast first last t rule = (
  λ h. and_from (at_most t first) (at_most last t) h.1 h.0,
  λ h. let parts = and_parts (at_most t first) (at_most last t) h in (parts.1, parts.0),
)
sides_say LessThan first last t rule = cc
sides_say EqualTo first last t rule = cc
sides_say NotEqualTo first last t rule = cc
sides_say GreaterThan first last t rule = cc

-- terms against a side less the constant, and the form against the side
pub above_side : (x : ColumnNumbers) (f : LinearForm) (side : Rational) → IsAtMost (minus side f.constant) (sum_at x f.terms) ↔ IsAtMost side (number_at x f)
above_side x f side =
    let kept = least_kept x (record { statement = 0; place = record { file = 0; line = 0 } }) f side in (
      λ h. kept.0 (subst (λ (r : Rational). IsAtMost r (sum_at x f.terms)) (minus_is side f.constant) h, tt),
      λ h. subst (λ (r : Rational). IsAtMost r (sum_at x f.terms)) (sym (minus_is side f.constant)) (kept.1 h).0,
    )

pub under_side : (x : ColumnNumbers) (f : LinearForm) (side : Rational) → IsAtMost (sum_at x f.terms) (minus side f.constant) ↔ IsAtMost (number_at x f) side
under_side x f side =
    let kept = most_kept x (record { statement = 0; place = record { file = 0; line = 0 } }) f side in (
      λ h. kept.0 (subst (IsAtMost (sum_at x f.terms)) (minus_is side f.constant) h, tt),
      λ h. subst (IsAtMost (sum_at x f.terms)) (sym (minus_is side f.constant)) (kept.1 h).0,
    )

rows_between : (x : ColumnNumbers) (source : RowFrom) (f : LinearForm) (l h : Rational) (less equal : Bool) → (IsTrue less → IsTrue (below l h)) → (IsTrue equal → l ≡ h)
    → KeepConstraints x (map given_constraint (cond less (row_of source f.terms (Range l h) ∷ []) (cond equal (row_of source f.terms (One sense.Equal l) ∷ []) (row_of source f.terms (One sense.AtLeast l) ∷ row_of source f.terms (One sense.AtMost h) ∷ []))))
    ↔ (IsAtMost l (sum_at x f.terms) × IsAtMost (sum_at x f.terms) h)
rows_between x source f l h true equal is_less is_equal = (λ k. k.0, λ k. (k, tt))
rows_between x source f l h false true is_less is_equal =
    let e : l ≡ h = is_equal refl in (
      λ k. (
        subst (IsAtMost l) (sym k.0) (at_most_refl l),
        subst (IsAtMost (sum_at x f.terms)) e (subst (IsAtMost (sum_at x f.terms)) k.0 (at_most_refl (sum_at x f.terms))),
      ),
      λ k. (at_most_antisymm (sum_at x f.terms) l (subst (IsAtMost (sum_at x f.terms)) (sym e) k.1) k.0, tt),
    )
rows_between x source f l h false false is_less is_equal = (λ k. (k.0, k.1.0), λ k. (k.0, (k.1, tt)))

-- the rows of a range say that the terms lie between
pub range_kept : (x : ColumnNumbers) (source : RowFrom) (f : LinearForm) (l h : Rational) → KeepConstraints x (map given_constraint (range_rows source f l h)) ↔ (IsAtMost l (sum_at x f.terms) × IsAtMost (sum_at x f.terms) h)
unfolding range_rows
range_kept x source f l h = rows_between x source f l h (below l h) (same l h) (λ k. k) (λ k. (same_Decides l h).0 k)

rows_over : (n : ℕ) (source : RowFrom) (f : LinearForm) (l h : Rational) (less equal : Bool) → IsOver n f → (IsTrue less → IsBelow l h)
    → All (IsGivenRow n) (cond less (row_of source f.terms (Range l h) ∷ []) (cond equal (row_of source f.terms (One sense.Equal l) ∷ []) (row_of source f.terms (One sense.AtLeast l) ∷ row_of source f.terms (One sense.AtMost h) ∷ [])))
rows_over n source f l h true equal over is_less =
    All-cons (IsGivenRow n) (row_of source f.terms (Range l h)) [] (record { terms = over.ordered; columns = over.columns; kind = is_less refl }) (All-nil (IsGivenRow n))
rows_over n source f l h false true over is_less =
    All-cons (IsGivenRow n) (row_of source f.terms (One sense.Equal l)) [] (record { terms = over.ordered; columns = over.columns; kind = tt }) (All-nil (IsGivenRow n))
rows_over n source f l h false false over is_less =
    All-cons (IsGivenRow n) (row_of source f.terms (One sense.AtLeast l)) (row_of source f.terms (One sense.AtMost h) ∷ []) (record { terms = over.ordered; columns = over.columns; kind = tt })
    (All-cons (IsGivenRow n) (row_of source f.terms (One sense.AtMost h)) [] (record { terms = over.ordered; columns = over.columns; kind = tt }) (All-nil (IsGivenRow n)))

pub range_over : (n : ℕ) (source : RowFrom) (f : LinearForm) (l h : Rational) → IsOver n f → All (IsGivenRow n) (range_rows source f l h)
unfolding range_rows
range_over n source f l h over = rows_over n source f l h (below l h) (same l h) over (λ k. k)

-- the rows of a range from its written sides
pub sides_gave : (source : RowFrom) (f : LinearForm) (low high : Rational) (rows : List GivenRow) → sides_less f low high (range_rows source f) ≡ Ok rows → rows ≡ range_rows source f (minus low f.constant) (minus high f.constant)
sides_gave source f low high rows h =
    let (l, l_is, rest) = bind_gave (Ok low ⊟ Ok f.constant) _ rows h in
    let (u, u_is, last) = bind_gave (Ok high ⊟ Ok f.constant) _ rows rest in
    let e : range_rows source f l u ≡ rows = cc in
    sym e
    ∙ ap (λ (r : Rational). range_rows source f r u) (exact_minus low f.constant l l_is)
    ∙ ap (range_rows source f (minus low f.constant)) (exact_minus high f.constant u u_is)
