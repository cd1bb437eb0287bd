-- The difference of the forms of two lists is past exactly where that of the lists is.
use Rattle.std.proofs.Common.{ℕ, zero, suc, ◌≡◌, Bool, true, false, nat_eq, List, [], ◌∷◌, map, length, IsTrue, refl, sym, ap, ap₂, subst, subst₂, ◌∙◌, inl, inr, ◌⊎◌}
use Rattle.std.specs.Prelude.{if◌then◌else◌, unwrap_or}
use Rattle.std.proofs.lemmas.Bool.{ne_eqb, cases_eq, and_from, and_parts}
use Rattle.zim_rational.specs.Rational as rational
use Rattle.zim_rational.specs.Rational.{Rational, plus, minus, negate}
use Rattle.zim_rational.proofs.Ring.{negate_zero}
use Rattle.zim_fraction.specs.Limit.{is_number, is_sum_within}
use Rattle.zim_linear.specs.Forms.{Term, LinearForm}
use Rattle.zim_linear.specs.Sums.{negated_terms, negated_form, IsDifferenceWithin, IsDifferenceOf}
use Rattle.zim_linear.proofs.NegationLaws.{negated_from}
use Rattle.zim_plain.specs.Statements.{WrittenText, Item, Sum, signed_items}
use Rattle.zim_plain.specs.Meaning.{sum_number}
use Rattle.zim_plain.specs.Suits.{SuitsSum}
use Rattle.zim_plain.specs.Faults.{amount_in, are_differences_within}
use Rattle.zim_plain.specs.Systems.{IsForm}
use Rattle.zim_plain.specs.Parts.{item_column, item_term, sum_of_column, coefficient_in, coefficient_at, AreNumbers}
use Rattle.zim_plain.specs.Sides.{IsDeclared, IsRowForm}
use Rattle.zim_plain.proofs.Limits.{zero_with_sum, negate_is_number}
use Rattle.zim_plain.proofs.Coefficients.{coefficient_is, from_one, sum_within, within_sum}
use Rattle.zim_plain.proofs.Amounts.{AreDeclared, amount_column, sum_column}
use Rattle.zim_plain.proofs.SideLaws.{declared_sum}

-- ---- forms with their signs turned

coefficient_negated : (j : ℕ) (ts : List Term) → coefficient_in (negated_terms ts) j ≡ negate (coefficient_in ts j)
unfolding coefficient_in
coefficient_negated j [] = sym negate_zero
coefficient_negated j (t ∷ ts) = by (nat_eq t.0 j) (coefficient_negated j ts)
  where
    by : (b : Bool) → coefficient_in (negated_terms ts) j ≡ negate (coefficient_in ts j) → (if b then negate t.1 else coefficient_in (negated_terms ts) j) ≡ negate (if b then t.1 else coefficient_in ts j)
    by true e = refl
    by false e = e

negated_at : (form : LinearForm) (j : ℕ) → coefficient_at (negated_form form) j ≡ negate (coefficient_at form j)
negated_at form zero = refl
negated_at form (suc j) = coefficient_negated (suc j) form.terms

negated_numbers : (form : LinearForm) → AreNumbers form → AreNumbers (negated_form form)
negated_numbers form h j = subst (λ (c : Rational). IsTrue (is_number c)) (sym (negated_at form j)) (negate_is_number (coefficient_at form j) (h j))

-- ---- columns and items

-- the coefficients of a list's form
list_coefficient : (names : List WrittenText) (sum : Sum) (form : LinearForm) → SuitsSum names sum → IsForm names (λ x. sum_number x sum) form → (j : ℕ) → coefficient_at form j ≡ sum_of_column j rational.zero (map (item_term names) (signed_items sum))
list_coefficient names sum form suits is j =
    coefficient_is form (map (item_term names) (signed_items sum)) is.terms (λ x. is.is x ∙ sum_column names x sum (declared_sum names sum suits)) j

item_coefficient : (names : List WrittenText) (sum : Sum) (form : LinearForm) (item : Item) → SuitsSum names sum → IsForm names (λ x. sum_number x sum) form → IsDeclared names item → amount_in item sum ≡ coefficient_at form (unwrap_or (item_column names item) 0)
item_coefficient names sum form item suits is declared =
    amount_column names item (signed_items sum) rational.zero declared (declared_sum names sum suits)
    ∙ sym (list_coefficient names sum form suits is (unwrap_or (item_column names item) 0))

-- two lists over names with their forms, whose coefficients are within the limit
pub record AreForms (names : List WrittenText) (left right : Sum) (a b : LinearForm) : Type 0 where
  pub suits_left : SuitsSum names left
  pub suits_right : SuitsSum names right
  pub left_is : IsForm names (λ x. sum_number x left) a
  pub right_is : IsForm names (λ x. sum_number x right) b
  pub left_numbers : AreNumbers a
  pub right_numbers : AreNumbers b

abbrev IsColumnWithin : LinearForm → LinearForm → ℕ → Type 0
IsColumnWithin a b j = IsTrue (is_sum_within (coefficient_at a j) (negate (coefficient_at b j)))

each_item : (names : List WrittenText) (left right : Sum) (a b : LinearForm) (items : List (Bool × Item)) → AreForms names left right a b → AreDeclared names items → ((j : ℕ) → IsColumnWithin a b j) → IsTrue (are_differences_within left right items)
unfolding are_differences_within
each_item names left right a b [] f declared h = refl
each_item names left right a b (i ∷ is) f declared h =
    and_from (is_sum_within (amount_in i.1 left) (negate (amount_in i.1 right))) (are_differences_within left right is)
    (subst₂ (λ (c d : Rational). IsTrue (is_sum_within c (negate d)))
    (sym (item_coefficient names left a i.1 f.suits_left f.left_is declared.0))
    (sym (item_coefficient names right b i.1 f.suits_right f.right_is declared.0))
    (h (unwrap_or (item_column names i.1) 0)))
    (each_item names left right a b is f declared.1 h)

-- a column has a difference within the limit, or no item has it
each_column : (names : List WrittenText) (left right : Sum) (a b : LinearForm) (items : List (Bool × Item)) → AreForms names left right a b → AreDeclared names items → IsTrue (are_differences_within left right items) → (j : ℕ) → IsColumnWithin a b j ⊎ ((s : Rational) → sum_of_column j s (map (item_term names) items) ≡ s)
unfolding are_differences_within sum_of_column
each_column names left right a b [] f declared h j = inr (λ s. refl)
each_column names left right a b (i ∷ is) f declared h j =
    let both = and_parts (is_sum_within (amount_in i.1 left) (negate (amount_in i.1 right))) (are_differences_within left right is) h in
    let k : ℕ = unwrap_or (item_column names i.1) 0 in
    elim (cases_eq k j) [
      | inl e ↦
          inl (subst (IsColumnWithin a b) e
          (subst₂ (λ (c d : Rational). IsTrue (is_sum_within c (negate d)))
          (item_coefficient names left a i.1 f.suits_left f.left_is declared.0)
          (item_coefficient names right b i.1 f.suits_right f.right_is declared.0)
          both.0))
      | inr other ↦
          elim (each_column names left right a b is f declared.1 both.1 j) [
            | inl within ↦ inl within
            | inr same ↦
                inr (λ s.
                ap (λ (t : Bool). sum_of_column j (if t then plus s (item_term names i).1 else s) (map (item_term names) is)) (ne_eqb k j other) ∙ same s)
          ]
    ]

-- ---- the difference

pub difference_within : (names : List WrittenText) (left right : Sum) (a b : LinearForm) → AreForms names left right a b → IsDifferenceWithin a b → IsTrue (are_differences_within left right (signed_items left))
difference_within names left right a b f within =
    each_item names left right a b (signed_items left) f (declared_sum names left f.suits_left)
    (λ j. subst (λ (c : Rational). IsTrue (is_sum_within (coefficient_at a j) c)) (negated_at b j)
    (within_sum a (negated_form b) f.left_is.terms (negated_from 0 b.terms f.right_is.terms) f.left_numbers (negated_numbers b f.right_numbers) within j))

pub within_difference : (names : List WrittenText) (left right : Sum) (a b : LinearForm) → AreForms names left right a b → IsTrue (are_differences_within left right (signed_items left)) → IsDifferenceWithin a b
within_difference names left right a b f within =
    sum_within a (negated_form b) f.left_is.terms (negated_from 1 b.terms (from_one (length names) b.terms f.right_is.terms f.right_is.columns))
    (λ j. subst (λ (c : Rational). IsTrue (is_sum_within (coefficient_at a j) c)) (sym (negated_at b j)) (at_column j))
  where
    at_column : (j : ℕ) → IsColumnWithin a b j
    at_column j =
        elim (each_column names left right a b (signed_items left) f (declared_sum names left f.suits_left) within j) [
          | inl there ↦ there
          | inr none ↦
              subst (λ (c : Rational). IsTrue (is_sum_within c (negate (coefficient_at b j)))) (sym (list_coefficient names left a f.suits_left f.left_is j ∙ none rational.zero))
              (zero_with_sum (negate (coefficient_at b j)) (negate_is_number (coefficient_at b j) (f.right_numbers j)))
        ]

-- the form of the difference
pub difference_form : (names : List WrittenText) (left right : Sum) (a b form : LinearForm) → AreForms names left right a b → IsDifferenceOf a b form → IsRowForm names left right form
difference_form names left right a b form f is = record {
  is = λ x. is.number x ∙ ap₂ minus (f.left_is.is x) (f.right_is.is x);
  terms = is.terms;
  columns = is.columns (length names) f.left_is.columns f.right_is.columns;
}
