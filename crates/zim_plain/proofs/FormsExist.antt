-- Each list of items over declared names has a form, and so the statements of a plain model have a system.
use Rattle.std.proofs.Common.{◌≡◌, ◌≢◌, ℕ, suc, ◌+◌, ◌<◌, ◌≤◌, Bool, true, false, List, [], ◌∷◌, length, map, Option, Some, None, refl, sym, ◌∙◌, ap, ap₂, subst, arith, inl, inr, nat_lt}
use Rattle.std.specs.Prelude.{◌⊎◌, option_map, unwrap_or}
use Rattle.std.proofs.lemmas.Bool.Decides.{nat_tests}
use Rattle.zim_rational.specs.Rational.{Rational, zero, plus, minus, negate, times, total}
use Rattle.zim_rational.proofs.Ring.{plus_assoc, plus_left_comm, plus_zero, zero_plus, zero_times, plus_times, negate_times, minus_is}
use Rattle.zim_linear.specs.Forms.{Term, LinearForm, form_of, AreTermsFrom, AreTerms, AreColumns, ColumnNumbers, sum_at, number_at}
use Rattle.zim_linear.specs.Sums.{negated_terms, negated_form}
use Rattle.zim_linear.proofs.FormLaws.{sum_at_none, sum_at_more, same_or_other}
use Rattle.zim_linear.proofs.NegationLaws.{negated_from, number_negated}
use Rattle.zim_rows.specs.declared.rows.GivenRow.{GivenRow}
use Rattle.zim_rows.specs.declared.rows.Objective as rows
use Rattle.zim_rows.specs.declared.rows.RowKind.TheVariants.{One}
use Rattle.zim_rows.specs.System.{LinearSystem}
use Rattle.zim_plain.specs.Statements.{WrittenText, Item, Constant, Multiple, Sum, Variable, Objective, Constraint, PlainModel, signed_items, variables}
use Rattle.zim_plain.specs.Meaning.{taken_with_sign, coefficient_number, factor_number, item_number, sum_number}
use Rattle.zim_plain.specs.Faults.{IsPlain}
use Rattle.zim_plain.specs.Systems.{place_of, column_of_name, by_column, IsForm, AreRowsOf, HasObjectiveOf, nonnegative, IsSystemOf}
use Rattle.zim_plain.proofs.Amounts.{AreDeclared, declared_place}
use Rattle.zim_plain.proofs.Places.{at_place}
use Rattle.zim_plain.proofs.SystemLaws.{DeclareAll, plain_declares}

-- ---- one term more

lower_from : (m n : ℕ) (ts : List Term) → m ≤ n → AreTermsFrom n ts → AreTermsFrom m ts
lower_from m n [] l h = tt
lower_from m n (t ∷ ts) l h = (omega (arith, l, h.0), h.1, h.2)

-- terms that are others and q times column j
record IsMore (j : ℕ) (q : Rational) (ts : List Term) : Type 0 where
  made : List Term
  sum : (x : ColumnNumbers) → sum_at x made ≡ plus (times q (x j)) (sum_at x ts)
  from : (n : ℕ) → n ≤ j → AreTermsFrom n ts → AreTermsFrom n made
  columns : (n : ℕ) → 0 < j → j ≤ n → AreColumns n ts → AreColumns n made

none_more : (j : ℕ) (q : Rational) (ts : List Term) → q ≡ zero → IsMore j q ts
none_more j q ts e = record {
  made = ts;
  sum = λ x. sym (ap (λ (p : Rational). plus (times p (x j)) (sum_at x ts)) e ∙ ap (λ (p : Rational). plus p (sum_at x ts)) (zero_times (x j)) ∙ zero_plus (sum_at x ts));
  from = λ n l h. h;
  columns = λ n s l h. h;
}

put_more : (j : ℕ) (q : Rational) (ts : List Term) → q ≢ zero → ((n : ℕ) → n ≤ j → AreTermsFrom n ts → AreTermsFrom (suc j) ts) → IsMore j q ts
put_more j q ts e later = record {
  made = (j, q) ∷ ts;
  sum = λ x. sum_at_more x (j, q) ts;
  from = λ n l h. (l, e, later n l h);
  columns = λ n s l h. (s, l, h);
}

first_more : (j : ℕ) (q : Rational) (ts : List Term) → ((n : ℕ) → n ≤ j → AreTermsFrom n ts → AreTermsFrom (suc j) ts) → IsMore j q ts
first_more j q ts later = by (same_or_other q zero) where
  by : (q ≡ zero) ⊎ (q ≢ zero) → IsMore j q ts
  by (inl e) = none_more j q ts e
  by (inr e) = put_more j q ts e later

-- both coefficients of a column
both_sum : (x : ColumnNumbers) (t : Term) (ts : List Term) (q : Rational) → plus (times (plus q t.1) (x t.0)) (sum_at x ts) ≡ plus (times q (x t.0)) (sum_at x (t ∷ ts))
both_sum x t ts q =
    ap (λ (p : Rational). plus p (sum_at x ts)) (plus_times q t.1 (x t.0))
    ∙ plus_assoc (times q (x t.0)) (times t.1 (x t.0)) (sum_at x ts)
    ∙ ap (λ (p : Rational). plus (times q (x t.0)) p) (sym (sum_at_more x t ts))

both_more : (t : Term) (ts : List Term) (q : Rational) → IsMore t.0 q (t ∷ ts)
both_more t ts q = by (same_or_other (plus q t.1) zero) where
  by : (plus q t.1 ≡ zero) ⊎ (plus q t.1 ≢ zero) → IsMore t.0 q (t ∷ ts)
  by (inl e) = record {
    made = ts;
    sum = λ x.
        sym (ap (λ (p : Rational). plus (times p (x t.0)) (sum_at x ts)) e ∙ ap (λ (p : Rational). plus p (sum_at x ts)) (zero_times (x t.0)) ∙ zero_plus (sum_at x ts))
        ∙ both_sum x t ts q;
    from = λ n l h. lower_from n (suc t.0) ts (omega (arith, l)) h.2;
    columns = λ n s l h. h.2;
  }
  by (inr e) = record {
    made = (t.0, plus q t.1) ∷ ts;
    sum = λ x. sum_at_more x (t.0, plus q t.1) ts ∙ both_sum x t ts q;
    from = λ n l h. (l, e, h.2);
    columns = λ n s l h. (s, l, h.2);
  }

behind_more : (j : ℕ) (q : Rational) (t : Term) (ts : List Term) → t.0 < j → IsMore j q ts → IsMore j q (t ∷ ts)
behind_more j q t ts low more = record {
  made = t ∷ more.made;
  sum = λ x.
      sum_at_more x t more.made
      ∙ ap (λ (p : Rational). plus (times t.1 (x t.0)) p) (more.sum x)
      ∙ plus_left_comm (times t.1 (x t.0)) (times q (x j)) (sum_at x ts)
      ∙ ap (λ (p : Rational). plus (times q (x j)) p) (sym (sum_at_more x t ts));
  from = λ n l h. (h.0, h.1, more.from (suc t.0) low h.2);
  columns = λ n s l h. (h.0, h.1, more.columns n s l h.2);
}

one_more : (j : ℕ) (q : Rational) (ts : List Term) → IsMore j q ts
one_more j q [] = first_more j q [] (λ n l h. tt)
one_more j q (t ∷ ts) = by (nat_lt j t.0) (nat_lt t.0 j) refl refl (one_more j q ts)
  where
    by : (a b : Bool) → nat_lt j t.0 ≡ a → nat_lt t.0 j ≡ b → IsMore j q ts → IsMore j q (t ∷ ts)
    by true b low high more = first_more j q (t ∷ ts) (λ n l h. (grind (arith, nat_tests, low), h.1, h.2))
    by false true low high more = behind_more j q t ts (grind (arith, nat_tests, high)) more
    by false false low high more =
        let same : t.0 ≡ j = grind (arith, nat_tests, low, high) in
        subst (λ (k : ℕ). IsMore k q (t ∷ ts)) same (both_more t ts q)

-- ---- the form of items

signed_times : (negative : Bool) (q r : Rational) → taken_with_sign negative (times q r) ≡ times (taken_with_sign negative q) r
signed_times true q r = sym (negate_times q r)
signed_times false q r = refl

column_there : (names : List WrittenText) (name : WrittenText) (p : ℕ) → place_of names name ≡ Some p → (0 < column_of_name names name) × (column_of_name names name ≤ length names)
column_there names name p e =
    let same : column_of_name names name ≡ suc p = ap (λ (o : Option ℕ). unwrap_or (option_map suc o) 0) e in
    let low = (at_place names name p name e).0 in
    (omega (arith, same), omega (arith, same, low))

-- a form of items
abbrev ItemsForm : List WrittenText → List (Bool × Item) → Type 0
ItemsForm names items = (form : LinearForm) × IsForm names (λ y. total (map (item_number y) items)) form

constant_form : (names : List WrittenText) (negative : Bool) (q : Rational) (items : List (Bool × Item)) (i : Bool × Item) → ((y : WrittenText → Rational) → item_number y i ≡ q) → ItemsForm names items → ItemsForm names (i ∷ items)
unfolding number_at total
constant_form names negative q items i is (form, of) = (
  form_of form.terms (plus q form.constant),
  record {
    is = λ x.
        plus_left_comm (sum_at x form.terms) q form.constant
        ∙ ap₂ (λ (a b : Rational). plus a b) (sym (is (by_column names x))) (of.is x);
    terms = of.terms;
    columns = of.columns;
  },
)

name_form : (names : List WrittenText) (q : Rational) (name : WrittenText) (p : ℕ) (items : List (Bool × Item)) (i : Bool × Item) → place_of names name ≡ Some p → ((y : WrittenText → Rational) → item_number y i ≡ times q (y name)) → ItemsForm names items → ItemsForm names (i ∷ items)
unfolding number_at total
name_form names q name p items i at is (form, of) =
    let j : ℕ = column_of_name names name in
    let there = column_there names name p at in
    let more = one_more j q form.terms in (
      form_of more.made form.constant,
      record {
        is = λ x.
            ap (λ (s : Rational). plus s form.constant) (more.sum x)
            ∙ plus_assoc (times q (x j)) (sum_at x form.terms) form.constant
            ∙ ap₂ (λ (a b : Rational). plus a b) (sym (is (by_column names x))) (of.is x);
        terms = more.from 0 (omega arith) of.terms;
        columns = more.columns (length names) there.0 there.1 of.columns;
      },
    )

no_items : (names : List WrittenText) → ItemsForm names []
unfolding number_at total
no_items names = (
  form_of [] zero,
  record { is = λ x. ap (λ (s : Rational). plus s zero) (sum_at_none x) ∙ plus_zero zero; terms = tt; columns = tt },
)

items_form : (names : List WrittenText) (items : List (Bool × Item)) → AreDeclared names items → ItemsForm names items
items_form names [] h = no_items names
items_form names ((negative, Constant coefficient) ∷ items) h =
    constant_form names negative (taken_with_sign negative (coefficient_number coefficient)) items (negative, Constant coefficient) (λ y. refl) (items_form names items h.1)
items_form names ((negative, Multiple factor place name) ∷ items) h =
    let at = declared_place names name h.0 in
    name_form names (taken_with_sign negative (factor_number factor)) name at.0 items (negative, Multiple factor place name) at.1
    (λ y. signed_times negative (factor_number factor) (y name))
    (items_form names items h.1)

abbrev pub SumForm : List WrittenText → Sum → Type 0
SumForm names sum = (form : LinearForm) × IsForm names (λ y. sum_number y sum) form

pub sum_form : (names : List WrittenText) (sum : Sum) → AreDeclared names (signed_items sum) → SumForm names sum
unfolding sum_number
sum_form names sum h = items_form names (signed_items sum) h

-- ---- the form of a difference

-- terms that are two lists of terms together
record AreBoth (ts us : List Term) : Type 0 where
  made : List Term
  sum : (x : ColumnNumbers) → sum_at x made ≡ plus (sum_at x ts) (sum_at x us)
  terms : AreTerms us → AreTerms made
  columns : (n : ℕ) → AreColumns n ts → AreColumns n us → AreColumns n made

both : (ts us : List Term) → AreBoth ts us
both [] us = record {
  made = us;
  sum = λ x. sym (ap (λ (s : Rational). plus s (sum_at x us)) (sum_at_none x) ∙ zero_plus (sum_at x us));
  terms = λ h. h;
  columns = λ n g h. h;
}
both (t ∷ ts) us =
    let rest = both ts us in
    let more = one_more t.0 t.1 rest.made in
    record {
      made = more.made;
      sum = λ x.
          more.sum x
          ∙ ap (λ (s : Rational). plus (times t.1 (x t.0)) s) (rest.sum x)
          ∙ sym (plus_assoc (times t.1 (x t.0)) (sum_at x ts) (sum_at x us))
          ∙ ap (λ (s : Rational). plus s (sum_at x us)) (sym (sum_at_more x t ts));
      terms = λ h. more.from 0 (omega arith) (rest.terms h);
      columns = λ n g h. more.columns n g.0 g.1 (rest.columns n g.2 h);
    }

negated_columns : (n : ℕ) (ts : List Term) → AreColumns n ts → AreColumns n (negated_terms ts)
negated_columns n [] h = tt
negated_columns n (t ∷ ts) h = (h.0, h.1, negated_columns n ts h.2)

shuffled : (a b c d : Rational) → plus (plus a b) (plus c d) ≡ plus (plus a c) (plus b d)
shuffled a b c d =
    plus_assoc a b (plus c d)
    ∙ ap (λ (p : Rational). plus a p) (plus_left_comm b c d)
    ∙ sym (plus_assoc a c (plus b d))

abbrev RowForm : List WrittenText → Sum → Sum → Type 0
RowForm names left right = (form : LinearForm) × IsForm names (λ y. minus (sum_number y left) (sum_number y right)) form

difference : (names : List WrittenText) (left right : Sum) → SumForm names left → SumForm names right → RowForm names left right
unfolding number_at
difference names left right (a, of_left) (b, of_right) =
    let turned : LinearForm = negated_form b in
    let all = both a.terms turned.terms in (
      form_of all.made (plus a.constant turned.constant),
      record {
        is = λ x.
            ap (λ (s : Rational). plus s (plus a.constant turned.constant)) (all.sum x)
            ∙ shuffled (sum_at x a.terms) (sum_at x turned.terms) a.constant turned.constant
            ∙ ap₂ (λ (p q : Rational). plus p q) (of_left.is x) (number_negated x b ∙ ap negate (of_right.is x))
            ∙ sym (minus_is (sum_number (by_column names x) left) (sum_number (by_column names x) right));
        terms = all.terms (negated_from 0 b.terms of_right.terms);
        columns = all.columns (length names) of_left.columns (negated_columns (length names) b.terms of_right.columns);
      },
    )

-- ---- the system of a plain model

rows_exist : (names : List WrittenText) (position : ℕ) (model : PlainModel) → DeclareAll names model → (rs : List GivenRow) × AreRowsOf names position model rs
rows_exist names position [] h = ([], refl)
rows_exist names position (Variable head ∷ model) h = rows_exist names (position + 1) model h.1
rows_exist names position (Objective maximize head sum ∷ model) h = rows_exist names (position + 1) model h.1
rows_exist names position (Constraint head left sense at right ∷ model) h =
    let form = difference names left right (sum_form names left h.0.0) (sum_form names right h.0.1) in
    let rest = rows_exist names (position + 1) model h.1 in (
      record { from = record { statement = position; place = at }; terms = form.0.terms; kind = One sense (negate form.0.constant) } ∷ rest.0,
      (record { statement = refl; place = refl; form = form.0; form_is = form.1; terms = refl; kind = refl }, rest.1),
    )

objective_exists : (names : List WrittenText) (model : PlainModel) → DeclareAll names model → (o : Option rows.Objective) × HasObjectiveOf names model o
objective_exists names [] h = (None, refl)
objective_exists names (Variable head ∷ model) h = objective_exists names model h.1
objective_exists names (Objective maximize head sum ∷ model) h =
    let form = sum_form names sum h.0 in
    (Some (record { maximize = maximize; place = head.at; form = form.0 }), record { aim = refl; place_is = refl; form_is = form.1 })
objective_exists names (Constraint head left sense at right ∷ model) h = objective_exists names model h.1

-- a plain model has a system
pub has_system : (model : PlainModel) → IsPlain model → (system : LinearSystem) × IsSystemOf model system
has_system model plain =
    let all = plain_declares model plain in
    let rows = rows_exist (variables model) 0 model all in
    let objective = objective_exists (variables model) model all in (
      record { columns = map (λ (_ : WrittenText). nonnegative) (variables model); rows = rows.0; objective = objective.0 },
      record { columns = refl; rows = rows.1; objective = objective.1 },
    )
