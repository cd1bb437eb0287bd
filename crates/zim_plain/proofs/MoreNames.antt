-- The forms of lists stay when further names follow.
use Rattle.std.proofs.Common.{ℕ, ◌≡◌, ◌≤◌, Bool, List, [], ◌∷◌, ◌++◌, map, length, refl, sym, ap, ap₂, ◌∙◌, arith, length-append, Contains}
use Rattle.zim_rational.specs.Rational.{plus, minus, times, total}
use Rattle.zim_linear.specs.Forms.{Term, LinearForm, ColumnNumbers, AreColumns}
use Rattle.zim_plain.specs.Statements.{WrittenText, Item, Constant, Multiple, Sum, signed_items}
use Rattle.zim_plain.specs.Meaning.{taken_with_sign, factor_number, item_number, sum_number}
use Rattle.zim_plain.specs.Suits.{SuitsSum}
use Rattle.zim_plain.specs.Systems.{by_column, column_of_name}
use Rattle.zim_plain.specs.Sides.{IsDeclared, IsListForm, IsRowForm}
use Rattle.zim_plain.proofs.Places.{place-append}
use Rattle.zim_plain.proofs.Amounts.{AreDeclared, declared_place, column_behind}
use Rattle.zim_plain.proofs.SideLaws.{declared_sum}

column_more : (names more : List WrittenText) (name : WrittenText) → Contains names name → column_of_name (names ++ more) name ≡ column_of_name names name
column_more names more name h =
    let p = declared_place names name h in
    column_behind (names ++ more) name p.0 (place-append names more name p.0 p.1) ∙ sym (column_behind names name p.0 p.1)

item_more : (names more : List WrittenText) (x : ColumnNumbers) (i : Bool × Item) → IsDeclared names i.1 → item_number (by_column (names ++ more) x) i ≡ item_number (by_column names x) i
item_more names more x (negative, Constant c) h = refl
item_more names more x (negative, Multiple factor place name) h =
    ap (λ (j : ℕ). taken_with_sign negative (times (factor_number factor) (x j))) (column_more names more name h)

items_more : (names more : List WrittenText) (x : ColumnNumbers) (items : List (Bool × Item)) → AreDeclared names items → total (map (item_number (by_column (names ++ more) x)) items) ≡ total (map (item_number (by_column names x)) items)
unfolding total
items_more names more x [] h = refl
items_more names more x (i ∷ is) h = ap₂ plus (item_more names more x i h.0) (items_more names more x is h.1)

sum_more : (names more : List WrittenText) (x : ColumnNumbers) (sum : Sum) → SuitsSum names sum → sum_number (by_column (names ++ more) x) sum ≡ sum_number (by_column names x) sum
unfolding sum_number
sum_more names more x sum h = items_more names more x (signed_items sum) (declared_sum names sum h)

columns_more : (m n : ℕ) (ts : List Term) → m ≤ n → AreColumns m ts → AreColumns n ts
columns_more m n [] l h = tt
columns_more m n (t ∷ ts) l h = let first = h.1 in (h.0, omega arith, columns_more m n ts l h.2)

longer : (names more : List WrittenText) → length names ≤ length (names ++ more)
longer names more = omega (arith, length-append names more)

pub list_more : (names more : List WrittenText) (sum : Sum) (form : LinearForm) → SuitsSum names sum → IsListForm names sum form → IsListForm (names ++ more) sum form
list_more names more sum form suits is = record {
  is = λ x. is.is x ∙ sym (sum_more names more x sum suits);
  terms = is.terms;
  columns = columns_more (length names) (length (names ++ more)) form.terms (longer names more) is.columns;
}

pub row_more : (names more : List WrittenText) (left right : Sum) (form : LinearForm) → SuitsSum names left → SuitsSum names right → IsRowForm names left right form → IsRowForm (names ++ more) left right form
row_more names more left right form p q is = record {
  is = λ x. is.is x ∙ sym (ap₂ minus (sum_more names more x left p) (sum_more names more x right q));
  terms = is.terms;
  columns = columns_more (length names) (length (names ++ more)) form.terms (longer names more) is.columns;
}
