-- Lists over names are terms over columns: their numbers, and where adding them up is past.
use Rattle.std.proofs.Common.{ℕ, suc, ◌≡◌, ◌≢◌, Bool, true, false, nat_eq, List, [], ◌∷◌, ◌++◌, map, Option, Some, None, arith, refl, sym, ap, ap₂, ◌∙◌, Contains}
use Rattle.std.specs.Prelude.{if◌then◌else◌, option_map, unwrap_or}
use Rattle.std.specs.List.{AllByRecursion}
use Rattle.std.specs.Cmp.Lexicographic.{pointwise, bytes_decides, same_text}
use Rattle.std.proofs.lemmas.Bool.{eq-eqb, ne_eqb}
use Rattle.std.proofs.lemmas.List.{map-append}
use Rattle.zim_rational.specs.Rational as rational
use Rattle.zim_rational.specs.Rational.{Rational, one, plus, times, total}
use Rattle.zim_rational.proofs.Ring.{times_one, negate_times}
use Rattle.zim_fraction.specs.Limit.{is_sum_within}
use Rattle.zim_linear.specs.Forms.{Term, ColumnNumbers, sum_at}
use Rattle.zim_rows.specs.Scaled.{earlier_fault}
use Rattle.zim_plain.specs.Statements.{WrittenText, Item, Constant, Multiple, Further, Sum, signed_items}
use Rattle.zim_plain.specs.Meaning.{taken_with_sign, coefficient_number, factor_number, item_number, sum_number}
use Rattle.zim_plain.specs.Faults.{add_up, amount, amount_among, sums_fault, past_unless}
use Rattle.zim_plain.specs.Systems.{place_of, column_of_name, by_column}
use Rattle.zim_plain.specs.Parts.{item_column, item_term, part_behind, with_one, sum_of_column, parts_fault}
use Rattle.zim_plain.specs.Sides.{IsDeclared}
use Rattle.zim_plain.proofs.Places.{no_place, one_place}

-- ---- names and columns

-- a declared name has a place
pub declared_place : (names : List WrittenText) (name : WrittenText) → Contains names name → (p : ℕ) × (place_of names name ≡ Some p)
declared_place names name h = by (place_of names name) refl
  where
    by : (o : Option ℕ) → place_of names name ≡ o → (p : ℕ) × (place_of names name ≡ Some p)
    by (Some p) e = (p, e)
    by None e = absurd (no_place names name e h)

-- its column is the one behind the place
pub column_behind : (names : List WrittenText) (name : WrittenText) (p : ℕ) → place_of names name ≡ Some p → column_of_name names name ≡ suc p
column_behind names name p e = ap (λ (o : Option ℕ). unwrap_or (option_map suc o) 0) e

abbrev pub AreDeclared : List WrittenText → List (Bool × Item) → Type 0
AreDeclared names items = AllByRecursion (λ (i : Bool × Item). IsDeclared names i.1) items

column_of : List WrittenText → Item → ℕ
column_of names item = unwrap_or (item_column names item) 0

one_column : (names : List WrittenText) (a b : WrittenText) → Contains names a → Contains names b → column_of_name names a ≡ column_of_name names b → a ≡ b
one_column names a b h k e =
    let p = declared_place names a h in
    let q = declared_place names b k in
    let same : suc p.0 ≡ suc q.0 = sym (column_behind names a p.0 p.1) ∙ e ∙ column_behind names b q.0 q.1 in
    let place : p.0 ≡ q.0 = omega arith in
    one_place names a b q.0 (p.1 ∙ ap Some place) q.1

some_column : (names : List WrittenText) (name : WrittenText) → Contains names name → column_of_name names name ≢ 0
some_column names name h e = let p = declared_place names name h in let f = column_behind names name p.0 p.1 in omega arith

-- items add up exactly where they have one column
alike_column : (names : List WrittenText) (item other : Item) → IsDeclared names item → IsDeclared names other → add_up item other ≡ nat_eq (column_of names other) (column_of names item)
unfolding column_of
alike_column names (Constant c) (Constant d) h k = refl
alike_column names (Constant c) (Multiple f place name) h k = sym (ne_eqb (column_of_name names name) 0 (some_column names name k))
alike_column names (Multiple f place name) (Constant c) h k = sym (ne_eqb 0 (column_of_name names name) (λ e. some_column names name h (sym e)))
alike_column names (Multiple f place name) (Multiple g at other) h k = by (pointwise nat_eq name other) refl
  where
    by : (b : Bool) → pointwise nat_eq name other ≡ b → pointwise nat_eq name other ≡ nat_eq (column_of_name names other) (column_of_name names name)
    by true e = e ∙ sym (eq-eqb (column_of_name names other) (column_of_name names name) (ap (column_of_name names) (sym (same_text name other (sym e)))))
    by false e =
        e ∙ sym (ne_eqb (column_of_name names other) (column_of_name names name) (λ same.
        let one : other ≡ name = one_column names other name k h same in
        let t : pointwise nat_eq name other ≡ true = (bytes_decides name other).1 (sym one) in
        cc))

-- what items come to of the same kind as an item is what their terms add up to at its column
pub amount_column : (names : List WrittenText) (item : Item) (items : List (Bool × Item)) (s : Rational) → IsDeclared names item → AreDeclared names items → amount_among item s items ≡ sum_of_column (unwrap_or (item_column names item) 0) s (map (item_term names) items)
unfolding amount_among sum_of_column column_of
amount_column names item [] s h all = refl
amount_column names item (i ∷ is) s h all =
    ap (λ (b : Bool). amount_among item (if b then plus s (amount i) else s) is) (alike_column names item i.1 h all.0)
    ∙ amount_column names item is (if nat_eq (unwrap_or (item_column names i.1) 0) (unwrap_or (item_column names item) 0) then plus s (amount i) else s) h all.1

-- ---- faults

pub fault_column : (names : List WrittenText) (before : List (Bool × Item)) (others : List Further) → AreDeclared names before → AllByRecursion (λ (f : Further). IsDeclared names f.item) others → sums_fault before others ≡ parts_fault (map (item_term names) before) (map (part_behind names) others)
unfolding sums_fault parts_fault
fault_column names before [] h k = refl
fault_column names before (f ∷ fs) h k =
    let i : Bool × Item = (f.sign.negative, f.item) in
    ap₂ earlier_fault
    (ap (λ (q : Rational). past_unless (is_sum_within q (amount i)) f.sign.place) (amount_column names f.item before rational.zero k.0 h))
    (fault_column names (before ++ i ∷ []) fs (declared_push before i h k.0) k.1
    ∙ ap (λ (ts : List Term). parts_fault ts (map (part_behind names) fs)) (map-append (item_term names) before (i ∷ [])))
  where
    declared_push : (before : List (Bool × Item)) (i : Bool × Item) → AreDeclared names before → IsDeclared names i.1 → AreDeclared names (before ++ i ∷ [])
    declared_push [] i h k = (k, tt)
    declared_push (j ∷ before) i h k = (h.0, declared_push before i h.1 k)

-- ---- numbers

signed_times : (negative : Bool) (q v : Rational) → taken_with_sign negative (times q v) ≡ times (taken_with_sign negative q) v
signed_times true q v = sym (negate_times q v)
signed_times false q v = refl

item_at : (names : List WrittenText) (x : ColumnNumbers) (i : Bool × Item) → IsDeclared names i.1 → item_number (by_column names x) i ≡ times (item_term names i).1 (with_one x (item_term names i).0)
item_at names x (negative, Constant c) h = sym (times_one (taken_with_sign negative (coefficient_number c)))
item_at names x (negative, Multiple factor place name) h =
    let p = declared_place names name h in
    signed_times negative (factor_number factor) (x (column_of_name names name))
    ∙ ap (times (taken_with_sign negative (factor_number factor)))
    (ap x (column_behind names name p.0 p.1) ∙ ap (with_one x) (sym (column_behind names name p.0 p.1)))

pub items_at : (names : List WrittenText) (x : ColumnNumbers) (items : List (Bool × Item)) → AreDeclared names items → total (map (item_number (by_column names x)) items) ≡ sum_at (with_one x) (map (item_term names) items)
unfolding sum_at total
items_at names x [] h = refl
items_at names x (i ∷ is) h = ap₂ plus (item_at names x i h.0) (items_at names x is h.1)

pub sum_column : (names : List WrittenText) (x : ColumnNumbers) (sum : Sum) → AreDeclared names (signed_items sum) → sum_number (by_column names x) sum ≡ sum_at (with_one x) (map (item_term names) (signed_items sum))
unfolding sum_number
sum_column names x sum h = items_at names x (signed_items sum) h
