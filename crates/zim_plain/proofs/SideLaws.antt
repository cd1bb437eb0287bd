-- What is read of a list, and the form that its parts add up to, against the list.
use Rattle.std.proofs.Common.{ℕ, ◌≡◌, ◌≤◌, ◌||◌, Bool, true, false, List, [], ◌∷◌, map, length, IsTrue, None, arith, refl, sym, ap, ap₂, subst, ◌∙◌}
use Rattle.std.specs.Prelude.{if◌then◌else◌, IfSome}
use Rattle.std.specs.List.{AllByRecursion}
use Rattle.zim_rational.specs.Rational as rational
use Rattle.zim_rational.specs.Rational.{Rational, plus, total}
use Rattle.zim_rational.proofs.Ring.{plus_assoc, plus_zero, zero_plus}
use Rattle.zim_fraction.specs.Limit.{is_sum_within}
use Rattle.zim_linear.specs.Forms.{Term, LinearForm, ColumnNumbers, sum_at}
use Rattle.zim_plain.specs.declared.parts.Part.{Part}
use Rattle.zim_plain.specs.declared.parts.Side.{Side}
use Rattle.zim_plain.specs.declared.parts.Side.TheVariants.{Known, Parts}
use Rattle.zim_plain.specs.Statements.{WrittenText, Item, Constant, Multiple, Further, Sum, signed_items}
use Rattle.zim_plain.specs.Meaning.{item_number, sum_number}
use Rattle.zim_plain.specs.Suits.{SuitsItem, SuitsSum}
use Rattle.zim_plain.specs.Faults.{amount, amount_among, has_name, any_has_name, has_variable, sums_fault, adding_fault, first_item, amount_in}
use Rattle.zim_plain.specs.Systems.{by_column, IsForm}
use Rattle.zim_plain.specs.Parts.{part_term, item_column, item_term, part_behind, with_one, sum_of_column, parts_fault, parts_number, IsPart, IsPartUpTo}
use Rattle.zim_plain.specs.Sides.{IsDeclared, ArePartsOf, IsSideOf, side_fault, IsSideForm}
use Rattle.zim_plain.proofs.Places.{at_place}
use Rattle.zim_plain.proofs.Limits.{zero_with_sum}
use Rattle.zim_plain.proofs.Faulting.{none_past, first_of_second}
use Rattle.zim_plain.proofs.Amounts.{AreDeclared, declared_place, column_behind, fault_column, sum_column}

-- ---- declared names

pub declared_item : (names : List WrittenText) (i : Bool × Item) → SuitsItem names i → IsDeclared names i.1
declared_item names (negative, Constant c) h = tt
declared_item names (negative, Multiple factor place name) h = h.1

pub declared_items : (names : List WrittenText) (items : List (Bool × Item)) → AllByRecursion (SuitsItem names) items → AreDeclared names items
declared_items names [] h = tt
declared_items names (i ∷ is) h = (declared_item names i h.0, declared_items names is h.1)

pub declared_sum : (names : List WrittenText) (sum : Sum) → SuitsSum names sum → AreDeclared names (signed_items sum)
declared_sum names sum h = declared_items names (signed_items sum) h

declared_others : (names : List WrittenText) (others : List Further) → AreDeclared names (map (λ (f : Further). (f.sign.negative, f.item)) others) → AllByRecursion (λ (f : Further). IsDeclared names f.item) others
declared_others names [] h = tt
declared_others names (f ∷ fs) h = (h.0, declared_others names fs h.1)

-- ---- the parts of a list

-- the terms of the parts are those of the items
terms_others : (names : List WrittenText) (others : List Further) → map part_term (map (part_behind names) others) ≡ map (item_term names) (map (λ (f : Further). (f.sign.negative, f.item)) others)
terms_others names [] = refl
terms_others names (f ∷ fs) = ap (λ (ts : List Term). item_term names (f.sign.negative, f.item) ∷ ts) (terms_others names fs)

parts_terms : (names : List WrittenText) (sum : Sum) (parts : List Part) → ArePartsOf names sum parts → map part_term parts ≡ map (item_term names) (signed_items sum)
parts_terms names sum [] h = absurd h
parts_terms names sum (first ∷ others) h =
    ap₂ (λ (t : Term) (ts : List Term). t ∷ ts) (ap part_term h.0) (ap (map part_term) h.1 ∙ terms_others names sum.others)

pub parts_have_number : (names : List WrittenText) (sum : Sum) (parts : List Part) (x : ColumnNumbers) → SuitsSum names sum → ArePartsOf names sum parts → parts_number parts x ≡ sum_number (by_column names x) sum
unfolding parts_number
parts_have_number names sum parts x suits h =
    ap (sum_at (with_one x)) (parts_terms names sum parts h) ∙ sym (sum_column names x sum (declared_sum names sum suits))

-- the first part alone has no sum that is past, and then the operators are those of the list
pub parts_have_fault : (names : List WrittenText) (sum : Sum) (parts : List Part) → SuitsSum names sum → AllByRecursion IsPart parts → ArePartsOf names sum parts → parts_fault [] parts ≡ sums_fault (first_item sum) sum.others
unfolding parts_fault sum_of_column
parts_have_fault names sum [] suits each h = absurd h
parts_have_fault names sum (first ∷ others) suits each h =
    let declared : AreDeclared names (signed_items sum) = declared_sum names sum suits in
    let start : IsTrue (is_sum_within rational.zero first.amount) = zero_with_sum first.amount each.0.within in
    first_of_second _ _ _ (none_past _ first.place start)
    (ap₂ (λ (t : Term) (ps : List Part). parts_fault (t ∷ []) ps) (ap part_term h.0) h.1
    ∙ sym (fault_column names (first_item sum) sum.others (declared.0, tt) (declared_others names sum.others declared.1)))

-- ---- the form of a list

columns_of_item : (names : List WrittenText) (item : Item) → IsDeclared names item → IfSome (item_column names item) (λ j. j ≤ length names)
columns_of_item names (Constant c) h = tt
columns_of_item names (Multiple factor place name) h =
    let p = declared_place names name h in
    let below = at_place names name p.0 name p.1 in
    subst (λ (j : ℕ). j ≤ length names) (sym (column_behind names name p.0 p.1)) (omega (arith, below.0))

columns_of_others : (names : List WrittenText) (others : List Further) → AllByRecursion (λ (f : Further). IsDeclared names f.item) others → AllByRecursion (IsPartUpTo (length names)) (map (part_behind names) others)
columns_of_others names [] h = tt
columns_of_others names (f ∷ fs) h = (columns_of_item names f.item h.0, columns_of_others names fs h.1)

columns_of_parts : (names : List WrittenText) (sum : Sum) (parts : List Part) → SuitsSum names sum → ArePartsOf names sum parts → AllByRecursion (IsPartUpTo (length names)) parts
columns_of_parts names sum [] suits h = absurd h
columns_of_parts names sum (first ∷ others) suits h =
    let declared : AreDeclared names (signed_items sum) = declared_sum names sum suits in (
      subst (IsPartUpTo (length names)) (sym h.0) (columns_of_item names sum.first declared.0),
      subst (AllByRecursion (IsPartUpTo (length names))) (sym h.1) (columns_of_others names sum.others (declared_others names sum.others declared.1)),
    )

-- the form of what was read has the number of the list
pub side_form : (names : List WrittenText) (sum : Sum) (side : Side) (form : LinearForm) → SuitsSum names sum → IsSideOf names sum side → IsSideForm side form → IsForm names (λ x. sum_number x sum) form
side_form names sum (Known q) form suits side is = record {
  is = λ x. is.is x ∙ sym (side.1 (by_column names x));
  terms = is.terms;
  columns = is.columns (length names) tt;
}
side_form names sum (Parts parts) form suits side is = record {
  is = λ x. is.is x ∙ parts_have_number names sum parts.items x suits side.1;
  terms = is.terms;
  columns = is.columns (length names) (columns_of_parts names sum parts.items suits side.1);
}

-- and its sums are past where those of the list are
pub side_faults : (names : List WrittenText) (sum : Sum) (side : Side) → SuitsSum names sum → IsSideOf names sum side → side_fault side ≡ adding_fault sum
side_faults names sum (Known q) suits side = ap (λ (b : Bool). if b then sums_fault (first_item sum) sum.others else None) (sym side.0)
side_faults names sum (Parts parts) suits side =
    parts_have_fault names sum parts.items suits side.2 side.1 ∙ ap (λ (b : Bool). if b then sums_fault (first_item sum) sum.others else None) (sym side.0)

-- ---- a list without variables

-- at each assignment a number is what it is
constant_amount : (x : WrittenText → Rational) (i : Bool × Item) → has_name i.1 ≡ false → item_number x i ≡ amount i
constant_amount x (negative, Constant c) e = refl
constant_amount x (negative, Multiple factor place name) e = cc

abbrev pub AreConstants : List (Bool × Item) → Type 0
AreConstants items = AllByRecursion (λ (i : Bool × Item). has_name i.1 ≡ false) items

amounts_all : (item : Item) (s : Rational) (x : WrittenText → Rational) (items : List (Bool × Item)) → has_name item ≡ false → AreConstants items → amount_among item s items ≡ plus s (total (map (item_number x) items))
unfolding amount_among total
amounts_all item s x [] e h = sym (plus_zero s)
amounts_all (Constant c) s x ((negative, Constant d) ∷ is) e h =
    amounts_all (Constant c) (plus s (amount (negative, Constant d))) x is e h.1
    ∙ plus_assoc s (amount (negative, Constant d)) (total (map (item_number x) is))
amounts_all (Multiple f p n) s x ((negative, Constant d) ∷ is) e h = cc
amounts_all item s x ((negative, Multiple f p n) ∷ is) e h = let no : true ≡ false = h.0 in cc

-- what numbers add up to is their list's number
pub constants_number : (item : Item) (sum : Sum) (x : WrittenText → Rational) → has_name item ≡ false → AreConstants (signed_items sum) → sum_number x sum ≡ amount_in item sum
unfolding sum_number
constants_number item sum x e h = sym (amounts_all item rational.zero x (signed_items sum) e h ∙ zero_plus (total (map (item_number x) (signed_items sum))))

or_false : (a b : Bool) → (a || b) ≡ false → (a ≡ false) × (b ≡ false)
or_false true b e = cc
or_false false b e = (refl, e)

others_constants : (others : List Further) → any_has_name others ≡ false → AreConstants (map (λ (f : Further). (f.sign.negative, f.item)) others)
unfolding any_has_name
others_constants [] e = tt
others_constants (f ∷ fs) e = let both = or_false (has_name f.item) (any_has_name fs) e in (both.0, others_constants fs both.1)

pub sum_constants : (sum : Sum) → has_variable sum ≡ false → AreConstants (signed_items sum)
sum_constants sum e = let both = or_false (has_name sum.first) (any_has_name sum.others) e in (both.0, others_constants sum.others both.1)
