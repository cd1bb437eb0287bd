-- Lists as terms over numbered columns: the coefficients that they come to, and where adding them up is past.
use Rattle.std.specs.Prelude.{ℕ, zero, suc, ◌≡◌, ◌<◌, ◌≤◌, nat_eq, if◌then◌else◌, Bool, IsTrue, List, [], ◌∷◌, ◌++◌, map, Option, Some, None, IfSome, unwrap_or, Result, Ok, Err}
use Rattle.std.specs.List.{AllByRecursion}
use Rattle.zim_fault.specs.declared.faults.Place.{Place}
use Rattle.zim_fault.specs.declared.faults.Fault.{Fault}
use Rattle.zim_rational.specs.Rational as rational
use Rattle.zim_rational.specs.Rational.{Rational, plus, one}
use Rattle.zim_fraction.specs.Limit.{is_number, is_sum_within}
use Rattle.zim_linear.specs.Forms.{Term, LinearForm, ColumnNumbers, AreTerms, AreColumns, sum_at, number_at}
use Rattle.zim_linear.specs.declared.faults.LinFault.{LinFault}
use Rattle.zim_linear.specs.declared.faults.LinFault.TheVariants.{Past, Memory}
use Rattle.zim_rows.specs.Scaled.{earlier_fault}
use Rattle.zim_plain.specs.declared.parts.Part.{Part}
use Rattle.zim_plain.specs.Statements.{WrittenText, Item, Constant, Multiple, Further}
use Rattle.zim_plain.specs.Faults.{amount, past_unless}
use Rattle.zim_plain.specs.Systems.{column_of_name}

-- ---- terms

-- A part as a term, a number being one of column 0.
abbrev pub part_term : Part → Term
part_term part = (unwrap_or part.column 0, part.amount)

-- The column of an item's name; a number has none.
abbrev pub item_column : List WrittenText → Item → Option ℕ
item_column names (Constant coefficient) = None
item_column names (Multiple factor place name) = Some (column_of_name names name)

-- An item with its sign as a term, a number being one of column 0.
abbrev pub item_term : List WrittenText → Bool × Item → Term
item_term names item = (unwrap_or (item_column names item.1) 0, amount item)

-- The part of an item behind an operator at a place.
abbrev pub part_at : List WrittenText → Place → Bool → Item → Part
part_at names place negative item = record { place = place; column = item_column names item; amount = amount (negative, item) }

-- The part of an item behind others.
abbrev pub part_behind : List WrittenText → Further → Part
part_behind names further = part_at names further.sign.place further.sign.negative further.item

-- What each column is where column 0 is 1.
abbrev pub with_one : ColumnNumbers → ColumnNumbers
with_one x zero = one
with_one x (suc j) = x (suc j)

-- What the coefficients of a column add up to, from left to right.
unfoldable pub sum_of_column : ℕ → Rational → List Term → Rational
sum_of_column j so_far [] = so_far
sum_of_column j so_far (t ∷ ts) = sum_of_column j (if nat_eq t.0 j then plus so_far t.1 else so_far) ts

-- The first operator at which a sum is past, where these terms stand before it.
unfoldable pub parts_fault : List Term → List Part → Option Fault
parts_fault before [] = None
parts_fault before (p ∷ ps) =
    earlier_fault
    (past_unless (is_sum_within (sum_of_column (unwrap_or p.column 0) rational.zero before) p.amount) p.place)
    (parts_fault (before ++ part_term p ∷ []) ps)

-- ---- forms

-- The coefficient of a column among terms, 0 where it has none.
unfoldable pub coefficient_in : List Term → ℕ → Rational
coefficient_in [] j = rational.zero
coefficient_in (t ∷ ts) j = if nat_eq t.0 j then t.1 else coefficient_in ts j

-- The coefficient of a column in a form, its constant being that of column 0.
abbrev pub coefficient_at : LinearForm → ℕ → Rational
coefficient_at form zero = form.constant
coefficient_at form (suc j) = coefficient_in form.terms (suc j)

-- Each coefficient and the constant are within the limit.
abbrev pub AreNumbers : LinearForm → Type 0
AreNumbers form = (j : ℕ) → IsTrue (is_number (coefficient_at form j))

-- A part's amount is within the limit, and its column is one from 1 up.
pub record IsPart (part : Part) : Type 0 where
  pub within : IsTrue (is_number part.amount)
  pub column : IfSome part.column (λ j. 0 < j)

-- A part's column is at most n.
abbrev pub IsPartUpTo : ℕ → Part → Type 0
IsPartUpTo n part = IfSome part.column (λ j. j ≤ n)

-- A form in order that has this number at every assignment, over the columns that these parts have.
pub record IsFormOf (parts : List Part) (number : ColumnNumbers → Rational) (form : LinearForm) : Type 0 where
  pub is : (x : ColumnNumbers) → number_at x form ≡ number x
  pub terms : AreTerms form.terms
  pub columns : (n : ℕ) → AllByRecursion (IsPartUpTo n) parts → AreColumns n form.terms
  pub within : AreNumbers form

-- The number of parts where each column is what an assignment says.
unfoldable pub parts_number : List Part → ColumnNumbers → Rational
parts_number parts x = sum_at (with_one x) (map part_term parts)

-- The form of a part. Want of memory is free.
abbrev pub PartFormAnswer : Part → Result LinearForm LinFault → Type 0
PartFormAnswer part (Ok form) = IsFormOf (part ∷ []) (parts_number (part ∷ [])) form
PartFormAnswer part (Err Past) = ⊥
PartFormAnswer part (Err Memory) = Unit {0}

-- A part was added to a form, or the sum of its column is past. Want of memory is free.
pub record IsAdded (old : LinearForm) (part : Part) (new : LinearForm) : Type 0 where
  pub sum_within : IsTrue (is_sum_within (coefficient_at old (unwrap_or part.column 0)) part.amount)
  pub is : (x : ColumnNumbers) → number_at x new ≡ plus (number_at x old) (parts_number (part ∷ []) x)
  pub terms : AreTerms new.terms
  pub columns : (n : ℕ) → AreColumns n old.terms → IsPartUpTo n part → AreColumns n new.terms
  pub within : AreNumbers new

-- The same as an answer.
abbrev pub AddPartAnswer : LinearForm → Part → LinearForm → Result Unit LinFault → Type 0
AddPartAnswer old part new (Ok _) = IsAdded old part new
AddPartAnswer old part new (Err Past) = ¬ IsTrue (is_sum_within (coefficient_at old (unwrap_or part.column 0)) part.amount)
AddPartAnswer old part new (Err Memory) = Unit {0}
