-- The first fault of a model's statements: one that may not follow those before it, a number past 128 bits, or a limit of the system.
use Rattle.std.specs.Prelude.{◌≡◌, ℕ, Bool, true, false, ◌||◌, ◌&&◌, cond, nat_eq, nat_le, if◌then◌else◌, List, [], ◌∷◌, ◌++◌, length, Option, Some, None, Result, Ok, Err}
use Rattle.std.specs.Cmp.Lexicographic.{pointwise}
use Rattle.zim_fault.specs.declared.faults.Place.{Place}
use Rattle.zim_fault.specs.declared.faults.Fault.{Fault}
use Rattle.zim_fault.specs.declared.kinds.Kind.{Kind}
use Rattle.zim_fault.specs.declared.kinds.Kind.TheVariants.{Syntax, Past, TooManyRows, TooManyColumns}
use Rattle.zim_rational.specs.Rational.{Rational, zero, plus, negate, over}
use Rattle.zim_fraction.specs.Limit.{is_number, is_sum_within}
use Rattle.zim_decimal.specs.Literal.{literal_answer}
use Rattle.zim_rows.specs.Scaled.{earlier_fault}
use Rattle.zim_plain.specs.Statements.{Literal, Divisor, Coefficient, Item, Constant, Multiple, Further, Sum, Statement, Variable, Objective, Constraint, PlainModel, head_of, first_negative, signed_items, variables}
use Rattle.zim_plain.specs.Meaning.{literal_number, coefficient_number, factor_number, taken_with_sign}
use Rattle.zim_plain.specs.Suits.{MayFollow}

-- A fault of this kind at a place.
abbrev pub fault_at : Kind → Place → Fault
fault_at kind place = record { place = place; kind = kind }

-- Past at a place, unless this holds.
abbrev pub past_unless : Bool → Place → Option Fault
past_unless within place = cond within None (Some (fault_at Past place))

-- ---- the numbers of a list, from left to right

-- A number token is past, at its place.
abbrev pub literal_fault : Literal → Option Fault
literal_fault literal = at_literal literal.place (literal_answer literal.text)
  where
    at_literal : {A E : Type 0} → Place → Result A E → Option Fault
    at_literal place (Ok q) = None
    at_literal place (Err e) = Some (fault_at Past place)

-- What stands behind a number: the divisor is past, or the quotient, at its slash.
abbrev pub divisor_fault : Rational → Option Divisor → Option Fault
divisor_fault q None = None
divisor_fault q (Some divisor) =
    earlier_fault (literal_fault divisor.literal) (past_unless (is_number (over q (literal_number divisor.literal))) divisor.slash)

-- A coefficient's number is past, or its divisor, or their quotient.
abbrev pub coefficient_fault : Coefficient → Option Fault
coefficient_fault coefficient = earlier_fault (literal_fault coefficient.number) (divisor_fault (literal_number coefficient.number) coefficient.divisor)

-- The first number of an item that is past.
abbrev pub item_fault : Item → Option Fault
item_fault (Constant coefficient) = coefficient_fault coefficient
item_fault (Multiple None place name) = None
item_fault (Multiple (Some factor) place name) = coefficient_fault factor.coefficient

-- The first number of further items that is past.
unfoldable pub items_fault : List Further → Option Fault
items_fault [] = None
items_fault (f ∷ fs) = earlier_fault (item_fault f.item) (items_fault fs)

-- ---- sums, operator by operator

-- An item has a name.
abbrev pub has_name : Item → Bool
has_name (Constant coefficient) = false
has_name (Multiple factor place name) = true

-- Whether two items add up: both are numbers, or both have the same name.
abbrev pub add_up : Item → Item → Bool
add_up (Constant _) (Constant _) = true
add_up (Constant _) (Multiple _ _ _) = false
add_up (Multiple _ _ _) (Constant _) = false
add_up (Multiple _ _ name) (Multiple _ _ other) = pointwise nat_eq name other

-- The number of an item with its sign, or the coefficient of its name.
abbrev pub amount : Bool × Item → Rational
amount (negative, Constant coefficient) = taken_with_sign negative (coefficient_number coefficient)
amount (negative, Multiple factor place name) = taken_with_sign negative (factor_number factor)

-- What items before have come to of the same kind as this one: the sum of the numbers, or of the coefficients of its name.
unfoldable pub amount_among : Item → Rational → List (Bool × Item) → Rational
amount_among item so_far [] = so_far
amount_among item so_far (i ∷ is) = amount_among item (if add_up item i.1 then plus so_far (amount i) else so_far) is

-- The first operator of a list at which a sum is past, where these items stand before it.
unfoldable pub sums_fault : List (Bool × Item) → List Further → Option Fault
sums_fault before [] = None
sums_fault before (f ∷ fs) =
    earlier_fault
    (past_unless (is_sum_within (amount_among f.item zero before) (amount (f.sign.negative, f.item))) f.sign.place)
    (sums_fault (before ++ (f.sign.negative, f.item) ∷ []) fs)

-- The same where each item's own numbers are met first, as in a list of numbers alone.
unfoldable pub constants_fault : List (Bool × Item) → List Further → Option Fault
constants_fault before [] = None
constants_fault before (f ∷ fs) =
    earlier_fault
    (item_fault f.item)
    (earlier_fault
    (past_unless (is_sum_within (amount_among f.item zero before) (amount (f.sign.negative, f.item))) f.sign.place)
    (constants_fault (before ++ (f.sign.negative, f.item) ∷ []) fs))

-- One of further items has a name.
unfoldable pub any_has_name : List Further → Bool
any_has_name [] = false
any_has_name (f ∷ fs) = has_name f.item || any_has_name fs

-- Whether a list names a variable.
abbrev pub has_variable : Sum → Bool
has_variable sum = has_name sum.first || any_has_name sum.others

-- The first item with its sign.
abbrev pub first_item : Sum → List (Bool × Item)
first_item sum = (first_negative sum.sign, sum.first) ∷ []

-- A list is read as numbers first: its own numbers, and their sums where it names no variable.
abbrev pub numbers_fault : Sum → Option Fault
numbers_fault sum =
    earlier_fault (item_fault sum.first) (if has_variable sum then items_fault sum.others else constants_fault (first_item sum) sum.others)

-- A list that names a variable is then added up, from left to right.
abbrev pub adding_fault : Sum → Option Fault
adding_fault sum = if has_variable sum then sums_fault (first_item sum) sum.others else None

-- What a list comes to of the same kind as an item.
abbrev pub amount_in : Item → Sum → Rational
amount_in item sum = amount_among item zero (signed_items sum)

-- For each of these items, what the left side has of its kind less what the right side has is within the limit.
unfoldable pub are_differences_within : Sum → Sum → List (Bool × Item) → Bool
are_differences_within left right [] = true
are_differences_within left right (i ∷ is) =
    is_sum_within (amount_in i.1 left) (negate (amount_in i.1 right)) && are_differences_within left right is

-- The difference of two sides is past, at the relation between them.
abbrev pub difference_fault : Sum → Place → Sum → Option Fault
difference_fault left at right = past_unless (are_differences_within left right (signed_items left)) at

-- ---- statements

-- How many rows a model has.
abbrev pub rows_of : PlainModel → ℕ
rows_of [] = 0
rows_of (Variable head ∷ rest) = rows_of rest
rows_of (Objective maximize head sum ∷ rest) = rows_of rest
rows_of (Constraint head left sense at right ∷ rest) = ℕ.suc (rows_of rest)

-- A fault of this kind at a place, where there are as many as there may be.
abbrev pub limit_fault : ℕ → Kind → Place → Option Fault
limit_fault count kind place = cond (nat_le 1000000 count) (Some (fault_at kind place)) None

-- The first fault of a statement that may follow those before: a past number of the left list, with its sums where it names no variable;
-- then of the right list; then a past sum of the left list, and of the right one, where it names one; then a past difference of the
-- two sides; then the limit of columns, at its name, or of rows, at its relation.
unfoldable pub number_fault : PlainModel → Statement → Option Fault
number_fault before (Variable head) = limit_fault (length (variables before)) TooManyColumns head.at
number_fault before (Objective maximize head sum) = earlier_fault (numbers_fault sum) (adding_fault sum)
number_fault before (Constraint head left sense at right) =
    earlier_fault
    (numbers_fault left)
    (earlier_fault
    (numbers_fault right)
    (earlier_fault (adding_fault left) (earlier_fault (adding_fault right) (earlier_fault (difference_fault left at right) (limit_fault (rows_of before) TooManyRows at)))))

-- The first fault of a statement behind others: it may not follow them, which is told at its first word, or it may and has another one.
pub data HasFault (before : PlainModel) (statement : Statement) : Fault → Type 0 where
  unsuited : ¬ MayFollow before statement → HasFault before statement (fault_at Syntax (head_of statement).word)
  numbers : (fault : Fault) → MayFollow before statement → number_fault before statement ≡ Some fault → HasFault before statement fault

-- A statement may follow those before it, and has no fault.
pub record IsFaultless (before : PlainModel) (statement : Statement) : Type 0 where
  pub follows : MayFollow before statement
  pub numbers : number_fault before statement ≡ None

-- Each statement is without fault behind those before it, some of which stand before the model.
abbrev pub AreFaultless : (before : PlainModel) → PlainModel → Type 0
AreFaultless before [] = Unit {0}
AreFaultless before (statement ∷ rest) = IsFaultless before statement × AreFaultless (before ++ statement ∷ []) rest

-- A model of plain form: each statement may follow those before it and has no fault.
abbrev pub IsPlain : PlainModel → Type 0
IsPlain model = AreFaultless [] model
