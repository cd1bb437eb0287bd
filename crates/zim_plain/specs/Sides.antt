-- What the building functions answer: the numbers of a list, its form, and the form of a row, or the first fault.
use Rattle.std.specs.Prelude.{ℕ, ◌≡◌, ◌==◌, ◌||◌, Contains, Bool, true, false, IsTrue, List, [], ◌∷◌, map, Option, Some, None, Result, Ok, Err}
use Rattle.std.specs.List.{AllByRecursion}
use Rattle.std.specs.Global.{Vec}
use Rattle.zim_fault.specs.declared.faults.Place.{Place}
use Rattle.zim_fault.specs.declared.faults.Fault.{Fault}
use Rattle.zim_rational.specs.Rational.{Rational, minus}
use Rattle.zim_fraction.specs.Limit.{is_number}
use Rattle.zim_linear.specs.Forms.{LinearForm, ColumnNumbers}
use Rattle.zim_linear.specs.declared.faults.LinFault.{LinFault}
use Rattle.zim_linear.specs.declared.faults.LinFault.TheVariants.{Past, Memory}
use Rattle.zim_fault.specs.declared.kinds.Kind.TheVariants as kind
use Rattle.zim_rows.specs.Scaled.{earlier_fault}
use Rattle.zim_plain.specs.declared.parts.Part.{Part}
use Rattle.zim_plain.specs.declared.parts.Side.{Side}
use Rattle.zim_plain.specs.declared.parts.Side.TheVariants.{Known, Parts}
use Rattle.zim_plain.specs.declared.stop.PlainStop.{PlainStop}
use Rattle.zim_plain.specs.declared.stop.PlainStop.TheVariants as stopped
use Rattle.zim_plain.specs.Statements.{WrittenText, Item, Constant, Multiple, Further, Sum, first_negative}
use Rattle.zim_plain.specs.Meaning.{coefficient_number, factor_number, sum_number}
use Rattle.zim_plain.specs.Suits.{SuitsCoefficient, SuitsFactor, SuitsItem}
use Rattle.zim_plain.specs.Faults.{fault_at, item_fault, items_fault, has_variable, numbers_fault, adding_fault, difference_fault}
use Rattle.zim_plain.specs.Systems.{IsForm}
use Rattle.zim_plain.specs.Parts.{part_at, part_behind, IsPart, IsFormOf, parts_fault, parts_number}

-- A number, or the first fault of those that are met on the way to it.
abbrev pub NumberAnswer : Option Fault → Rational → Result Rational Fault → Type 0
NumberAnswer fault number (Ok q) = (fault ≡ None) × (q ≡ number)
NumberAnswer fault number (Err met) = fault ≡ Some met

-- A text begins with a sign.
abbrev pub starts_with_sign : List ℕ → Bool
starts_with_sign [] = false
starts_with_sign (first ∷ rest) = first == 43 || first == 45

-- The name of an item is declared, if it has one.
abbrev pub IsDeclared : List WrittenText → Item → Type 0
IsDeclared names (Constant coefficient) = Unit {0}
IsDeclared names (Multiple factor place name) = Contains names name

-- The numbers of an item are such.
abbrev pub SuitsNumbers : Item → Type 0
SuitsNumbers (Constant coefficient) = SuitsCoefficient coefficient
SuitsNumbers (Multiple factor place name) = SuitsFactor factor

-- Further items have numbers that are such and declared names, or none.
abbrev pub SuitOthers : List WrittenText → List Further → Type 0
SuitOthers names others = AllByRecursion (λ (f : Further). SuitsItem names (false, f.item)) others

-- The number of an item without its sign, or the coefficient of its name.
abbrev pub magnitude_of : Item → Rational
magnitude_of (Constant coefficient) = coefficient_number coefficient
magnitude_of (Multiple factor place name) = factor_number factor

-- A part is that of an item, or the item has a fault.
abbrev pub PartAnswer : Option Fault → Part → Result Part Fault → Type 0
PartAnswer fault part (Ok made) = (fault ≡ None) × (made ≡ part) × IsPart made
PartAnswer fault part (Err met) = fault ≡ Some met

-- Something that was made, or the first fault. Want of memory is free.
abbrev pub MadeAnswer : {V : Type 0} → Option Fault → (V → Type 0) → Result V PlainStop → Type 0
MadeAnswer fault Is (Ok made) = (fault ≡ None) × Is made
MadeAnswer fault Is (Err (stopped.Fault met)) = fault ≡ Some met
MadeAnswer fault Is (Err stopped.Memory) = Unit {0}

-- The parts of a list: those of its items, in order.
abbrev pub ArePartsOf : List WrittenText → Sum → List Part → Type 0
ArePartsOf names sum [] = ⊥
ArePartsOf names sum (first ∷ others) =
    (first ≡ part_at names first.place (first_negative sum.sign) sum.first) × (others ≡ map (part_behind names) sum.others)

-- A vector has them, and each is a number or a multiple of a column.
abbrev pub HavePartsOf : List WrittenText → Sum → Vec Part → Type 0
HavePartsOf names sum parts = ArePartsOf names sum parts.items × AllByRecursion IsPart parts.items

-- The first number of a list that is past.
abbrev pub parts_numbers_fault : Sum → Option Fault
parts_numbers_fault sum = earlier_fault (item_fault sum.first) (items_fault sum.others)

-- The number of a list that names no variable, or its first number or sum that is past.
abbrev pub KnownAnswer : Sum → Result Rational Fault → Type 0
KnownAnswer sum (Ok q) = (numbers_fault sum ≡ None) × ((x : WrittenText → Rational) → sum_number x sum ≡ q) × IsTrue (is_number q)
KnownAnswer sum (Err met) = numbers_fault sum ≡ Some met

-- What was read of a list: its number where it names no variable, else its parts.
abbrev pub IsSideOf : List WrittenText → Sum → Side → Type 0
IsSideOf names sum (Known q) = (has_variable sum ≡ false) × ((x : WrittenText → Rational) → sum_number x sum ≡ q) × IsTrue (is_number q)
IsSideOf names sum (Parts parts) = (has_variable sum ≡ true) × ArePartsOf names sum parts.items × AllByRecursion IsPart parts.items

-- What was read is a number or parts.
abbrev pub IsSide : Side → Type 0
IsSide (Known q) = IsTrue (is_number q)
IsSide (Parts parts) = AllByRecursion IsPart parts.items

-- The parts of what was read; a number has none.
abbrev pub side_parts : Side → List Part
side_parts (Known q) = []
side_parts (Parts parts) = parts.items

-- The first fault of adding up what was read.
abbrev pub side_fault : Side → Option Fault
side_fault (Known q) = None
side_fault (Parts parts) = parts_fault [] parts.items

-- Its number at an assignment.
abbrev pub side_number : Side → ColumnNumbers → Rational
side_number (Known q) x = q
side_number (Parts parts) x = parts_number parts.items x

-- The form of what was read.
abbrev pub IsSideForm : Side → LinearForm → Type 0
IsSideForm side form = IsFormOf (side_parts side) (side_number side) form

-- The first fault of a list: of its numbers, then of its sums.
abbrev pub list_fault : Sum → Option Fault
list_fault sum = earlier_fault (numbers_fault sum) (adding_fault sum)

-- A form of a list.
abbrev pub IsListForm : List WrittenText → Sum → LinearForm → Type 0
IsListForm names sum form = IsForm names (λ x. sum_number x sum) form

-- The first fault of two lists and their difference.
abbrev pub row_fault : Sum → Place → Sum → Option Fault
row_fault left at right =
    earlier_fault (numbers_fault left) (earlier_fault (numbers_fault right) (earlier_fault (adding_fault left) (earlier_fault (adding_fault right) (difference_fault left at right))))

-- The form of the difference of two lists.
abbrev pub IsRowForm : List WrittenText → Sum → Sum → LinearForm → Type 0
IsRowForm names left right form = IsForm names (λ x. minus (sum_number x left) (sum_number x right)) form

-- A difference of forms that is past is told at a place.
abbrev pub row_answer : Place → Result LinearForm LinFault → Result LinearForm PlainStop
row_answer at (Ok form) = Ok form
row_answer at (Err Past) = Err (stopped.Fault (fault_at kind.Past at))
row_answer at (Err Memory) = Err stopped.Memory
