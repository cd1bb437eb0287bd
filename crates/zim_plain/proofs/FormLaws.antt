-- The answers of the steps that make the form of a list and of a row, one after another.
use Rattle.std.proofs.Common.{◌≡◌, List, Option, Some, None, sym, subst, ◌∙◌}
use Rattle.std.specs.Prelude.{Result, Ok, Err}
use Rattle.zim_fault.specs.declared.faults.Place.{Place}
use Rattle.zim_fault.specs.declared.faults.Fault.{Fault}
use Rattle.zim_linear.specs.Forms.{LinearForm}
use Rattle.zim_linear.specs.Answers.{FormAnswer}
use Rattle.zim_linear.specs.Sums.{IsDifferenceWithin, IsDifferenceOf}
use Rattle.zim_linear.specs.declared.faults.LinFault.{LinFault}
use Rattle.zim_linear.specs.declared.faults.LinFault.TheVariants.{Past, Memory}
use Rattle.zim_rows.specs.Scaled.{earlier_fault}
use Rattle.zim_plain.specs.declared.parts.Side.{Side}
use Rattle.zim_plain.specs.declared.parts.Side.TheVariants.{Known, Parts}
use Rattle.zim_plain.specs.declared.stop.PlainStop.{PlainStop}
use Rattle.zim_plain.specs.declared.stop.PlainStop.TheVariants as stopped
use Rattle.zim_plain.specs.Statements.{WrittenText, Sum, signed_items}
use Rattle.zim_plain.specs.Suits.{SuitsSum}
use Rattle.zim_plain.specs.Faults.{numbers_fault, adding_fault, are_differences_within, difference_fault}
use Rattle.zim_plain.specs.Sides.{MadeAnswer, IsSideOf, IsSide, side_fault, IsSideForm, list_fault, IsListForm, row_fault, IsRowForm, row_answer}
use Rattle.zim_plain.proofs.Faulting.{first_of_first, first_of_second, none_past, past_some}
use Rattle.zim_plain.proofs.SideLaws.{side_form, side_faults}
use Rattle.zim_plain.proofs.DifferenceLaws.{AreForms, difference_within, within_difference, difference_form}

-- ---- one step after another

-- what is made after a step without a fault
pub made_after : {V : Type 0} (a b : Option Fault) (Is : V → Type 0) (r : Result V PlainStop) → a ≡ None → MadeAnswer b Is r → MadeAnswer (earlier_fault a b) Is r
made_after a b Is (Ok made) none answer = (first_of_second a b None none answer.0, answer.1)
made_after a b Is (Err (stopped.Fault met)) none answer = first_of_second a b (Some met) none answer
made_after a b Is (Err stopped.Memory) none answer = tt

-- a step that stops
pub made_first : {V W : Type 0} (a b : Option Fault) (Is : V → Type 0) (Js : W → Type 0) (stop : PlainStop) → MadeAnswer a Is (Err stop) → MadeAnswer (earlier_fault a b) Js (Err stop)
made_first a b Is Js (stopped.Fault met) answer = first_of_first a b met answer
made_first a b Is Js stopped.Memory answer = tt

-- a step that is last
pub made_last : {V W : Type 0} (a : Option Fault) (Is : V → Type 0) (Js : W → Type 0) (stop : PlainStop) → MadeAnswer a Is (Err stop) → MadeAnswer a Js (Err stop)
made_last a Is Js (stopped.Fault met) answer = answer
made_last a Is Js stopped.Memory answer = tt

-- ---- a list

pub is_side : (names : List WrittenText) (sum : Sum) (side : Side) → IsSideOf names sum side → IsSide side
is_side names sum (Known q) h = h.2
is_side names sum (Parts parts) h = h.2

form_made : (names : List WrittenText) (sum : Sum) (side : Side) (r : Result LinearForm PlainStop) → SuitsSum names sum → IsSideOf names sum side → MadeAnswer (side_fault side) (IsSideForm side) r → MadeAnswer (adding_fault sum) (IsListForm names sum) r
form_made names sum side (Ok form) suits is answer = (sym (side_faults names sum side suits is) ∙ answer.0, side_form names sum side form suits is answer.1)
form_made names sum side (Err (stopped.Fault met)) suits is answer = sym (side_faults names sum side suits is) ∙ answer
form_made names sum side (Err stopped.Memory) suits is answer = tt

pub list_made : (names : List WrittenText) (sum : Sum) (side : Side) (r : Result LinearForm PlainStop) → SuitsSum names sum → MadeAnswer (numbers_fault sum) (IsSideOf names sum) (Ok side) → MadeAnswer (side_fault side) (IsSideForm side) r → MadeAnswer (list_fault sum) (IsListForm names sum) r
list_made names sum side r suits read answer =
    made_after (numbers_fault sum) (adding_fault sum) (IsListForm names sum) r read.0 (form_made names sum side r suits read.1 answer)

pub list_unread : (names : List WrittenText) (sum : Sum) (stop : PlainStop) → MadeAnswer (numbers_fault sum) (IsSideOf names sum) (Err stop) → MadeAnswer (list_fault sum) (IsListForm names sum) (Err stop)
list_unread names sum stop answer = made_first (numbers_fault sum) (adding_fault sum) (IsSideOf names sum) (IsListForm names sum) stop answer

-- ---- a row

-- two lists over names, and where the relation between them stands
pub record AreSides (names : List WrittenText) (left right : Sum) : Type 0 where
  pub suits_left : SuitsSum names left
  pub suits_right : SuitsSum names right

pub left_unread : (names : List WrittenText) (left : Sum) (at : Place) (right : Sum) (stop : PlainStop) → MadeAnswer (numbers_fault left) (IsSideOf names left) (Err stop) → MadeAnswer (row_fault left at right) (IsRowForm names left right) (Err stop)
left_unread names left at right stop answer = made_first (numbers_fault left) _ (IsSideOf names left) (IsRowForm names left right) stop answer

pub right_unread : (names : List WrittenText) (left : Sum) (at : Place) (right : Sum) (side : Side) (stop : PlainStop) → MadeAnswer (numbers_fault left) (IsSideOf names left) (Ok side) → MadeAnswer (numbers_fault right) (IsSideOf names right) (Err stop) → MadeAnswer (row_fault left at right) (IsRowForm names left right) (Err stop)
right_unread names left at right side stop first answer =
    made_after (numbers_fault left) _ (IsRowForm names left right) (Err stop) first.0
    (made_first (numbers_fault right) _ (IsSideOf names right) (IsRowForm names left right) stop answer)

pub left_unmade : (names : List WrittenText) (left : Sum) (at : Place) (right : Sum) (side other : Side) (stop : PlainStop) → AreSides names left right → MadeAnswer (numbers_fault left) (IsSideOf names left) (Ok side) → MadeAnswer (numbers_fault right) (IsSideOf names right) (Ok other) → MadeAnswer (side_fault side) (IsSideForm side) (Err stop) → MadeAnswer (row_fault left at right) (IsRowForm names left right) (Err stop)
left_unmade names left at right side other stop sides first second answer =
    made_after (numbers_fault left) _ (IsRowForm names left right) (Err stop) first.0
    (made_after (numbers_fault right) _ (IsRowForm names left right) (Err stop) second.0
    (made_first (adding_fault left) _ (IsListForm names left) (IsRowForm names left right) stop (form_made names left side (Err stop) sides.suits_left first.1 answer)))

pub right_unmade : (names : List WrittenText) (left : Sum) (at : Place) (right : Sum) (side other : Side) (a : LinearForm) (stop : PlainStop) → AreSides names left right → MadeAnswer (numbers_fault left) (IsSideOf names left) (Ok side) → MadeAnswer (numbers_fault right) (IsSideOf names right) (Ok other) → MadeAnswer (side_fault side) (IsSideForm side) (Ok a) → MadeAnswer (side_fault other) (IsSideForm other) (Err stop) → MadeAnswer (row_fault left at right) (IsRowForm names left right) (Err stop)
right_unmade names left at right side other a stop sides first second made answer =
    made_after (numbers_fault left) _ (IsRowForm names left right) (Err stop) first.0
    (made_after (numbers_fault right) _ (IsRowForm names left right) (Err stop) second.0
    (made_after (adding_fault left) _ (IsRowForm names left right) (Err stop) ((form_made names left side (Ok a) sides.suits_left first.1 made).0)
    (made_first (adding_fault right) _ (IsListForm names right) (IsRowForm names left right) stop (form_made names right other (Err stop) sides.suits_right second.1 answer))))

forms_are : (names : List WrittenText) (left right : Sum) (side other : Side) (a b : LinearForm) → AreSides names left right → IsSideOf names left side → IsSideOf names right other → IsSideForm side a → IsSideForm other b → AreForms names left right a b
forms_are names left right side other a b sides first second made answer = record {
  suits_left = sides.suits_left;
  suits_right = sides.suits_right;
  left_is = side_form names left side a sides.suits_left first made;
  right_is = side_form names right other b sides.suits_right second answer;
  left_numbers = made.within;
  right_numbers = answer.within;
}

-- the answer of the difference, as the row's
difference_answer : (names : List WrittenText) (left : Sum) (at : Place) (right : Sum) (a b : LinearForm) (r : Result LinearForm LinFault) (s : Result LinearForm PlainStop) → AreForms names left right a b → FormAnswer (IsDifferenceWithin a b) (IsDifferenceOf a b) r → s ≡ row_answer at r → MadeAnswer (difference_fault left at right) (IsRowForm names left right) s
difference_answer names left at right a b r s forms answer e = subst (MadeAnswer (difference_fault left at right) (IsRowForm names left right)) (sym e) (by r answer)
  where
    by : (r : Result LinearForm LinFault) → FormAnswer (IsDifferenceWithin a b) (IsDifferenceOf a b) r → MadeAnswer (difference_fault left at right) (IsRowForm names left right) (row_answer at r)
    by (Ok form) h =
        (none_past (are_differences_within left right (signed_items left)) at (difference_within names left right a b forms h.0), difference_form names left right a b form forms h.1)
    by (Err Past) h = past_some (are_differences_within left right (signed_items left)) at (λ t. h (within_difference names left right a b forms t))
    by (Err Memory) h = tt

pub row_made : (names : List WrittenText) (left : Sum) (at : Place) (right : Sum) (side other : Side) (a b : LinearForm) (r : Result LinearForm LinFault) (s : Result LinearForm PlainStop) → AreSides names left right → MadeAnswer (numbers_fault left) (IsSideOf names left) (Ok side) → MadeAnswer (numbers_fault right) (IsSideOf names right) (Ok other) → MadeAnswer (side_fault side) (IsSideForm side) (Ok a) → MadeAnswer (side_fault other) (IsSideForm other) (Ok b) → FormAnswer (IsDifferenceWithin a b) (IsDifferenceOf a b) r → s ≡ row_answer at r → MadeAnswer (row_fault left at right) (IsRowForm names left right) s
row_made names left at right side other a b r s sides first second made answer difference e =
    made_after (numbers_fault left) _ (IsRowForm names left right) s first.0
    (made_after (numbers_fault right) _ (IsRowForm names left right) s second.0
    (made_after (adding_fault left) _ (IsRowForm names left right) s ((form_made names left side (Ok a) sides.suits_left first.1 made).0)
    (made_after (adding_fault right) _ (IsRowForm names left right) s ((form_made names right other (Ok b) sides.suits_right second.1 answer).0)
    (difference_answer names left at right a b r s (forms_are names left right side other a b sides first.1 second.1 made.1 answer.1) difference e))))
