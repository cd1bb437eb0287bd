-- What the operators and the functions that are words answer on values: a value, or the kind of fault.
use Rattle.std.specs.Prelude.{ℕ, pos, Bool, true, false, ◌&&◌, ◌-◌, not, if◌then◌else◌, int_lt, List, [], ◌∷◌, ◌++◌, length, map, slice_get, unsigned_abs, Option, Some, None, Result, Ok, Err}
use Rattle.std.specs.Cmp.Lexicographic.{slice_cmp}
use Rattle.std.specs.declared.cmp.Ordering.{Ordering}
use Rattle.std.specs.declared.cmp.Ordering.TheVariants.{Less, Equal, Greater}
use Rattle.std.specs.List.{list_all}
use Rattle.std.specs.Int.{int_signum}
use Rattle.std.specs.Ordering.{nat_cmp}
use Rattle.zim_answer.specs.Answer.{◌>>=◌, goes}
use Rattle.zim_fault.specs.declared.kinds.Kind.{Kind}
use Rattle.zim_fault.specs.declared.kinds.Kind.TheVariants.{WrongKind, DivZero, NotInteger, NoEntry, EmptyChoice, Past}
use Rattle.zim_fault.specs.declared.tokens.Token.{Token}
use Rattle.zim_fault.specs.declared.tokens.Token.TheVariants as token
use Rattle.zim_fault.specs.declared.tokens.Relation.{Relation}
use Rattle.zim_fault.specs.declared.tokens.Relation.TheVariants.{LessThan, AtMost, EqualTo, NotEqualTo, AtLeast, GreaterThan}
use Rattle.zim_fault.specs.declared.signs.Sign.{Sign}
use Rattle.zim_fault.specs.declared.signs.Sign.TheVariants.{SPlus, SMinus, SStar, SSlash, SBackslash}
use Rattle.zim_fault.specs.declared.words.Word.{Word}
use Rattle.zim_fault.specs.declared.words.Word.TheVariants as words
use Rattle.zim_decimal.specs.Literal.{field_answer}
use Rattle.zim_fraction.specs.Answers.{sum_answer, difference_answer, product_answer, quotient_answer, power_answer}
use Rattle.zim_fraction.specs.declared.fault.NumFault.{NumFault}
use Rattle.zim_fraction.specs.declared.fault.NumFault.TheVariants as num_fault
use Rattle.zim_functions.specs.Numbers.{is_natural, factorial_answer, div_answer, mod_answer}
use Rattle.zim_functions.specs.Texts.{substring}
use Rattle.zim_functions.specs.declared.stops.NumStop.{NumStop}
use Rattle.zim_functions.specs.declared.stops.NumStop.TheVariants as num_stop
use Rattle.zim_meaning.specs.declared.values.Value.{Value}
use Rattle.zim_meaning.specs.declared.values.Value.TheVariants.{Number, Text, Truth, Set}
use Rattle.zim_meaning.specs.World.{entry}
use Rattle.zim_rational.specs.Rational.{Rational, whole, negate, rational_cmp, is_whole}
use Rattle.zim_rational.specs.Rounding.{floor, ceil, round, absolute, larger, smaller}
use Rattle.zim_sets.specs.Listing.{set_listed}
use Rattle.zim_sets.specs.Operators.{union_of, without_of, inter_of, symdiff_of}
use Rattle.zim_sets.specs.Products.{cross_of, projected}
use Rattle.zim_sets.specs.Ranges.{range_of}
use Rattle.zim_tuples.specs.declared.elements.Elem.{Elem}
use Rattle.zim_tuples.specs.declared.elements.Elem.TheVariants as elem

-- ---- kinds of values

-- the number that a value is
abbrev pub number_of_value : Value → Result Rational Kind
number_of_value (Number q) = Ok q
number_of_value (Text s) = Err WrongKind
number_of_value (Truth b) = Err WrongKind
number_of_value (Set a) = Err WrongKind

-- the truth value that a value is
abbrev pub truth_of_value : Value → Result Bool Kind
truth_of_value (Number q) = Err WrongKind
truth_of_value (Text s) = Err WrongKind
truth_of_value (Truth b) = Ok b
truth_of_value (Set a) = Err WrongKind

-- the tuples of the set that a value is
abbrev pub set_of_value : Value → Result (List (List Elem)) Kind
set_of_value (Number q) = Err WrongKind
set_of_value (Text s) = Err WrongKind
set_of_value (Truth b) = Err WrongKind
set_of_value (Set a) = Ok a

-- the number or text that a value is, as a component of a tuple
abbrev pub element_of_value : Value → Result Elem Kind
element_of_value (Number q) = Ok (elem.Number q)
element_of_value (Text s) = Ok (elem.Text s)
element_of_value (Truth b) = Err WrongKind
element_of_value (Set a) = Err WrongKind

-- the number, text or truth value that a value is, as the value of a parameter
abbrev pub param_of_value : Value → Result Value Kind
param_of_value (Number q) = Ok (Number q)
param_of_value (Text s) = Ok (Text s)
param_of_value (Truth b) = Ok (Truth b)
param_of_value (Set a) = Err WrongKind

-- a component of a tuple as a value
abbrev pub value_of_element : Elem → Value
value_of_element (elem.Number q) = Number q
value_of_element (elem.Text s) = Text s

-- a number as a value; past where it passes the limit
abbrev pub number_or_past : {F : Type 0} → Result Rational F → Result Value Kind
number_or_past (Ok q) = Ok (Number q)
number_or_past (Err fault) = Err Past

-- a number; past where it passes the limit
abbrev pub or_past : {F : Type 0} → Result Rational F → Result Rational Kind
or_past (Ok q) = Ok q
or_past (Err fault) = Err Past

-- a quotient or a power as a value, or the kind of fault
abbrev pub number_or_fault : Result Rational NumFault → Result Value Kind
number_or_fault (Ok q) = Ok (Number q)
number_or_fault (Err num_fault.Past) = Err Past
number_or_fault (Err num_fault.DivZero) = Err DivZero

-- a number of whole numbers as a value, or the kind of fault
abbrev pub number_or_stop : Result Rational NumStop → Result Value Kind
number_or_stop (Ok q) = Ok (Number q)
number_or_stop (Err num_stop.NotInteger) = Err NotInteger
number_or_stop (Err num_stop.DivZero) = Err DivZero
number_or_stop (Err num_stop.Past) = Err Past

-- a set as a value, or the kind of fault
abbrev pub set_or_fault : Result (List (List Elem)) Kind → Result Value Kind
set_or_fault (Ok a) = Ok (Set a)
set_or_fault (Err kind) = Err kind

-- ---- operators between two operands

-- an operator on two numbers
abbrev pub on_numbers : (Rational → Rational → Result Value Kind) → Value → Value → Result Value Kind
on_numbers op (Number p) (Number q) = op p q
on_numbers op _ _ = Err WrongKind

-- an operator on two sets
abbrev pub on_sets : (List (List Elem) → List (List Elem) → Result (List (List Elem)) Kind) → Value → Value → Result Value Kind
on_sets op (Set a) (Set b) = set_or_fault (op a b)
on_sets op _ _ = Err WrongKind

-- `+`: the sum of two numbers, two texts one after the other, the union of two sets
unfoldable pub values_added : Value → Value → Result Value Kind
values_added (Number p) (Number q) = number_or_past (sum_answer p q)
values_added (Text s) (Text t) = Ok (Text (s ++ t))
values_added (Set a) (Set b) = set_or_fault (union_of a b)
values_added _ _ = Err WrongKind

-- `-`: the difference of two numbers, the first of two sets without the second
unfoldable pub values_subtracted : Value → Value → Result Value Kind
values_subtracted (Number p) (Number q) = number_or_past (difference_answer p q)
values_subtracted (Set a) (Set b) = set_or_fault (without_of a b)
values_subtracted _ _ = Err WrongKind

-- `*`: the product of two numbers, the product of two sets
unfoldable pub values_multiplied : Value → Value → Result Value Kind
values_multiplied (Number p) (Number q) = number_or_past (product_answer p q)
values_multiplied (Set a) (Set b) = set_or_fault (cross_of a b)
values_multiplied _ _ = Err WrongKind

-- the operators that are signs
abbrev pub sign_operated : Sign → Value → Value → Result Value Kind
sign_operated SPlus = values_added
sign_operated SMinus = values_subtracted
sign_operated SStar = values_multiplied
sign_operated SSlash = on_numbers (λ p q. number_or_fault (quotient_answer p q))
sign_operated SBackslash = on_sets without_of
sign_operated _ = λ v w. Err WrongKind

-- the operators that are words
abbrev pub word_operated : Word → Value → Value → Result Value Kind
word_operated words.WMod = on_numbers (λ p q. number_or_stop (mod_answer p q))
word_operated words.WDiv = on_numbers (λ p q. number_or_stop (div_answer p q))
word_operated words.WUnion = on_sets union_of
word_operated words.WWithout = on_sets without_of
word_operated words.WInter = on_sets inter_of
word_operated words.WSymdiff = on_sets symdiff_of
word_operated words.WCross = on_sets cross_of
word_operated _ = λ v w. Err WrongKind

-- an operator that binds like `+` or like `*`, on two values
unfoldable pub values_operated : Token → Value → Value → Result Value Kind
values_operated (token.Sign sign) v w = sign_operated sign v w
values_operated (token.Word word) v w = word_operated word v w
values_operated _ v w = Err WrongKind

-- `a ^ b`, whose exponent is whole
unfoldable pub value_raised : Value → Value → Result Value Kind
value_raised = on_numbers (λ base exponent. if is_whole exponent then number_or_fault (power_answer base exponent.numer) else Err NotInteger)

-- whether two things that are ordered so stand in this relation
abbrev pub relation_holds : Relation → Ordering → Bool
relation_holds LessThan Less = true
relation_holds LessThan _ = false
relation_holds AtMost Greater = false
relation_holds AtMost _ = true
relation_holds EqualTo Equal = true
relation_holds EqualTo _ = false
relation_holds NotEqualTo Equal = false
relation_holds NotEqualTo _ = true
relation_holds AtLeast Less = false
relation_holds AtLeast _ = true
relation_holds GreaterThan Greater = true
relation_holds GreaterThan _ = false

-- a comparison of two numbers, or of two texts byte by byte
unfoldable pub values_compared : Relation → Value → Value → Result Value Kind
values_compared relation (Number p) (Number q) = Ok (Truth (relation_holds relation (rational_cmp p q)))
values_compared relation (Text s) (Text t) = Ok (Truth (relation_holds relation (slice_cmp nat_cmp s t)))
values_compared relation _ _ = Err WrongKind

-- ---- operators on one operand

-- the number that a literal spells; a text that is no number, which no tree has, is no number
unfoldable pub literal_value : List ℕ → Result Value Kind
literal_value digits = spelled (field_answer digits)
  where
    spelled : {F : Type 0} → Result (Option Rational) F → Result Value Kind
    spelled (Ok (Some q)) = Ok (Number q)
    spelled (Ok None) = Err WrongKind
    spelled (Err fault) = Err Past

-- `+a` and `-a`
unfoldable pub value_signed : Bool → Value → Result Value Kind
value_signed minus v = number_of_value v >>= λ q. Ok (Number (if minus then negate q else q))

-- `a!`
unfoldable pub value_factorial : Value → Result Value Kind
value_factorial v = number_of_value v >>= λ q. number_or_stop (factorial_answer q)

-- `not a`
unfoldable pub value_negated : Value → Result Value Kind
value_negated v = truth_of_value v >>= λ b. Ok (Truth (not b))

-- ---- the greatest and the least

-- the better of what was best so far and one more: the greatest or the least
abbrev pub better : Bool → Option Rational → Rational → Rational
better greatest None q = q
better true (Some p) q = larger p q
better false (Some p) q = smaller p q

-- the best so far with a value, which is a number
abbrev pub best_with : Bool → Option Rational → Value → Result (Option Rational) Kind
best_with greatest best v = number_of_value v >>= λ q. Ok (Some (better greatest best q))

-- the number of a tuple of one number
abbrev pub number_of_tuple : List Elem → Result Value Kind
number_of_tuple (elem.Number q ∷ []) = Ok (Number q)
number_of_tuple _ = Err WrongKind

-- the best so far with the number of a tuple
abbrev pub best_with_tuple : Bool → Option Rational → List Elem → Result (Option Rational) Kind
best_with_tuple greatest best tuple = number_of_tuple tuple >>= best_with greatest best

-- the best of all as a value; of none there is no best
abbrev pub best_value : Option Rational → Result Value Kind
best_value (Some q) = Ok (Number q)
best_value None = Err EmptyChoice

-- `min` and `max`: of numbers, or of the numbers of one set, whose tuples have one component
unfoldable pub extreme : Bool → List Value → Result Value Kind
extreme greatest (Set a ∷ []) = goes (best_with_tuple greatest) None a >>= best_value
extreme greatest values = goes (best_with greatest) None values >>= best_value

-- ---- functions that are words

-- 1, 0 or -1 by the sign of a number
abbrev pub signum : Rational → Rational
signum q = whole (int_signum q.numer)

-- the item at a position counted from 1, a whole number; there is none at 0, below it and past the end
abbrev pub item_at_number : {X : Type 0} → List X → Rational → Option X
item_at_number items n = if int_lt n.numer (pos 1) then None else slice_get items (unsigned_abs n.numer - 1)

-- `ord(A, n, c)`: component c of the n-th tuple, both counted from 1
unfoldable pub component_of : List (List Elem) → Rational → Rational → Result Value Kind
component_of a n c =
    if is_whole n && is_whole c
    then (entry (item_at_number a n) >>= λ tuple. entry (item_at_number tuple c) >>= λ component. Ok (value_of_element component))
    else Err NotInteger

-- `substr(s, b, n)`: at most n bytes from byte b on, which is counted from 0
unfoldable pub part_of_text : List ℕ → Rational → Rational → Result Value Kind
part_of_text s from len =
    if is_whole from && is_whole len
    then (if is_natural from && is_natural len then Ok (Text (substring s (unsigned_abs from.numer) (unsigned_abs len.numer))) else Err NoEntry)
    else Err NotInteger

-- a function that is a word, on the values of its arguments. The bare name of an indexed set, which stands in `indexset` alone, is its index set
unfoldable pub word_applied : Word → List Value → Result Value Kind
word_applied words.WAbs (Number q ∷ []) = Ok (Number (absolute q))
word_applied words.WSgn (Number q ∷ []) = Ok (Number (signum q))
word_applied words.WFloor (Number q ∷ []) = Ok (Number (floor q))
word_applied words.WCeil (Number q ∷ []) = Ok (Number (ceil q))
word_applied words.WRound (Number q ∷ []) = Ok (Number (round q))
word_applied words.WMin values = extreme false values
word_applied words.WMax values = extreme true values
word_applied words.WCard (Set a ∷ []) = Ok (Number (whole (pos (length a))))
word_applied words.WOrd (Set a ∷ Number n ∷ Number c ∷ []) = component_of a n c
word_applied words.WLength (Text s ∷ []) = Ok (Number (whole (pos (length s))))
word_applied words.WSubstr (Text s ∷ Number from ∷ Number len ∷ []) = part_of_text s from len
word_applied words.WIndexset (Set a ∷ []) = Ok (Set a)
word_applied _ _ = Err WrongKind

-- ---- sets

-- the set of values, each a number or a text, as tuples of one component
abbrev pub with_member : List (List Elem) → Value → Result (List (List Elem)) Kind
with_member tuples v = element_of_value v >>= λ member. Ok (tuples ++ (member ∷ []) ∷ [])

-- `{a, b}`
unfoldable pub set_of_members : List Value → Result Value Kind
set_of_members values = goes with_member [] values >>= λ tuples. set_or_fault (set_listed tuples)

-- `{a .. b by c}`, with the step 1 where none is given; all three are whole
unfoldable pub set_between : Value → Value → Value → Result Value Kind
set_between (Number n) (Number m) (Number s) =
    if is_whole n && is_whole m && is_whole s then set_or_fault (range_of n.numer m.numer s.numer) else Err NotInteger
set_between _ _ _ = Err WrongKind

-- numbers of a projection's positions so far, with one more
abbrev pub with_position : List Rational → Value → Result (List Rational) Kind
with_position positions v = number_of_value v >>= λ q. Ok (positions ++ q ∷ [])

-- whether a position is that of a component of the set's tuples; of no tuples every position is
abbrev pub is_position : List (List Elem) → Rational → Bool
is_position [] q = true
is_position (tuple ∷ tuples) q = not (int_lt q.numer (pos 1)) && not (int_lt (pos (length tuple)) q.numer)

-- a set's tuples cut to the components at these positions
unfoldable pub projected_at : List (List Elem) → List Rational → Result Value Kind
projected_at a positions =
    if list_all is_whole positions
    then (if list_all (is_position a) positions then Ok (Set (projected a (map (λ q. unsigned_abs q.numer) positions))) else Err NoEntry)
    else Err NotInteger

-- `proj(A, <b, c>)`
unfoldable pub projection : Value → List Value → Result Value Kind
projection v values = do
  a ← set_of_value v
  positions ← goes with_position [] values
  projected_at a positions

-- ---- functions of the model

-- whether a value is of the kind that the word of a definition says
abbrev pub is_defined_kind : Word → Value → Bool
is_defined_kind words.WDefnumb (Number q) = true
is_defined_kind words.WDefstrg (Text s) = true
is_defined_kind words.WDefbool (Truth b) = true
is_defined_kind words.WDefset (Set a) = true
is_defined_kind _ _ = false

-- the result of a function, which is of the kind that its definition says
unfoldable pub of_defined_kind : Word → Value → Result Value Kind
of_defined_kind word v = if is_defined_kind word v then Ok v else Err WrongKind
