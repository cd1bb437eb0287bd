-- Texts of small programs, written out.
use Rattle.std.proofs.Common.{◌≡◌, List, [], ◌∷◌, Bool, true, false, Option, Some, None, refl, pos, negsuc, lit<}
use Rattle.std.proofs.lemmas.Fmt.{decimal_digit, decimal_step}
use Rattle.std.specs.Prelude.{codes, decimal}
use Rattle.zim_fault.specs.declared.faults.Place.{Place}
use Rattle.zim_rational.specs.Gcd.{gcd, euclid}
use Rattle.zim_rational.specs.Rational.{Rational, zero, one, whole, ratio, plus, negate, minus, same}
use Rattle.zim_decimal.specs.Short.{is_short, decimals, point_and, decimal_text, short_text}
use Rattle.zim_linear.specs.Forms.{Term}
use Rattle.zim_rows.specs.declared.rows.Column.{Column}
use Rattle.zim_rows.specs.declared.rows.Row.{Row}
use Rattle.zim_rows.specs.declared.rows.RowKind.{RowKind}
use Rattle.zim_rows.specs.declared.rows.RowKind.TheVariants.{One, Range}
use Rattle.zim_rows.specs.declared.rows.Sense.TheVariants.{AtLeast, AtMost}
use Rattle.zim_rows.specs.Program.{no_target}
use Rattle.zim_mps.specs.Text.{mps_text}

-- ---- numbers

zero_digit : decimal 0 ≡ codes "0"
zero_digit = decimal_digit 0 (lit< tt)

one_digit : decimal 1 ≡ codes "1"
one_digit = decimal_digit 1 (lit< tt)

two_digit : decimal 2 ≡ codes "2"
two_digit = decimal_digit 2 (lit< tt)

three_digit : decimal 3 ≡ codes "3"
three_digit = decimal_digit 3 (lit< tt)

text_zero : short_text zero ≡ codes "0"
unfolding short_text decimal_text decimals point_and zero whole
text_zero = simp zero_digit

text_one : short_text one ≡ codes "1"
unfolding short_text decimal_text decimals point_and one whole
text_one = simp one_digit

text_two : short_text (whole (pos 2)) ≡ codes "2"
unfolding short_text decimal_text decimals point_and whole
text_two = simp two_digit

text_three : short_text (whole (pos 3)) ≡ codes "3"
unfolding short_text decimal_text decimals point_and whole
text_three = simp three_digit

text_minus_one : short_text (whole (negsuc 0)) ≡ codes "-1"
unfolding short_text decimal_text decimals point_and whole
text_minus_one = simp one_digit

text_minus_two : short_text (negate (whole (pos 2))) ≡ codes "-2"
unfolding short_text decimal_text decimals point_and negate ratio gcd euclid whole
text_minus_two = simp two_digit

text_minus_zero : short_text (negate zero) ≡ codes "0"
unfolding short_text decimal_text decimals point_and negate ratio gcd euclid zero whole
text_minus_zero = simp zero_digit

text_minus_fifteen : short_text (negate (whole (pos 15))) ≡ codes "-15"
unfolding short_text decimal_text decimals point_and negate ratio gcd euclid whole
text_minus_fifteen = simp (decimal_step 15 (lit< tt) (lit< tt), one_digit)

six_digit : decimal 6 ≡ codes "6"
six_digit = decimal_digit 6 (lit< tt)

text_difference : short_text (minus (whole (pos 8)) (whole (pos 2))) ≡ codes "6"
unfolding short_text decimal_text decimals point_and minus plus negate ratio gcd euclid whole
text_difference = simp six_digit

-- 5/2 is written 2.5
text_decimal : short_text (ratio (pos 5) 2) ≡ codes "2.5"
unfolding short_text decimal_text decimals point_and ratio gcd euclid
text_decimal = simp two_digit

-- ---- texts of programs

zero_short : is_short zero ≡ true
unfolding is_short zero whole
zero_short = refl

one_short : is_short one ≡ true
unfolding is_short one whole
one_short = refl

two_short : is_short (whole (pos 2)) ≡ true
unfolding is_short whole
two_short = refl

third_long : is_short (ratio (pos 1) 3) ≡ false
unfolding is_short ratio gcd euclid
third_long = refl

no_constant : same zero zero ≡ true
unfolding same zero whole
no_constant = refl

some_constant : same (whole (pos 15)) zero ≡ false
unfolding same zero whole
some_constant = refl

place : Place
place = record { file = 0; line = 1 }

abbrev column : Bool → Option Rational → Option Rational → Column
column integer low high = record { integer = integer; sides = record { low = low; high = high } }

-- a real column from 0 up
abbrev plain : Column
plain = column false (Some zero) None

abbrev row : List Term → RowKind → Row
row terms kind = record { from = record { statement = 3; place = place }; factor = pos 1; terms = terms; kind = kind }

-- minimise 2 x + 3 y where x + y is at least 1
first_text : mps_text (record {
  columns = plain ∷ plain ∷ [];
  rows = row ((1, one) ∷ (2, one) ∷ []) (One AtLeast one) ∷ [];
  target = record { maximize = false; place = Some place; factor = pos 1; terms = (1, whole (pos 2)) ∷ (2, whole (pos 3)) ∷ []; constant = zero };
}) ≡ codes "NAME zimplc\nROWS\n N obj\n G r1\nCOLUMNS\n x1 obj 2\n x1 r1 1\n x2 obj 3\n x2 r1 1\nRHS\n RHS r1 1\nBOUNDS\n LO BND x1 0\n PL BND x1\n LO BND x2 0\n PL BND x2\nENDATA\n"
first_text = simp (one_digit, two_digit, text_one, text_two, text_three, text_zero, zero_short, no_constant)

-- an empty file
empty_text : mps_text (record { columns = []; rows = []; target = no_target }) ≡ codes "NAME zimplc\nROWS\n N obj\nCOLUMNS\n one obj 0\nRHS\nBOUNDS\n LO BND one 1\n UP BND one 1\nENDATA\n"
empty_text = simp (text_one, text_zero)

-- maximise 2/3 x + 5, times 3
maximised_text : mps_text (record {
  columns = plain ∷ [];
  rows = [];
  target = record { maximize = true; place = Some place; factor = pos 3; terms = (1, whole (pos 2)) ∷ []; constant = whole (pos 15) };
}) ≡ codes "NAME zimplc\nROWS\n N obj\nCOLUMNS\n x1 obj -2\n one obj -15\nRHS\nBOUNDS\n LO BND x1 0\n PL BND x1\n LO BND one 1\n UP BND one 1\nENDATA\n"
maximised_text = simp (one_digit, text_one, text_zero, text_minus_two, text_minus_fifteen, zero_short, some_constant)

-- a column from 1/3 up, which stands as the row 3 x >= 1
long_side_text : mps_text (record {
  columns = column false (Some (ratio (pos 1) 3)) None ∷ [];
  rows = row ((1, whole (pos 3)) ∷ []) (One AtLeast one) ∷ [];
  target = no_target;
}) ≡ codes "NAME zimplc\nROWS\n N obj\n G r1\nCOLUMNS\n x1 obj 0\n x1 r1 3\nRHS\n RHS r1 1\nBOUNDS\n FR BND x1\nENDATA\n"
long_side_text = simp (one_digit, text_one, text_three, text_zero, third_long, no_constant)

-- x - x is at most -1
cancelled_text : mps_text (record { columns = plain ∷ []; rows = row [] (One AtMost (whole (negsuc 0))) ∷ []; target = no_target }) ≡ codes "NAME zimplc\nROWS\n N obj\n L r1\nCOLUMNS\n x1 obj 0\nRHS\n RHS r1 -1\nBOUNDS\n LO BND x1 0\n PL BND x1\nENDATA\n"
cancelled_text = simp (one_digit, text_minus_one, text_zero, zero_short, no_constant)

-- x + y lies from 2 to 8
range_text : mps_text (record {
  columns = plain ∷ plain ∷ [];
  rows = row ((1, one) ∷ (2, one) ∷ []) (Range (whole (pos 2)) (whole (pos 8))) ∷ [];
  target = no_target;
}) ≡ codes "NAME zimplc\nROWS\n N obj\n G r1\nCOLUMNS\n x1 obj 0\n x1 r1 1\n x2 obj 0\n x2 r1 1\nRHS\n RHS r1 2\nRANGES\n RNG r1 6\nBOUNDS\n LO BND x1 0\n PL BND x1\n LO BND x2 0\n PL BND x2\nENDATA\n"
range_text = simp (one_digit, two_digit, text_one, text_two, text_zero, text_difference, zero_short, no_constant)

-- an integer column from 1 to 2
integer_text : mps_text (record { columns = column true (Some one) (Some (whole (pos 2))) ∷ []; rows = []; target = no_target }) ≡ codes "NAME zimplc\nROWS\n N obj\nCOLUMNS\n MARKER 'MARKER' 'INTORG'\n x1 obj 0\n MARKER 'MARKER' 'INTEND'\nRHS\nBOUNDS\n LO BND x1 1\n UP BND x1 2\nENDATA\n"
integer_text = simp (one_digit, text_one, text_two, text_zero, one_short, two_short, no_constant)

-- two integer columns between real ones
marked_text : mps_text (record { columns = plain ∷ column true None (Some one) ∷ column true None None ∷ []; rows = []; target = record { maximize = true; place = Some place; factor = pos 1; terms = (2, whole (pos 2)) ∷ []; constant = whole (pos 15) } }) ≡ codes "NAME zimplc\nROWS\n N obj\nCOLUMNS\n x1 obj 0\n MARKER 'MARKER' 'INTORG'\n x2 obj -2\n x3 obj 0\n MARKER 'MARKER' 'INTEND'\n one obj -15\nRHS\nBOUNDS\n LO BND x1 0\n PL BND x1\n MI BND x2\n UP BND x2 1\n FR BND x3\n LO BND one 1\n UP BND one 1\nENDATA\n"
marked_text = simp (one_digit, two_digit, three_digit, text_one, text_zero, text_minus_zero, text_minus_two, text_minus_fifteen, zero_short, one_short, some_constant)
