-- Small systems with their texts.
use Rattle.std.proofs.Common.{◌≡◌, ℕ, true, false, List, [], ◌∷◌, Option, Some, None, refl, pos, negsuc}
use Rattle.std.specs.Fmt.{digits}
use Rattle.std.specs.Prelude.{codes}
use Rattle.zim_rational.specs.Gcd.{gcd, euclid}
use Rattle.zim_rational.specs.Rational.{Rational, ratio, negate, zero, one, whole, same}
use Rattle.zim_decimal.specs.Short.{is_short, short_text, decimal_text, point_and, decimals}
use Rattle.zim_linear.specs.Forms.{Term}
use Rattle.zim_rows.specs.declared.rows.Column.{Column}
use Rattle.zim_rows.specs.declared.rows.Row.{Row}
use Rattle.zim_rows.specs.declared.rows.RowFrom.{RowFrom}
use Rattle.zim_rows.specs.declared.rows.RowKind.{RowKind}
use Rattle.zim_rows.specs.declared.rows.RowKind.TheVariants.{One, Range}
use Rattle.zim_rows.specs.declared.rows.Sense.TheVariants.{AtLeast, AtMost, Equal}
use Rattle.zim_rows.specs.Program.{LinearProgram, no_target}
use Rattle.zim_lp.specs.FileText.{WrittenFile, file_text}
use Rattle.zim_lp.specs.Text.{lp_text}

-- where a row of these examples comes from
from_somewhere : RowFrom
from_somewhere = record { statement = 0; place = record { file = 0; line = 1 } }

-- a column that is real and between two sides
abbrev real_column : Option Rational → Option Rational → Column
real_column low high = record { integer = false; sides = record { low = low; high = high } }

-- a real column from 0 up
abbrev from_zero : Column
from_zero = real_column (Some zero) None

-- a row by its factor, its terms and its kind
abbrev row : ℕ → List Term → RowKind → Row
row factor terms kind = record { from = from_somewhere; factor = pos factor; terms = terms; kind = kind }

-- x/3 + y/2 <= 1/7 by the factor 21
abbrev fractions : LinearProgram
fractions = record {
  columns = from_zero ∷ from_zero ∷ [];
  rows = row 21 ((1, whole (pos 7)) ∷ (2, ratio (pos 21) 2) ∷ []) (One AtMost (whole (pos 3))) ∷ [];
  target = no_target;
}

fractions-text : lp_text fractions ≡ codes "\\ zimplc\nMinimize\n obj: 0 x1\nSubject To\n r1: 7 x1 + 10.5 x2 <= 3\nBounds\n x1 >= 0\n x2 >= 0\nEnd\n"
unfolding is_short same short_text decimal_text point_and decimals digits negate whole zero one ratio gcd euclid
fractions-text = refl

-- the greatest 2/3 x + 5 by the factor 3
abbrev constant : LinearProgram
constant = record {
  columns = from_zero ∷ [];
  rows = [];
  target = record {
    maximize = true;
    place = Some (record { file = 0; line = 1 });
    factor = pos 3;
    terms = (1, whole (pos 2)) ∷ [];
    constant = whole (pos 15);
  };
}

constant-text : lp_text constant ≡ codes "\\ zimplc\nMaximize\n obj: 2 x1 + 15 one\nSubject To\nBounds\n x1 >= 0\n 1 <= one <= 1\nEnd\n"
unfolding is_short same short_text decimal_text point_and decimals digits negate whole zero one ratio gcd euclid
constant-text = refl

-- a lower side of 1/3, which stands as a row
abbrev third : LinearProgram
third = record {
  columns = real_column (Some (ratio (pos 1) 3)) None ∷ [];
  rows = row 3 ((1, whole (pos 3)) ∷ []) (One AtLeast one) ∷ [];
  target = no_target;
}

third-text : lp_text third ≡ codes "\\ zimplc\nMinimize\n obj: 0 x1\nSubject To\n r1: 3 x1 >= 1\nBounds\n x1 free\nEnd\n"
unfolding is_short same short_text decimal_text point_and decimals digits negate whole zero one ratio gcd euclid
third-text = refl

-- an integer column from 1 to 2, and a real one with an upper side alone
abbrev integer : LinearProgram
integer = record {
  columns =
      record { integer = true; sides = record { low = Some one; high = Some (whole (pos 2)) } }
      ∷ real_column None (Some (negate (ratio (pos 5) 4)))
      ∷ [];
  rows = [];
  target = no_target;
}

integer-text : lp_text integer ≡ codes "\\ zimplc\nMinimize\n obj: 0 x1\nSubject To\nBounds\n 1 <= x1 <= 2\n -inf <= x2 <= -1.25\nGenerals\n x1\nEnd\n"
unfolding is_short same short_text decimal_text point_and decimals digits negate whole zero one ratio gcd euclid
integer-text = refl

-- a row without terms that nothing meets
abbrev no_terms : LinearProgram
no_terms = record { columns = from_zero ∷ []; rows = row 1 [] (One AtMost (whole (negsuc 0))) ∷ []; target = no_target }

no_terms-text : lp_text no_terms ≡ codes "\\ zimplc\nMinimize\n obj: 0 x1\nSubject To\n r1: 0 x1 <= -1\nBounds\n x1 >= 0\nEnd\n"
unfolding is_short same short_text decimal_text point_and decimals digits negate whole zero one ratio gcd euclid
no_terms-text = refl

-- a range from 2 to 8
abbrev range : LinearProgram
range = record {
  columns = from_zero ∷ from_zero ∷ [];
  rows = row 1 ((1, one) ∷ (2, one) ∷ []) (Range (whole (pos 2)) (whole (pos 8))) ∷ [];
  target = no_target;
}

range-text : lp_text range ≡ codes "\\ zimplc\nMinimize\n obj: 0 x1\nSubject To\n r1: 1 x1 + 1 x2 >= 2\n r1u: 1 x1 + 1 x2 <= 8\nBounds\n x1 >= 0\n x2 >= 0\nEnd\n"
unfolding is_short same short_text decimal_text point_and decimals digits negate whole zero one ratio gcd euclid
range-text = refl

-- no column, no row, no objective
no_columns-text : lp_text (record { columns = []; rows = []; target = no_target }) ≡ codes "\\ zimplc\nMinimize\n obj: 0 one\nSubject To\nBounds\n 1 <= one <= 1\nEnd\n"
unfolding is_short same short_text decimal_text point_and decimals digits negate whole zero one ratio gcd euclid
no_columns-text = refl

-- four terms and a constant that are maximised, of which the fifth stands on a line of its own
abbrev five_terms : LinearProgram
five_terms = record {
  columns = from_zero ∷ from_zero ∷ from_zero ∷ from_zero ∷ [];
  rows = [];
  target = record {
    maximize = true;
    place = Some (record { file = 0; line = 1 });
    factor = pos 1;
    terms = (1, whole (negsuc 0)) ∷ (2, whole (negsuc 1)) ∷ (3, whole (pos 3)) ∷ (4, whole (negsuc 3)) ∷ [];
    constant = ratio (pos 1) 2;
  };
}

five_terms-text : lp_text five_terms ≡ codes "\\ zimplc\nMaximize\n obj: -1 x1 - 2 x2 + 3 x3 - 4 x4\n  + 0.5 one\nSubject To\nBounds\n x1 >= 0\n x2 >= 0\n x3 >= 0\n x4 >= 0\n 1 <= one <= 1\nEnd\n"
unfolding is_short same short_text decimal_text point_and decimals digits negate whole zero one ratio gcd euclid
five_terms-text = refl

-- a file that maximises, with decimal numbers, each form of a bound and an integer column
each_part : WrittenFile
each_part = record {
  maximises = true;
  objective = record { number = record { negative = false; absolute = codes "2.5" }; name = codes "n" } ∷ record { number = record { negative = true; absolute = codes "1" }; name = codes "y" } ∷ [];
  rows = record {
    label = codes "r1:";
    terms = record { number = record { negative = false; absolute = codes "1" }; name = codes "n" } ∷ [];
    sense = Equal;
    right = record { negative = true; absolute = codes "3" };
  } ∷ [];
  columns =
      record { name = codes "n"; integer = true; lower = Some (record { negative = false; absolute = codes "1" }); upper = Some (record { negative = false; absolute = codes "2" }) }
      ∷ record { name = codes "y"; integer = false; lower = None; upper = Some (record { negative = false; absolute = codes "4" }) }
      ∷ record { name = codes "z"; integer = false; lower = Some (record { negative = true; absolute = codes "1" }); upper = None }
      ∷ record { name = codes "w"; integer = false; lower = None; upper = None }
      ∷ [];
}

each_part-text : file_text each_part ≡ codes "\\ zimplc\nMaximize\n obj: 2.5 n - 1 y\nSubject To\n r1: 1 n = -3\nBounds\n 1 <= n <= 2\n -inf <= y <= 4\n z >= -1\n w free\nGenerals\n n\nEnd\n"
unfolding each_part
each_part-text = refl
