-- Texts with the table that they are, and texts that are no table.
use Rattle.std.specs.Prelude.{◌≡◌, ℕ, pos, negsuc, List, [], ◌∷◌, Some, None, codes}
use Rattle.zim_rational.specs.Rational.{ratio}
use Rattle.zim_table.specs.Tuples.Component.{NumberOf, TextOf}
use Rattle.zim_table.specs.Reader.{Table, table}

-- A text is this table.
abbrev pub IsReadAs : List ℕ → Table → Type 0
IsReadAs text is = table text ≡ Some is

-- A text is no table.
abbrev pub IsRefused : List ℕ → Type 0
IsRefused text = table text ≡ None

-- What these texts are.
pub record ExamplesAreRead : Type 0 where
  -- Two columns, and an objective that is maximised.
  pub two_columns :
      IsReadAs (codes "zimplc table 1\nfactor lp 3\nfactor mps -3\nobjective maximize c\ncolumn x1 x\ncolumn x2 y\nrow r1 a 1 1\nrow r2 a 2 21\nend\n")
      (record { pairs = record { column = codes "x1"; name = codes "x"; tuple = [] } ∷ record { column = codes "x2"; name = codes "y"; tuple = [] } ∷ []; lp_factor = pos 3; mps_factor = negsuc 2 })
  -- Lines of all kinds; a comma, a blank and a quote stand escaped in a tuple.
  pub all_kinds_of_lines :
      IsReadAs (codes "zimplc table 1\nfactor lp 1\nfactor mps 1\nobjective none\ncolumn x1 x <1,\"a,b%20%22\",-3/2>\nstartval x1 1/2\npriority x1 10\nhelper x2\ncolumn x3 y\noffset one\nrow r1 a 1 21\nend\n")
      (record { pairs = record { column = codes "x1"; name = codes "x"; tuple = NumberOf (ratio (pos 1) 1) ∷ TextOf (codes "a,b \"") ∷ NumberOf (ratio (negsuc 2) 2) ∷ [] } ∷ record { column = codes "x3"; name = codes "y"; tuple = [] } ∷ []; lp_factor = pos 1; mps_factor = pos 1 })
  -- Factors may be as long as 128 bits allow.
  pub long_factors :
      IsReadAs (codes "zimplc table 1\nfactor lp 170141183460469231731687303715884105727\nfactor mps -170141183460469231731687303715884105727\nobjective maximize c\nend\n")
      (record { pairs = []; lp_factor = pos 170141183460469231731687303715884105727; mps_factor = negsuc 170141183460469231731687303715884105726 })
  -- The LP's factor is from 1.
  pub factor_zero : IsRefused (codes "zimplc table 1\nfactor lp 0\nfactor mps 0\nobjective none\nend\n")
  -- The LP's factor has no sign.
  pub negative_factor : IsRefused (codes "zimplc table 1\nfactor lp -1\nfactor mps -1\nobjective none\nend\n")
  -- The MPS's factor is that of the LP.
  pub another_factor : IsRefused (codes "zimplc table 1\nfactor lp 3\nfactor mps 2\nobjective minimize c\nend\n")
  -- The MPS's factor is negative where the objective is maximised.
  pub positive_where_maximised : IsRefused (codes "zimplc table 1\nfactor lp 3\nfactor mps 3\nobjective maximize c\nend\n")
  -- It isn't where the objective is minimised.
  pub negative_where_minimised : IsRefused (codes "zimplc table 1\nfactor lp 3\nfactor mps -3\nobjective minimize c\nend\n")
  -- It isn't where there is no objective.
  pub negative_without_objective : IsRefused (codes "zimplc table 1\nfactor lp 1\nfactor mps -1\nobjective none\nend\n")
  -- The columns of two variables are exchanged.
  pub crossed_columns : IsRefused (codes "zimplc table 1\nfactor lp 1\nfactor mps 1\nobjective none\ncolumn x2 x\ncolumn x1 y\nend\n")
  -- A column is left out.
  pub column_left_out : IsRefused (codes "zimplc table 1\nfactor lp 1\nfactor mps 1\nobjective none\ncolumn x1 x\ncolumn x3 y\nend\n")
  -- A column stands twice.
  pub column_said_twice : IsRefused (codes "zimplc table 1\nfactor lp 1\nfactor mps 1\nobjective none\ncolumn x1 x\ncolumn x1 y\nend\n")
  -- A column is left out before a helper.
  pub helper_left_out : IsRefused (codes "zimplc table 1\nfactor lp 1\nfactor mps 1\nobjective none\ncolumn x1 x\nhelper x3\nend\n")
  -- The columns begin with x1.
  pub first_column_left_out : IsRefused (codes "zimplc table 1\nfactor lp 1\nfactor mps 1\nobjective none\nhelper x2\nend\n")
  -- A priority names another column than the one before it.
  pub priority_of_another_column : IsRefused (codes "zimplc table 1\nfactor lp 1\nfactor mps 1\nobjective none\ncolumn x1 x\ncolumn x2 y\npriority x1 10\nend\n")
  -- A priority is said twice.
  pub priority_said_twice : IsRefused (codes "zimplc table 1\nfactor lp 1\nfactor mps 1\nobjective none\ncolumn x1 x\npriority x1 10\npriority x1 10\nend\n")
  -- A start value is said twice, around a priority.
  pub start_value_said_twice : IsRefused (codes "zimplc table 1\nfactor lp 1\nfactor mps 1\nobjective none\ncolumn x1 x\nstartval x1 1\npriority x1 10\nstartval x1 1\nend\n")
  -- A helper has no priority.
  pub priority_of_a_helper : IsRefused (codes "zimplc table 1\nfactor lp 1\nfactor mps 1\nobjective none\ncolumn x1 x\nhelper x2\npriority x2 10\nend\n")
  -- A row is left out.
  pub row_left_out : IsRefused (codes "zimplc table 1\nfactor lp 1\nfactor mps 1\nobjective none\nrow r1 a 1 1\nrow r3 a 2 1\nend\n")
  -- The rows begin with r1.
  pub first_row_left_out : IsRefused (codes "zimplc table 1\nfactor lp 1\nfactor mps 1\nobjective none\nrow r2 a 1 1\nend\n")
  -- The place of a row in its statement is from 1.
  pub place_zero : IsRefused (codes "zimplc table 1\nfactor lp 1\nfactor mps 1\nobjective none\nrow r1 a 0 1\nend\n")
  -- A row's factor is from 1.
  pub row_factor_zero : IsRefused (codes "zimplc table 1\nfactor lp 1\nfactor mps 1\nobjective none\nrow r1 a 1 0\nend\n")
  -- A row's factor has no sign.
  pub negative_row_factor : IsRefused (codes "zimplc table 1\nfactor lp 1\nfactor mps 1\nobjective none\nrow r1 a 1 -1\nend\n")
  -- No 0 stands before another digit.
  pub zero_before_a_digit : IsRefused (codes "zimplc table 1\nfactor lp 1\nfactor mps 1\nobjective none\ncolumn x01 x\nend\n")
  -- Nor in a factor.
  pub zero_before_a_factor : IsRefused (codes "zimplc table 1\nfactor lp 01\nfactor mps 01\nobjective none\nend\n")
  -- 0 has no sign.
  pub negative_zero : IsRefused (codes "zimplc table 1\nfactor lp 1\nfactor mps 1\nobjective none\ncolumn x1 x\npriority x1 -0\nend\n")
  -- A fraction stands in lowest terms.
  pub fraction_not_in_lowest_terms : IsRefused (codes "zimplc table 1\nfactor lp 1\nfactor mps 1\nobjective none\ncolumn x1 x\nstartval x1 2/4\nend\n")
  -- A whole number stands without a slash.
  pub fraction_over_one : IsRefused (codes "zimplc table 1\nfactor lp 1\nfactor mps 1\nobjective none\ncolumn x1 x\nstartval x1 3/1\nend\n")
  -- Columns stand before rows.
  pub rows_before_columns : IsRefused (codes "zimplc table 1\nfactor lp 1\nfactor mps 1\nobjective none\nrow r1 a 1 1\ncolumn x1 x\nend\n")
  -- The offset's column stands once.
  pub two_offsets : IsRefused (codes "zimplc table 1\nfactor lp 1\nfactor mps 1\nobjective none\noffset one\noffset one\nend\n")
  -- Nothing stands behind the end.
  pub behind_the_end : IsRefused (codes "zimplc table 1\nfactor lp 1\nfactor mps 1\nobjective none\ncolumn x1 x\nend\nend\n")
  -- The last line is ended.
  pub last_line_not_ended : IsRefused (codes "zimplc table 1\nfactor lp 1\nfactor mps 1\nobjective none\nend")
