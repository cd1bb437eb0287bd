-- Texts with what they say in the free MPS format, and texts that say nothing in it.
use Rattle.std.specs.Prelude.{◌≡◌, ℕ, pos, negsuc, true, false, List, [], ◌∷◌, Some, None, option_map, codes}
use Rattle.zim_instance.specs.Seen.{Seen, seen}
use Rattle.zim_fields.specs.Fields.{Field}
use Rattle.zim_mps.specs.Reader.{mps}

-- A text has an instance, of which this is seen at some names.
abbrev pub IsReadAs : List ℕ → List Field → Seen → Type 0
IsReadAs text names is = option_map (seen names) (mps text) ≡ Some is

-- A text has no instance.
abbrev pub IsRefused : List ℕ → Type 0
IsRefused text = mps text ≡ None

-- What these texts say.
pub record ExamplesAreRead : Type 0 where
  -- A range is above the right side by its absolute value; a column without a bound is real and from 0 up.
  pub range_from_its_right_side :
      IsReadAs (codes "NAME zimplc\nROWS\n N obj\n G r1\nCOLUMNS\n x1 obj 2\n x1 r1 1.5\nRHS\n RHS r1 2\nRANGES\n RNG r1 -6\nBOUNDS\nENDATA\n")
      (codes "x1" ∷ codes "x2" ∷ [])
      (record { columns = Some (record { integer = false; lower = Some (pos 0, 1); upper = None }) ∷ None ∷ []; rows = record { terms = (codes "x1", (pos 3, 2)) ∷ []; low = Some (pos 2, 1); high = Some (pos 8, 1) } ∷ []; objective = (codes "x1", (pos 2, 1)) ∷ []; maximises = false })
  -- Rows of each kind; a right side without a line is 0.
  pub each_kind_of_row :
      IsReadAs (codes "NAME zimplc\nROWS\n N obj\n G r1\n L r2\n E r3\nCOLUMNS\n x1 obj 0\n x1 r1 1\n x1 r2 1\nRHS\n RHS r2 -3\nBOUNDS\nENDATA\n")
      (codes "x1" ∷ [])
      (record { columns = Some (record { integer = false; lower = Some (pos 0, 1); upper = None }) ∷ []; rows = record { terms = (codes "x1", (pos 1, 1)) ∷ []; low = Some (pos 0, 1); high = None } ∷ record { terms = (codes "x1", (pos 1, 1)) ∷ []; low = None; high = Some (negsuc 2, 1) } ∷ record { terms = []; low = Some (pos 0, 1); high = Some (pos 0, 1) } ∷ []; objective = (codes "x1", (pos 0, 1)) ∷ []; maximises = false })
  -- An upper end of 0 or more leaves the lower one at 0.
  pub upper_end_alone :
      IsReadAs (codes "NAME zimplc\nROWS\n N obj\nCOLUMNS\n x1 obj 1\nRHS\nBOUNDS\n UP BND x1 4\nENDATA\n")
      (codes "x1" ∷ [])
      (record { columns = Some (record { integer = false; lower = Some (pos 0, 1); upper = Some (pos 4, 1) }) ∷ []; rows = []; objective = (codes "x1", (pos 1, 1)) ∷ []; maximises = false })
  -- The lines of one column's ends stand in any order.
  pub both_ends_in_any_order :
      IsReadAs (codes "NAME zimplc\nROWS\n N obj\nCOLUMNS\n x1 obj 1\nRHS\nBOUNDS\n UP BND x1 -1\n LO BND x1 -2\nENDATA\n")
      (codes "x1" ∷ [])
      (record { columns = Some (record { integer = false; lower = Some (negsuc 1, 1); upper = Some (negsuc 0, 1) }) ∷ []; rows = []; objective = (codes "x1", (pos 1, 1)) ∷ []; maximises = false })
  -- An upper end below 0 stands beside a lower end that is said.
  pub infinite_lower_end :
      IsReadAs (codes "NAME zimplc\nROWS\n N obj\nCOLUMNS\n x1 obj 1\nRHS\nBOUNDS\n MI BND x1\n UP BND x1 -1\nENDATA\n")
      (codes "x1" ∷ [])
      (record { columns = Some (record { integer = false; lower = None; upper = Some (negsuc 0, 1) }) ∷ []; rows = []; objective = (codes "x1", (pos 1, 1)) ∷ []; maximises = false })
  -- The columns between the markers are integer.
  pub integer_columns :
      IsReadAs (codes "NAME zimplc\nROWS\n N obj\nCOLUMNS\n x1 obj 1\n MARKER 'MARKER' 'INTORG'\n x2 obj 1\n MARKER 'MARKER' 'INTEND'\nRHS\nBOUNDS\n LO BND x2 0\n PL BND x2\nENDATA\n")
      (codes "x1" ∷ codes "x2" ∷ [])
      (record { columns = Some (record { integer = false; lower = Some (pos 0, 1); upper = None }) ∷ Some (record { integer = true; lower = Some (pos 0, 1); upper = None }) ∷ []; rows = []; objective = (codes "x1", (pos 1, 1)) ∷ (codes "x2", (pos 1, 1)) ∷ []; maximises = false })
  -- The lines of a column don't stand together.
  pub column_in_two_places : IsRefused (codes "NAME zimplc\nROWS\n N obj\n G r1\nCOLUMNS\n x1 obj 1\n x2 obj 1\n x1 r1 1\nRHS\nBOUNDS\nENDATA\n")
  -- An entry is said twice.
  pub entry_said_twice : IsRefused (codes "NAME zimplc\nROWS\n N obj\n G r1\nCOLUMNS\n x1 obj 1\n x1 r1 1\n x1 r1 2\nRHS\nBOUNDS\nENDATA\n")
  -- A lower end is said twice.
  pub lower_end_said_twice : IsRefused (codes "NAME zimplc\nROWS\n N obj\nCOLUMNS\n x1 obj 1\nRHS\nBOUNDS\n LO BND x1 1\n LO BND x1 2\nENDATA\n")
  -- A lower end is said to be finite, and then infinite.
  pub infinite_end_said_twice : IsRefused (codes "NAME zimplc\nROWS\n N obj\nCOLUMNS\n x1 obj 1\nRHS\nBOUNDS\n LO BND x1 1\n FR BND x1\nENDATA\n")
  -- An upper end is said twice.
  pub upper_end_said_twice : IsRefused (codes "NAME zimplc\nROWS\n N obj\nCOLUMNS\n x1 obj 1\nRHS\nBOUNDS\n UP BND x1 1\n PL BND x1\nENDATA\n")
  -- A right side is said twice.
  pub right_side_said_twice : IsRefused (codes "NAME zimplc\nROWS\n N obj\n G r1\nCOLUMNS\n x1 r1 1\nRHS\n RHS r1 1\n RHS r1 2\nBOUNDS\nENDATA\n")
  -- A range is said twice.
  pub range_said_twice : IsRefused (codes "NAME zimplc\nROWS\n N obj\n G r1\nCOLUMNS\n x1 r1 1\nRHS\n RHS r1 1\nRANGES\n RNG r1 1\n RNG r1 2\nBOUNDS\nENDATA\n")
  -- An upper end below 0 stands alone.
  pub upper_end_below_zero : IsRefused (codes "NAME zimplc\nROWS\n N obj\nCOLUMNS\n x1 obj 1\nRHS\nBOUNDS\n UP BND x1 -1\nENDATA\n")
  -- An end of an integer column isn't said.
  pub integer_column_without_end : IsRefused (codes "NAME zimplc\nROWS\n N obj\nCOLUMNS\n MARKER 'MARKER' 'INTORG'\n x1 obj 0\n MARKER 'MARKER' 'INTEND'\nRHS\nBOUNDS\n LO BND x1 0\nENDATA\n")
  -- A range stands at a row that isn't G.
  pub range_of_an_equality : IsRefused (codes "NAME zimplc\nROWS\n N obj\n E r1\nCOLUMNS\n x1 r1 1\nRHS\nRANGES\n RNG r1 6\nBOUNDS\nENDATA\n")
  -- There are two N rows.
  pub two_objectives : IsRefused (codes "NAME zimplc\nROWS\n N obj\n N cost\nCOLUMNS\n x1 obj 0\nRHS\nBOUNDS\nENDATA\n")
