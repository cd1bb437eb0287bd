-- Texts with what they say in the LP format, and texts that say nothing in it.
use Rattle.std.specs.Prelude.{◌≡◌, ℕ, pos, negsuc, true, false, List, [], ◌∷◌, Some, None, option_map, codes}
use Rattle.zim_instance.specs.Seen.{Seen, seen}
use Rattle.zim_lp.specs.Reader.{lp}

-- A text has an instance, of which this is seen at some names.
abbrev pub IsReadAs : List ℕ → List (List ℕ) → Seen → Type 0
IsReadAs text names is = option_map (seen names) (lp text) ≡ Some is

-- A text has no instance.
abbrev pub IsRefused : List ℕ → Type 0
IsRefused text = lp text ≡ None

-- What these texts say.
pub record ExamplesAreRead : Type 0 where
  -- A column without a bound is real and from 0 up; no other name has a column.
  pub default_ends :
      IsReadAs (codes "Minimize obj: 1 x Subject To Bounds End")
      (codes "x" ∷ codes "y" ∷ [])
      (record { columns = Some (record { integer = false; lower = Some (pos 0, 1); upper = None }) ∷ None ∷ []; rows = []; objective = (codes "x", (pos 1, 1)) ∷ []; maximises = false })
  -- `NAME >= l` keeps an upper end.
  pub lower_end_alone :
      IsReadAs (codes "Minimize obj: 1 x Subject To Bounds 1 <= x <= 5 x >= 2 End")
      (codes "x" ∷ [])
      (record { columns = Some (record { integer = false; lower = Some (pos 2, 1); upper = Some (pos 5, 1) }) ∷ []; rows = []; objective = (codes "x", (pos 1, 1)) ∷ []; maximises = false })
  -- The other bounds set both ends anew.
  pub both_ends_anew :
      IsReadAs (codes "Minimize obj: 1 x Subject To Bounds x >= 3 -inf <= x <= 4 End")
      (codes "x" ∷ [])
      (record { columns = Some (record { integer = false; lower = None; upper = Some (pos 4, 1) }) ∷ []; rows = []; objective = (codes "x", (pos 1, 1)) ∷ []; maximises = false })
  -- A later bound makes a column free.
  pub later_bound :
      IsReadAs (codes "Minimize obj: 1 x Subject To Bounds 1 <= x <= 5 x free End")
      (codes "x" ∷ [])
      (record { columns = Some (record { integer = false; lower = None; upper = None }) ∷ []; rows = []; objective = (codes "x", (pos 1, 1)) ∷ []; maximises = false })
  -- Comments, decimals, signs, a row of each kind, and an integer column.
  pub each_part :
      IsReadAs (codes "\\ every part\nMaximize\n obj: 2.5 n - 1 y\nSubject To\n r: 1 n + 1 n = -3 \\ a row\n s: 0 y >= 1\n t: 1 y <= 2\nBounds\n 1 <= n <= 2.5\nGenerals\n n\nEnd")
      (codes "n" ∷ codes "y" ∷ [])
      (record { columns = Some (record { integer = true; lower = Some (pos 1, 1); upper = Some (pos 5, 2) }) ∷ Some (record { integer = false; lower = Some (pos 0, 1); upper = None }) ∷ []; rows = record { terms = (codes "n", (pos 1, 1)) ∷ (codes "n", (pos 1, 1)) ∷ []; low = Some (negsuc 2, 1); high = Some (negsuc 2, 1) } ∷ record { terms = (codes "y", (pos 0, 1)) ∷ []; low = Some (pos 1, 1); high = None } ∷ record { terms = (codes "y", (pos 1, 1)) ∷ []; low = None; high = Some (pos 2, 1) } ∷ []; objective = (codes "n", (pos 5, 2)) ∷ (codes "y", (negsuc 0, 1)) ∷ []; maximises = true })
  -- The last word is missing.
  pub no_end : IsRefused (codes "Minimize obj: 1 x Subject To Bounds")
  -- A word stands behind the last one.
  pub words_behind_the_end : IsRefused (codes "Minimize obj: 1 x Subject To Bounds End End")
  -- A section word is no name.
  pub section_word_as_name : IsRefused (codes "Minimize obj: 1 End Subject To Bounds End")
  -- `free` is no name.
  pub free_as_name : IsRefused (codes "Minimize obj: 1 free Subject To Bounds End")
  -- A term has a coefficient.
  pub no_coefficient : IsRefused (codes "Minimize obj: x Subject To Bounds End")
  -- `Generals` has a name.
  pub no_name_under_generals : IsRefused (codes "Minimize obj: 1 x Subject To Bounds Generals End")
  -- A point stands before a digit.
  pub no_digit_behind_the_point : IsRefused (codes "Minimize obj: 1. x Subject To Bounds End")
  -- A point stands behind a digit.
  pub no_digit_before_the_point : IsRefused (codes "Minimize obj: .5 x Subject To Bounds End")
  -- `NAME <= u` is no bound.
  pub upper_end_alone : IsRefused (codes "Minimize obj: 1 x Subject To Bounds x <= 4 End")
