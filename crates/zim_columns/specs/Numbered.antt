-- How declared columns are kept.
use Rattle.std.specs.Prelude.{ℕ, ◌≡◌, All, IsTrue, List}
use Rattle.zim_tuples.specs.declared.elements.Elem.{Elem}
use Rattle.zim_columns.specs.declared.declared.Declared.{Declared}
use Rattle.zim_columns.specs.declared.numbers.NumberTable.{NumberTable}
use Rattle.zim_columns.specs.Names.{IsFoundByName, are_rising, column_declared}
use Rattle.zim_columns.specs.Parts.{HasPartsWithin}
use Rattle.zim_columns.specs.Numbers.{table_number}

-- Each is found by its name and its tuple, so no two have the same; their numbers rise; what they hold is within the limit; and the table has
-- the numbers that are found so.
pub record AreNumbered (columns : List Declared) (table : NumberTable) : Type 0 where
  pub found : All (IsFoundByName columns) columns
  pub rising : IsTrue (are_rising 1 columns)
  pub parts : All HasPartsWithin columns
  pub numbers : (name : List ℕ) (tuple : List Elem) → table_number table name tuple ≡ column_declared columns name tuple
