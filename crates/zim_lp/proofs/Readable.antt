-- What the written parts of a file say, and when they can be read: numbers are numbers, names are names, no two
-- columns have the same name, and each term is over a column.
use Rattle.std.proofs.Common.{◌≡◌, true, List, [], ◌∷◌, map, Option, Some, None, unwrap_or, sym, ap, subst}
use Rattle.std.specs.Prelude.{⊤, option_map}
use Rattle.std.specs.List.{AllByRecursion}
use Rattle.zim_rational.specs.Rational.{Rational, zero}
use Rattle.zim_instance.specs.Instance.{NamedTerm, Row}
use Rattle.zim_instance.specs.System.{NamedColumn, System, HasDistinctNames}
use Rattle.zim_rows.specs.declared.rows.Sense.{Sense}
use Rattle.zim_rows.specs.declared.rows.Sense.TheVariants.{AtLeast, AtMost, Equal}
use Rattle.zim_lp.specs.Words.{Word}
use Rattle.zim_lp.specs.Numerals.{number_of_word}
use Rattle.zim_lp.specs.Program.{is_among}
use Rattle.zim_lp.specs.Syntax.{is_lp_name, is_label}
use Rattle.zim_lp.specs.FileText.{WrittenNumber, WrittenTerm, WrittenRow, WrittenColumn, WrittenFile, number_text}
use Rattle.zim_lp.proofs.Cutting.{IsWord}
use Rattle.zim_lp.proofs.Numbers.{IsNumber, reads_number}

-- what is said

abbrev pub number_said : WrittenNumber → Rational
number_said n = unwrap_or (number_of_word (number_text n)) zero

abbrev pub term_said : WrittenTerm → NamedTerm
term_said t = record { name = t.name; coefficient = number_said t.number }

-- the row that a relation and a right side make of terms
abbrev pub row_by : Sense → List NamedTerm → Rational → Row
row_by AtLeast terms right = record { terms = terms; low = Some right; high = None }
row_by AtMost terms right = record { terms = terms; low = None; high = Some right }
row_by Equal terms right = record { terms = terms; low = Some right; high = Some right }

abbrev pub row_said : WrittenRow → Row
row_said r = row_by r.sense (map term_said r.terms) (number_said r.right)

abbrev pub column_said : WrittenColumn → NamedColumn
column_said c = record {
  name = c.name;
  column = record { integer = c.integer; lower = option_map number_said c.lower; upper = option_map number_said c.upper };
}

abbrev pub system_said : WrittenFile → System
system_said file = record {
  columns = map column_said file.columns;
  rows = map row_said file.rows;
  objective = map term_said file.objective;
  maximises = file.maximises;
}

-- what can be read

abbrev pub IsReadableNumber : WrittenNumber → Type 0
IsReadableNumber n = IsNumber n (number_said n)

pub record IsReadableName (w : Word) : Type 0 where
  pub word : IsWord w
  pub name : is_lp_name w ≡ true

pub record IsReadableTerm (t : WrittenTerm) : Type 0 where
  pub number : IsReadableNumber t.number
  pub name : IsReadableName t.name

-- one term or more
abbrev pub AreReadableTerms : List WrittenTerm → Type 0
AreReadableTerms [] = ⊥
AreReadableTerms (t ∷ ts) = IsReadableTerm t × AllByRecursion IsReadableTerm ts

pub record IsReadableRow (r : WrittenRow) : Type 0 where
  pub word : IsWord r.label
  pub label : is_label r.label ≡ true
  pub terms : AreReadableTerms r.terms
  pub right : IsReadableNumber r.right

abbrev pub IsReadableEnd : Option WrittenNumber → Type 0
IsReadableEnd None = ⊤
IsReadableEnd (Some n) = IsReadableNumber n

pub record IsReadableColumn (c : WrittenColumn) : Type 0 where
  pub name : IsReadableName c.name
  pub lower : IsReadableEnd c.lower
  pub upper : IsReadableEnd c.upper

-- the names of columns
abbrev pub column_names : List WrittenColumn → List Word
column_names columns = map (λ (c : WrittenColumn). c.name) columns

-- every term of a list is over one of the names
abbrev pub AreOver : List Word → List WrittenTerm → Type 0
AreOver names terms = AllByRecursion (λ (t : WrittenTerm). is_among names t.name ≡ true) terms

pub record IsReadableFile (file : WrittenFile) : Type 0 where
  pub objective : AreReadableTerms file.objective
  pub objective_over : AreOver (column_names file.columns) file.objective
  pub rows : AllByRecursion IsReadableRow file.rows
  pub rows_over : AllByRecursion (λ (r : WrittenRow). AreOver (column_names file.columns) r.terms) file.rows
  pub columns : AllByRecursion IsReadableColumn file.columns
  pub distinct : HasDistinctNames (map column_said file.columns)

-- a number says what it reads as

pub number_said-is : (n : WrittenNumber) (q : Rational) → IsNumber n q → number_said n ≡ q
number_said-is n q is = ap (λ o. unwrap_or o zero) (reads_number n q is)

pub IsReadableNumber-from : (n : WrittenNumber) (q : Rational) → IsNumber n q → IsReadableNumber n
IsReadableNumber-from n q is = subst (λ r. IsNumber n r) (sym (number_said-is n q is)) is
