-- The text of a file in the LP format, put together from names and from numbers as they are written.
use Rattle.std.specs.Prelude.{ℕ, ◌+◌, ◌%◌, ◌==◌, Bool, if◌then◌else◌, List, [], ◌∷◌, ◌++◌, filter, flat_map, Option, Some, None, codes}
use Rattle.zim_rows.specs.declared.rows.Sense.{Sense}
use Rattle.zim_rows.specs.declared.rows.Sense.TheVariants.{AtLeast, AtMost, Equal}

-- A number as it is written: whether a minus stands first, and the text of its absolute value.
pub record WrittenNumber : Type 0 where
  pub negative : Bool
  pub absolute : List ℕ

-- A coefficient as it is written, and the name of its column.
pub record WrittenTerm : Type 0 where
  pub number : WrittenNumber
  pub name : List ℕ

-- A row: its label, its terms, of which there is one at least, and how their sum compares with a number.
pub record WrittenRow : Type 0 where
  pub label : List ℕ
  pub terms : List WrittenTerm
  pub sense : Sense
  pub right : WrittenNumber

-- A column: its name, whether it is integer, and its ends as far as it has them.
pub record WrittenColumn : Type 0 where
  pub name : List ℕ
  pub integer : Bool
  pub lower : Option WrittenNumber
  pub upper : Option WrittenNumber

-- A file: whether to maximise, the objective, the rows and the columns in order.
pub record WrittenFile : Type 0 where
  pub maximises : Bool
  pub objective : List WrittenTerm
  pub rows : List WrittenRow
  pub columns : List WrittenColumn

-- A number with its sign.
abbrev pub number_text : WrittenNumber → List ℕ
number_text n = if n.negative then codes "-" ++ n.absolute else n.absolute

-- The first term of a list: `q NAME`
abbrev pub first_term_text : WrittenTerm → List ℕ
first_term_text t = number_text t.number ++ (codes " " ++ t.name)

-- What stands before a further term that follows so many others: before the fifth, the ninth and each further
-- fourth a line end and a blank.
abbrev pub break_text : ℕ → List ℕ
break_text before = if before % 4 == 0 then codes "\n " else []

-- The sign before a further term.
abbrev pub sign_text : Bool → List ℕ
sign_text negative = if negative then codes " - " else codes " + "

-- A further term that follows so many others: ` + q NAME` or ` - q NAME` with the absolute value.
abbrev pub further_term_text : ℕ → WrittenTerm → List ℕ
further_term_text before t =
    break_text before ++ (sign_text t.number.negative ++ (t.number.absolute ++ (codes " " ++ t.name)))

-- The texts of a list's members in order, each with its number, of which the first has the one that is given.
abbrev pub numbered_text : {X : Type 0} → (ℕ → X → List ℕ) → ℕ → List X → List ℕ
numbered_text text first [] = []
numbered_text text first (x ∷ xs) = text first x ++ numbered_text text (first + 1) xs

-- The terms of a list, of which there is one at least.
abbrev pub terms_text : List WrittenTerm → List ℕ
terms_text [] = []
terms_text (t ∷ ts) = first_term_text t ++ numbered_text further_term_text 1 ts

-- The relation of a row to its right side.
abbrev pub sense_text : Sense → List ℕ
sense_text AtLeast = codes " >= "
sense_text AtMost = codes " <= "
sense_text Equal = codes " = "

-- A row: ` rI: TERMS >= q`
abbrev pub row_text : WrittenRow → List ℕ
row_text row =
    codes " "
    ++ (row.label
    ++ (codes " " ++ (terms_text row.terms ++ (sense_text row.sense ++ (number_text row.right ++ codes "\n")))))

-- The bound of a name: ` l <= NAME <= u`, ` NAME >= l`, ` -inf <= NAME <= u` or ` NAME free`
abbrev pub ends_text : List ℕ → Option WrittenNumber → Option WrittenNumber → List ℕ
ends_text name (Some lower) (Some upper) =
    codes " " ++ (number_text lower ++ (codes " <= " ++ (name ++ (codes " <= " ++ (number_text upper ++ codes "\n")))))
ends_text name (Some lower) None = codes " " ++ (name ++ (codes " >= " ++ (number_text lower ++ codes "\n")))
ends_text name None (Some upper) = codes " -inf <= " ++ (name ++ (codes " <= " ++ (number_text upper ++ codes "\n")))
ends_text name None None = codes " " ++ (name ++ codes " free\n")

-- The bound of a column.
abbrev pub bound_text : WrittenColumn → List ℕ
bound_text column = ends_text column.name column.lower column.upper

-- The line of an integer column.
abbrev pub general_text : WrittenColumn → List ℕ
general_text column = codes " " ++ (column.name ++ codes "\n")

-- The integer columns under their heading, where there is one.
abbrev pub generals_text : List WrittenColumn → List ℕ
generals_text [] = []
generals_text (column ∷ columns) = codes "Generals\n" ++ flat_map general_text (column ∷ columns)

-- The columns that are integer.
abbrev pub integers : List WrittenColumn → List WrittenColumn
integers columns = filter (λ (c : WrittenColumn). c.integer) columns

-- The line that says whether to maximise.
abbrev pub aim_text : Bool → List ℕ
aim_text maximises = if maximises then codes "Maximize\n" else codes "Minimize\n"

-- The text of a file.
abbrev pub file_text : WrittenFile → List ℕ
file_text file =
    codes "\\ zimplc\n"
    ++ (aim_text file.maximises
    ++ (codes " obj: "
    ++ (terms_text file.objective
    ++ (codes "\nSubject To\n"
    ++ (flat_map row_text file.rows
    ++ (codes "Bounds\n"
    ++ (flat_map bound_text file.columns ++ (generals_text (integers file.columns) ++ codes "End\n"))))))))
