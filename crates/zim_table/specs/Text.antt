-- The text of a table that is written for a linear program.
use Rattle.std.specs.Prelude.{ℕ, ℤ, neg_ℤ, ◌+◌, ◌/◌, ◌%◌, ◌==◌, nat_le, nat_lt, Bool, not, ◌&&◌, if◌then◌else◌, List, [], ◌∷◌, ◌++◌, length, take, count_by, flat_map, Option, Some, None, option_map, slice_index_or, codes, decimal}
use Rattle.std.specs.Fmt.{signed_decimal}
use Rattle.std.specs.List.{enumerate_from, range_with_len, find}
use Rattle.zim_rational.specs.Rational.{Rational}
use Rattle.zim_tuples.specs.declared.elements.Elem.{Elem}
use Rattle.zim_tuples.specs.declared.elements.Elem.TheVariants.{Number, Text}
use Rattle.zim_columns.specs.declared.declared.Declared.{Declared}
use Rattle.zim_rows.specs.declared.rows.Row.{Row}
use Rattle.zim_rows.specs.Program.{LinearProgram}
use Rattle.zim_rows.specs.Named.{column_name, row_name, has_offset}
use Rattle.zim_table.specs.declared.names.Names.{Names}

-- The name of the statement at a position, counted from 0.
abbrev pub statement_name : Names → ℕ → List ℕ
statement_name names position = slice_index_or names.statements position []

-- The factor of the objective in a file that always minimises: negative where the program maximises.
abbrev pub minimised_factor : Bool → ℤ → ℤ
minimised_factor maximises factor = if maximises then neg_ℤ factor else factor

-- `factor FORMAT F`
abbrev pub factor_text : List ℕ → ℤ → List ℕ
factor_text format factor = codes "factor " ++ (format ++ (codes " " ++ (signed_decimal factor ++ codes "\n")))

-- The word of what is done with the objective, with its blanks.
abbrev pub aim_text : Bool → List ℕ
aim_text maximises = if maximises then codes "objective maximize " else codes "objective minimize "

-- `objective minimize NAME`, `objective maximize NAME` or `objective none`
abbrev pub objective_text : Bool → Option (List ℕ) → List ℕ
objective_text maximises None = codes "objective none\n"
objective_text maximises (Some name) = aim_text maximises ++ (name ++ codes "\n")

-- ---- numbers, strings and tuples

-- A number: `n`, or `n/d` where it isn't whole.
abbrev pub fraction_text : Rational → List ℕ
fraction_text q = if q.denom == 1 then signed_decimal q.numer else signed_decimal q.numer ++ (codes "/" ++ decimal q.denom)

-- The hexadecimal digit, upper case, of a number below 16.
abbrev pub hex_glyph : ℕ → ℕ
hex_glyph n = if nat_lt n 10 then 48 + n else 55 + n

-- A byte that stands for itself in a string: one from 33 to 126 that is neither `"` nor `%`.
abbrev pub stands_for_itself : ℕ → Bool
stands_for_itself b = nat_le 33 b && nat_le b 126 && not (b == 34) && not (b == 37)

-- A byte of a string: itself, or `%` and its two hexadecimal digits.
abbrev pub escaped_byte : ℕ → List ℕ
escaped_byte b = if stands_for_itself b then b ∷ [] else 37 ∷ hex_glyph (b / 16) ∷ hex_glyph (b % 16) ∷ []

-- A component of a tuple: a number, or a string in double quotes.
abbrev pub element_text : Elem → List ℕ
element_text (Number q) = fraction_text q
element_text (Text bytes) = 34 ∷ flat_map escaped_byte bytes ++ (34 ∷ [])

-- A component behind another one, with the comma before it.
abbrev pub further_text : Elem → List ℕ
further_text element = 44 ∷ element_text element

-- A tuple of a component and further ones: `<..>`.
abbrev pub tuple_text : Elem → List Elem → List ℕ
tuple_text first others = 60 ∷ element_text first ++ (flat_map further_text others ++ (62 ∷ []))

-- ---- the lines of columns

-- The tuple of a column with the blank before it, where there is one.
abbrev pub index_text : List Elem → List ℕ
index_text [] = []
index_text (first ∷ others) = codes " " ++ tuple_text first others

-- `column xJ NAME` or `column xJ NAME <..>`
abbrev pub declared_text : ℕ → Declared → List ℕ
declared_text j declared = codes "column " ++ (column_name j ++ (codes " " ++ (declared.name ++ (index_text declared.tuple ++ codes "\n"))))

-- `priority xJ q` or `startval xJ q`, where it is given
abbrev pub detail_text : List ℕ → ℕ → Option Rational → List ℕ
detail_text word j None = []
detail_text word j (Some q) = word ++ (codes " " ++ (column_name j ++ (codes " " ++ (fraction_text q ++ codes "\n"))))

-- The lines of a declared column, or `helper xJ` where there is none.
abbrev pub lines_text : ℕ → Option Declared → List ℕ
lines_text j None = codes "helper " ++ (column_name j ++ codes "\n")
lines_text j (Some declared) =
    declared_text j declared ++ (detail_text (codes "priority") j declared.priority ++ detail_text (codes "startval") j declared.startval)

-- The declared column of a number.
abbrev pub declared_at : List Declared → ℕ → Option Declared
declared_at columns j = find (λ (d : Declared). d.column == j) columns

-- The lines of the column of a number: those of a declared column, and else that of a helper.
abbrev pub column_text : List Declared → ℕ → List ℕ
column_text columns j = lines_text j (declared_at columns j)

-- `offset one`, where that column stands
abbrev pub offset_text : Bool → List ℕ
offset_text stands = if stands then codes "offset one\n" else []

-- The position of the statement that a row comes from.
abbrev pub statement_of : Row → ℕ
statement_of row = row.from.statement

-- Which row of its statement the row of a number is, from 1: how many rows up to it are of that statement.
abbrev pub place_in_statement : List Row → ℕ × Row → ℕ
place_in_statement rows row = count_by (λ (r : Row). r.from.statement == row.1.from.statement) (take row.0 rows)

-- `row rI NAME K F`, of a row's number, the name of its statement, its place in it and its factor
abbrev pub row_line : ℕ → List ℕ → ℕ → ℤ → List ℕ
row_line number name place factor =
    codes "row "
    ++ (row_name number ++ (codes " " ++ (name ++ (codes " " ++ (decimal place ++ (codes " " ++ (signed_decimal factor ++ codes "\n")))))))

-- The line of a row with its number.
abbrev pub row_text : Names → List Row → ℕ × Row → List ℕ
row_text names rows row =
    row_line row.0 (statement_name names row.1.from.statement) (place_in_statement rows row) row.1.factor

-- The text of a program with its declared columns and the names of its statements. All columns of the program stand in it by number.
abbrev pub table_text : LinearProgram → List Declared → Names → List ℕ
table_text program columns names =
    codes "zimplc table 1\n"
    ++ (factor_text (codes "lp") program.target.factor
    ++ (factor_text (codes "mps") (minimised_factor program.target.maximize program.target.factor)
    ++ (objective_text program.target.maximize (option_map (statement_name names) names.objective)
    ++ (flat_map (column_text columns) (range_with_len 1 (length program.columns))
    ++ (offset_text (has_offset program) ++ (flat_map (row_text names program.rows) (enumerate_from 1 program.rows) ++ codes "end\n"))))))
