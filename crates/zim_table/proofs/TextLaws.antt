-- The text of a table is the table of its columns, names and factors.
use Rattle.std.proofs.Common.{◌≡◌, ℕ, zero, suc, ℤ, ◌+◌, ◌<◌, ◌≤◌, ◌≤ℤ◌, ◌^◌, Bool, true, false, cond, List, [], ◌∷◌, ◌++◌, length, length-take, length-append, get_or, map, take, Option, Some, None, All, pos, negsuc, refl, true≢false, sym, ◌∙◌, ap, subst, append-nil, append_assoc, arith}
use Rattle.std.specs.Prelude.{◌==◌, if◌then◌else◌, codes, decimal, flat_map, IfSome, IsNone, IsSome, is_some, option_map, unsigned_abs, ◌↔◌}
use Rattle.std.specs.Str.{bytes_eq}
use Rattle.std.specs.Fmt.{signed_decimal}
use Rattle.std.specs.List.{AllByRecursion, enumerate_from, filter_map, range_with_len}
use Rattle.std.proofs.lemmas.List.Elements.{recursion_from_All}
use Rattle.std.proofs.lemmas.Bool.Decides.{nat_tests}
use Rattle.std.proofs.lemmas.Int.{ints}
use Rattle.std.proofs.lemmas.List.Sums.{count_by-le-length, count_by_more_yes}
use Rattle.zim_instance.proofs.Points.{bytes_eq-same}
use Rattle.zim_fields.specs.Fields.{Field, lines, fields, IsField}
use Rattle.zim_fields.proofs.Cutting.{IsField-test}
use Rattle.zim_fields.proofs.Decimals.{decimal_field, lettered_field, signed_field, from_one_of-decimal}
use Rattle.zim_rows.specs.declared.rows.Row.{Row}
use Rattle.zim_fraction.specs.Limit.{limit}
use Rattle.zim_rows.specs.System.{most_in_system}
use Rattle.zim_rows.specs.Program.{LinearProgram, IsRow, IsProgram}
use Rattle.zim_rows.specs.Named.{column_name, row_name, has_offset}
use Rattle.zim_fault.specs.declared.faults.Place.{Place}
use Rattle.zim_instance.specs.Instance.{Point, number_named}
use Rattle.zim_rational.specs.Rational.{Rational}
use Rattle.zim_columns.specs.declared.declared.Declared.{Declared as DeclaredColumn}
use Rattle.zim_columns.specs.Parts.{HasPartsWithin}
use Rattle.zim_table.specs.declared.names.Names.{Names}
use Rattle.zim_fields.specs.Numbers.{from_one_of}
use Rattle.zim_table.specs.Reader.{Pair, Table, Line, read_line, read_lines, are_in_order, pair_of, read_objective, is_ended, read_table, table}
use Rattle.zim_table.specs.Reader.Line.{Offset, RowOf, End}
use Rattle.zim_table.specs.Reader.Stage.{Columns, Rows}
use Rattle.zim_table.specs.Text.{statement_of, statement_name, minimised_factor, factor_text, objective_text, column_text, offset_text, place_in_statement, row_text, table_text}
use Rattle.zim_table.specs.Correct.{IsStatement, IsListed, CanBeListed, pair_said, table_said, declared_numbers, TextsSayNames}
use Rattle.zim_table.proofs.ColumnLines.{IsWritten, column_fields, columns_give, said_column, columns_read, MayFollow, columns_ordered, columns_pairs}
use Rattle.zim_table.proofs.Lines.{Gives, Gives-nil, Gives-append, Gives-line, Gives-each}

abbrev NumberedRow : Type 0
NumberedRow = ℕ × Row

-- the fields of each line

abbrev factor_fields : List ℕ → ℤ → List Field
factor_fields format factor = codes "factor" ∷ format ∷ signed_decimal factor ∷ []

abbrev objective_fields : Bool → Option (List ℕ) → List Field
objective_fields maximises None = codes "objective" ∷ codes "none" ∷ []
objective_fields maximises (Some name) = codes "objective" ∷ cond maximises (codes "maximize") (codes "minimize") ∷ name ∷ []

abbrev offset_fields : Bool → List (List Field)
offset_fields stands = cond stands ((codes "offset" ∷ codes "one" ∷ []) ∷ []) []

abbrev row_fields : Names → List Row → NumberedRow → List Field
row_fields names rows r = codes "row" ∷ row_name r.0 ∷ statement_name names (statement_of r.1) ∷ decimal (place_in_statement rows r) ∷ signed_decimal r.1.factor ∷ []

-- the texts give them

factor_gives : (format : List ℕ) (factor : ℤ) → IsField format → unsigned_abs factor ≤ limit → Gives (factor_text format factor) (factor_fields format factor ∷ [])
factor_gives format factor is within =
    Gives-line (factor_text format factor) (codes "factor") (format ∷ signed_decimal factor ∷ []) refl (IsField-test (codes "factor") refl refl) (is, (signed_field factor (omega arith), tt))

objective_gives : (maximises : Bool) (name : Option (List ℕ)) → IfSome name IsField → Gives (objective_text maximises name) (objective_fields maximises name ∷ [])
objective_gives maximises None is = Gives-line (codes "objective none\n") (codes "objective") (codes "none" ∷ []) refl (IsField-test (codes "objective") refl refl) (IsField-test (codes "none") refl refl, tt)
objective_gives true (Some name) is = Gives-line _ (codes "objective") (codes "maximize" ∷ name ∷ []) refl (IsField-test (codes "objective") refl refl) (IsField-test (codes "maximize") refl refl, (is, tt))
objective_gives false (Some name) is = Gives-line _ (codes "objective") (codes "minimize" ∷ name ∷ []) refl (IsField-test (codes "objective") refl refl) (IsField-test (codes "minimize") refl refl, (is, tt))

offset_gives : (stands : Bool) → Gives (offset_text stands) (offset_fields stands)
offset_gives true = Gives-line (codes "offset one\n") (codes "offset") (codes "one" ∷ []) refl (IsField-test (codes "offset") refl refl) (IsField-test (codes "one") refl refl, tt)
offset_gives false = Gives-nil

place_small : (rows : List Row) (r : NumberedRow) → length rows ≤ most_in_system → place_in_statement rows r ≤ most_in_system
place_small rows r few =
    let counted = count_by-le-length (λ (s : Row). statement_of s == statement_of r.1) (take r.0 rows) in
    let part : length (take r.0 rows) ≤ length rows = simp length-take (omega arith) in
    omega arith

rows_give : (n : ℕ) (names : Names) (rows : List Row) (first : ℕ) (some : List Row) → first + length some < 2 ^ 64 → length rows ≤ most_in_system → AllByRecursion (λ (r : Row). IsStatement names (statement_of r)) some → AllByRecursion (IsRow n) some → AllByRecursion (λ (r : NumberedRow). Gives (row_text names rows r) (row_fields names rows r ∷ [])) (enumerate_from first some)
rows_give n names rows first [] h few all are = tt
rows_give n names rows first (row ∷ some) h few all are =
    let small : place_in_statement rows (first, row) ≤ most_in_system = place_small rows (first, row) few in
    let within : unsigned_abs row.factor ≤ limit = are.0.factor_within in (
      Gives-line (row_text names rows (first, row)) (codes "row") (row_name first ∷ statement_name names (statement_of row) ∷ decimal (place_in_statement rows (first, row)) ∷ signed_decimal row.factor ∷ []) refl (IsField-test (codes "row") refl refl)
          (lettered_field 114 first (record { blank = refl; line_end = refl }) (omega arith), (all.0.name, (decimal_field (place_in_statement rows (first, row)) (omega arith), (signed_field row.factor (omega arith), tt)))),
      rows_give n names rows (first + 1) some (omega arith) few all.1 are.1,
    )

-- they are read

abbrev said_row : NumberedRow → Line
said_row r = RowOf r.0

-- a row stands behind those before it
at_behind : (done some : List Row) (row d : Row) → get_or (done ++ row ∷ some) (length done) d ≡ row
at_behind [] some row d = refl
at_behind (x ∷ done) some row d = at_behind done some row d

same_number : (n : ℕ) → (n == n) ≡ true
same_number n = grind (arith, nat_tests)

-- a row is one of its statement
place_some : (done some : List Row) (row : Row) → 0 < place_in_statement (done ++ row ∷ some) (length done + 1, row)
place_some done some row =
    let test : Row → Bool = λ (r : Row). statement_of r == statement_of row in
    let here : get_or (done ++ row ∷ some) (length done) row ≡ row = at_behind done some row row in
    let count = count_by_more_yes test (done ++ row ∷ some) (length done) row (omega (arith, length-append done (row ∷ some)))
    (ap test here ∙ same_number (statement_of row)) in
    omega arith

-- a factor reads back, from 1
factor_read : (factor : ℤ) → pos 1 ≤ℤ factor → unsigned_abs factor ≤ limit → is_some (from_one_of (signed_decimal factor)) ≡ true
factor_read (pos n) low within = ap is_some (from_one_of-decimal n (omega (arith, ints, low)) (omega arith))
factor_read (negsuc n) low within = absurd (omega (arith, ints, low))

rows_read : (n : ℕ) (names : Names) (done some rows : List Row) (first : ℕ) → rows ≡ done ++ some → first ≡ length done + 1 → length rows ≤ most_in_system → first + length some < 2 ^ 64 → AllByRecursion (IsRow n) some → AllByRecursion (λ (r : NumberedRow). read_line (row_fields names rows r) ≡ Some (said_row r)) (enumerate_from first some)
rows_read n names done [] rows first same number few room are = tt
rows_read n names done (row ∷ some) rows first same number few room are =
    let low : 0 < place_in_statement rows (first, row) =
    subst (λ (rs : List Row). 0 < place_in_statement rs (first, row)) (sym same) (subst (λ (k : ℕ). 0 < place_in_statement (done ++ row ∷ some) (k, row)) (sym number) (place_some done some row)) in
    let small : place_in_statement rows (first, row) ≤ most_in_system = place_small rows (first, row) few in
    let place : is_some (from_one_of (decimal (place_in_statement rows (first, row)))) ≡ true = ap is_some (from_one_of-decimal (place_in_statement rows (first, row)) low (omega arith)) in (
      rw (place, factor_read row.factor are.0.factor are.0.factor_within, from_one_of-decimal first (omega arith) (omega arith)) refl,
      rows_read n names (done ++ row ∷ []) some rows (first + 1) (same ∙ sym (append_assoc done (row ∷ []) some)) (omega (arith, length-append done (row ∷ []))) few (omega arith) are.1,
    )

-- lines that can be read, before others
read_before : {X : Type 0} (line : X → List Field) (value : X → Line) (xs : List X) (ls : List (List Field)) (others : List Line) → AllByRecursion (λ x. read_line (line x) ≡ Some (value x)) xs → read_lines ls ≡ Some others → read_lines (map line xs ++ ls) ≡ Some (map value xs ++ others)
read_before line value [] ls others all e = e
read_before line value (x ∷ xs) ls others all e = rw (all.0, read_before line value xs ls others all.1 e) refl

abbrev said_offset : Bool → List Line
said_offset stands = cond stands (Offset ∷ []) []

offset_read : (none : Bool) (ls : List (List Field)) (others : List Line) → read_lines ls ≡ Some others → read_lines (offset_fields none ++ ls) ≡ Some (said_offset none ++ others)
offset_read true ls others e = rw e refl
offset_read false ls others e = e

-- the lines behind the first four
abbrev further_fields : LinearProgram → List DeclaredColumn → Names → List (List Field)
further_fields p columns names =
    flat_map (column_fields columns) (range_with_len 1 (length p.columns)) ++ (offset_fields (has_offset p) ++ (map (row_fields names p.rows) (enumerate_from 1 p.rows) ++ ((codes "end" ∷ []) ∷ [])))

abbrev further_said : LinearProgram → List DeclaredColumn → List Line
further_said p columns =
    flat_map (said_column columns) (range_with_len 1 (length p.columns)) ++ (said_offset (has_offset p) ++ (map said_row (enumerate_from 1 p.rows) ++ (End ∷ [])))

further_read : (p : LinearProgram) (columns : List DeclaredColumn) (names : Names) → IsProgram p.columns p.rows p.target → AllByRecursion IsWritten columns → read_lines (further_fields p columns names) ≡ Some (further_said p columns)
further_read p columns names program written =
    columns_read columns 1 (length p.columns) _ _ (omega arith) (omega (arith, program.few_columns)) written
    (offset_read (has_offset p) _ _
    (read_before (row_fields names p.rows) said_row (enumerate_from 1 p.rows) ((codes "end" ∷ []) ∷ []) (End ∷ [])
    (rows_read (length p.columns) names [] p.rows p.rows 1 refl refl program.few_rows (omega (arith, program.few_rows)) (recursion_from_All (IsRow (length p.columns)) p.rows program.each_row)) refl))

-- they are in order, and their pairs are those of the declared columns

rows_ordered : (last : ℕ) (rows : List Row) → are_in_order (Rows last) (map said_row (enumerate_from (last + 1) rows) ++ (End ∷ [])) ≡ true
rows_ordered last [] = refl
rows_ordered last (row ∷ rows) = rw (same_number (last + 1)) (rows_ordered (last + 1) rows)

offset_ordered : (last : ℕ) (priority start stands : Bool) (rows : List Row) → are_in_order (Columns last priority start) (said_offset stands ++ (map said_row (enumerate_from 1 rows) ++ (End ∷ []))) ≡ true
offset_ordered last priority start true rows = rows_ordered 0 rows
offset_ordered last priority start false [] = refl
offset_ordered last priority start false (row ∷ rows) = rows_ordered 1 rows

offset_may_follow : (stands : Bool) (rows : List Row) (last : ℕ) → MayFollow last (said_offset stands ++ (map said_row (enumerate_from 1 rows) ++ (End ∷ [])))
unfolding MayFollow
offset_may_follow stands rows last = λ priority start. offset_ordered last priority start stands rows

all_ordered : (columns : List DeclaredColumn) (n : ℕ) (stands : Bool) (rows : List Row) → are_in_order (Columns 0 false false) (flat_map (said_column columns) (range_with_len 1 n) ++ (said_offset stands ++ (map said_row (enumerate_from 1 rows) ++ (End ∷ [])))) ≡ true
unfolding MayFollow
all_ordered columns n stands rows = columns_ordered columns 0 n _ (offset_may_follow stands rows) false false

rows_pairs : (rs : List NumberedRow) → filter_map pair_of (map said_row rs ++ (End ∷ [])) ≡ []
rows_pairs [] = refl
rows_pairs (r ∷ rs) = rows_pairs rs

offset_pairs : (none : Bool) (rs : List NumberedRow) → filter_map pair_of (said_offset none ++ (map said_row rs ++ (End ∷ []))) ≡ []
offset_pairs true rs = rows_pairs rs
offset_pairs false rs = rows_pairs rs

-- the whole table

objective_is : (maximises : Bool) (name : Option (List ℕ)) → (IsNone name → maximises ≡ false) → read_objective (objective_fields maximises name) ≡ Some maximises
objective_is maximises None none = ap (λ (b : Bool). Some b) (sym (none refl))
objective_is true (Some name) none = refl
objective_is false (Some name) none = refl

-- the negative of a number has its size
size_turned : (maximises : Bool) (factor : ℤ) → unsigned_abs (minimised_factor maximises factor) ≡ unsigned_abs factor
size_turned true (pos zero) = refl
size_turned true (pos (suc n)) = refl
size_turned true (negsuc n) = refl
size_turned false factor = refl

-- the factor of the MPS, by that of the LP
factors_agree : (maximises : Bool) (n : ℕ) → 0 < n → signed_decimal (minimised_factor maximises (pos n)) ≡ (if maximises then 45 ∷ decimal n else decimal n)
factors_agree true zero some = absurd (omega arith)
factors_agree true (suc n) some = refl
factors_agree false n some = refl

same_fields : (a b : Field) → a ≡ b → bytes_eq a b ≡ true
same_fields a b e = subst (λ (c : Field). bytes_eq a c ≡ true) e (bytes_eq-same a)

abbrev table_with : List Pair → Bool → ℤ → Table
table_with pairs maximises factor = record { pairs = pairs; lp_factor = factor; mps_factor = minimised_factor maximises factor }

table_read : (maximises : Bool) (objective : Option (List ℕ)) (factor : ℤ) (ls : List (List Field)) (read : List Line) (pairs : List Pair) → (IsNone objective → maximises ≡ false) → pos 1 ≤ℤ factor → unsigned_abs factor ≤ limit → read_lines ls ≡ Some read → are_in_order (Columns 0 false false) read ≡ true → filter_map pair_of read ≡ pairs → read_table ((codes "zimplc" ∷ codes "table" ∷ codes "1" ∷ []) ∷ factor_fields (codes "lp") factor ∷ factor_fields (codes "mps") (minimised_factor maximises factor) ∷ objective_fields maximises objective ∷ ls) ≡ Some (table_with pairs maximises factor)
table_read maximises objective (pos n) ls read pairs none low within e f g =
    let some : 0 < n = omega (arith, ints, low) in
    rw (objective_is maximises objective none, from_one_of-decimal n some (omega arith), same_fields (signed_decimal (minimised_factor maximises (pos n))) (if maximises then 45 ∷ decimal n else decimal n) (factors_agree maximises n some), e, f, g) refl
table_read maximises objective (negsuc n) ls read pairs none low within e f g = absurd (omega (arith, ints, low))

abbrev table_lines : LinearProgram → List DeclaredColumn → Names → List (List Field)
table_lines p columns names =
    (codes "zimplc" ∷ codes "table" ∷ codes "1" ∷ [])
    ∷ factor_fields (codes "lp") p.target.factor
    ∷ factor_fields (codes "mps") (minimised_factor p.target.maximize p.target.factor)
    ∷ objective_fields p.target.maximize (option_map (statement_name names) names.objective)
    ∷ further_fields p columns names

objective_name : (names : Names) (objective : Option ℕ) → IfSome objective (IsStatement names) → IfSome (option_map (statement_name names) objective) IsField
objective_name names None is = is
objective_name names (Some position) is = is.name

text_gives : (p : LinearProgram) (columns : List DeclaredColumn) (names : Names) → IsProgram p.columns p.rows p.target → AllByRecursion IsWritten columns → CanBeListed p columns names → Gives (table_text p columns names) (table_lines p columns names)
text_gives p columns names program written is =
    let n : ℕ = length p.columns in
    let room : 1 + n < 2 ^ 64 = omega (arith, program.few_columns) in
    let rows_room : 1 + length p.rows < 2 ^ 64 = omega (arith, program.few_rows) in
    let within : unsigned_abs p.target.factor ≤ limit = program.objective.factor_within in
    let turned : unsigned_abs (minimised_factor p.target.maximize p.target.factor) ≤ limit = omega (arith, size_turned p.target.maximize p.target.factor) in
    let end : Gives (codes "end\n") ((codes "end" ∷ []) ∷ []) = Gives-line (codes "end\n") (codes "end") [] refl (IsField-test (codes "end") refl refl) tt in
    let rows =
    Gives-append _ _ _ _
    (Gives-each (row_text names p.rows) (row_fields names p.rows) (enumerate_from 1 p.rows)
    (rows_give n names p.rows 1 p.rows rows_room program.few_rows
    (recursion_from_All (λ (r : Row). IsStatement names (statement_of r)) p.rows is.statements)
    (recursion_from_All (IsRow n) p.rows program.each_row)))
    end in
    let offset = Gives-append _ _ _ _ (offset_gives (has_offset p)) rows in
    let columns_text = Gives-append _ _ _ _ (columns_give columns n room written) offset in
    let objective = Gives-append _ _ _ _ (objective_gives p.target.maximize (option_map (statement_name names) names.objective) (objective_name names names.objective is.objective)) columns_text in
    let mps = Gives-append _ _ _ _ (factor_gives (codes "mps") (minimised_factor p.target.maximize p.target.factor) (IsField-test (codes "mps") refl refl) turned) objective in
    let lp = Gives-append _ _ _ _ (factor_gives (codes "lp") p.target.factor (IsField-test (codes "lp") refl refl) within) mps in
    Gives-append (codes "zimplc table 1\n") _ ((codes "zimplc" ∷ codes "table" ∷ codes "1" ∷ []) ∷ []) _ (Gives-line (codes "zimplc table 1\n") (codes "zimplc") (codes "table" ∷ codes "1" ∷ []) refl (IsField-test (codes "zimplc") refl refl) (IsField-test (codes "table") refl refl, (IsField-test (codes "1") refl refl, tt))) lp

-- the text ends in a line end
ends_behind : (a b : List ℕ) → is_ended b ≡ true → is_ended (a ++ b) ≡ true
ends_behind [] b e = e
ends_behind (x ∷ []) [] e = cc
ends_behind (x ∷ []) (y ∷ b) e = e
ends_behind (x ∷ y ∷ a) b e = ends_behind (y ∷ a) b e

text_ended : (p : LinearProgram) (declared : List DeclaredColumn) (names : Names) → is_ended (table_text p declared names) ≡ true
text_ended p declared names =
    let rows : List ℕ = flat_map (row_text names p.rows) (enumerate_from 1 p.rows) ++ codes "end\n" in
    let offset : List ℕ = offset_text (has_offset p) ++ rows in
    let columns : List ℕ = flat_map (column_text declared) (range_with_len 1 (length p.columns)) ++ offset in
    let objective : List ℕ = objective_text p.target.maximize (option_map (statement_name names) names.objective) ++ columns in
    let mps : List ℕ = factor_text (codes "mps") (minimised_factor p.target.maximize p.target.factor) ++ objective in
    let lp : List ℕ = factor_text (codes "lp") p.target.factor ++ mps in
    ends_behind (codes "zimplc table 1\n") lp
    (ends_behind (factor_text (codes "lp") p.target.factor) mps
    (ends_behind (factor_text (codes "mps") (minimised_factor p.target.maximize p.target.factor)) objective
    (ends_behind (objective_text p.target.maximize (option_map (statement_name names) names.objective)) columns
    (ends_behind (flat_map (column_text declared) (range_with_len 1 (length p.columns))) offset
    (ends_behind (offset_text (has_offset p)) rows
    (ends_behind (flat_map (row_text names p.rows) (enumerate_from 1 p.rows)) (codes "end\n") refl))))))

-- a program without a named objective has none, so it minimises
no_name : (names : Names) (objective : Option ℕ) (place : Option Place) (b : Bool) → IsSome objective ↔ IsSome place → (IsNone place → b ≡ false) → IsNone (option_map (statement_name names) objective) → b ≡ false
no_name names None None b aim minimises none = minimises refl
no_name names None (Some place) b aim minimises none = absurd (true≢false (sym (aim.1 refl)))
no_name names (Some position) place b aim minimises none = cc

within_program : (n : ℕ) (ds : List DeclaredColumn) → AllByRecursion (IsListed n) ds → AllByRecursion (λ (d : DeclaredColumn). d.column < 1 + n) ds
within_program n [] all = tt
within_program n (d ∷ ds) all = (let h = all.0.in_system in omega (arith, h), within_program n ds all.1)

all_written : (n : ℕ) (ds : List DeclaredColumn) → AllByRecursion (IsListed n) ds → AllByRecursion HasPartsWithin ds → AllByRecursion IsWritten ds
all_written n [] all parts = tt
all_written n (d ∷ ds) all parts = (record { name = all.0.name; parts = parts.0 }, all_written n ds all.1 parts.1)

text_read : (p : LinearProgram) (columns : List DeclaredColumn) (names : Names) → IsProgram p.columns p.rows p.target → All HasPartsWithin columns → CanBeListed p columns names → table (table_text p columns names) ≡ Some (table_said p columns)
text_read p columns names program parts is =
    let listed = recursion_from_All (IsListed (length p.columns)) columns is.listed in
    let written = all_written (length p.columns) columns listed (recursion_from_All HasPartsWithin columns parts) in
    rw (text_ended p columns names)
    (ap read_table
    (ap (λ t. map fields (lines t)) (sym (append-nil (table_text p columns names)))
    ∙ (text_gives p columns names program written is).cut []
    ∙ append-nil (table_lines p columns names))
    ∙ table_read p.target.maximize (option_map (statement_name names) names.objective) p.target.factor (further_fields p columns names) (further_said p columns) (map pair_said columns)
    (no_name names names.objective p.target.place p.target.maximize is.aim program.objective.minimises)
    program.objective.factor
    program.objective.factor_within
    (further_read p columns names program written)
    (all_ordered columns (length p.columns) (has_offset p) p.rows)
    (columns_pairs columns (length p.columns) _ is.rising (within_program (length p.columns) columns listed) (offset_pairs (has_offset p) (enumerate_from 1 p.rows))))

cut_said : (columns : List DeclaredColumn) (point : Point) → map (λ (pair : Pair). number_named point pair.column) (map pair_said columns) ≡ declared_numbers columns point
cut_said [] point = refl
cut_said (d ∷ ds) point = ap (λ (qs : List Rational). number_named point (column_name d.column) ∷ qs) (cut_said ds point)

-- the text of a table is its table
pub text_says : TextsSayNames
text_says p columns names program parts is = record {
  read = text_read p columns names program parts is;
  cut_is = λ point. cut_said columns point;
}
