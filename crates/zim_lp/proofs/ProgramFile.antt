-- The file of a program is readable, and what it says is the program by name.
use Rattle.std.proofs.Common.{◌≡◌, ◌≢◌, ℕ, ◌+◌, ◌<◌, ◌≤◌, ◌^◌, Bool, true, false, cond, not, ◌||◌, List, [], ◌∷◌, ◌++◌, length, map, refl, sym, ◌∙◌, ap, ap₂, subst, arith}
use Rattle.std.specs.Prelude.{◌==◌, flat_map}
use Rattle.std.specs.List.{AllByRecursion, enumerate_from}
use Rattle.std.specs.Str.{bytes_eq}
use Rattle.std.proofs.lemmas.List.{map-append}
use Rattle.std.proofs.lemmas.List.Elements.{recursion_from_All}
use Rattle.std.proofs.lemmas.Bool.Decides.{nat_tests}
use Rattle.zim_rational.specs.Rational as rational
use Rattle.zim_rational.specs.Rational.{same}
use Rattle.zim_linear.specs.Forms.{Term}
use Rattle.zim_instance.specs.Instance as instance
use Rattle.zim_instance.specs.System.{NamedColumn, System, HasDistinctNames}
use Rattle.zim_instance.proofs.Points.{bytes_eq-same}
use Rattle.zim_rows.specs.declared.rows.Column.{Column}
use Rattle.zim_rows.specs.declared.rows.Row.{Row}
use Rattle.zim_rows.specs.declared.rows.RowKind.{RowKind}
use Rattle.zim_rows.specs.declared.rows.RowKind.TheVariants.{One, Range}
use Rattle.zim_rows.specs.Program.{LinearProgram, HasSidesWithin, IsRow, IsProgram}
use Rattle.zim_rows.specs.Named.{column_name, offset_name, has_offset, file_columns, named_term}
use Rattle.zim_rows.proofs.NamedLaws.{file_columns_distinct}
use Rattle.zim_lp.specs.Words.{Word}
use Rattle.zim_lp.specs.Program.{is_among}
use Rattle.zim_lp.specs.FileText.{WrittenTerm, WrittenRow, WrittenColumn}
use Rattle.zim_lp.specs.Text.{short_number, first_name, written_term, or_zero, written_terms, offset_term, written_objective, rows_of_kind, written_row, written_rows, lp_column, written_offset, written_columns, written_file}
use Rattle.zim_lp.proofs.Readable.{term_said, row_said, system_said, IsReadableTerm, IsReadableColumn, column_names, AreOver, IsReadableFile}
use Rattle.zim_lp.proofs.Meaning.{among_append}
use Rattle.zim_lp.proofs.ProgramParts.{all_append, IsFileTerm, IsFileRow, file_terms, terms_readable, or_zero_readable, offset_term_readable, or_named_zero, named_offset, objective_same, each_file_row, rows_readable, file_row, rows_same, columns_readable, offset_column_readable, columns_said}

-- each term is over a column

numbered_among : (first : ℕ) (columns : List Column) (j : ℕ) → first ≤ j → j < first + length columns → is_among (column_names (map lp_column (enumerate_from first columns))) (column_name j) ≡ true
numbered_among first [] j low high = absurd (omega arith)
numbered_among first (c ∷ cs) j low high =
    by_first (bytes_eq (column_name j) (column_name first)) refl (λ above. numbered_among (first + 1) cs j above (omega arith))
  where
    by_first : (t : Bool) → bytes_eq (column_name j) (column_name first) ≡ t → (first + 1 ≤ j → is_among (column_names (map lp_column (enumerate_from (first + 1) cs))) (column_name j) ≡ true) → (t || is_among (column_names (map lp_column (enumerate_from (first + 1) cs))) (column_name j)) ≡ true
    by_first true e later = refl
    by_first false e later = later (let other : j ≢ first = λ same. different j first e same in omega arith)
      where
        different : (i k : ℕ) → bytes_eq (column_name i) (column_name k) ≡ false → i ≡ k → ⊥
        different i k e same =
            let equal : bytes_eq (column_name i) (column_name k) ≡ true = subst (λ m. bytes_eq (column_name i) (column_name m) ≡ true) same (bytes_eq-same (column_name i)) in cc

-- the names of a file's columns, in two parts
names_in_parts : (p : LinearProgram) (w : Word) → is_among (column_names (written_columns p)) w ≡ (is_among (column_names (map lp_column (enumerate_from 1 p.columns))) w || is_among (column_names (cond (has_offset p) (written_offset ∷ []) [])) w)
names_in_parts p w =
    ap
    (λ names. is_among names w)
    (map-append (λ (c : WrittenColumn). c.name) (map lp_column (enumerate_from 1 p.columns)) (cond (has_offset p) (written_offset ∷ []) []))
    ∙ among_append (column_names (map lp_column (enumerate_from 1 p.columns))) (column_names (cond (has_offset p) (written_offset ∷ []) [])) w

or_left : (a b : Bool) → a ≡ true → (a || b) ≡ true
or_left a b e = rw e refl

or_right : (a b : Bool) → b ≡ true → (a || b) ≡ true
or_right true b e = refl
or_right false b e = e

column_among : (p : LinearProgram) (j : ℕ) → 0 < j → j ≤ length p.columns → is_among (column_names (written_columns p)) (column_name j) ≡ true
column_among p j low high =
    names_in_parts p (column_name j)
    ∙ or_left
    (is_among (column_names (map lp_column (enumerate_from 1 p.columns))) (column_name j))
    (is_among (column_names (cond (has_offset p) (written_offset ∷ []) [])) (column_name j))
    (numbered_among 1 p.columns j (omega arith) (omega arith))

offset_among : (p : LinearProgram) → has_offset p ≡ true → is_among (column_names (written_columns p)) offset_name ≡ true
offset_among p stands =
    names_in_parts p offset_name
    ∙ or_right
    (is_among (column_names (map lp_column (enumerate_from 1 p.columns))) offset_name)
    (is_among (column_names (cond (has_offset p) (written_offset ∷ []) [])) offset_name)
    (ap (λ b. is_among (column_names (cond b (written_offset ∷ []) [])) offset_name) stands)

first_among : (p : LinearProgram) → is_among (column_names (written_columns p)) (first_name (length p.columns)) ≡ true
first_among p = by_test (length p.columns == 0) refl
  where
    by_test : (none : Bool) → (length p.columns == 0) ≡ none → is_among (column_names (written_columns p)) (cond none offset_name (column_name 1)) ≡ true
    by_test true e = offset_among p (or_left (length p.columns == 0) (not (same p.target.constant rational.zero)) e)
    by_test false e = column_among p 1 (omega arith) (let some : length p.columns ≢ 0 = grind (arith, nat_tests) in omega arith)

terms_over : (p : LinearProgram) (ts : List Term) → AllByRecursion (IsFileTerm (length p.columns)) ts → AreOver (column_names (written_columns p)) (map written_term ts)
terms_over p [] all = tt
terms_over p (t ∷ ts) all = (column_among p t.0 all.0.from_one all.0.in_columns, terms_over p ts all.1)

or_zero_over : (p : LinearProgram) (ts : List WrittenTerm) → AreOver (column_names (written_columns p)) ts → AreOver (column_names (written_columns p)) (or_zero (length p.columns) ts)
or_zero_over p [] all = (first_among p, tt)
or_zero_over p (t ∷ ts) all = all

offset_over : (p : LinearProgram) → AreOver (column_names (written_columns p)) (offset_term p.target.constant)
offset_over p = by_test (same p.target.constant rational.zero) refl
  where
    by_test : (b : Bool) → same p.target.constant rational.zero ≡ b → AreOver (column_names (written_columns p)) (cond b [] (record { number = short_number p.target.constant; name = offset_name } ∷ []))
    by_test true e = tt
    by_test false e = (offset_among p (or_right (length p.columns == 0) (not (same p.target.constant rational.zero)) (ap not e)), tt)

kind_over : (names : List Word) (number : ℕ) (terms : List WrittenTerm) (kind : RowKind) → AreOver names terms → AllByRecursion (λ (r : WrittenRow). AreOver names r.terms) (rows_of_kind number terms kind)
kind_over names number terms (One sense right) over = (over, tt)
kind_over names number terms (Range low high) over = (over, (over, tt))

rows_over : (p : LinearProgram) (first : ℕ) (rows : List Row) → AllByRecursion (IsFileRow (length p.columns)) rows → AllByRecursion (λ (r : WrittenRow). AreOver (column_names (written_columns p)) r.terms) (flat_map (written_row (length p.columns)) (enumerate_from first rows))
rows_over p first [] all = tt
rows_over p first (row ∷ rows) all =
    all_append
    (λ (r : WrittenRow). AreOver (column_names (written_columns p)) r.terms)
    (written_row (length p.columns) (first, row))
    (flat_map (written_row (length p.columns)) (enumerate_from (first + 1) rows))
    (kind_over (column_names (written_columns p)) first (written_terms (length p.columns) row.terms) row.kind (or_zero_over p (map written_term row.terms) (terms_over p row.terms all.0.terms)))
    (rows_over p (first + 1) rows all.1)

-- the file

-- The program by name, as the file has it: a list without terms has one term with the coefficient 0, and a range is two rows.
abbrev pub file_system : LinearProgram → System
file_system p = record {
  columns = file_columns p;
  rows = flat_map (file_row (length p.columns)) p.rows;
  objective = or_named_zero (length p.columns) (map named_term p.target.terms ++ named_offset p.target.constant);
  maximises = p.target.maximize;
}

-- What holds of a program's parts, by recursion.
record AreFileParts (p : LinearProgram) : Type 0 where
  pub objective : AllByRecursion (IsFileTerm (length p.columns)) p.target.terms
  pub rows : AllByRecursion (IsFileRow (length p.columns)) p.rows
  pub columns : AllByRecursion HasSidesWithin p.columns

file_parts : (p : LinearProgram) → IsProgram p.columns p.rows p.target → AreFileParts p
file_parts p is = record {
  objective = file_terms (length p.columns) p.target.terms is.objective.columns is.objective.short is.objective.terms_within;
  rows = each_file_row (length p.columns) p.rows (recursion_from_All (IsRow (length p.columns)) p.rows is.each_row);
  columns = recursion_from_All HasSidesWithin p.columns is.sides_within;
}

pub program_readable : (p : LinearProgram) → IsProgram p.columns p.rows p.target → IsReadableFile (written_file p)
program_readable p is =
    let parts : AreFileParts p = file_parts p is in
    let few : length p.columns ≤ 1000000 = is.few_columns in
    let few_rows : length p.rows ≤ 1000000 = is.few_rows in
    let h : length p.columns < 2 ^ 32 = omega arith in
    record {
      objective =
          or_zero_readable
          (length p.columns)
          (map written_term p.target.terms ++ offset_term p.target.constant)
          (all_append IsReadableTerm (map written_term p.target.terms) (offset_term p.target.constant) (terms_readable (length p.columns) h p.target.terms parts.objective) (offset_term_readable p.target.constant is.objective.short_constant is.objective.constant_within));
      objective_over =
          or_zero_over
          p
          (map written_term p.target.terms ++ offset_term p.target.constant)
          (all_append (λ (t : WrittenTerm). is_among (column_names (written_columns p)) t.name ≡ true) (map written_term p.target.terms) (offset_term p.target.constant) (terms_over p p.target.terms parts.objective) (offset_over p));
      rows = rows_readable (length p.columns) 1 h p.rows (omega arith) parts.rows;
      rows_over = rows_over p 1 p.rows parts.rows;
      columns =
          all_append
          IsReadableColumn
          (map lp_column (enumerate_from 1 p.columns))
          (cond (has_offset p) (written_offset ∷ []) [])
          (columns_readable 1 p.columns (omega arith) parts.columns)
          (offset_column_readable (has_offset p));
      distinct = subst HasDistinctNames (sym (columns_said p parts.columns)) (file_columns_distinct p is);
    }

system_by : Bool → List NamedColumn → List instance.Row → List instance.NamedTerm → System
system_by maximises columns rows objective = record { columns = columns; rows = rows; objective = objective; maximises = maximises }

-- the system of the file's parts
pub system_same : (p : LinearProgram) → IsProgram p.columns p.rows p.target → system_said (written_file p) ≡ file_system p
unfolding system_by
system_same p is =
    let parts : AreFileParts p = file_parts p is in
    let n : ℕ = length p.columns in
    ap (λ cs. system_by p.target.maximize cs (map row_said (written_rows n p.rows)) (map term_said (written_objective n p.target.terms p.target.constant))) (columns_said p parts.columns)
    ∙ ap₂
    (λ (rs : List instance.Row) (ts : List instance.NamedTerm). system_by p.target.maximize (file_columns p) rs ts)
    (rows_same n 1 p.rows parts.rows)
    (objective_same n p.target.terms p.target.constant parts.objective is.objective.short_constant is.objective.constant_within)
