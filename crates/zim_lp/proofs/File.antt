-- The text of a readable file is read into the sections that it was written from.
use Rattle.std.proofs.Common.{◌≡◌, ℕ, Bool, true, false, cond, List, [], ◌∷◌, ◌++◌, map, Some, refl, sym, ◌∙◌, ap}
use Rattle.std.specs.Prelude.{codes, flat_map, option_and_then}
use Rattle.std.specs.List.{AllByRecursion}
use Rattle.std.proofs.lemmas.List.{append-nil}
use Rattle.zim_instance.specs.Instance.{NamedTerm, Row}
use Rattle.zim_lp.specs.Words.{Word, lp_words}
use Rattle.zim_lp.specs.Program.{Program}
use Rattle.zim_lp.specs.Syntax.{is_label, is_lp_name, read_name, read_row, begins_bound, read_bound, read_generals}
use Rattle.zim_lp.specs.Reader.{read_last_sections, read_sections, read_program}
use Rattle.zim_lp.specs.FileText.{WrittenRow, WrittenColumn, WrittenFile, row_text, bound_text, general_text, generals_text, integers, aim_text, terms_text, file_text}
use Rattle.zim_lp.proofs.Cutting.{Closed, Closed-Closed, Open-Closed}
use Rattle.zim_lp.proofs.Readable.{term_said, row_said, IsReadableRow, IsReadableColumn, IsReadableFile}
use Rattle.zim_lp.proofs.Sentences.{terms_words, terms_open, behind_label, row_closed, first_of_bound, more_of_bound, bound_closed, general_closed, each_closed}
use Rattle.zim_lp.proofs.Parsing.{Reads, stops, each, read_all-words, terms_read, row_reads, bound_said, bound_reads, general_reads}

-- the words of each section

abbrev rows_words : List WrittenRow → List Word
rows_words rows = flat_map (λ (r : WrittenRow). r.label ∷ behind_label r) rows

abbrev first_word : WrittenColumn → Word
first_word c = first_of_bound c.name c.lower c.upper

abbrev more_words : WrittenColumn → List Word
more_words c = more_of_bound c.name c.lower c.upper

abbrev bounds_words : List WrittenColumn → List Word
bounds_words columns = flat_map (λ (c : WrittenColumn). first_word c ∷ more_words c) columns

abbrev generals_words : List WrittenColumn → List Word
generals_words [] = []
generals_words (c ∷ cs) = codes "Generals" ∷ flat_map (λ (d : WrittenColumn). d.name ∷ []) (c ∷ cs)

abbrev aim_word : Bool → Word
aim_word maximises = cond maximises (codes "Maximize") (codes "Minimize")

abbrev behind_bounds : WrittenFile → List Word
behind_bounds file = generals_words (integers file.columns) ++ (codes "End" ∷ [])

abbrev behind_rows : WrittenFile → List Word
behind_rows file = codes "Bounds" ∷ (bounds_words file.columns ++ behind_bounds file)

abbrev behind_objective : WrittenFile → List Word
behind_objective file = codes "Subject" ∷ codes "To" ∷ (rows_words file.rows ++ behind_rows file)

abbrev file_words : WrittenFile → List Word
file_words file = aim_word file.maximises ∷ codes "obj:" ∷ (terms_words file.objective ++ behind_objective file)

-- the sections that a file has
abbrev pub program_said : WrittenFile → Program
program_said file = record {
  maximises = file.maximises;
  objective = map term_said file.objective;
  rows = map row_said file.rows;
  bounds = map bound_said file.columns;
  generals = map (λ (c : WrittenColumn). c.name) (integers file.columns);
}

-- cut

readable_integers : (columns : List WrittenColumn) → AllByRecursion IsReadableColumn columns → AllByRecursion IsReadableColumn (integers columns)
readable_integers [] all = tt
readable_integers (c ∷ cs) all = by_mark c.integer (readable_integers cs all.1)
  where
    by_mark : (b : Bool) → AllByRecursion IsReadableColumn (integers cs) → AllByRecursion IsReadableColumn (cond b (c ∷ integers cs) (integers cs))
    by_mark true later = (all.0, later)
    by_mark false later = later

rows_closed : (rows : List WrittenRow) → AllByRecursion IsReadableRow rows → Closed (flat_map row_text rows) (rows_words rows)
rows_closed rows all =
    each_closed row_text (λ (r : WrittenRow). r.label) behind_label rows (each IsReadableRow (λ (r : WrittenRow). Closed (row_text r) (r.label ∷ behind_label r)) row_closed rows all)

bounds_closed : (columns : List WrittenColumn) → AllByRecursion IsReadableColumn columns → Closed (flat_map bound_text columns) (bounds_words columns)
bounds_closed columns all =
    each_closed bound_text first_word more_words columns (each IsReadableColumn (λ (c : WrittenColumn). Closed (bound_text c) (first_word c ∷ more_words c)) bound_closed columns all)

generals_closed : (columns : List WrittenColumn) → AllByRecursion IsReadableColumn columns → Closed (generals_text columns) (generals_words columns)
generals_closed [] all = record { cut = λ rest. refl }
generals_closed (c ∷ cs) all =
    Closed-Closed
    (codes "Generals\n")
    (flat_map general_text (c ∷ cs))
    (codes "Generals" ∷ [])
    (flat_map (λ (d : WrittenColumn). d.name ∷ []) (c ∷ cs))
    (record { cut = λ rest. refl })
    (each_closed general_text (λ (d : WrittenColumn). d.name) (λ (d : WrittenColumn). []) (c ∷ cs) (each IsReadableColumn (λ (d : WrittenColumn). Closed (general_text d) (d.name ∷ [])) general_closed (c ∷ cs) all))

aim_closed : (maximises : Bool) → Closed (aim_text maximises) (aim_word maximises ∷ [])
aim_closed true = record { cut = λ rest. refl }
aim_closed false = record { cut = λ rest. refl }

file_closed : (file : WrittenFile) → IsReadableFile file → Closed (file_text file) (file_words file)
file_closed file is =
    let end : List ℕ = codes "End\n" in
    let last : List ℕ = generals_text (integers file.columns) ++ end in
    let from_bounds : List ℕ = flat_map bound_text file.columns ++ last in
    let from_rows : List ℕ = flat_map row_text file.rows ++ (codes "Bounds\n" ++ from_bounds) in
    let from_terms : List ℕ = terms_text file.objective ++ (codes "\nSubject To\n" ++ from_rows) in
    let last_closed : Closed last (behind_bounds file) =
    Closed-Closed (generals_text (integers file.columns)) end (generals_words (integers file.columns)) (codes "End" ∷ []) (generals_closed (integers file.columns) (readable_integers file.columns is.columns)) (record { cut = λ rest. refl }) in
    let bounds : Closed (codes "Bounds\n" ++ from_bounds) (behind_rows file) =
    Closed-Closed (codes "Bounds\n") from_bounds (codes "Bounds" ∷ []) (bounds_words file.columns ++ behind_bounds file) (record { cut = λ rest. refl }) (Closed-Closed (flat_map bound_text file.columns) last (bounds_words file.columns) (behind_bounds file) (bounds_closed file.columns is.columns) last_closed) in
    let rows : Closed (codes "\nSubject To\n" ++ from_rows) (behind_objective file) =
    Closed-Closed (codes "\nSubject To\n") from_rows (codes "Subject" ∷ codes "To" ∷ []) (rows_words file.rows ++ behind_rows file) (record { cut = λ rest. refl }) (Closed-Closed (flat_map row_text file.rows) (codes "Bounds\n" ++ from_bounds) (rows_words file.rows) (behind_rows file) (rows_closed file.rows is.rows) bounds) in
    let terms : Closed from_terms (terms_words file.objective ++ behind_objective file) =
    Open-Closed (terms_text file.objective) 10 (codes "Subject To\n" ++ from_rows) (terms_words file.objective) (behind_objective file) (terms_open file.objective is.objective) refl rows in
    let objective : Closed (codes " obj: " ++ from_terms) (codes "obj:" ∷ (terms_words file.objective ++ behind_objective file)) =
    Closed-Closed (codes " obj: ") from_terms (codes "obj:" ∷ []) (terms_words file.objective ++ behind_objective file) (record { cut = λ rest. refl }) terms in
    Closed-Closed
    (codes "\\ zimplc\n")
    (aim_text file.maximises ++ (codes " obj: " ++ from_terms))
    []
    (file_words file)
    (record { cut = λ rest. refl })
    (Closed-Closed (aim_text file.maximises) (codes " obj: " ++ from_terms) (aim_word file.maximises ∷ []) (codes "obj:" ∷ (terms_words file.objective ++ behind_objective file)) (aim_closed file.maximises) objective)

-- read

generals_read : (columns : List WrittenColumn) → AllByRecursion IsReadableColumn columns → read_generals (generals_words columns ++ (codes "End" ∷ [])) ≡ Some (map (λ (c : WrittenColumn). c.name) columns, codes "End" ∷ [])
generals_read [] all = refl
generals_read (c ∷ cs) all =
    rw (read_all-words is_lp_name read_name (λ (d : WrittenColumn). d.name) (λ (d : WrittenColumn). []) (λ (d : WrittenColumn). d.name) (c ∷ cs) (each IsReadableColumn (λ (d : WrittenColumn). Reads is_lp_name read_name d.name [] d.name) general_reads (c ∷ cs) all) (codes "End" ∷ []) refl) refl

generals_stop : (columns : List WrittenColumn) → stops begins_bound (generals_words columns ++ (codes "End" ∷ [])) ≡ true
generals_stop [] = refl
generals_stop (c ∷ cs) = refl

last_sections : (maximises : Bool) (objective : List NamedTerm) (rows : List Row) (columns : List WrittenColumn) → AllByRecursion IsReadableColumn columns → read_last_sections maximises objective rows (bounds_words columns ++ (generals_words (integers columns) ++ (codes "End" ∷ []))) ≡ Some (record { maximises = maximises; objective = objective; rows = rows; bounds = map bound_said columns; generals = map (λ (c : WrittenColumn). c.name) (integers columns) })
last_sections maximises objective rows columns all =
    rw (
      read_all-words begins_bound read_bound first_word more_words bound_said columns (each IsReadableColumn (λ (c : WrittenColumn). Reads begins_bound read_bound (first_word c) (more_words c) (bound_said c)) bound_reads columns all) (generals_words (integers columns) ++ (codes "End" ∷ [])) (generals_stop (integers columns)),
      generals_read (integers columns) (readable_integers columns all),
    )
    refl

sections_read : (maximises : Bool) (objective : List NamedTerm) (file : WrittenFile) → IsReadableFile file → read_sections maximises objective (behind_objective file) ≡ Some (record { maximises = maximises; objective = objective; rows = map row_said file.rows; bounds = map bound_said file.columns; generals = map (λ (c : WrittenColumn). c.name) (integers file.columns) })
sections_read maximises objective file is =
    rw
    (read_all-words is_label read_row (λ (r : WrittenRow). r.label) behind_label row_said file.rows (each IsReadableRow (λ (r : WrittenRow). Reads is_label read_row r.label (behind_label r) (row_said r)) row_reads file.rows is.rows) (behind_rows file) refl)
    (last_sections maximises objective (map row_said file.rows) file.columns is.columns)

words_read : (file : WrittenFile) → IsReadableFile file → read_program (file_words file) ≡ Some (program_said file)
words_read file is = by_aim file.maximises
  where
    by_aim : (maximises : Bool) → read_program (aim_word maximises ∷ codes "obj:" ∷ (terms_words file.objective ++ behind_objective file)) ≡ Some (record (program_said file) { maximises = maximises })
    by_aim true =
        ap (option_and_then (λ (objective : List NamedTerm × List Word). read_sections true objective.0 objective.1)) (terms_read file.objective is.objective (behind_objective file) refl)
        ∙ sections_read true (map term_said file.objective) file is
    by_aim false =
        ap (option_and_then (λ (objective : List NamedTerm × List Word). read_sections false objective.0 objective.1)) (terms_read file.objective is.objective (behind_objective file) refl)
        ∙ sections_read false (map term_said file.objective) file is

-- the text of a file is read into its sections
pub file_read : (file : WrittenFile) → IsReadableFile file → read_program (lp_words (file_text file)) ≡ Some (program_said file)
file_read file is =
    ap
    read_program
    (ap lp_words (sym (append-nil (file_text file)))
    ∙ (file_closed file is).cut []
    ∙ append-nil (file_words file))
    ∙ words_read file is
