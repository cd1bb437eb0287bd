-- The lines of columns: their fields, what they are read as, that they come in order, and their pairs.
use Rattle.std.proofs.Common.{◌≡◌, ℕ, zero, suc, ◌+◌, ◌<◌, ◌≤◌, ◌^◌, Bool, true, false, cond, IsTrue, List, [], ◌∷◌, ◌++◌, map, Option, Some, None, nat_le, refl, sym, ◌∙◌, ap, subst, append_assoc, arith}
use Rattle.std.specs.Prelude.{◌==◌, codes, flat_map, IfSome}
use Rattle.std.specs.List.{AllByRecursion, filter_map, range_with_len, find}
use Rattle.std.proofs.lemmas.Bool.{and_from, and_parts, le-leb, leb-true}
use Rattle.std.proofs.lemmas.Bool.Decides.{nat_tests}
use Rattle.std.proofs.lemmas.List.Elements.{recursion_from_All}
use Rattle.zim_rational.specs.Rational.{Rational}
use Rattle.zim_fields.specs.Fields.{Field, IsField}
use Rattle.zim_fields.proofs.Cutting.{IsField-test}
use Rattle.zim_fields.proofs.Decimals.{lettered_field, from_one_of-decimal}
use Rattle.zim_rows.specs.Program.{IsWithin}
use Rattle.zim_rows.specs.Named.{column_name}
use Rattle.zim_tuples.specs.declared.elements.Elem.{Elem}
use Rattle.zim_columns.specs.declared.declared.Declared.{Declared as DeclaredColumn}
use Rattle.zim_columns.specs.Names.{are_rising}
use Rattle.zim_table.specs.Reader.{Pair, Line, read_line, read_lines, are_in_order, pair_of}
use Rattle.zim_table.specs.Reader.Line.{Declared, Priority, StartValue, Helper}
use Rattle.zim_table.specs.Reader.Stage.{Columns}
use Rattle.zim_table.specs.Text.{fraction_text, tuple_text, index_text, declared_text, detail_text, lines_text, declared_at, column_text}
use Rattle.zim_columns.specs.Parts.{IsComponentWithin, HasPartsWithin}
use Rattle.zim_table.specs.Correct.{component_said, pair_said}
use Rattle.zim_table.proofs.Lines.{Gives, Gives-nil, Gives-append, Gives-line, Gives-flat}
use Rattle.zim_table.proofs.TupleTexts.{tuple_field, tuple_reads, fraction_field, fraction_said}

-- a declared column whose name and parts can be written
pub record IsWritten (declared : DeclaredColumn) : Type 0 where
  pub name : IsField declared.name
  pub parts : HasPartsWithin declared

-- what is found is one of those that are sought in
found_written : (test : DeclaredColumn → Bool) (ds : List DeclaredColumn) → AllByRecursion IsWritten ds → IfSome (find test ds) IsWritten
found_written test [] all = tt
found_written test (d ∷ ds) all = by (test d) (found_written test ds all.1)
  where
    by : (b : Bool) → IfSome (find test ds) IsWritten → IfSome (cond b (Some d) (find test ds)) IsWritten
    by true others = all.0
    by false others = others

-- ---- the fields of each line

abbrev index_fields : List Elem → List Field
index_fields [] = []
index_fields (e ∷ es) = tuple_text e es ∷ []

abbrev name_fields : ℕ → DeclaredColumn → List Field
name_fields j d = codes "column" ∷ column_name j ∷ d.name ∷ index_fields d.tuple

abbrev detail_fields : List ℕ → ℕ → Option Rational → List (List Field)
detail_fields word j None = []
detail_fields word j (Some q) = (word ∷ column_name j ∷ fraction_text q ∷ []) ∷ []

abbrev lines_fields : ℕ → Option DeclaredColumn → List (List Field)
lines_fields j None = (codes "helper" ∷ column_name j ∷ []) ∷ []
lines_fields j (Some d) = name_fields j d ∷ (detail_fields (codes "priority") j d.priority ++ detail_fields (codes "startval") j d.startval)

abbrev pub column_fields : List DeclaredColumn → ℕ → List (List Field)
column_fields columns j = lines_fields j (declared_at columns j)

-- ---- the texts give them

numbered_field : (j : ℕ) → j < 2 ^ 64 → IsField (column_name j)
numbered_field j small = lettered_field 120 j (record { blank = refl; line_end = refl }) small

name_gives : (j : ℕ) (name : List ℕ) (tuple : List Elem) (text : List ℕ) → text ≡ codes "column " ++ (column_name j ++ (codes " " ++ (name ++ (index_text tuple ++ codes "\n")))) → j < 2 ^ 64 → IsField name → AllByRecursion IsComponentWithin tuple
    → Gives text ((codes "column" ∷ column_name j ∷ name ∷ index_fields tuple) ∷ [])
name_gives j name [] text same small is within =
    Gives-line text (codes "column") (column_name j ∷ name ∷ []) same (IsField-test (codes "column") refl refl) (numbered_field j small, (is, tt))
name_gives j name (e ∷ es) text same small is within =
    Gives-line text (codes "column") (column_name j ∷ name ∷ tuple_text e es ∷ [])
    (same ∙ ap (λ (t : List ℕ). codes "column " ++ (column_name j ++ (codes " " ++ (name ++ t)))) (append_assoc (codes " ") (tuple_text e es) (codes "\n")))
    (IsField-test (codes "column") refl refl) (numbered_field j small, (is, (tuple_field e es within.0 within.1, tt)))

detail_gives : (word : List ℕ) (j : ℕ) (q : Option Rational) → IsField word → j < 2 ^ 64 → IfSome q IsWithin → Gives (detail_text word j q) (detail_fields word j q)
detail_gives word j None is small within = Gives-nil
detail_gives word j (Some q) is small within =
    Gives-line (detail_text word j (Some q)) word (column_name j ∷ fraction_text q ∷ []) refl is (numbered_field j small, (fraction_field q within, tt))

lines_give : (j : ℕ) (found : Option DeclaredColumn) → j < 2 ^ 64 → IfSome found IsWritten → Gives (lines_text j found) (lines_fields j found)
lines_give j None small is = Gives-line (lines_text j None) (codes "helper") (column_name j ∷ []) refl (IsField-test (codes "helper") refl refl) (numbered_field j small, tt)
lines_give j (Some d) small is =
    let named = name_gives j d.name d.tuple (declared_text j d) refl small is.name (recursion_from_All IsComponentWithin d.tuple is.parts.tuple) in
    let priority = detail_gives (codes "priority") j d.priority (IsField-test (codes "priority") refl refl) small is.parts.priority in
    let startval = detail_gives (codes "startval") j d.startval (IsField-test (codes "startval") refl refl) small is.parts.startval in
    Gives-append _ _ _ _ named (Gives-append _ _ _ _ priority startval)

each_gives : (columns : List DeclaredColumn) (first n : ℕ) → first + n < 2 ^ 64 → AllByRecursion IsWritten columns → AllByRecursion (λ (j : ℕ). Gives (column_text columns j) (column_fields columns j)) (range_with_len first n)
each_gives columns first zero room all = tt
each_gives columns first (suc n) room all =
    (lines_give first (declared_at columns first) (omega arith) (found_written (λ (d : DeclaredColumn). d.column == first) columns all), each_gives columns (first + 1) n (omega arith) all)

pub columns_give : (columns : List DeclaredColumn) (n : ℕ) → 1 + n < 2 ^ 64 → AllByRecursion IsWritten columns → Gives (flat_map (column_text columns) (range_with_len 1 n)) (flat_map (column_fields columns) (range_with_len 1 n))
columns_give columns n room all = Gives-flat (column_text columns) (column_fields columns) (range_with_len 1 n) (each_gives columns 1 n room all)

-- ---- they are read

abbrev pair_at : ℕ → DeclaredColumn → Pair
pair_at j d = record { column = column_name j; name = d.name; tuple = map component_said d.tuple }

abbrev said_detail : (ℕ → Line) → ℕ → Option Rational → List Line
said_detail detail j None = []
said_detail detail j (Some q) = detail j ∷ []

abbrev said_lines : ℕ → Option DeclaredColumn → List Line
said_lines j None = Helper j ∷ []
said_lines j (Some d) = Declared j (pair_at j d) ∷ (said_detail Priority j d.priority ++ said_detail StartValue j d.startval)

abbrev pub said_column : List DeclaredColumn → ℕ → List Line
said_column columns j = said_lines j (declared_at columns j)

name_read : (j : ℕ) (name : List ℕ) (tuple : List Elem) → 0 < j → j < 2 ^ 64 → AllByRecursion IsComponentWithin tuple
    → read_line (codes "column" ∷ column_name j ∷ name ∷ index_fields tuple) ≡ Some (Declared j (record { column = column_name j; name = name; tuple = map component_said tuple }))
name_read j name [] some small within = rw (from_one_of-decimal j some (omega arith)) refl
name_read j name (e ∷ es) some small within = rw (tuple_reads e es within.0 within.1, from_one_of-decimal j some (omega arith)) refl

priority_read : (j : ℕ) (q : Option Rational) (ls : List (List Field)) (others : List Line) → 0 < j → j < 2 ^ 64 → IfSome q IsWithin → read_lines ls ≡ Some others
    → read_lines (detail_fields (codes "priority") j q ++ ls) ≡ Some (said_detail Priority j q ++ others)
priority_read j None ls others some small within e = e
priority_read j (Some q) ls others some small within e = rw (fraction_said q within, from_one_of-decimal j some (omega arith), e) refl

startval_read : (j : ℕ) (q : Option Rational) (ls : List (List Field)) (others : List Line) → 0 < j → j < 2 ^ 64 → IfSome q IsWithin → read_lines ls ≡ Some others
    → read_lines (detail_fields (codes "startval") j q ++ ls) ≡ Some (said_detail StartValue j q ++ others)
startval_read j None ls others some small within e = e
startval_read j (Some q) ls others some small within e = rw (fraction_said q within, from_one_of-decimal j some (omega arith), e) refl

line_read : (line : List Field) (said : Line) (ls : List (List Field)) (others : List Line) → read_line line ≡ Some said → read_lines ls ≡ Some others → read_lines (line ∷ ls) ≡ Some (said ∷ others)
line_read line said ls others e f = rw (e, f) refl

lines_read : (j : ℕ) (found : Option DeclaredColumn) (ls : List (List Field)) (others : List Line) → 0 < j → j < 2 ^ 64 → IfSome found IsWritten → read_lines ls ≡ Some others
    → read_lines (lines_fields j found ++ ls) ≡ Some (said_lines j found ++ others)
lines_read j None ls others some small is e = rw (from_one_of-decimal j some (omega arith), e) refl
lines_read j (Some d) ls others some small is e =
    let priority : List (List Field) = detail_fields (codes "priority") j d.priority in
    let startval : List (List Field) = detail_fields (codes "startval") j d.startval in
    ap (λ (ms : List (List Field)). read_lines (name_fields j d ∷ ms)) (append_assoc priority startval ls)
    ∙ line_read (name_fields j d) (Declared j (pair_at j d)) (priority ++ (startval ++ ls)) (said_detail Priority j d.priority ++ (said_detail StartValue j d.startval ++ others))
    (name_read j d.name d.tuple some small (recursion_from_All IsComponentWithin d.tuple is.parts.tuple))
    (priority_read j d.priority (startval ++ ls) (said_detail StartValue j d.startval ++ others) some small is.parts.priority
    (startval_read j d.startval ls others some small is.parts.startval e))
    ∙ ap (λ (ms : List Line). Some (Declared j (pair_at j d) ∷ ms)) (sym (append_assoc (said_detail Priority j d.priority) (said_detail StartValue j d.startval) others))

pub columns_read : (columns : List DeclaredColumn) (first n : ℕ) (ls : List (List Field)) (others : List Line) → 0 < first → first + n < 2 ^ 64 → AllByRecursion IsWritten columns → read_lines ls ≡ Some others
    → read_lines (flat_map (column_fields columns) (range_with_len first n) ++ ls) ≡ Some (flat_map (said_column columns) (range_with_len first n) ++ others)
columns_read columns first zero ls others some room all e = e
columns_read columns first (suc n) ls others some room all e =
    ap read_lines (append_assoc (column_fields columns first) (flat_map (column_fields columns) (range_with_len (first + 1) n)) ls)
    ∙ lines_read first (declared_at columns first) _ _ some (omega arith) (found_written (λ (d : DeclaredColumn). d.column == first) columns all)
    (columns_read columns (first + 1) n ls others (omega arith) (omega arith) all e)
    ∙ ap Some (sym (append_assoc (said_column columns first) (flat_map (said_column columns) (range_with_len (first + 1) n)) others))

-- ---- they come in order

same_number : (n : ℕ) → (n == n) ≡ true
same_number n = grind (arith, nat_tests)

-- whatever details of the last column may still be said, these lines may follow
unfoldable pub MayFollow : ℕ → List Line → Type 0
MayFollow last rest = (priority start : Bool) → are_in_order (Columns last priority start) rest ≡ true

details_ordered : (j : ℕ) (p s : Option Rational) (rest : List Line) → MayFollow j rest → are_in_order (Columns j true true) ((said_detail Priority j p ++ said_detail StartValue j s) ++ rest) ≡ true
unfolding MayFollow
details_ordered j None None rest may = may true true
details_ordered j None (Some s) rest may = rw (same_number j) (may true false)
details_ordered j (Some p) None rest may = rw (same_number j) (may false true)
details_ordered j (Some p) (Some s) rest may = rw (same_number j) (rw (same_number j) (may false false))

lines_ordered : (last : ℕ) (found : Option DeclaredColumn) (rest : List Line) → MayFollow (last + 1) rest → MayFollow last (said_lines (last + 1) found ++ rest)
unfolding MayFollow
lines_ordered last None rest may = λ priority start. rw (same_number (last + 1)) (may false false)
lines_ordered last (Some d) rest may = λ priority start. rw (same_number (last + 1)) (details_ordered (last + 1) d.priority d.startval rest may)

pub columns_ordered : (columns : List DeclaredColumn) (last n : ℕ) (rest : List Line) → ((m : ℕ) → MayFollow m rest) → MayFollow last (flat_map (said_column columns) (range_with_len (last + 1) n) ++ rest)
columns_ordered columns last zero rest may = may last
columns_ordered columns last (suc n) rest may =
    subst (MayFollow last) (sym (append_assoc (said_column columns (last + 1)) (flat_map (said_column columns) (range_with_len (last + 1 + 1) n)) rest))
    (lines_ordered last (declared_at columns (last + 1)) _ (columns_ordered columns (last + 1) n rest may))

-- ---- their pairs

abbrev pairs_at : ℕ → Option DeclaredColumn → List Pair
pairs_at j None = []
pairs_at j (Some d) = pair_at j d ∷ []

abbrev pairs_of : List DeclaredColumn → ℕ → List Pair
pairs_of columns j = pairs_at j (declared_at columns j)

details_pairs : (j : ℕ) (p s : Option Rational) (rest : List Line) → filter_map pair_of ((said_detail Priority j p ++ said_detail StartValue j s) ++ rest) ≡ filter_map pair_of rest
details_pairs j None None rest = refl
details_pairs j None (Some s) rest = refl
details_pairs j (Some p) None rest = refl
details_pairs j (Some p) (Some s) rest = refl

lines_pairs : (j : ℕ) (found : Option DeclaredColumn) (rest : List Line) → filter_map pair_of (said_lines j found ++ rest) ≡ pairs_at j found ++ filter_map pair_of rest
lines_pairs j None rest = refl
lines_pairs j (Some d) rest = ap (λ (ps : List Pair). pair_at j d ∷ ps) (details_pairs j d.priority d.startval rest)

each_pairs : (columns : List DeclaredColumn) (js : List ℕ) (rest : List Line) → filter_map pair_of rest ≡ [] → filter_map pair_of (flat_map (said_column columns) js ++ rest) ≡ flat_map (pairs_of columns) js
each_pairs columns [] rest none = none
each_pairs columns (j ∷ js) rest none =
    ap (filter_map pair_of) (append_assoc (said_column columns j) (flat_map (said_column columns) js) rest)
    ∙ lines_pairs j (declared_at columns j) (flat_map (said_column columns) js ++ rest)
    ∙ ap (λ (ps : List Pair). pairs_of columns j ++ ps) (each_pairs columns js rest none)

pub other_number : (m n : ℕ) → m < n → (m == n) ≡ false
other_number m n h = grind (arith, nat_tests)

later_number : (m n : ℕ) → n < m → (m == n) ≡ false
later_number m n h = grind (arith, nat_tests)

-- a column before the first number isn't found
skipped : (d : DeclaredColumn) (ds : List DeclaredColumn) (first n : ℕ) → d.column < first → flat_map (pairs_of (d ∷ ds)) (range_with_len first n) ≡ flat_map (pairs_of ds) (range_with_len first n)
skipped d ds first zero before = refl
skipped d ds first (suc n) before =
    ap (λ (b : Bool). pairs_at first (cond b (Some d) (declared_at ds first)) ++ flat_map (pairs_of (d ∷ ds)) (range_with_len (first + 1) n)) (other_number d.column first before)
    ∙ ap (λ (ps : List Pair). pairs_of ds first ++ ps) (skipped d ds (first + 1) n (omega arith))

-- where the numbers rise from a higher one on, none is found
pub none_at : (low j : ℕ) (ds : List DeclaredColumn) → IsTrue (are_rising low ds) → j < low → declared_at ds j ≡ None
none_at low j [] rising below = refl
none_at low j (d ∷ ds) rising below =
    let parts = and_parts (nat_le low d.column) (are_rising (suc d.column) ds) rising in
    let le = leb-true low d.column parts.0 in
    rw (later_number d.column j (omega arith)) (none_at (suc d.column) j ds parts.1 (omega arith))

pairs_are : (first n : ℕ) (ds : List DeclaredColumn) → IsTrue (are_rising first ds) → AllByRecursion (λ (d : DeclaredColumn). d.column < first + n) ds → flat_map (pairs_of ds) (range_with_len first n) ≡ map pair_said ds
pairs_are first zero [] rising within = refl
pairs_are first zero (d ∷ ds) rising within =
    let le = leb-true first d.column (and_parts (nat_le first d.column) (are_rising (suc d.column) ds) rising).0 in absurd (omega (arith, within.0, le))
pairs_are first (suc n) [] rising within = pairs_are (first + 1) n [] refl tt
pairs_are first (suc n) (d ∷ ds) rising within = by (d.column == first) refl (pairs_are (first + 1) n ds) (pairs_are (first + 1) n (d ∷ ds))
  where
    low : first ≤ d.column
    low = leb-true first d.column (and_parts (nat_le first d.column) (are_rising (suc d.column) ds) rising).0

    later : IsTrue (are_rising (suc d.column) ds)
    later = (and_parts (nat_le first d.column) (are_rising (suc d.column) ds) rising).1

    Are : List DeclaredColumn → Type 0
    Are es = IsTrue (are_rising (first + 1) es) → AllByRecursion (λ (e : DeclaredColumn). e.column < first + 1 + n) es → flat_map (pairs_of es) (range_with_len (first + 1) n) ≡ map pair_said es

    moved : (es : List DeclaredColumn) → AllByRecursion (λ (e : DeclaredColumn). e.column < first + suc n) es → AllByRecursion (λ (e : DeclaredColumn). e.column < first + 1 + n) es
    moved [] all = tt
    moved (e ∷ es) all = (let h = all.0 in omega (arith, h), moved es all.1)

    by : (b : Bool) → (d.column == first) ≡ b → Are ds → Are (d ∷ ds) → pairs_at first (cond b (Some d) (declared_at ds first)) ++ flat_map (pairs_of (d ∷ ds)) (range_with_len (first + 1) n) ≡ map pair_said (d ∷ ds)
    by true e others all =
        let same : first ≡ d.column = grind (arith, nat_tests) in
        let next : suc d.column ≡ first + 1 = omega (arith, same) in
        ap (λ (j : ℕ). pair_at j d ∷ flat_map (pairs_of (d ∷ ds)) (range_with_len (first + 1) n)) same
        ∙ ap (λ (ps : List Pair). pair_said d ∷ ps)
        (skipped d ds (first + 1) n (omega (arith, same)) ∙ others (subst (λ (k : ℕ). IsTrue (are_rising k ds)) next later) (moved ds within.1))
    by false e others all =
        let more : first + 1 ≤ d.column = grind (arith, nat_tests) in
        ap (λ (found : Option DeclaredColumn). pairs_at first found ++ flat_map (pairs_of (d ∷ ds)) (range_with_len (first + 1) n)) (none_at (suc d.column) first ds later (omega (arith, low)))
        ∙ all (and_from (nat_le (first + 1) d.column) (are_rising (suc d.column) ds) (le-leb (first + 1) d.column more) later) (moved (d ∷ ds) within)

-- the pairs of all columns are those of the declared ones
pub columns_pairs : (columns : List DeclaredColumn) (n : ℕ) (rest : List Line) → IsTrue (are_rising 1 columns) → AllByRecursion (λ (d : DeclaredColumn). d.column < 1 + n) columns → filter_map pair_of rest ≡ []
    → filter_map pair_of (flat_map (said_column columns) (range_with_len 1 n) ++ rest) ≡ map pair_said columns
columns_pairs columns n rest rising within none = each_pairs columns (range_with_len 1 n) rest none ∙ pairs_are 1 n columns rising within
