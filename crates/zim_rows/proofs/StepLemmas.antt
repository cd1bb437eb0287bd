-- Columns and rows that are added one after another, and when a step has room.
use Rattle.std.proofs.Common.{ℕ, ◌≡◌, ◌<◌, ◌≤◌, ◌+◌, ◌-◌, false, List, [], ◌∷◌, ◌++◌, length, length-append, append_assoc, append-nil, take, length-take, map, get_or, All, Result, Ok, Err, nat_le, arith, refl, ap, sym, ◌∙◌, subst}
use Rattle.std.proofs.lemmas.Bool.{le-leb, leb-true, false_from_ne_true}
use Rattle.std.proofs.lemmas.List.{take_more, take_all, map-append, length-map}
use Rattle.zim_answer.specs.Gives.{Stops}
use Rattle.zim_fault.specs.declared.faults.Fault.{Fault}
use Rattle.zim_fault.specs.declared.faults.Place.{Place}
use Rattle.zim_fault.specs.declared.kinds.Kind.TheVariants.{TooManyRows, TooManyColumns}
use Rattle.zim_rows.specs.declared.rows.Column.{Column}
use Rattle.zim_rows.specs.declared.steps.NewRow.{NewRow}
use Rattle.zim_rows.specs.declared.faults.EncodeFault.{EncodeFault}
use Rattle.zim_rows.specs.declared.faults.EncodeFault.TheVariants as encode
use Rattle.zim_rows.specs.System.{LinearSystem, with_column, with_row, most_in_system}
use Rattle.zim_rows.specs.Steps.{with_step, step_placed, fault_here, given_row, step_of, encode_cause, IsNewRow}

-- ---- columns, one after another

pub no_columns : (s : LinearSystem) (columns : List Column) → s ≡ with_step s (step_of (take 0 columns) [])
no_columns s columns = rw (append-nil s.columns, append-nil s.rows) refl

one_column : (s : LinearSystem) (columns : List Column) (column : Column) → with_column (with_step s (step_of columns [])) column ≡ with_step s (step_of (columns ++ column ∷ []) [])
one_column s columns column = rw (append_assoc s.columns columns (column ∷ [])) refl

pub next_column : (s now new : LinearSystem) (columns : List Column) (i : ℕ) (column : Column) → now ≡ with_step s (step_of (take i columns) []) → i < length columns → column ≡ get_or columns i column → new ≡ with_column now column → new ≡ with_step s (step_of (take (i + 1) columns) [])
next_column s now new columns i column so_far more here added =
    added
    ∙ ap (λ (t : LinearSystem). with_column t column) so_far
    ∙ one_column s (take i columns) column
    ∙ ap (λ (c : Column). with_step s (step_of (take i columns ++ c ∷ []) [])) here
    ∙ ap (λ (cs : List Column). with_step s (step_of cs [])) (sym (take_more columns i column more))

pub last_column : (s now : LinearSystem) (columns : List Column) (i : ℕ) → now ≡ with_step s (step_of (take i columns) []) → length columns ≤ i → now ≡ with_step s (step_of columns [])
last_column s now columns i so_far all =
    so_far ∙ ap (λ (cs : List Column). with_step s (step_of cs [])) (take_all i columns all)

pub column_room : (s now : LinearSystem) (columns : List Column) (i : ℕ) → now ≡ with_step s (step_of (take i columns) []) → i < length columns → length s.columns + length columns ≤ most_in_system → length now.columns < most_in_system
column_room s now columns i so_far more room =
    let size : length now.columns ≡ length s.columns + length (take i columns) = ap (λ (t : LinearSystem). length t.columns) so_far ∙ length-append s.columns (take i columns) in
    let few : length (take i columns) ≤ i = simp length-take (omega arith) in
    omega arith

-- ---- rows, one after another

pub no_rows : (s : LinearSystem) (rows : List NewRow) → s ≡ with_step s (step_of [] (take 0 rows))
no_rows s rows = rw (append-nil s.columns, append-nil s.rows) refl

one_row : (s : LinearSystem) (rows : List NewRow) (row : NewRow) → with_row (with_step s (step_of [] rows)) (given_row row) ≡ with_step s (step_of [] (rows ++ row ∷ []))
one_row s rows row =
    rw (map-append given_row rows (row ∷ []), append_assoc s.rows (map given_row rows) (given_row row ∷ [])) refl

pub next_row : (s now new : LinearSystem) (rows : List NewRow) (i : ℕ) (row : NewRow) → now ≡ with_step s (step_of [] (take i rows)) → i < length rows → row ≡ get_or rows i row → new ≡ with_row now (given_row row) → new ≡ with_step s (step_of [] (take (i + 1) rows))
next_row s now new rows i row so_far more here added =
    added
    ∙ ap (λ (t : LinearSystem). with_row t (given_row row)) so_far
    ∙ one_row s (take i rows) row
    ∙ ap (λ (r : NewRow). with_step s (step_of [] (take i rows ++ r ∷ []))) here
    ∙ ap (λ (rs : List NewRow). with_step s (step_of [] rs)) (sym (take_more rows i row more))

pub last_row : (s now : LinearSystem) (rows : List NewRow) (i : ℕ) → now ≡ with_step s (step_of [] (take i rows)) → length rows ≤ i → now ≡ with_step s (step_of [] rows)
last_row s now rows i so_far all =
    so_far ∙ ap (λ (rs : List NewRow). with_step s (step_of [] rs)) (take_all i rows all)

pub row_room : (s now : LinearSystem) (rows : List NewRow) (i : ℕ) → now ≡ with_step s (step_of [] (take i rows)) → i < length rows → length s.rows + length rows ≤ most_in_system → length now.rows < most_in_system
row_room s now rows i so_far more room =
    let size : length now.rows ≡ length s.rows + length (map given_row (take i rows)) = ap (λ (t : LinearSystem). length t.rows) so_far ∙ length-append s.rows (map given_row (take i rows)) in
    let few : length (map given_row (take i rows)) ≤ i = simp (length-map, length-take) (omega arith) in
    omega arith

-- a row over the columns of the system is one over them after other rows
pub row_over : (s now : LinearSystem) (rows : List NewRow) (i : ℕ) (row : NewRow) → now ≡ with_step s (step_of [] (take i rows)) → i < length rows → row ≡ get_or rows i row → All (IsNewRow (length s.columns)) rows → IsNewRow (length now.columns) row
row_over s now rows i row so_far more here each =
    let size : length now.columns ≡ length s.columns = ap (λ (t : LinearSystem). length t.columns) so_far ∙ ap length (append-nil s.columns) in
    subst (λ (n : ℕ). IsNewRow n row) (sym size) (subst (IsNewRow (length s.columns)) (sym here) (each i row more))

-- ---- a step

not_le : (a b : ℕ) → b < a → nat_le a b ≡ false
not_le a b h = false_from_ne_true (nat_le a b) (λ t. let le : a ≤ b = leb-true a b t in omega arith)

pub columns_full : (place : Place) (s : LinearSystem) (columns : List Column) (rows : List NewRow) (m : ℕ) → m ≡ length s.columns → m ≤ most_in_system → most_in_system - m < length columns → step_placed place s (step_of columns rows) ≡ Err (fault_here TooManyColumns place)
unfolding step_placed
columns_full place s columns rows m e within full =
    rw (not_le (length s.columns + length columns) most_in_system (omega arith)) refl

pub rows_full : (place : Place) (s : LinearSystem) (columns : List Column) (rows : List NewRow) (m n : ℕ) → m ≡ length s.columns → m ≤ most_in_system → length columns ≤ most_in_system - m → n ≡ length s.rows → n ≤ most_in_system → most_in_system - n < length rows → step_placed place s (step_of columns rows) ≡ Err (fault_here TooManyRows place)
unfolding step_placed
rows_full place s columns rows m n e within some f within_rows full =
    let size : length (map given_row rows) ≡ length rows = simp length-map refl in
    rw (le-leb (length s.columns + length columns) most_in_system (omega arith), not_le (length s.rows + length (map given_row rows)) most_in_system (omega arith)) refl

pub step_fits : (place : Place) (s : LinearSystem) (columns : List Column) (rows : List NewRow) (m n : ℕ) → m ≡ length s.columns → m ≤ most_in_system → length columns ≤ most_in_system - m → n ≡ length s.rows → n ≤ most_in_system → length rows ≤ most_in_system - n → step_placed place s (step_of columns rows) ≡ Ok (with_step s (step_of columns rows))
unfolding step_placed
step_fits place s columns rows m n e within some f within_rows more =
    let size : length (map given_row rows) ≡ length rows = simp length-map refl in
    rw (le-leb (length s.columns + length columns) most_in_system (omega arith), le-leb (length s.rows + length (map given_row rows)) most_in_system (omega arith)) refl

both_added : (s : LinearSystem) (columns : List Column) (rows : List NewRow) → with_step (with_step s (step_of columns [])) (step_of [] rows) ≡ with_step s (step_of columns rows)
both_added s columns rows = rw (append-nil (s.columns ++ columns), append-nil s.rows) refl

pub step_added : (place : Place) (s middle new : LinearSystem) (columns : List Column) (rows : List NewRow) (m n : ℕ) → m ≡ length s.columns → m ≤ most_in_system → length columns ≤ most_in_system - m → n ≡ length s.rows → n ≤ most_in_system → length rows ≤ most_in_system - n → middle ≡ with_step s (step_of columns []) → new ≡ with_step middle (step_of [] rows) → step_placed place s (step_of columns rows) ≡ Ok new
step_added place s middle new columns rows m n e within some f within_rows more first second =
    step_fits place s columns rows m n e within some f within_rows more
    ∙ ap Ok (sym (second ∙ ap (λ (t : LinearSystem). with_step t (step_of [] rows)) first ∙ both_added s columns rows))

-- a fault that the answer has
pub stops_at : {A : Type 0} (answer : Result A Fault) (fault : Fault) (stop : EncodeFault) → stop ≡ encode.Fault fault → answer ≡ Err fault → Stops answer (encode_cause stop)
stops_at answer fault stop e h = rw e h
