-- Columns as they are kept, by marks and sides: how many there are, their sides and marks, and how they grow.
use Rattle.std.proofs.Common.{ℕ, suc, zero, ◌≡◌, ◌<◌, ◌≤◌, ◌+◌, ◌-◌, Bool, List, [], ◌∷◌, ◌++◌, length, map, get_or, take, arith, refl, ap, ap₂, sym, ◌∙◌, subst, length-append, length-take}
use Rattle.std.proofs.lemmas.List.{take_more, take_all}
use Rattle.zim_linear.specs.declared.sides.Sides.{Sides}
use Rattle.zim_rows.specs.declared.rows.Column.{Column}
use Rattle.std.proofs.Common.{false, Option, IsTrue}
use Rattle.zim_linear.specs.Ends.{IsUncrossed}
use Rattle.zim_rows.specs.declared.rows.GivenRow.{GivenRow}
use Rattle.zim_rows.specs.declared.rows.Objective.{Objective}
use Rattle.zim_rows.specs.System.{LinearSystem, IsSystem, IsKeptSystem, AreWholeSides, with_column, most_in_system}
use Rattle.zim_rows.proofs.SystemLemmas.{IsSystem-column}
use Rattle.zim_linear.specs.Ends.{unbounded}
use Rattle.zim_rows.specs.System.{column_of, columns_of, column_at}

pub columns_of-push : (marks : List Bool) (sides : List Sides) (mark : Bool) (s : Sides) → length marks ≡ length sides → columns_of (marks ++ mark ∷ []) (sides ++ s ∷ []) ≡ columns_of marks sides ++ column_of mark s ∷ []
columns_of-push [] [] mark s e = refl
columns_of-push [] (t ∷ ts) mark s e = absurd (omega arith)
columns_of-push (m ∷ ms) [] mark s e = absurd (omega arith)
columns_of-push (m ∷ ms) (t ∷ ts) mark s e =
    ap (λ cs. column_of m t ∷ cs) (columns_of-push ms ts mark s (omega arith))

pub length-columns_of : (marks : List Bool) (sides : List Sides) → length marks ≡ length sides → length (columns_of marks sides) ≡ length sides
length-columns_of [] [] e = refl
length-columns_of [] (t ∷ ts) e = absurd (omega arith)
length-columns_of (m ∷ ms) [] e = absurd (omega arith)
length-columns_of (m ∷ ms) (t ∷ ts) e = let rest = length-columns_of ms ts (omega arith) in omega arith

pub sides_of_columns : (marks : List Bool) (sides : List Sides) → length marks ≡ length sides → map (λ (c : Column). c.sides) (columns_of marks sides) ≡ sides
sides_of_columns [] [] e = refl
sides_of_columns [] (t ∷ ts) e = absurd (omega arith)
sides_of_columns (m ∷ ms) [] e = absurd (omega arith)
sides_of_columns (m ∷ ms) (t ∷ ts) e = ap (λ ss. t ∷ ss) (sides_of_columns ms ts (omega arith))

pub mark_of_column : (marks : List Bool) (sides : List Sides) (i : ℕ) (b : Bool) (d : Column) → length marks ≡ length sides → i < length marks → get_or marks i b ≡ (get_or (columns_of marks sides) i d).integer
mark_of_column [] sides i b d e h = absurd (omega arith)
mark_of_column (m ∷ ms) [] i b d e h = absurd (omega arith)
mark_of_column (m ∷ ms) (t ∷ ts) zero b d e h = refl
mark_of_column (m ∷ ms) (t ∷ ts) (suc i) b d e h = mark_of_column ms ts i b d (omega arith) (omega arith)

-- one more of the columns of lists
pub columns_more : (marks : List Bool) (sides : List Sides) (i : ℕ) (b : Bool) (s : Sides) → length marks ≡ length sides → i < length sides → columns_of (take (i + 1) marks) (take (i + 1) sides) ≡ columns_of (take i marks) (take i sides) ++ column_of (get_or marks i b) (get_or sides i s) ∷ []
columns_more marks sides i b s e h =
    let m : length (take i marks) ≡ length (take i sides) = simp length-take (omega arith) in
    ap₂ columns_of (take_more marks i b (omega arith)) (take_more sides i s h) ∙ columns_of-push (take i marks) (take i sides) (get_or marks i b) (get_or sides i s) m

pub columns_all : (marks : List Bool) (sides : List Sides) (i : ℕ) → length marks ≡ length sides → length sides ≤ i → columns_of (take i marks) (take i sides) ≡ columns_of marks sides
columns_all marks sides i e h =
    ap₂ columns_of (take_all i marks (omega arith)) (take_all i sides h)

-- the place of a column's mark
pub index_within : (marks ms : List Bool) (sides : List Sides) (columns : List Column) (j : ℕ) → length marks ≡ length sides → columns_of marks sides ≡ columns → ms ≡ marks → 1 ≤ j → j ≤ length columns → j - 1 < length ms
index_within marks ms sides columns j paired is e from_one within =
    let long : length sides ≡ length columns = sym (length-columns_of marks sides paired) ∙ ap length is in
    let same : length ms ≡ length marks = ap length e in
    omega arith

pub mark_is : (marks ms : List Bool) (sides : List Sides) (columns : List Column) (j : ℕ) (b : Bool) → length marks ≡ length sides → columns_of marks sides ≡ columns → ms ≡ marks → 1 ≤ j → j ≤ length columns → b ≡ get_or ms (j - 1) false → b ≡ (column_at columns j).integer
mark_is marks ms sides columns j b paired is e from_one within read =
    let long : length sides ≡ length columns = sym (length-columns_of marks sides paired) ∙ ap length is in
    read
    ∙ ap (λ (bs : List Bool). get_or bs (j - 1) false) e
    ∙ mark_of_column marks sides (j - 1) false (column_of false unbounded) paired (omega arith)
    ∙ ap (λ (cs : List Column). (column_at cs j).integer) is

-- ---- one more column

abbrev kept_system : List Column → List GivenRow → Option Objective → LinearSystem
kept_system columns rows objective = record { columns = columns; rows = rows; objective = objective }

pub count_is : (system : LinearSystem) (marks : List Bool) (sides : List Sides) (rows : List GivenRow) (objective : Option Objective) → IsKeptSystem marks sides rows objective → ◌≡◌ {A = LinearSystem} (record { columns = columns_of marks sides; rows = rows; objective = objective }) system → length system.columns ≡ length sides
count_is system marks sides rows objective kept view =
    ap (λ (s : LinearSystem). length s.columns) (sym view) ∙ length-columns_of marks sides kept.paired

-- what holds of the system as it is kept holds of it as contracts see it
pub is_valid : (system : LinearSystem) (marks : List Bool) (sides : List Sides) (rows : List GivenRow) (objective : Option Objective) → IsKeptSystem marks sides rows objective → ◌≡◌ {A = LinearSystem} (record { columns = columns_of marks sides; rows = rows; objective = objective }) system → IsSystem system.columns system.rows system.objective
is_valid system marks sides rows objective kept view =
    subst (λ (s : LinearSystem). IsSystem s.columns s.rows s.objective) view kept.system

pub count_within : (marks : List Bool) (sides : List Sides) (rows : List GivenRow) (objective : Option Objective) (n : ℕ) → IsKeptSystem marks sides rows objective → n ≡ length sides → n ≤ 1000000
count_within marks sides rows objective n kept e =
    let few = kept.system.few_columns in
    let same = length-columns_of marks sides kept.paired in
    omega arith

pub is_full : (system : LinearSystem) (marks : List Bool) (sides : List Sides) (rows : List GivenRow) (objective : Option Objective) (n : ℕ) → IsKeptSystem marks sides rows objective → ◌≡◌ {A = LinearSystem} (record { columns = columns_of marks sides; rows = rows; objective = objective }) system → n ≡ length sides → 1000000 ≤ n → most_in_system ≤ length system.columns
is_full system marks sides rows objective n kept view len full =
    let e = count_is system marks sides rows objective kept view in omega arith

pub has_room : (system : LinearSystem) (marks : List Bool) (sides : List Sides) (rows : List GivenRow) (objective : Option Objective) (n : ℕ) → IsKeptSystem marks sides rows objective → ◌≡◌ {A = LinearSystem} (record { columns = columns_of marks sides; rows = rows; objective = objective }) system → n ≡ length sides → n < 1000000 → length system.columns < most_in_system
has_room system marks sides rows objective n kept view len room =
    let e = count_is system marks sides rows objective kept view in omega arith

pub column_refused : (system : LinearSystem) (marks ms : List Bool) (sides ss : List Sides) (rows : List GivenRow) (objective : Option Objective) → ◌≡◌ {A = LinearSystem} (record { columns = columns_of marks sides; rows = rows; objective = objective }) system → ms ≡ marks → ss ≡ sides → ◌≡◌ {A = LinearSystem} (record { columns = columns_of ms ss; rows = rows; objective = objective }) system
column_refused system marks ms sides ss rows objective view e f =
    ap₂ (λ (bs : List Bool) (ts : List Sides). kept_system (columns_of bs ts) rows objective) e f ∙ view

pub column_kept : (marks ms : List Bool) (sides ss : List Sides) (rows : List GivenRow) (objective : Option Objective) (mark : Bool) (pair : Sides) (n : ℕ) → IsKeptSystem marks sides rows objective → n ≡ length sides → n < 1000000 → IsUncrossed pair → (IsTrue mark → AreWholeSides pair) → ms ≡ marks ++ mark ∷ [] → ss ≡ sides ++ pair ∷ [] → IsKeptSystem ms ss rows objective
column_kept marks ms sides ss rows objective mark pair n kept len room uncrossed whole e f =
    let long = length-columns_of marks sides kept.paired in
    let same = kept.paired in record {
      paired = rw (e, f) (simp length-append (omega arith));
      system =
          subst
          (λ (cs : List Column). IsSystem cs rows objective)
          (sym (ap₂ columns_of e f ∙ columns_of-push marks sides mark pair kept.paired))
          (IsSystem-column (columns_of marks sides) rows objective (column_of mark pair) kept.system (omega arith) (record { uncrossed = uncrossed; whole = whole }));
    }

pub column_added : (system : LinearSystem) (marks ms : List Bool) (sides ss : List Sides) (rows : List GivenRow) (objective : Option Objective) (mark : Bool) (pair : Sides) → IsKeptSystem marks sides rows objective → ◌≡◌ {A = LinearSystem} (record { columns = columns_of marks sides; rows = rows; objective = objective }) system → ms ≡ marks ++ mark ∷ [] → ss ≡ sides ++ pair ∷ [] → ◌≡◌ {A = LinearSystem} (record { columns = columns_of ms ss; rows = rows; objective = objective }) (with_column system (column_of mark pair))
column_added system marks ms sides ss rows objective mark pair kept view e f =
    subst
    (λ (s : LinearSystem). ◌≡◌ {A = LinearSystem} (record { columns = columns_of ms ss; rows = rows; objective = objective }) (with_column s (column_of mark pair)))
    view
    (ap (λ (cs : List Column). kept_system cs rows objective) (ap₂ columns_of e f ∙ columns_of-push marks sides mark pair kept.paired))

pub number_is : (system : LinearSystem) (marks : List Bool) (sides ss : List Sides) (rows : List GivenRow) (objective : Option Objective) (pair : Sides) (n : ℕ) → IsKeptSystem marks sides rows objective → ◌≡◌ {A = LinearSystem} (record { columns = columns_of marks sides; rows = rows; objective = objective }) system → ss ≡ sides ++ pair ∷ [] → n ≡ length ss → n ≡ length system.columns + 1
number_is system marks sides ss rows objective pair n kept view f len =
    let e = count_is system marks sides rows objective kept view in
    let long : length (sides ++ pair ∷ []) ≡ length sides + 1 = simp length-append (omega arith) in
    let same : length ss ≡ length (sides ++ pair ∷ []) = ap length f in
    omega arith
