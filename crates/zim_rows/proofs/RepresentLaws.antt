-- An instance that says a system with the program's columns and rows represents the program.
use Rattle.std.proofs.Common.{◌≡◌, ◌↔◌, ℕ, ◌+◌, ◌-◌, ◌<◌, ◌≤◌, Bool, true, false, not, ◌||◌, if◌then◌else◌, List, [], ◌∷◌, ◌++◌, length, map, take, Option, Some, None, unwrap_or, ℤ, pos, refl, sym, ◌∙◌, ap, ap₂, subst, arith}
use Rattle.std.specs.Prelude.{◌==◌, All}
use Rattle.std.specs.List.{AllByRecursion, range_with_len}
use Rattle.std.proofs.Math.Seq.{take-append_seam}
use Rattle.std.proofs.lemmas.List.{map-append}
use Rattle.std.proofs.lemmas.List.FromFn.{get_or-map-range_with_len, length-map-range_with_len}
use Rattle.std.proofs.lemmas.List.Elements.{All-head, All-tail}
use Rattle.zim_rational.specs.Rational as rational
use Rattle.zim_rational.specs.Rational.{Rational, whole, plus, times, total, same, IsAtMost}
use Rattle.zim_rational.proofs.Order.{at_most_refl, at_most_antisymm}
use Rattle.zim_rational.proofs.Ring.{one_times, times_one, plus_zero}
use Rattle.zim_rational.proofs.Sums.{total_append}
use Rattle.zim_rational.proofs.Whole.{same_Decides}
use Rattle.zim_instance.specs.Instance as instance
use Rattle.zim_instance.specs.Instance.{Instance, Point, KeepsName, IsFrom, IsUpTo, number_named}
use Rattle.zim_instance.specs.System as named
use Rattle.zim_instance.specs.System.{Says, numbers_of, point_of, KeepsColumns}
use Rattle.zim_instance.proofs.Points.{IsPoint-point_of, IsSolution-numbers_of, IsPoint-is_point_of, numbers_of-point_of}
use Rattle.zim_linear.specs.Forms.{Term, AreColumns, sum_at}
use Rattle.zim_rows.specs.declared.rows.Column.{Column}
use Rattle.zim_rows.specs.declared.rows.Row.{Row}
use Rattle.zim_rows.specs.declared.rows.RowKind.{RowKind}
use Rattle.zim_rows.specs.declared.rows.RowKind.TheVariants.{One, Range}
use Rattle.zim_rows.specs.declared.rows.Sense.TheVariants.{AtLeast, AtMost, Equal}
use Rattle.zim_rows.specs.Program.{LinearProgram, IsRow, IsProgram}
use Rattle.zim_rows.specs.Covered.{written_program}
use Rattle.zim_rows.specs.Points.{assigned, KeepsKind, KeepConstraints, constraint, IsPoint, objective_at}
use Rattle.zim_rows.specs.Named.{column_name, offset_name, offset_column, has_offset, file_columns, named_term, named_objective, low_end, high_end, named_row, named_system, file_numbers}
use Rattle.zim_rows.specs.Represents.{numbers_in_file, Represents}
use Rattle.zim_rows.proofs.NamedLaws.{columns_from, offset_columns, offset_numbers, file_columns_distinct, offset_found, columns_same, one_keeps, kept_length}

-- sums over names are sums over the numbers in the file
products_in_file : (n : ℕ) (point : Point) (terms : List Term) → AreColumns n terms → map (λ (t : instance.NamedTerm). times t.coefficient (number_named point t.name)) (map named_term terms) ≡ map (λ (t : Term). times t.1 (assigned (numbers_in_file n point) t.0)) terms
products_in_file n point [] each = refl
products_in_file n point (t ∷ ts) each =
    let some : 0 < t.0 = each.0 in
    let few : t.0 ≤ n = each.1 in
    let same : assigned (numbers_in_file n point) t.0 ≡ number_named point (column_name t.0) =
    get_or-map-range_with_len (λ (j : ℕ). number_named point (column_name j)) 1 n (t.0 - 1) t.0 rational.zero (omega arith) (omega arith) in
    rw (same, products_in_file n point ts each.2) refl

pub sum_in_file : (n : ℕ) (point : Point) (terms : List Term) → AreColumns n terms → instance.sum_of_named point (map named_term terms) ≡ sum_at (assigned (numbers_in_file n point)) terms
unfolding sum_at
sum_in_file n point terms each = ap total (products_in_file n point terms each)

-- a sum is what a row asks for exactly where it lies between the ends that the row has in a file
kind_ends : (kind : RowKind) (sum : Rational) → KeepsKind kind sum ↔ (IsFrom (low_end kind) sum × IsUpTo (high_end kind) sum)
kind_ends (One AtLeast right) sum = (λ h. (h, tt), λ k. k.0)
kind_ends (One AtMost right) sum = (λ h. (tt, h), λ k. k.1)
kind_ends (One Equal right) sum = (
  λ h. (subst (λ q. IsAtMost q sum) h (at_most_refl sum), subst (λ q. IsAtMost sum q) h (at_most_refl sum)),
  λ k. at_most_antisymm sum right k.1 k.0,
)
kind_ends (Range low high) sum = (λ h. h, λ k. k)

row_in_file : (n : ℕ) (point : Point) (row : Row) → IsRow n row → KeepsKind row.kind (sum_at (assigned (numbers_in_file n point)) row.terms) ↔ instance.KeepsRow point (named_row row)
row_in_file n point row is =
    let same = sum_in_file n point row.terms is.columns in
    let ends = kind_ends row.kind (sum_at (assigned (numbers_in_file n point)) row.terms) in (
      (λ h. let both = ends.0 h in record { low = rw same both.0; high = rw same both.1 }),
      (λ k. ends.1 (rw same at k.low, rw same at k.high)),
    )

-- the rows are kept by names exactly where they are kept by number
rows_in_file : (n : ℕ) (point : Point) (rows : List Row) → All (IsRow n) rows → KeepConstraints (assigned (numbers_in_file n point)) (map constraint rows) ↔ AllByRecursion (instance.KeepsRow point) (map named_row rows)
rows_in_file n point [] each = (λ h. tt, λ k. tt)
rows_in_file n point (row ∷ rows) each =
    let here = row_in_file n point row (All-head (IsRow n) row rows each) in
    let there = rows_in_file n point rows (All-tail (IsRow n) row rows each) in
    (λ h. (here.0 h.0, there.0 h.1), λ k. (here.1 k.0, there.1 k.1))

-- what a point gives to `one`, where it stands
abbrev offset_in_file : Bool → Point → List Rational
offset_in_file b point = if b then number_named point offset_name ∷ [] else []

numbers_from : (point : Point) (a : ℕ) (columns : List Column) (b : Bool) → numbers_of point (columns_from a columns ++ offset_columns b) ≡ map (λ (j : ℕ). number_named point (column_name j)) (range_with_len a (length columns)) ++ offset_in_file b point
numbers_from point a [] true = refl
numbers_from point a [] false = refl
numbers_from point a (c ∷ cs) b = ap (λ qs. number_named point (column_name a) ∷ qs) (numbers_from point (a + 1) cs b)

-- the numbers of the file's columns are those of the program's columns, and that of `one`
in_file : (p : LinearProgram) (point : Point) → numbers_of point (file_columns p) ≡ numbers_in_file (length p.columns) point ++ offset_in_file (has_offset p) point
in_file p point = numbers_from point 1 p.columns (has_offset p)

in_file_count : (n : ℕ) (point : Point) → length (numbers_in_file n point) ≡ n
in_file_count n point = length-map-range_with_len (λ (j : ℕ). number_named point (column_name j)) 1 n

first_same : (xs us ys vs : List Rational) → xs ++ us ≡ ys ++ vs → length xs ≡ length ys → xs ≡ ys
first_same xs us ys vs e count =
    sym (take-append_seam xs us) ∙ ap (take (length xs)) e ∙ ap (λ n. take n (ys ++ vs)) count ∙ take-append_seam ys vs

-- the program with the columns of its files, with an objective over names in place of its own
abbrev pub with_objective : LinearProgram → List instance.NamedTerm → Bool → named.System
with_objective p objective maximises = record {
  columns = file_columns p;
  rows = map named_row p.rows;
  objective = objective;
  maximises = maximises;
}

one_kept : (o : Option Rational) → KeepsName (Some offset_column.column) o → o ≡ Some rational.one
one_kept None k = absurd k
one_kept (Some q) k = ap (λ r. Some r) (at_most_antisymm q rational.one k.upper k.lower)

-- at a point of the instance `one` is 1, where it stands
pub one_is_one : (i : Instance) (p : LinearProgram) (objective : List instance.NamedTerm) (m : Bool) (point : Point) → Says i (with_objective p objective m) → instance.IsInstancePoint i point → has_offset p ≡ true → point offset_name ≡ Some rational.one
one_is_one i p objective m point says k e =
    one_kept
    (point offset_name)
    (subst (λ c. KeepsName c (point offset_name)) (says.columns offset_name ∙ offset_found p e) (k.columns offset_name))

offset_is_one : (b : Bool) (point : Point) → (b ≡ true → point offset_name ≡ Some rational.one) → offset_in_file b point ≡ offset_numbers b
offset_is_one true point one = ap (λ o. unwrap_or o rational.zero ∷ []) (one refl)
offset_is_one false point one = refl

-- the numbers of a point of the instance are those of the program's columns, and 1 for `one`
file_is : (i : Instance) (p : LinearProgram) (objective : List instance.NamedTerm) (m : Bool) (point : Point) → Says i (with_objective p objective m) → instance.IsInstancePoint i point → numbers_of point (file_columns p) ≡ file_numbers p (numbers_in_file (length p.columns) point)
file_is i p objective m point says k =
    in_file p point ∙ ap (λ rest. numbers_in_file (length p.columns) point ++ rest) (offset_is_one (has_offset p) point (one_is_one i p objective m point says k))

solves : (i : Instance) (p : LinearProgram) (objective : List instance.NamedTerm) (m : Bool) (point : Point) → Says i (with_objective p objective m) → IsProgram p.columns p.rows p.target → instance.IsInstancePoint i point → IsPoint (written_program p) (numbers_in_file (length p.columns) point)
solves i p objective m point says is k =
    let n : ℕ = length p.columns in
    let kept = (IsSolution-numbers_of i (with_objective p objective m) point says (file_columns_distinct p is) k).columns in
    let both = (columns_same 1 p.columns (has_offset p) (numbers_in_file n point) (offset_in_file (has_offset p) point) (in_file_count n point)).0 (subst (KeepsColumns (file_columns p)) (in_file p point) kept) in
    record {
      columns = both.0;
      rows = (rows_in_file n point p.rows is.each_row).1 ((says.rows point).0 k.rows);
    }

solved : (i : Instance) (p : LinearProgram) (objective : List instance.NamedTerm) (m : Bool) (numbers : List Rational) → Says i (with_objective p objective m) → IsProgram p.columns p.rows p.target → IsPoint (written_program p) numbers → (point : Point) × instance.IsInstancePoint i point × (numbers_in_file (length p.columns) point ≡ numbers)
solved i p objective m numbers says is k =
    let n : ℕ = length p.columns in
    let b : Bool = has_offset p in
    let count : length numbers ≡ n = kept_length p.columns numbers k.columns in
    let file : List Rational = file_numbers p numbers in
    let kept : KeepsColumns (file_columns p) file = (columns_same 1 p.columns b numbers (offset_numbers b) count).1 (k.columns, one_keeps b) in
    let point : Point = point_of (file_columns p) file in
    let whole_file : numbers_of point (file_columns p) ≡ file = numbers_of-point_of (file_columns p) file (file_columns_distinct p is) kept in
    let same : numbers_in_file n point ≡ numbers =
    first_same (numbers_in_file n point) (offset_in_file b point) numbers (offset_numbers b) (sym (in_file p point) ∙ whole_file) (in_file_count n point ∙ sym count) in
    let rows = (rows_in_file n point p.rows is.each_row).0 (subst (λ (ns : List Rational). KeepConstraints (assigned ns) (map constraint p.rows)) (sym same) k.rows) in
    (point, IsPoint-point_of i (with_objective p objective m) file says (record { columns = kept; rows = rows }), same)

once : (i : Instance) (p : LinearProgram) (objective : List instance.NamedTerm) (m : Bool) (a b : Point) → Says i (with_objective p objective m) → instance.IsInstancePoint i a → instance.IsInstancePoint i b → numbers_in_file (length p.columns) a ≡ numbers_in_file (length p.columns) b → a ≡ b
once i p objective m a b says k l e =
    let s : named.System = with_objective p objective m in
    let same : numbers_of a (file_columns p) ≡ numbers_of b (file_columns p) =
    file_is i p objective m a says k ∙ ap (file_numbers p) e ∙ sym (file_is i p objective m b says l) in
    IsPoint-is_point_of i s a says k ∙ ap (point_of (file_columns p)) same ∙ sym (IsPoint-is_point_of i s b says l)

-- whatever the objective of the system, as long as it is the program's times a factor at each point
pub represents_by : (i : Instance) (p : LinearProgram) (objective : List instance.NamedTerm) (m : Bool) (factor : ℤ) → Says i (with_objective p objective m) → IsProgram p.columns p.rows p.target → ((point : Point) → instance.IsInstancePoint i point → instance.sum_of_named point objective ≡ times (whole factor) (objective_at p (numbers_in_file (length p.columns) point))) → Represents i p factor
represents_by i p objective m factor says is sums = record {
  columns = says.columns;
  solves = λ point k. solves i p objective m point says is k;
  solved = λ numbers k. solved i p objective m numbers says is k;
  once = λ a b k l e. once i p objective m a b says k l e;
  objective = λ point k. says.objective point ∙ sums point k;
  one = λ point k e. one_is_one i p objective m point says k e;
}

no_constant : (a s : Bool) → (a || not s) ≡ false → s ≡ true
no_constant true s e = cc
no_constant false true e = refl
no_constant false false e = cc

-- without `one` the objective has no constant
pub constant_is_zero : (p : LinearProgram) → has_offset p ≡ false → p.target.constant ≡ rational.zero
constant_is_zero p e =
    (same_Decides p.target.constant rational.zero).0 (no_constant (length p.columns == 0) (same p.target.constant rational.zero) e)

-- what the constant's term comes to
offset_product : (b : Bool) (point : Point) (constant : Rational) → (b ≡ true → point offset_name ≡ Some rational.one) → (b ≡ false → constant ≡ rational.zero) → instance.sum_of_named point (if b then record { name = offset_name; coefficient = constant } ∷ [] else []) ≡ constant
unfolding total
offset_product true point constant one none =
    plus_zero (times constant (number_named point offset_name)) ∙ ap (λ o. times constant (unwrap_or o rational.zero)) (one refl) ∙ times_one constant
offset_product false point constant one none = sym (none refl)

-- a sum over names of two lists
pub sum_at_both : (point : Point) (ss ts : List instance.NamedTerm) → instance.sum_of_named point (ss ++ ts) ≡ plus (instance.sum_of_named point ss) (instance.sum_of_named point ts)
sum_at_both point ss ts =
    let product : instance.NamedTerm → Rational = λ t. times t.coefficient (number_named point t.name) in
    ap total (map-append product ss ts) ∙ total_append (map product ss) (map product ts)

-- where `one` is 1, the objective over names is the program's
pub objective_in_file : (p : LinearProgram) (point : Point) → IsProgram p.columns p.rows p.target → (has_offset p ≡ true → point offset_name ≡ Some rational.one) → instance.sum_of_named point (named_objective p) ≡ objective_at p (numbers_in_file (length p.columns) point)
objective_in_file p point is one =
    sum_at_both point (map named_term p.target.terms) (if has_offset p then record { name = offset_name; coefficient = p.target.constant } ∷ [] else [])
    ∙ ap₂ plus
    (sum_in_file (length p.columns) point p.target.terms is.objective.columns)
    (offset_product (has_offset p) point p.target.constant one (constant_is_zero p))

one_whole : whole (pos 1) ≡ rational.one
unfolding rational.one
one_whole = refl

-- an instance that says the system by name represents the program
pub represents_named : (i : Instance) (p : LinearProgram) → Says i (named_system p) → IsProgram p.columns p.rows p.target → Represents i p (pos 1)
represents_named i p says is =
    represents_by i p (named_objective p) p.target.maximize (pos 1) says is
    (λ point k.
    objective_in_file p point is (one_is_one i p (named_objective p) p.target.maximize point says k)
    ∙ sym (one_times (objective_at p (numbers_in_file (length p.columns) point)))
    ∙ ap (λ (q : Rational). times q (objective_at p (numbers_in_file (length p.columns) point))) (sym one_whole))
