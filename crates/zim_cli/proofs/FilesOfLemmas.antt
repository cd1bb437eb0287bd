-- The texts that are written for a model's program are files of the model.
use Rattle.std.proofs.Common.{◌≡◌, ◌↔◌, ℕ, zero, suc, ◌+◌, ◌-◌, ◌<◌, ◌≤◌, ℤ, Bool, true, false, List, [], ◌∷◌, length, map, refl, subst, sym, ap, ap₂, ◌∙◌, arith, pos, negsuc, neg_ℤ}
use Rattle.std.specs.Prelude.{if◌then◌else◌, ◌≤ℤ◌, ◌*ℤ◌, IsSome}
use Rattle.std.proofs.lemmas.List.{length-map}
use Rattle.std.specs.List.{AllByRecursion, range_with_len, slice_index_or}
use Rattle.std.proofs.lemmas.Int.{ints}
use Rattle.zim_rational.specs.Rational as rational
use Rattle.zim_rational.specs.Rational.{Rational, whole, times, one}
use Rattle.zim_rational.proofs.Ring.{one_times, times_assoc}
use Rattle.zim_rational.proofs.Whole.{whole_times}
use Rattle.zim_instance.specs.Instance.{Point, KeepsName, IsInstancePoint, number_named}
use Rattle.zim_rows.specs.Points as rows
use Rattle.zim_rows.specs.Named.{column_name, file_columns}
use Rattle.zim_rows.specs.Program.{LinearProgram, IsProgram}
use Rattle.zim_rows.specs.Represents.{numbers_in_file}
use Rattle.zim_columns.specs.declared.asks.Ask.{Ask}
use Rattle.zim_columns.specs.declared.declared.Declared.{Declared}
use Rattle.zim_columns.specs.Names.{are_rising}
use Rattle.zim_lp.specs.Correct.{SaysProgram}
use Rattle.zim_mps.specs.Correct.{mps_factor, SaysMinimised}
use Rattle.zim_table.specs.declared.names.Names.{Names}
use Rattle.zim_table.specs.Reader.{Pair, Table, numbers_declared}
use Rattle.zim_table.specs.Correct.{pair_said, table_said, declared_numbers, SaysNames}
use Rattle.zim_build.specs.Model.{Model, asks, Obj}
use Rattle.zim_build.specs.Satisfying.{Sat}
use Rattle.zim_build.specs.Program.{AreAsAsked, cut_down, IsOnlySolution, SaysModel}
use Rattle.zim_cli.specs.FilesOf.{IsOnlyPoint, AreFilesOf}
use Rattle.zim_cli.specs.Outputs.{texts_of}
use Rattle.zim_cli.proofs.PairLemmas.{IsNumbered, pairs_in_file, pairs_in_instance, pairs_apart}

-- ---- factors

-- a factor that is 1 or more
factor_from_one : (f : ℤ) → pos 1 ≤ℤ f → (n : ℕ) × (1 ≤ n) × (f ≡ pos n)
factor_from_one (pos n) h = (n, omega (arith, ints, h), refl)
factor_from_one (negsuc n) h = absurd (omega (arith, ints, h))

-- the factors of the two files and of the program, one after the other
lp_times : (f : ℤ) (q : Rational) → times (whole (pos 1)) (times (whole f) q) ≡ times (whole f) q
unfolding whole one
lp_times f q = one_times (times (whole f) q)

whole_negated : (f : ℤ) → times (whole (negsuc 0)) (whole f) ≡ whole (neg_ℤ f)
whole_negated f =
    let same : negsuc 0 *ℤ f ≡ neg_ℤ f = omega (arith, ints) in
    whole_times (negsuc 0) f ∙ ap whole same

mps_times : (aim : Bool) (f : ℤ) (q : Rational) → times (whole (mps_factor aim)) (times (whole f) q) ≡ times (whole (if aim then neg_ℤ f else f)) q
unfolding whole one
mps_times true f q = sym (times_assoc (whole (negsuc 0)) (whole f) q) ∙ ap (λ (k : Rational). times k q) (whole_negated f)
mps_times false f q = one_times (times (whole f) q)

-- ---- numbers of file columns

-- the number behind i others is that of the file column
number_in : (point : Point) (first count i : ℕ) → i < count → slice_index_or (map (λ (j : ℕ). number_named point (column_name j)) (range_with_len first count)) i rational.zero ≡ number_named point (column_name (first + i))
number_in point first zero i l = absurd (omega (arith, l))
number_in point first (suc count) zero l = let same : first ≡ first + 0 = omega arith in ap (λ (j : ℕ). number_named point (column_name j)) same
number_in point first (suc count) (suc i) l =
    let same : (first + 1) + i ≡ first + suc i = omega arith in
    number_in point (first + 1) count i (omega (arith, l)) ∙ ap (λ (j : ℕ). number_named point (column_name j)) same

assigned_in : (point : Point) (count j : ℕ) → 1 ≤ j → j ≤ count → rows.assigned (numbers_in_file count point) j ≡ number_named point (column_name j)
assigned_in point count j l m =
    let same : 1 + (j - 1) ≡ j = omega (arith, l) in
    number_in point 1 count (j - 1) (omega (arith, l, m)) ∙ ap (λ (k : ℕ). number_named point (column_name k)) same

-- the numbers of a point for declared columns are those of the program's numbers
numbers_cut : (point : Point) (count : ℕ) (columns : List Declared) → AllByRecursion (IsNumbered count) columns → declared_numbers columns point ≡ cut_down columns (numbers_in_file count point)
numbers_cut point count [] h = refl
numbers_cut point count (declared ∷ columns) h =
    ap₂ (λ (q : Rational) (qs : List Rational). q ∷ qs) (sym (assigned_in point count declared.column h.0.first h.0.last)) (numbers_cut point count columns h.1)

listed_length : (more : List Ask) (columns : List Declared) → AreAsAsked more columns → length columns ≡ length more
listed_length [] [] h = refl
listed_length [] (declared ∷ columns) h = absurd h
listed_length (ask ∷ more) [] h = absurd h
listed_length (ask ∷ more) (declared ∷ columns) h = ap suc (listed_length more columns h.1)

module _ (model : Model) (columns : List Declared) (program : LinearProgram) (statements : Names) (is : IsProgram program.columns program.rows program.target) (says : SaysModel model columns program) (listed : AreAsAsked (asks model) columns) (rising : are_rising 1 columns ≡ true) (inside : AllByRecursion (IsNumbered (length program.columns)) columns) (lp : SaysProgram (texts_of program columns statements).lp program) (mps : SaysMinimised (texts_of program columns statements).mps program) (tables : SaysNames (texts_of program columns statements).table program columns) where
  abbrev names : Table
  names = table_said program columns

  abbrev numbers : Point → List Rational
  numbers point = numbers_in_file (length program.columns) point

  cut_is : (point : Point) → numbers_declared names point ≡ cut_down columns (numbers point)
  cut_is point = tables.cut_is point ∙ numbers_cut point (length program.columns) columns inside

  solves : (point : Point) → IsInstancePoint lp.instance point → rows.IsPoint program (numbers point)
  solves point at = (says.sides (numbers point)).0 (lp.represents.solves point at)

  cut_length : (point : Point) → length (numbers_declared names point) ≡ length (asks model)
  cut_length point = ap length (cut_is point) ∙ length-map columns (λ (declared : Declared). rows.assigned (numbers point) declared.column) ∙ listed_length (asks model) columns listed

  cut_satisfies : (point : Point) → IsInstancePoint lp.instance point → Sat model (numbers_declared names point)
  cut_satisfies point at = subst (λ (values : List Rational). Sat model values) (sym (cut_is point)) (says.sound (numbers point) (solves point at))

  only : (values : List Rational) (found : List Rational) → IsOnlySolution program columns values found → ((point : Point) × IsInstancePoint lp.instance point × (numbers point ≡ found)) → (point : Point) × IsOnlyPoint names lp.instance values point
  only values found solution (point, at, same) = (
    point,
    record {
      is = at;
      cut_is = cut_is point ∙ ap (cut_down columns) same ∙ solution.cut_is;
      only = λ other other_at other_cut.
          lp.represents.once other point other_at at
          (solution.only (numbers other) (solves other other_at) (sym (cut_is other) ∙ other_cut) ∙ sym same);
    },
  )

  found_by : (values : List Rational) → ((found : List Rational) × IsOnlySolution program columns values found) → (point : Point) × IsOnlyPoint names lp.instance values point
  found_by values (found, solution) = only values found solution (lp.represents.solved found ((says.sides found).1 solution.is))

  same_column : (name : List ℕ) → lp.instance.column name ≡ mps.instance.column name
  same_column name = lp.says.columns name ∙ sym (mps.says.columns name)

  same_point : (point : Point) → IsInstancePoint lp.instance point ↔ IsInstancePoint mps.instance point
  same_point point = (
    (λ k. record {
      columns = λ name. subst (λ c. KeepsName c (point name)) (same_column name) (k.columns name);
      rows = (mps.says.rows point).1 ((lp.says.rows point).0 k.rows);
    }),
    (λ k. record {
      columns = λ name. subst (λ c. KeepsName c (point name)) (sym (same_column name)) (k.columns name);
      rows = (lp.says.rows point).1 ((mps.says.rows point).0 k.rows);
    }),
  )

  -- the program's objective is the model's times the factor
  objective_same : (point : Point) → IsInstancePoint lp.instance point → rows.objective_at program (numbers point) ≡ times (whole names.lp_factor) (Obj model (numbers_declared names point))
  objective_same point at =
      says.objective (numbers point) (solves point at)
      ∙ ap (λ (values : List Rational). times (whole names.lp_factor) (Obj model values)) (sym (cut_is point))

  paired : AllByRecursion (λ (p : Pair). IsSome (lp.instance.column p.column)) (map pair_said columns)
  paired = pairs_in_instance lp.instance.column (file_columns program) (map pair_said columns) lp.says.columns (pairs_in_file program columns inside)

  pub files_of_program : AreFilesOf model columns (texts_of program columns statements)
  files_of_program = record {
    lp_instance = lp.instance;
    lp_reads = lp.read;
    mps_instance = mps.instance;
    mps_reads = mps.read;
    names = names;
    table_reads = tables.read;
    asked = listed;
    pairs = refl;
    paired = paired;
    apart = pairs_apart (length program.columns) 1 columns is.few_columns (omega arith) rising inside;
    same_columns = same_column;
    same_points = same_point;
    sound = λ point at. (cut_length point, cut_satisfies point at);
    complete = λ values given sat. found_by values (says.complete values given sat);
    lp_objective = λ point at.
        lp.represents.objective point at
        ∙ (ap (λ (q : Rational). times (whole (pos 1)) q) (objective_same point at)
        ∙ lp_times names.lp_factor (Obj model (numbers_declared names point)));
    mps_objective = λ point at.
        mps.represents.objective point ((same_point point).0 at)
        ∙ (ap (λ (q : Rational). times (whole (mps_factor program.target.maximize)) q) (objective_same point at)
        ∙ mps_times program.target.maximize names.lp_factor (Obj model (numbers_declared names point)));
    factor_above = factor_from_one names.lp_factor is.objective.factor;
    factors = ap (λ (b : Bool). if b then neg_ℤ names.lp_factor else names.lp_factor) says.aim;
    aim = lp.says.maximises ∙ says.aim;
    minimises = mps.says.maximises;
  }
