-- Declaring a variable: its bounds don't cross, it makes no row, and there is room for it or not.
use Rattle.std.proofs.Common.{◌≡◌, ℕ, ◌+◌, ◌<◌, ◌≤◌, Bool, true, false, cond, nat_le, nat_eq, List, [], ◌∷◌, ◌++◌, length, Option, None, Ok, Err, refl, sym, ◌∙◌, ap, subst, arith, append-nil}
use Rattle.std.specs.Prelude.{Result, All, ◌&&◌, ◌||◌}
use Rattle.std.specs.List.{AllByRecursion, list_any, find}
use Rattle.std.specs.Option.{option_map}
use Rattle.std.specs.Cmp.Lexicographic.{pointwise}
use Rattle.std.proofs.lemmas.Bool.{le-leb, lt-leb}
use Rattle.std.proofs.lemmas.Bool.Decides.{nat_tests}
use Rattle.std.proofs.lemmas.List.Elements.{All-from_recursion}
use Rattle.zim_answer.specs.Answer.{◌>>=◌}
use Rattle.zim_fault.specs.declared.faults.Fault.{Fault}
use Rattle.zim_fault.specs.declared.faults.Place.{Place}
use Rattle.zim_fault.specs.declared.kinds.Kind.TheVariants.{TooManyRows, TooManyColumns}
use Rattle.zim_rational.specs.Rational as rational
use Rattle.zim_rows.specs.declared.rows.GivenRow.{GivenRow}
use Rattle.zim_rows.specs.declared.rows.RowKind.TheVariants.{One}
use Rattle.zim_rows.specs.declared.rows.Sense.TheVariants.{AtLeast}
use Rattle.zim_rows.specs.declared.rows.RowFrom.{RowFrom}
use Rattle.zim_rows.specs.declared.faults.EncodeFault.{EncodeFault}
use Rattle.zim_rows.specs.declared.faults.EncodeFault.TheVariants as encode
use Rattle.zim_rows.specs.System.{LinearSystem, with_column, row_of, most_in_system}
use Rattle.zim_rows.specs.Steps.{Step, with_step, step_placed, fault_here}
use Rattle.zim_columns.specs.declared.asks.Ask.{Ask}
use Rattle.zim_columns.specs.declared.declared.Declared.{Declared}
use Rattle.zim_columns.specs.Bounds.{column_asked}
use Rattle.zim_columns.specs.Names.{is_named, column_declared}
use Rattle.zim_columns.specs.Declaring.{side_rows, next_column, step_asked, declared_as, declaring, Declares, IsInSystem}
use Rattle.zim_plain.specs.declared.stop.PlainStop.TheVariants as stopped
use Rattle.zim_plain.specs.Statements.{WrittenText}
use Rattle.zim_plain.specs.Asks.{ask_of, columns_from}
use Rattle.zim_plain.specs.Systems.{nonnegative}
use Rattle.zim_plain.specs.Build.{MayDeclare, VariableAnswer}
use Rattle.zim_plain.proofs.SystemLaws.{zero_is_short}

-- ---- what is declared already

numbers_low : (first count : ℕ) (names : List WrittenText) → first + length names ≤ count + 1 → AllByRecursion (λ (d : Declared). d.column ≤ count) (columns_from first names)
numbers_low first count [] l = tt
numbers_low first count (name ∷ names) l = (omega (arith, l), numbers_low (first + 1) count names (omega (arith, l)))

pub in_system : (columns : List Declared) (system : LinearSystem) (name : WrittenText) → MayDeclare columns system name → All (IsInSystem system) columns
in_system columns system name may =
    subst (All (IsInSystem system)) (sym may.columns_are)
    (All-from_recursion (IsInSystem system) (columns_from 1 may.names) (numbers_low 1 (length system.columns) may.names (omega (arith, may.counted))))

unnamed : (first : ℕ) (names : List WrittenText) (name : WrittenText) → list_any (pointwise nat_eq name) names ≡ false → column_declared (columns_from first names) name [] ≡ None
unnamed first [] name e = refl
unnamed first (other ∷ names) name e = by (pointwise nat_eq name other) refl e (unnamed (first + 1) names name)
  where
    by : (b : Bool) → pointwise nat_eq name other ≡ b → (b || list_any (pointwise nat_eq name) names) ≡ false → (list_any (pointwise nat_eq name) names ≡ false → column_declared (columns_from (first + 1) names) name [] ≡ None) →
        option_map (λ (d : Declared). d.column) (cond (b && true) (Option.Some (declared_as first (ask_of other))) (find (is_named name []) (columns_from (first + 1) names))) ≡ None
    by true is h later = cc
    by false is h later = later h

pub not_declared : (columns : List Declared) (system : LinearSystem) (name : WrittenText) → MayDeclare columns system name → column_declared columns name [] ≡ None
not_declared columns system name may =
    subst (λ (ds : List Declared). column_declared ds name [] ≡ None) (sym may.columns_are) (unnamed 1 may.names name may.is_new)

-- ---- what declaring answers

-- a variable makes no row
no_rows : (from : RowFrom) (j : ℕ) (name : WrittenText) → side_rows from j (column_asked (ask_of name)).sides ≡ []
no_rows from j name = ap (λ (b : Bool). cond b [] (row_of from ((j, rational.one) ∷ []) (One AtLeast rational.zero) ∷ []) ++ []) zero_is_short

one_step : (system : LinearSystem) (from : RowFrom) (name : WrittenText) → with_step system (step_asked system from (ask_of name)) ≡ with_column system nonnegative
one_step system from name =
    ap (λ (rows : List GivenRow). with_step system (record { columns = nonnegative ∷ []; rows = rows })) (no_rows from (next_column system) name)
    ∙ ap (λ (rows : List GivenRow). record { columns = system.columns ++ nonnegative ∷ []; rows = rows; objective = system.objective }) (append-nil system.rows)

-- what the placed step makes of the list
abbrev listed : List Declared → ℕ → WrittenText → Result LinearSystem Fault → Result (List Declared × LinearSystem) Fault
listed columns j name step_placed = step_placed >>= λ after. Ok (columns ++ declared_as j (ask_of name) ∷ [], after)

declared_is : (columns : List Declared) (system : LinearSystem) (from : RowFrom) (name : WrittenText) →
    declaring columns system from (ask_of name) ≡ listed columns (next_column system) name (step_placed from.place system (step_asked system from (ask_of name)))
unfolding declaring
declared_is columns system from name = refl

placed_ok : (place : Place) (system : LinearSystem) (step : Step) → length system.columns + length step.columns ≤ most_in_system → length system.rows + length step.rows ≤ most_in_system → step_placed place system step ≡ Ok (with_step system step)
unfolding step_placed
placed_ok place system step l m =
    ap (λ (b : Bool). cond b (cond (nat_le (length system.rows + length step.rows) most_in_system) (Ok (with_step system step)) (Err (fault_here TooManyRows place))) (Err (fault_here TooManyColumns place))) (le-leb (length system.columns + length step.columns) most_in_system l)
    ∙ ap (λ (b : Bool). cond b (Ok (with_step system step)) (Err (fault_here TooManyRows place))) (le-leb (length system.rows + length step.rows) most_in_system m)

placed_full : (place : Place) (system : LinearSystem) (step : Step) → most_in_system < length system.columns + length step.columns → step_placed place system step ≡ Err (fault_here TooManyColumns place)
unfolding step_placed
placed_full place system step l =
    ap (λ (b : Bool). cond b (cond (nat_le (length system.rows + length step.rows) most_in_system) (Ok (with_step system step)) (Err (fault_here TooManyRows place))) (Err (fault_here TooManyColumns place))) (lt-leb (length system.columns + length step.columns) most_in_system l)

-- where there is room, and where there is none
module _ (columns : List Declared) (system : LinearSystem) (from : RowFrom) (name : WrittenText) where
  with_room : length system.rows ≤ 1000000 → length system.columns < 1000000 → declaring columns system from (ask_of name) ≡ Ok (columns ++ declared_as (next_column system) (ask_of name) ∷ [], with_column system nonnegative)
  with_room few low =
      let none : length (step_asked system from (ask_of name)).rows ≡ 0 = ap length (no_rows from (next_column system) name) in
      declared_is columns system from name
      ∙ ap (listed columns (next_column system) name)
      (placed_ok from.place system (step_asked system from (ask_of name)) (omega (arith, low)) (omega (arith, none, few)) ∙ ap (λ (s : LinearSystem). Ok s) (one_step system from name))

  without_room : 1000000 ≤ length system.columns → declaring columns system from (ask_of name) ≡ Err (fault_here TooManyColumns from.place)
  without_room full =
      declared_is columns system from name
      ∙ ap (listed columns (next_column system) name) (placed_full from.place system (step_asked system from (ask_of name)) (omega (arith, full)))

  -- what is declared was so before
  was_listed : (after : List Declared) (new : LinearSystem) → length system.rows ≤ 1000000 → declaring columns system from (ask_of name) ≡ Ok (after, new) → (full : Bool) → nat_le 1000000 (length system.columns) ≡ full →
      VariableAnswer columns system from.place name after new (Ok tt)
  was_listed after new few is true full =
      let none : ◌≡◌ {A = Result (List Declared × LinearSystem) Fault} (Err (fault_here TooManyColumns from.place)) (Ok (after, new)) = sym (without_room (grind (arith, nat_tests, full))) ∙ is in
      cc
  was_listed after new few is false full =
      let low : length system.columns < 1000000 = grind (arith, nat_tests, full) in
      let same : ◌≡◌ {A = Result (List Declared × LinearSystem) Fault} (Ok (columns ++ declared_as (next_column system) (ask_of name) ∷ [], with_column system nonnegative)) (Ok (after, new)) = sym (with_room few low) ∙ is in
      let pair : ◌≡◌ {A = List Declared × LinearSystem} (columns ++ declared_as (next_column system) (ask_of name) ∷ [], with_column system nonnegative) (after, new) = cc in
      (low, sym (ap (λ (p : List Declared × LinearSystem). p.0) pair), sym (ap (λ (p : List Declared × LinearSystem). p.1) pair))

  was_full : (after : List Declared) (new : LinearSystem) (fault : Fault) → length system.rows ≤ 1000000 → declaring columns system from (ask_of name) ≡ Err fault → (full : Bool) → nat_le 1000000 (length system.columns) ≡ full →
      VariableAnswer columns system from.place name after new (Err (stopped.Fault fault))
  was_full after new fault few is true full =
      let none : 1000000 ≤ length system.columns = grind (arith, nat_tests, full) in
      let same : ◌≡◌ {A = Result (List Declared × LinearSystem) Fault} (Err (fault_here TooManyColumns from.place)) (Err fault) = sym (without_room none) ∙ is in
      (none, cc)
  was_full after new fault few is false full =
      let same : ◌≡◌ {A = Result (List Declared × LinearSystem) Fault} (Ok (columns ++ declared_as (next_column system) (ask_of name) ∷ [], with_column system nonnegative)) (Err fault) = sym (with_room few (grind (arith, nat_tests, full))) ∙ is in
      cc

pub variable_listed : (columns after : List Declared) (system new : LinearSystem) (from : RowFrom) (name : WrittenText) (ask : Ask) (r : Result Unit EncodeFault) → MayDeclare columns system name → ask ≡ ask_of name → r ≡ Ok tt →
    Declares (declaring columns system from ask) after new r → VariableAnswer columns system from.place name after new (Ok tt)
variable_listed columns after system new from name ask r may same e is =
    was_listed columns system from name after new may.rows
    (subst (λ (a : Ask). declaring columns system from a ≡ Ok (after, new)) same
    (subst (λ (x : Result Unit EncodeFault). Declares (declaring columns system from ask) after new x) e is))
    (nat_le 1000000 (length system.columns)) refl

pub variable_full : (columns after : List Declared) (system new : LinearSystem) (from : RowFrom) (name : WrittenText) (ask : Ask) (r : Result Unit EncodeFault) (stop : EncodeFault) (fault : Fault) → MayDeclare columns system name → ask ≡ ask_of name →
    r ≡ Err stop → stop ≡ encode.Fault fault → Declares (declaring columns system from ask) after new r → VariableAnswer columns system from.place name after new (Err (stopped.Fault fault))
variable_full columns after system new from name ask r stop fault may same e f is =
    was_full columns system from name after new fault may.rows
    (subst (λ (a : Ask). declaring columns system from a ≡ Err fault) same
    (subst (λ (x : Result Unit EncodeFault). Declares (declaring columns system from ask) after new x) (e ∙ ap Err f) is))
    (nat_le 1000000 (length system.columns)) refl
