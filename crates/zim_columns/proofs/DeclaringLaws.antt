-- What a declaration answers, part by part, and what becomes of the system.
use Rattle.std.proofs.Common.{ℕ, ◌≡◌, ◌≤◌, ◌+◌, Bool, true, false, not, cond, IsTrue, IsFalse, List, [], ◌∷◌, ◌++◌, length, length-append, Option, Some, None, IfSome, All, Result, Ok, Err, refl, ap, ap₂, sym, ◌∙◌, subst, arith, true≢false}
use Rattle.std.proofs.lemmas.List.Elements.{All-cons, All-nil, All-push, All-weaker, Contains-get_or}
use Rattle.zim_answer.specs.Answer.{◌>>=◌}
use Rattle.zim_answer.specs.Gives.{Stops}
use Rattle.zim_fault.specs.declared.faults.Fault.{Fault}
use Rattle.zim_fault.specs.declared.kinds.Kind.TheVariants.{BoundsCross}
use Rattle.zim_rational.specs.Rational.{Rational, one, below, at_most, IsAtMost, is_whole}
use Rattle.zim_rational.proofs.Rounding.{floor-is_whole, ceil-is_whole}
use Rattle.zim_decimal.specs.Short.{is_short}
use Rattle.zim_linear.specs.declared.sides.Sides.{Sides}
use Rattle.zim_rows.specs.declared.rows.Column.{Column}
use Rattle.zim_rows.specs.declared.rows.GivenRow.{GivenRow}
use Rattle.zim_rows.specs.declared.rows.RowFrom.{RowFrom}
use Rattle.zim_rows.specs.declared.rows.Sense.{Sense}
use Rattle.zim_rows.specs.declared.rows.Sense.TheVariants.{AtLeast, AtMost}
use Rattle.zim_rows.specs.declared.faults.EncodeFault.{EncodeFault}
use Rattle.zim_rows.specs.declared.faults.EncodeFault.TheVariants as encode
use Rattle.zim_rows.specs.declared.rows.RowKind.TheVariants.{One}
use Rattle.zim_rows.specs.System.{LinearSystem, IsColumn, column_of, column_at, row_of, Extends}
use Rattle.zim_rows.specs.Covered.{StandsAsRow, IsCoveredColumn, IsCovered}
use Rattle.zim_rows.specs.Steps.{Step, step_placed, fault_here, encode_cause, Leaves}
use Rattle.zim_rows.specs.Extending.{IsCoveredStep}
use Rattle.zim_rows.proofs.StepLaws.{placed_is, step_extends}
use Rattle.zim_rows.proofs.CoveredStepLaws.{stands_left, stands_right, side_further, covered_further}
use Rattle.zim_columns.specs.declared.asks.Ask.{Ask}
use Rattle.zim_columns.specs.declared.asks.Bound.{Bound}
use Rattle.zim_columns.specs.declared.asks.Bound.TheVariants.{Minus, Plus, At}
use Rattle.zim_columns.specs.declared.asks.VarKind.{VarKind}
use Rattle.zim_columns.specs.declared.asks.VarKind.TheVariants.{Real, Integer, Binary}
use Rattle.zim_columns.specs.declared.declared.Declared.{Declared}
use Rattle.zim_columns.specs.Bounds.{takes_whole, low_side, high_side, sides_of, column_asked, are_crossed, is_infinity, is_minus_infinity, cross, bounds_cross}
use Rattle.zim_columns.specs.Declaring.{side_row, side_rows, next_column, step_asked, declared_as, declaring, IsInSystem}
use Rattle.zim_columns.proofs.BoundsLaws.{none_of}

-- ---- the column is one

uncrossed : (low high : Option Rational) → IsFalse (are_crossed (record { low = low; high = high })) → IfSome low (λ l. IfSome high (λ h. IsAtMost l h))
unfolding below
uncrossed None high h = tt
uncrossed (Some l) None h = tt
uncrossed (Some l) (Some u) h = by (at_most l u) h
  where
    by : (b : Bool) → not b ≡ false → b ≡ true
    by true e = refl
    by false e = absurd (true≢false e)

whole_low : (kind : VarKind) (bound : Bound) → IsTrue (takes_whole kind) → IfSome (low_side kind bound) (λ l. IsTrue (is_whole l))
whole_low kind Minus h = tt
whole_low kind Plus h = tt
whole_low Real (At q) h = absurd (true≢false (sym h))
whole_low Integer (At q) h = ceil-is_whole q
whole_low Binary (At q) h = ceil-is_whole q

whole_high : (kind : VarKind) (bound : Bound) → IsTrue (takes_whole kind) → IfSome (high_side kind bound) (λ u. IsTrue (is_whole u))
whole_high kind Minus h = tt
whole_high kind Plus h = tt
whole_high Real (At q) h = absurd (true≢false (sym h))
whole_high Integer (At q) h = floor-is_whole q
whole_high Binary (At q) h = floor-is_whole q

column_fits : (ask : Ask) → IsFalse (bounds_cross ask) → IsColumn (column_asked ask)
column_fits ask h =
    let parts = none_of (is_infinity ask.lower) (is_minus_infinity ask.upper) (are_crossed (sides_of ask.kind ask.lower ask.upper)) h in
    record {
      uncrossed = uncrossed (low_side ask.kind ask.lower) (high_side ask.kind ask.upper) parts.2;
      whole = λ is. record { low = whole_low ask.kind ask.lower is; high = whole_high ask.kind ask.upper is };
    }

-- ---- the answer

-- what the code finds of the bounds is what the ask says
bounds_are : (ask : Ask) (sides : Sides) (b found : Bool) → sides ≡ sides_of ask.kind ask.lower ask.upper → b ≡ cross ask.lower ask.upper sides → b ≡ found → bounds_cross ask ≡ found
bounds_are ask sides b found made is e =
    sym (is ∙ ap (cross ask.lower ask.upper) made) ∙ e

column_is : (ask : Ask) (integer : Bool) (sides : Sides) → integer ≡ takes_whole ask.kind → sides ≡ sides_of ask.kind ask.lower ask.upper → column_of integer sides ≡ column_asked ask
column_is ask integer sides e f = ap₂ column_of e f

pub column_may_be : (ask : Ask) (integer : Bool) (sides : Sides) (b : Bool) → integer ≡ takes_whole ask.kind → sides ≡ sides_of ask.kind ask.lower ask.upper → b ≡ cross ask.lower ask.upper sides → b ≡ false → All IsColumn (column_of integer sides ∷ [])
column_may_be ask integer sides b e f is apart =
    All-cons IsColumn (column_of integer sides) [] (subst IsColumn (sym (column_is ask integer sides e f)) (column_fits ask (bounds_are ask sides b false f is apart))) (All-nil IsColumn)

pub crossed_stops : (columns : List Declared) (system : LinearSystem) (from : RowFrom) (ask : Ask) (sides : Sides) (b : Bool) (stop : EncodeFault) → sides ≡ sides_of ask.kind ask.lower ask.upper → b ≡ cross ask.lower ask.upper sides → b ≡ true → stop ≡ encode.Fault (fault_here BoundsCross from.place)
    → Stops (declaring columns system from ask) (encode_cause stop)
unfolding declaring
crossed_stops columns system from ask sides b stop f is crossed e =
    rw (e, bounds_are ask sides b true f is crossed) refl

-- the step that the code makes is that of the ask
step_is : (system : LinearSystem) (from : RowFrom) (ask : Ask) (integer : Bool) (sides : Sides) (rows : List GivenRow) (j : ℕ) → integer ≡ takes_whole ask.kind → sides ≡ sides_of ask.kind ask.lower ask.upper → j ≡ next_column system → rows ≡ side_rows from j sides
    → ◌≡◌ {A = Step} (record { columns = column_of integer sides ∷ []; rows = rows }) (step_asked system from ask)
step_is system from ask integer sides rows j e f n made =
    ap₂ (λ (c : Column) (rs : List GivenRow). record { columns = c ∷ []; rows = rs }) (column_is ask integer sides e f) (made ∙ ap₂ (side_rows from) n f)

declared_is : (columns : List Declared) (system : LinearSystem) (from : RowFrom) (ask : Ask) (answer : Result LinearSystem Fault) → bounds_cross ask ≡ false → step_placed from.place system (step_asked system from ask) ≡ answer
    → declaring columns system from ask ≡ (answer >>= λ after. Ok (columns ++ declared_as (next_column system) ask ∷ [], after))
unfolding declaring
declared_is columns system from ask answer apart e = rw (apart, e) refl

-- a step as the code makes it, and how the code came to it
pub record Made (system : LinearSystem) (from : RowFrom) (ask : Ask) (step : Step) : Type 0 where
  pub uncrossed : bounds_cross ask ≡ false
  pub step_is : step ≡ step_asked system from ask

pub made : (system : LinearSystem) (from : RowFrom) (ask : Ask) (integer : Bool) (sides : Sides) (b : Bool) (rows : List GivenRow) (j : ℕ) → integer ≡ takes_whole ask.kind → sides ≡ sides_of ask.kind ask.lower ask.upper → b ≡ cross ask.lower ask.upper sides → b ≡ false → j ≡ next_column system → rows ≡ side_rows from j sides
    → Made system from ask (record { columns = column_of integer sides ∷ []; rows = rows })
made system from ask integer sides b rows j e f is apart n rows_are = record {
  uncrossed = bounds_are ask sides b false f is apart;
  step_is = step_is system from ask integer sides rows j e f n rows_are;
}

stopped : (columns : List Declared) (system new : LinearSystem) (from : RowFrom) (ask : Ask) (stop : EncodeFault) → bounds_cross ask ≡ false → Leaves (step_placed from.place system (step_asked system from ask)) new (Err stop) → Stops (declaring columns system from ask) (encode_cause stop)
stopped columns system new from ask (encode.Fault fault) apart h =
    declared_is columns system from ask (Err fault) apart h
stopped columns system new from ask encode.Memory apart h = tt

pub step_stops : (columns : List Declared) (system new : LinearSystem) (from : RowFrom) (ask : Ask) (step : Step) (result : Result Unit EncodeFault) (stop : EncodeFault) → Made system from ask step → Leaves (step_placed from.place system step) new result → result ≡ Err stop → Stops (declaring columns system from ask) (encode_cause stop)
step_stops columns system new from ask step result stop m h e =
    stopped columns system new from ask stop m.uncrossed
    (subst (λ (s : Step). Leaves (step_placed from.place system s) new (Err stop)) m.step_is (subst (Leaves (step_placed from.place system step) new) e h))

placed_ok : (system new : LinearSystem) (from : RowFrom) (ask : Ask) (step : Step) (result : Result Unit EncodeFault) (unit : Unit {0}) → Made system from ask step → Leaves (step_placed from.place system step) new result → result ≡ Ok unit → step_placed from.place system (step_asked system from ask) ≡ Ok new
placed_ok system new from ask step result unit m h e =
    subst (λ (s : Step). step_placed from.place system s ≡ Ok new) m.step_is (subst (Leaves (step_placed from.place system step) new) e h)

declared_ok : (columns listed : List Declared) (system new : LinearSystem) (from : RowFrom) (ask : Ask) (j : ℕ) → bounds_cross ask ≡ false → step_placed from.place system (step_asked system from ask) ≡ Ok new → j ≡ next_column system → listed ≡ columns ++ declared_as j ask ∷ [] → declaring columns system from ask ≡ Ok (listed, new)
declared_ok columns listed system new from ask j apart h n l =
    declared_is columns system from ask (Ok new) apart h
    ∙ ap (λ (ds : List Declared). Ok (ds, new)) (sym (l ∙ ap (λ (k : ℕ). columns ++ declared_as k ask ∷ []) n))

-- ---- the system after it

declared_extends : (system new : LinearSystem) (from : RowFrom) (ask : Ask) → step_placed from.place system (step_asked system from ask) ≡ Ok new → Extends new system
declared_extends system new from ask h =
    subst (λ (s : LinearSystem). Extends s system) (sym (placed_is from.place system new (step_asked system from ask) h)) (step_extends system (step_asked system from ask))

side_stands : (from : RowFrom) (j : ℕ) (sense : Sense) (side : Option Rational) → IfSome side (λ v. IsFalse (is_short v) → StandsAsRow (side_row from j sense side) j sense v)
side_stands from j sense None = tt
side_stands from j sense (Some v) = λ long.
    subst (λ (rows : List GivenRow). StandsAsRow rows j sense v) (sym (ap (λ (b : Bool). cond b [] (row ∷ [])) long))
    (record { row = row; stands = Contains-get_or (row ∷ []) 0 row (omega arith); terms = refl; kind = refl })
  where
    row : GivenRow
    row = row_of from ((j, one) ∷ []) (One sense v)

sides_stand : (from : RowFrom) (j : ℕ) (column : Column) → IsCoveredColumn (side_rows from j column.sides) j column
sides_stand from j column =
    let low : List GivenRow = side_row from j AtLeast column.sides.low in
    let high : List GivenRow = side_row from j AtMost column.sides.high in
    record {
      low =
          side_further (λ l. IsFalse (is_short l) → StandsAsRow low j AtLeast l) (λ l. IsFalse (is_short l) → StandsAsRow (low ++ high) j AtLeast l) column.sides.low
          (λ v f long. stands_left low high j AtLeast v (f long))
          (side_stands from j AtLeast column.sides.low);
      high =
          side_further (λ u. IsFalse (is_short u) → StandsAsRow high j AtMost u) (λ u. IsFalse (is_short u) → StandsAsRow (low ++ high) j AtMost u) column.sides.high
          (λ v f long. stands_right low high j AtMost v (f long))
          (side_stands from j AtMost column.sides.high);
    }

step_covers : (system : LinearSystem) (from : RowFrom) (ask : Ask) → IsCoveredStep system (step_asked system from ask)
step_covers system from ask j some few =
    subst (λ (i : ℕ). IsCoveredColumn (side_rows from (next_column system) (column_asked ask).sides) (length system.columns + i) (column_at (column_asked ask ∷ []) i)) only
    (sides_stand from (next_column system) (column_asked ask))
  where
    only : 1 ≡ j
    only = omega arith

declared_covered : (system new : LinearSystem) (from : RowFrom) (ask : Ask) → step_placed from.place system (step_asked system from ask) ≡ Ok new → IsCovered system → IsCovered new
declared_covered system new from ask h covered =
    subst IsCovered (sym (placed_is from.place system new (step_asked system from ask) h))
    (covered_further system (step_asked system from ask) covered (step_covers system from ask))

declared_listed : (columns listed : List Declared) (system new : LinearSystem) (from : RowFrom) (ask : Ask) (j : ℕ) → step_placed from.place system (step_asked system from ask) ≡ Ok new → j ≡ next_column system → listed ≡ columns ++ declared_as j ask ∷ [] → All (IsInSystem system) columns → All (IsInSystem new) listed
declared_listed columns listed system new from ask j h n l each =
    let size : length new.columns ≡ length system.columns + 1 =
    ap (λ (s : LinearSystem). length s.columns) (placed_is from.place system new (step_asked system from ask) h) ∙ length-append system.columns (column_asked ask ∷ []) in
    let last : j ≤ length new.columns = omega arith in
    subst (All (IsInSystem new)) (sym l)
    (All-push (IsInSystem new) columns (declared_as j ask) (All-weaker (IsInSystem system) (IsInSystem new) (λ d (le : d.column ≤ length system.columns). omega arith) columns each) last)

-- ---- all of it

-- the answer, and what becomes of the system and of the list
pub record Outcome (columns listed : List Declared) (system new : LinearSystem) (from : RowFrom) (ask : Ask) : Type 0 where
  pub answer : declaring columns system from ask ≡ Ok (listed, new)
  pub extends : Extends new system
  pub covered : IsCovered system → IsCovered new
  pub in_system : All (IsInSystem new) listed

pub outcome : (columns listed : List Declared) (system new : LinearSystem) (from : RowFrom) (ask : Ask) (step : Step) (result : Result Unit EncodeFault) (unit : Unit {0}) (j : ℕ) → Made system from ask step → Leaves (step_placed from.place system step) new result → result ≡ Ok unit → j ≡ next_column system
    → listed ≡ columns ++ declared_as j ask ∷ [] → All (IsInSystem system) columns → Outcome columns listed system new from ask
outcome columns listed system new from ask step result unit j m h e n l each =
    let here = placed_ok system new from ask step result unit m h e in
    record {
      answer = declared_ok columns listed system new from ask j m.uncrossed here n l;
      extends = declared_extends system new from ask here;
      covered = declared_covered system new from ask here;
      in_system = declared_listed columns listed system new from ask j here n l each;
    }
