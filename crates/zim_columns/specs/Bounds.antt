-- Which numbers an ask is for, and the column that is made of it.
use Rattle.std.specs.Prelude.{Bool, true, false, ◌||◌, IsTrue, Option, Some, None}
use Rattle.zim_rational.specs.Rational.{Rational, IsAtMost, below, is_whole}
use Rattle.zim_rational.specs.Rounding.{floor, ceil}
use Rattle.zim_linear.specs.declared.sides.Sides.{Sides}
use Rattle.zim_rows.specs.declared.rows.Column.{Column}
use Rattle.zim_rows.specs.System.{column_of}
use Rattle.zim_columns.specs.declared.asks.Ask.{Ask}
use Rattle.zim_columns.specs.declared.asks.Bound.{Bound}
use Rattle.zim_columns.specs.declared.asks.Bound.TheVariants.{Minus, Plus, At}
use Rattle.zim_columns.specs.declared.asks.VarKind.{VarKind}
use Rattle.zim_columns.specs.declared.asks.VarKind.TheVariants.{Real, Integer, Binary}

-- Whether a column of the kind takes whole numbers alone.
abbrev pub takes_whole : VarKind → Bool
takes_whole Real = false
takes_whole Integer = true
takes_whole Binary = true

-- ---- the numbers of an ask

-- A number keeps a lower bound: each does where it is minus infinity, and none where it is infinity.
abbrev pub KeepsLower : Bound → Rational → Type 0
KeepsLower Minus v = Unit {0}
KeepsLower Plus v = ⊥
KeepsLower (At bound) v = IsAtMost bound v

-- A number keeps an upper bound, by the same rule.
abbrev pub KeepsUpper : Bound → Rational → Type 0
KeepsUpper Minus v = ⊥
KeepsUpper Plus v = Unit {0}
KeepsUpper (At bound) v = IsAtMost v bound

-- A number is one of those that are asked for: it lies between the bounds as the model gives them, and is whole where the kind says so.
pub record IsAsked (ask : Ask) (v : Rational) : Type 0 where
  pub lower : KeepsLower ask.lower v
  pub upper : KeepsUpper ask.upper v
  pub whole : IsTrue (takes_whole ask.kind) → IsTrue (is_whole v)

-- ---- the column of an ask

-- The least number that a column of the kind takes from this number up.
abbrev pub raised : VarKind → Rational → Rational
raised Real q = q
raised Integer q = ceil q
raised Binary q = ceil q

-- The greatest number that a column of the kind takes up to this number.
abbrev pub lowered : VarKind → Rational → Rational
lowered Real q = q
lowered Integer q = floor q
lowered Binary q = floor q

-- The low side that a lower bound makes: none where it is infinite.
abbrev pub low_side : VarKind → Bound → Option Rational
low_side kind Minus = None
low_side kind Plus = None
low_side kind (At bound) = Some (raised kind bound)

-- The high side that an upper bound makes, by the same rule.
abbrev pub high_side : VarKind → Bound → Option Rational
high_side kind Minus = None
high_side kind Plus = None
high_side kind (At bound) = Some (lowered kind bound)

-- The sides that bounds make.
abbrev pub sides_of : VarKind → Bound → Bound → Sides
sides_of kind lower upper = record { low = low_side kind lower; high = high_side kind upper }

-- The column of an ask: integer where its kind takes whole numbers alone, with the sides that its bounds make.
abbrev pub column_asked : Ask → Column
column_asked ask = column_of (takes_whole ask.kind) (sides_of ask.kind ask.lower ask.upper)

-- ---- bounds that cross

-- A bound is infinity.
abbrev pub is_infinity : Bound → Bool
is_infinity Minus = false
is_infinity Plus = true
is_infinity (At bound) = false

-- A bound is minus infinity.
abbrev pub is_minus_infinity : Bound → Bool
is_minus_infinity Minus = true
is_minus_infinity Plus = false
is_minus_infinity (At bound) = false

-- There are two sides, and the high one is below the low one.
abbrev pub are_crossed : Sides → Bool
are_crossed sides = by sides.low sides.high
  where
    by : Option Rational → Option Rational → Bool
    by None high = false
    by (Some low) None = false
    by (Some low) (Some high) = below high low

-- Bounds that make these sides cross: the sides are crossed, or the lower bound is infinity, or the upper one minus infinity.
abbrev pub cross : Bound → Bound → Sides → Bool
cross lower upper sides = is_infinity lower || is_minus_infinity upper || are_crossed sides

-- The bounds of an ask cross, its sides being rounded where its kind takes whole numbers alone.
abbrev pub bounds_cross : Ask → Bool
bounds_cross ask = cross ask.lower ask.upper (sides_of ask.kind ask.lower ask.upper)
