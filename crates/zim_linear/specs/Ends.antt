-- The least and the greatest number of a list of terms over the sides of their columns, and when a finite one is past.
use Rattle.std.specs.Prelude.{ℕ, pos, ◌≡◌, ◌-◌, ◌&&◌, ◌⊎◌, Bool, true, cond, int_lt, List, [], ◌∷◌, length, slice_index_or, Option, Some, None, IfSome, Result, Ok, Err}
use Rattle.std.specs.Option.{is_some}
use Rattle.zim_fraction.specs.Answers.{sum_answer, product_answer}
use Rattle.zim_fraction.specs.declared.fault.Past.{Past}
use Rattle.zim_rational.specs.Rational.{Rational, zero, IsAtMost}
use Rattle.zim_linear.specs.Forms.{Term, AreColumns, ColumnNumbers, sum_at}
use Rattle.zim_linear.specs.declared.sides.Sides.{Sides}
use Rattle.zim_linear.specs.declared.sides.End.{End}
use Rattle.zim_linear.specs.declared.sides.End.TheVariants.{Least, Greatest}

-- no sides
abbrev pub unbounded : Sides
unbounded = record { low = None; high = None }

-- the sides of column j, of which the first is column 1
abbrev pub sides_at : List Sides → ℕ → Sides
sides_at sides j = slice_index_or sides (j - 1) unbounded

-- each column of the terms has sides
abbrev pub HaveSides : List Sides → List Term → Type 0
HaveSides sides terms = AreColumns (length sides) terms

-- the number lies between the sides
pub record IsBetween (sides : Sides) (v : Rational) : Type 0 where
  pub low : IfSome sides.low (λ l. IsAtMost l v)
  pub high : IfSome sides.high (λ h. IsAtMost v h)

-- each column of the terms lies between its sides
abbrev pub AreBetween : ColumnNumbers → List Sides → List Term → Type 0
AreBetween x sides [] = Unit {0}
AreBetween x sides (t ∷ ts) = IsBetween (sides_at sides t.0) (x t.0) × AreBetween x sides ts

-- the side that counts for the end: for the least number the low one, and the high one where the coefficient is below 0
unfoldable pub counted : End → Bool → Sides → Option Rational
counted Least turned sides = cond turned sides.high sides.low
counted Greatest turned sides = cond turned sides.low sides.high

-- the side of a term's column that counts for the end
abbrev pub side_of : End → List Sides → Term → Option Rational
side_of end sides t = counted end (int_lt t.1.numer (pos 0)) (sides_at sides t.0)

-- each column of the terms has the side that counts
unfoldable pub has_end : End → List Sides → List Term → Bool
has_end end sides [] = true
has_end end sides (t ∷ ts) = is_some (side_of end sides t) && has_end end sides ts

-- goes on with a sum, where there is one
abbrev pub with_sum : Result Rational Past → (Rational → Result (Option Rational) Past) → Result (Option Rational) Past
with_sum (Ok q) next = next q
with_sum (Err past) next = Err past

-- goes on with a side, where there is one
abbrev pub at_side : Option Rational → (Rational → Result (Option Rational) Past) → Result (Option Rational) Past
at_side (Some side) next = next side
at_side None next = Ok None

-- the products of the coefficients with the sides that count, added to a sum one after another; past where a product or a sum is
unfoldable pub end_from : End → List Sides → Rational → List Term → Result (Option Rational) Past
end_from end sides sum [] = Ok (Some sum)
end_from end sides sum (t ∷ ts) =
    at_side
    (side_of end sides t)
    (λ side. with_sum (product_answer t.1 side) (λ product. with_sum (sum_answer sum product) (λ next. end_from end sides next ts)))

-- an end of the terms: none where a side that counts is infinite, else the sum of the products
unfoldable pub end_answer : End → List Sides → List Term → Result (Option Rational) Past
end_answer end sides terms = cond (has_end end sides terms) (end_from end sides zero terms) (Ok None)

-- the least number of the terms
abbrev pub least_answer : List Sides → List Term → Result (Option Rational) Past
least_answer sides terms = end_answer Least sides terms

-- and the greatest
abbrev pub greatest_answer : List Sides → List Term → Result (Option Rational) Past
greatest_answer sides terms = end_answer Greatest sides terms

-- both ends of the terms, past where one of them is
abbrev pub EndsAnswer : List Sides → List Term → Result Sides Past → Type 0
EndsAnswer sides terms (Ok ends) = (end_answer Least sides terms ≡ Ok ends.low) × (end_answer Greatest sides terms ≡ Ok ends.high)
EndsAnswer sides terms (Err past) = (end_answer Least sides terms ≡ Err past) ⊎ (end_answer Greatest sides terms ≡ Err past)

-- the low side isn't above the high one
abbrev pub IsUncrossed : Sides → Type 0
IsUncrossed sides = IfSome sides.low (λ l. IfSome sides.high (λ h. IsAtMost l h))

-- no column of the terms has a low side above its high one
abbrev pub AreUncrossed : List Sides → List Term → Type 0
AreUncrossed sides [] = Unit {0}
AreUncrossed sides (t ∷ ts) = IsUncrossed (sides_at sides t.0) × AreUncrossed sides ts

-- the terms come to v at columns that lie between their sides
abbrev pub IsReached : List Sides → List Term → Rational → Type 0
IsReached sides terms v = (x : ColumnNumbers) × AreBetween x sides terms × (sum_at x terms ≡ v)

-- the ends are the least and the greatest number of the terms: wherever the columns lie between their sides, the sum of
-- the terms lies between the ends, and where no sides are crossed, each finite end is such a sum
pub record AreEnds (sides : List Sides) (terms : List Term) (ends : Sides) : Type 0 where
  pub kept : (x : ColumnNumbers) → AreBetween x sides terms → IsBetween ends (sum_at x terms)
  pub low_reached : AreUncrossed sides terms → IfSome ends.low (IsReached sides terms)
  pub high_reached : AreUncrossed sides terms → IfSome ends.high (IsReached sides terms)
