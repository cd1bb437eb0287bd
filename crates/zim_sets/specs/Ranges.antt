-- Which numbers a range has.
use Rattle.std.specs.Prelude.{ℕ, ℤ, zero, suc, pos, negsuc, ◌+◌, ◌/◌, ◌+ℤ◌, ◌-ℤ◌, cond, List, [], ◌∷◌, Result, Err, map, unsigned_abs}
use Rattle.std.specs.Ordering.{int_eq}
use Rattle.zim_rational.specs.Rational.{whole}
use Rattle.zim_sets.specs.Insertion.{sized}
use Rattle.zim_fault.specs.declared.kinds.Kind.{Kind}
use Rattle.zim_fault.specs.declared.kinds.Kind.TheVariants.{StepZero}
use Rattle.zim_tuples.specs.declared.elements.Elem.{Elem}
use Rattle.zim_tuples.specs.declared.elements.Elem.TheVariants.{Number}

-- so many numbers, the first one given and each other by the step more than the one before
unfoldable pub progression : ℤ → ℤ → ℕ → List ℤ
progression first step zero = []
progression first step (suc count) = first ∷ progression (first +ℤ step) step count

-- how far the second number lies from the first in the step's direction, below 0 where it lies the other way
abbrev pub distance : ℤ → ℤ → ℤ → ℤ
distance first last (pos step) = last -ℤ first
distance first last (negsuc step) = first -ℤ last

-- how many multiples of a step there are from 0 up to a distance
abbrev pub multiples_within : ℤ → ℕ → ℕ
multiples_within (pos distance) step = distance / step + 1
multiples_within (negsuc distance) step = 0

-- how many of the numbers n, n + s, .. there are up to m, or down to m where s is negative; s isn't 0
unfoldable pub range_count : ℤ → ℤ → ℤ → ℕ
range_count n m s = multiples_within (distance n m s) (unsigned_abs s)

-- the tuple of one whole number
abbrev pub single : ℤ → List Elem
single number = Number (whole number) ∷ []

-- the numbers n, n + s, .. up to m, or down to m where s is negative, each as a tuple
abbrev pub range_tuples : ℤ → ℤ → ℤ → List (List Elem)
range_tuples n m s = map single (progression n s (range_count n m s))

-- the set of these, where the step isn't 0
unfoldable pub range_of : ℤ → ℤ → ℤ → Result (List (List Elem)) Kind
range_of n m s = cond (int_eq s (pos 0)) (Err StepZero) (sized (range_tuples n m s))
