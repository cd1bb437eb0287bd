-- The two ends of a form's terms, one after the other.
use Rattle.std.specs.Prelude.{List, Result, Ok}
use Rattle.zim_answer.specs.Answer.{◌>>=◌}
use Rattle.zim_fraction.specs.declared.fault.Past.{Past}
use Rattle.zim_linear.specs.Forms.{Term}
use Rattle.zim_linear.specs.Ends.{least_answer, greatest_answer}
use Rattle.zim_linear.specs.declared.sides.Sides.{Sides}

-- Both ends, low and then high.
abbrev pub both_ends : List Sides → List Term → Result Sides Past
both_ends sides terms =
    least_answer sides terms >>= λ low. greatest_answer sides terms >>= λ high. Ok (record { low = low; high = high })
