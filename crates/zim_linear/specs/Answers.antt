-- What a call that makes a form answers.
use Rattle.std.specs.Prelude.{Result, Ok, Err}
use Rattle.zim_linear.specs.Forms.{LinearForm}
use Rattle.zim_linear.specs.declared.faults.LinFault.{LinFault}
use Rattle.zim_linear.specs.declared.faults.LinFault.TheVariants.{Past, Memory}

-- the form where the numbers are within the limit, past exactly where they are not; want of memory is free
abbrev pub FormAnswer : Type 0 → (LinearForm → Type 0) → Result LinearForm LinFault → Type 0
FormAnswer Within Is (Ok form) = Within × Is form
FormAnswer Within Is (Err Past) = ¬ Within
FormAnswer Within Is (Err Memory) = Unit {0}
