-- The two counts of a depth, as far as they fit.
use Rattle.std.specs.Prelude.{ℕ, ◌-◌, ◌^◌, min}
use Rattle.zim_nesting.specs.Depth.{Depth}
use Rattle.zim_nesting.specs.declared.counts.Counts.{Counts}

-- the last value of a count, at which it stays
abbrev pub last_nesting : ℕ
last_nesting = 2 ^ 64 - 1

-- the counts of a piece: each is the number, or stays at its last value
abbrev pub counts_of : Depth → Counts
counts_of d = record { loops = min last_nesting d.loops; deepest = min last_nesting d.deepest }
