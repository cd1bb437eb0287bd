-- Counts that end at the largest 64-bit number, and when a count rose.
use Rattle.std.specs.Prelude.{◌≡◌, ℕ, ◌+◌, ◌-◌, ◌^◌, ◌<◌, ◌⊎◌, min, max, List, ◌++◌}

-- the last value of a count, at which it stays
abbrev pub last_count : ℕ
last_count = 2 ^ 64 - 1

-- a count rose: it is greater than before, or stands at its last value
abbrev pub Rose : ℕ → ℕ → Type 0
Rose before now = (before < now) ⊎ (now ≡ last_count)

-- a count with n more, which goes no further than its last value
abbrev pub count_on : ℕ → ℕ → ℕ
count_on n count = max count (min (count + n) last_count)

-- a text is the front of another
pub record IsFrontOf (front text : List ℕ) : Type 0 where
  pub rest : List ℕ
  pub whole : front ++ rest ≡ text
