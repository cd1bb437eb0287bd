-- Bytes that grow up to a room.
use Rattle.std.specs.Prelude.{ℕ, List}

-- the bytes, and how many there may be
pub record LimitedBytes : Type 0 where
  pub bytes : List ℕ
  pub room : ℕ
