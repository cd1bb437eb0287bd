-- The longest front of some bytes that passes a test.
use Rattle.std.specs.Prelude.{◌≡◌, ℕ, ◌<◌, ◌≤◌, List, length, take, Bool, true, false, Option, Some, None}

-- the front of n bytes passes, and no longer one does
pub record IsLongestThat (p : List ℕ → Bool) (bytes : List ℕ) (n : ℕ) : Type 0 where
  pub within : n ≤ length bytes
  pub is : p (take n bytes) ≡ true
  pub longer : (m : ℕ) → n < m → m ≤ length bytes → p (take m bytes) ≡ false

-- no front passes
abbrev pub NoneThat : (List ℕ → Bool) → List ℕ → Type 0
NoneThat p bytes = (m : ℕ) → m ≤ length bytes → p (take m bytes) ≡ false

-- the length is that of the longest front that passes, or there is none
abbrev pub IsFrontThat : (List ℕ → Bool) → List ℕ → Option ℕ → Type 0
IsFrontThat p bytes (Some n) = IsLongestThat p bytes n
IsFrontThat p bytes None = NoneThat p bytes
