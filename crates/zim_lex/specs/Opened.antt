-- Which files come first among those that were opened.
use Rattle.std.specs.Prelude.{◌≡◌, ℕ, List, ◌++◌}

-- some names come first among others
pub record ComeFirst (front names : List (List ℕ)) : Type 0 where
  pub rest : List (List ℕ)
  pub whole : front ++ rest ≡ names
