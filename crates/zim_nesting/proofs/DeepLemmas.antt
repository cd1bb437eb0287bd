-- A token stands past the limit exactly where the nesting passes it.
use Rattle.std.proofs.Common.{◌≡◌, ℕ, ◌+◌, ◌≤◌, List, [], ◌∷◌, Option, Some, None, if◌then◌else◌, refl, sym, ◌∙◌, arith}
use Rattle.std.specs.Prelude.{max, nat_lt}
use Rattle.zim_fault.specs.declared.faults.Place.{Place}
use Rattle.zim_fault.specs.declared.tokens.Placed.{Placed}
use Rattle.zim_scan.specs.Nesting.{class_at, open_behind, loops_behind, deepest, first_deep}
use Rattle.zim_nesting.specs.TokenNesting.{greatest_nesting}
use Rattle.zim_nesting.specs.Law.{DeepIsPastTheLimit}
use Rattle.zim_nesting.proofs.PieceLemmas.{greatest-nil, greatest-cons, greatest-low}

first_deep-nil : (o l : ℕ) → first_deep o l [] ≡ None
unfolding first_deep
first_deep-nil o l = refl

first_deep-cons : (o l : ℕ) (t : Placed) (rest : List Placed) → first_deep o l (t ∷ rest) ≡
    (if nat_lt deepest (open_behind (class_at t) o + loops_behind (class_at t) rest l) then Some t.place else first_deep (open_behind (class_at t) o) (loops_behind (class_at t) rest l) rest)
unfolding first_deep
first_deep-cons o l t rest = refl

-- where the limit is passed, a token stands there
passed : (n : ℕ) (p : Place) (later : Option Place) → (if nat_lt deepest n then Some p else later) ≡ None → (n ≤ deepest) × (later ≡ None)
passed n p later h = grind (arith, h)

kept : (n : ℕ) (p : Place) (later : Option Place) → n ≤ deepest → later ≡ None → (if nat_lt deepest n then Some p else later) ≡ None
kept n p later h none = grind (arith, h, none)

-- no token stands past the limit
within : (ts : List Placed) (o l : ℕ) → o + l ≤ deepest → first_deep o l ts ≡ None → greatest_nesting o l ts ≤ deepest
within [] o l low none = rw (greatest-nil o l) low
within (t ∷ rest) o l low none =
    let found = passed (open_behind (class_at t) o + loops_behind (class_at t) rest l) t.place (first_deep (open_behind (class_at t) o) (loops_behind (class_at t) rest l) rest) (sym (first_deep-cons o l t rest) ∙ none) in
    rw (greatest-cons o l t rest) (both low (within rest (open_behind (class_at t) o) (loops_behind (class_at t) rest l) found.0 found.1))
  where
    both : {m n : ℕ} → m ≤ deepest → n ≤ deepest → max m n ≤ deepest
    both {m} {n} g h = omega (arith, g, h)

below : (ts : List Placed) (o l : ℕ) → greatest_nesting o l ts ≤ deepest → first_deep o l ts ≡ None
below [] o l h = first_deep-nil o l
below (t ∷ rest) o l h =
    let later : greatest_nesting (open_behind (class_at t) o) (loops_behind (class_at t) rest l) rest ≤ deepest = second (o + l) (greatest_nesting (open_behind (class_at t) o) (loops_behind (class_at t) rest l) rest) (rw (← greatest-cons o l t rest) h) in
    first_deep-cons o l t rest ∙ kept (open_behind (class_at t) o + loops_behind (class_at t) rest l) t.place (first_deep (open_behind (class_at t) o) (loops_behind (class_at t) rest l) rest)
    (first (greatest-low (open_behind (class_at t) o) (loops_behind (class_at t) rest l) rest) later) (below rest (open_behind (class_at t) o) (loops_behind (class_at t) rest l) later)
  where
    second : (m n : ℕ) → max m n ≤ deepest → n ≤ deepest
    second m n h = omega (arith, h)

    first : {m n : ℕ} → m ≤ n → n ≤ deepest → m ≤ deepest
    first {m} {n} g h = omega (arith, g, h)

pub deep_is_past_the_limit : DeepIsPastTheLimit
deep_is_past_the_limit ts = (within ts 0 0 (omega arith), below ts 0 0)
