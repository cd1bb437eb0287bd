-- The nesting of a statement and of what it calls, compared with the limit without adding them.
use Rattle.std.proofs.Common.{ℕ, ◌≡◌, ◌+◌, ◌-◌, ◌<◌, ◌≤◌, min, true, nat_lt, arith, sym}
use Rattle.std.proofs.lemmas.Bool.{ltb-true, lt-ltb, ltb_from_iff}

-- a statement that is too deep by itself
pub deep_alone : (own called : ℕ) {known : ℕ} → known ≡ min 18446744073709551615 own → 200 < known → true ≡ nat_lt 200 (own + called)
deep_alone own called {known} is deep = sym (lt-ltb 200 (own + called) (omega (arith, is, deep)))

-- one that isn't
pub deep_together : (own called : ℕ) {known : ℕ} → known ≡ min 18446744073709551615 own → known ≤ 200 → nat_lt (200 - known) called ≡ nat_lt 200 (own + called)
deep_together own called {known} is shallow = ltb_from_iff (forth, back)
  where
    forth : nat_lt (200 - known) called ≡ true → 200 < own + called
    forth h = omega (arith, is, shallow, ltb-true (200 - known) called h)

    back : 200 < own + called → nat_lt (200 - known) called ≡ true
    back h = lt-ltb (200 - known) called (omega (arith, is, shallow, h))
