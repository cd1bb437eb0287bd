-- The terms of an objective are written column by column.
use Rattle.std.proofs.Common.{◌≡◌, ℕ, suc, ◌+◌, ◌<◌, ◌≤◌, Bool, true, false, List, [], ◌∷◌, length, get_or, arith, refl, sym}
use Rattle.std.specs.Prelude.{◌==◌, All}
use Rattle.std.proofs.lemmas.Bool.Decides.{nat_tests}
use Rattle.std.proofs.lemmas.List.Elements.{All-head, All-tail}
use Rattle.zim_rational.specs.Rational.{zero}
use Rattle.zim_linear.specs.Forms.{Term, AreTermsFrom, AreTerms, AreColumns}
use Rattle.zim_rows.specs.Program.{IsShortTerm}
use Rattle.zim_mps.specs.Puts.{AreCosts}
use Rattle.zim_mps.specs.Text.{coefficient_of}
use Rattle.zim_mps.proofs.Transposed.{terms_from_one, terms_again}

costs_from : (a : ℕ) (terms : List Term) → AreTermsFrom a terms → All IsShortTerm terms → AreCosts a terms
costs_from a [] is all = tt
costs_from a (t ∷ ts) is all =
    (is.0, All-head IsShortTerm t ts all, costs_from (t.0 + 1) ts (terms_again (suc t.0) (t.0 + 1) ts (omega arith) is.2) (All-tail IsShortTerm t ts all))

-- the terms of an objective are in order
pub AreCosts-terms : (n : ℕ) (terms : List Term) → AreTerms terms → AreColumns n terms → All IsShortTerm terms → AreCosts 1 terms
AreCosts-terms n terms is columns all = costs_from 1 terms (terms_from_one n terms is columns) all

other_test : (j k : ℕ) → j < k → (k == j) ≡ false
other_test j k h = grind (arith, nat_tests)

-- a column before all terms has no coefficient
no_cost : (j a : ℕ) (terms : List Term) → j < a → AreCosts a terms → coefficient_of terms j ≡ zero
no_cost j a [] h is = refl
no_cost j a (t ∷ ts) h is =
    rw (other_test j t.0 (omega (arith, is.0))) (no_cost j (t.0 + 1) ts (omega (arith, is.0)) is.2)

-- nor has terms that begin at another column
pub no_cost_here : (column : ℕ) (terms : List Term) (d : Term) → 1 ≤ length terms → AreCosts column terms → ((get_or terms 0 d).0 ≡ column → ⊥) → zero ≡ coefficient_of terms column
no_cost_here column [] d some is other = absurd (omega arith)
no_cost_here column (t ∷ ts) d some is other = sym (by_first (t.0 == column) refl)
  where
    by_first : (b : Bool) → (t.0 == column) ≡ b → coefficient_of (t ∷ ts) column ≡ zero
    by_first true e = absurd (other (grind (arith, nat_tests)))
    by_first false e = let low : column ≤ t.0 = is.0 in rw e (no_cost column (t.0 + 1) ts (omega arith) is.2)
