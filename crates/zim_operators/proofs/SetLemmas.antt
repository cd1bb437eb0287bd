-- What is made of a set that was made, by which numbers and tuples it was made of.
use Rattle.std.proofs.Common.{◌≡◌, ℕ, ℤ, pos, ◌<◌, ◌≤◌, ◌&&◌, not, true, List, [], ◌∷◌, length, map, Result, Ok, unsigned_abs, of_z, to_z, refl, sym, ◌∙◌, subst, arith}
use Rattle.std.specs.Prelude.{int_lt}
use Rattle.std.specs.Int.{w128}
use Rattle.std.specs.List.{list_all}
use Rattle.std.proofs.lemmas.Int.{to_z-of_z, fits_signed_from_abs}
use Rattle.zim_answer.specs.Answer.{◌>>=◌, goes}
use Rattle.zim_answer.specs.Gives.{Gives}
use Rattle.zim_fault.specs.declared.kinds.Kind.{Kind}
use Rattle.zim_fraction.specs.Limit.{limit}
use Rattle.zim_meaning.specs.Operations.{set_or_fault, with_member, set_of_members, is_position, projected_at}
use Rattle.zim_meaning.specs.declared.values.Value.{Value}
use Rattle.zim_meaning.specs.declared.values.Value.TheVariants.{Set}
use Rattle.zim_operators.specs.Causes.{stop_cause}
use Rattle.zim_operators.specs.Private.{between_numbers, cut_to}
use Rattle.zim_operators.specs.declared.stop.Stop.{Stop}
use Rattle.zim_rational.specs.Rational.{Rational, is_whole}
use Rattle.zim_sets.specs.Listing.{set_listed}
use Rattle.zim_sets.specs.Products.{firsts, projected}
use Rattle.zim_sets.specs.Ranges.{range_of}
use Rattle.zim_tuples.specs.declared.elements.Elem.{Elem}

pub members_made : (values : List Value) (tuples listed : List (List Elem)) (result : Result Value Stop) → goes with_member [] values ≡ Ok tuples → listed ≡ tuples
    → Gives (λ value. value) stop_cause (set_or_fault (set_listed listed)) result → Gives (λ value. value) stop_cause (set_of_members values) result
unfolding set_of_members
members_made values tuples listed result h same made =
    subst (λ (a : Result (List (List Elem)) Kind). Gives (λ value. value) stop_cause (a >>= λ t. set_or_fault (set_listed t)) result) (sym h)
    (subst (λ (t : List (List Elem)). Gives (λ value. value) stop_cause (set_or_fault (set_listed t)) result) same made)

pub cut_made : (a : List (List Elem)) (length : ℕ) (numbers : List Rational) (positions given : List ℕ) (result : Result Value Stop)
    → list_all (λ q. not (int_lt q.numer (pos 1)) && not (int_lt (pos length) q.numer)) numbers ≡ true → positions ≡ map (λ q. unsigned_abs q.numer) numbers → given ≡ positions
    → Gives (λ value. value) stop_cause (set_or_fault (Ok (projected a given))) result → Gives (λ value. value) stop_cause (cut_to a length numbers) result
cut_made a length numbers positions given result all are same made =
    rw all (subst (λ (p : List ℕ). Gives (λ value. value) stop_cause (Ok (Set (projected a p))) result) (same ∙ are) made)

pub passed : (x z : ℤ) → x ≡ z → unsigned_abs x ≤ limit → to_z w128 (of_z w128 x) ≡ z
passed x z e within = to_z-of_z w128 x (fits_signed_from_abs w128 x (omega arith)) ∙ e

pub between_made : (n m s : Rational) (x y z : ℤ) (result : Result Value Stop) → (is_whole n && is_whole m && is_whole s) ≡ true → x ≡ n.numer → y ≡ m.numer → z ≡ s.numer
    → Gives (λ value. value) stop_cause (set_or_fault (range_of x y z)) result → Gives (λ value. value) stop_cause (between_numbers n m s) result
between_made n m s x y z result whole first second third made =
    rw whole (subst (λ (k : ℤ). Gives (λ value. value) stop_cause (set_or_fault (range_of k m.numer s.numer)) result) first
    (subst (λ (k : ℤ). Gives (λ value. value) stop_cause (set_or_fault (range_of x k s.numer)) result) second
    (subst (λ (k : ℤ). Gives (λ value. value) stop_cause (set_or_fault (range_of x y k)) result) third made)))

every_position : (numbers : List Rational) → list_all (is_position []) numbers ≡ true
every_position [] = refl
every_position (q ∷ numbers) = every_position numbers

pub projected_none : (a shown : List (List Elem)) (numbers : List Rational) (empty : List (List Elem)) → shown ≡ a → length shown < 1 → list_all is_whole numbers ≡ true → empty ≡ []
    → projected_at a numbers ≡ Ok (Set empty)
unfolding projected_at projected firsts
projected_none a [] numbers empty same none whole is =
    subst (λ (t : List (List Elem)). projected_at t numbers ≡ Ok (Set empty)) same (rw (whole, every_position numbers, is) refl)
projected_none a (tuple ∷ tuples) numbers empty same none whole is = absurd (omega (arith, none))
