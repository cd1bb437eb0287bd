-- What the fields of a number say of the fraction that it stands for, and which fields may be kept.
use Rattle.std.proofs.Common.{ℤ, pos, ◌≡◌, ◌≤◌, ◌&&◌, IsTrue, unsigned_abs, nat_le, nat_eq, to_z, of_z, SFits, ap, sym, ◌∙◌, refl, arith, leb-true, le-leb, eqb-true, eq-eqb}
use Rattle.std.specs.Int.{w128}
use Rattle.std.proofs.lemmas.Bool.{and_parts, and_from}
use Rattle.std.proofs.lemmas.Int.{to_z-of_z, to_z_pos, fits_signed_from_abs}
use Rattle.std.proofs.lemmas.Bool.Decides.{same_from_decides}
use Rattle.zim_rational.proofs.Whole.{same_Decides}
use Rattle.zim_rational.specs.Rational.{Rational, is_lowest, ratio, ratio_of_lowest, whole, zero, one, whole_lowest, same, same_from_parts}
use Rattle.zim_fraction.specs.Fields.{IsKept}
use Rattle.zim_fraction.specs.Limit.{limit, is_within}
use Rattle.zim_fraction.specs.declared.fraction.Fraction.TheInside.{Inside}

lowest_of : (a : Inside) → IsKept a → IsTrue (is_lowest a.numer a.denom)
lowest_of a kept = (and_parts (is_lowest a.numer a.denom) (is_within a.numer a.denom) kept).0

within_of : (a : Inside) → IsKept a → IsTrue (is_within a.numer a.denom)
within_of a kept = (and_parts (is_lowest a.numer a.denom) (is_within a.numer a.denom) kept).1

pub numer_bound : (a : Inside) → IsKept a → unsigned_abs a.numer ≤ limit
numer_bound a kept = leb-true (unsigned_abs a.numer) limit ((and_parts (nat_le (unsigned_abs a.numer) limit) (nat_le a.denom limit) (within_of a kept)).0)

pub denom_bound : (a : Inside) → IsKept a → a.denom ≤ limit
denom_bound a kept = leb-true a.denom limit ((and_parts (nat_le (unsigned_abs a.numer) limit) (nat_le a.denom limit) (within_of a kept)).1)

pub numer_is : (a : Inside) (q : Rational) → IsKept a → ratio a.numer a.denom ≡ q → a.numer ≡ q.numer
numer_is a q kept e = sym (ap (λ r. r.numer) (ratio_of_lowest a.numer a.denom (lowest_of a kept))) ∙ ap (λ r. r.numer) e

pub denom_is : (a : Inside) (q : Rational) → IsKept a → ratio a.numer a.denom ≡ q → a.denom ≡ q.denom
denom_is a q kept e = sym (ap (λ r. r.denom) (ratio_of_lowest a.numer a.denom (lowest_of a kept))) ∙ ap (λ r. r.denom) e

small_fits : (n : ℤ) → unsigned_abs n ≤ limit → SFits w128 n
small_fits n h = fits_signed_from_abs w128 n (omega arith)

pub read_numer : (a : Inside) (q : Rational) → IsKept a → ratio a.numer a.denom ≡ q → to_z w128 (of_z w128 a.numer) ≡ q.numer
read_numer a q kept e = to_z-of_z w128 a.numer (small_fits a.numer (numer_bound a kept)) ∙ numer_is a q kept e

pub read_denom : (a : Inside) (q : Rational) → IsKept a → ratio a.numer a.denom ≡ q → to_z w128 a.denom ≡ pos q.denom
read_denom a q kept e =
    to_z_pos w128 a.denom (let bound = denom_bound a kept in omega arith) ∙ ap pos (denom_is a q kept e)

one_numer : (a b : Inside) → IsKept a → IsKept b → of_z w128 a.numer ≡ of_z w128 b.numer → a.numer ≡ b.numer
one_numer a b kept also e =
    sym (to_z-of_z w128 a.numer (small_fits a.numer (numer_bound a kept))) ∙ ap (to_z w128) e ∙ to_z-of_z w128 b.numer (small_fits b.numer (numer_bound b also))

pub same_by_denom : (a b : Inside) (p q : Rational) → IsKept a → IsKept b → ratio a.numer a.denom ≡ p → ratio b.numer b.denom ≡ q → of_z w128 a.numer ≡ of_z w128 b.numer → nat_eq a.denom b.denom ≡ same p q
same_by_denom a b p q kept also e f numers =
    same_from_decides
    (nat_eq a.denom b.denom)
    (same p q) (
      λ t.
          same_from_parts
          p
          q
          (sym (numer_is a p kept e) ∙ one_numer a b kept also numers ∙ numer_is b q also f)
          (sym (denom_is a p kept e) ∙ eqb-true a.denom b.denom t ∙ denom_is b q also f),
      λ g.
          eq-eqb
          a.denom
          b.denom
          (denom_is a p kept e ∙ ap (λ r. r.denom) g ∙ sym (denom_is b q also f)),
    )
    (same_Decides p q)

pub different_by_numer : (a b : Inside) (p q : Rational) → IsKept a → IsKept b → ratio a.numer a.denom ≡ p → ratio b.numer b.denom ≡ q → (of_z w128 a.numer ≡ of_z w128 b.numer → ⊥) → nat_eq (of_z w128 a.numer) (of_z w128 b.numer) ≡ same p q
different_by_numer a b p q kept also e f apart =
    same_from_decides
    (nat_eq (of_z w128 a.numer) (of_z w128 b.numer))
    (same p q) (
      λ t. absurd (apart (eqb-true _ _ t)),
      λ g.
          absurd
          (apart (ap (of_z w128) (numer_is a p kept e ∙ ap (λ r. r.numer) g ∙ sym (numer_is b q also f)))),
    )
    (same_Decides p q)

pub ratio_whole : (n : ℤ) → ratio n 1 ≡ whole n
unfolding whole
ratio_whole n = ratio_of_lowest n 1 (whole_lowest n)

pub ratio_zero : ratio (pos 0) 1 ≡ zero
unfolding zero
ratio_zero = ratio_whole (pos 0)

pub ratio_one : ratio (pos 1) 1 ≡ one
unfolding one
ratio_one = ratio_whole (pos 1)

pub kept_whole : (n : ℤ) → unsigned_abs n ≤ limit → IsTrue (is_lowest n 1 && is_within n 1)
kept_whole n h =
    and_from
    (is_lowest n 1)
    (is_within n 1)
    (whole_lowest n)
    (and_from (nat_le (unsigned_abs n) limit) (nat_le 1 limit) (le-leb (unsigned_abs n) limit h) refl)
