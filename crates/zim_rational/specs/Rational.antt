-- Exact fractions: the pair of a whole number and a positive one in lowest terms, so that equal fractions are one
-- value; their sum, product, quotient and order, by the rules of numerators and denominators.
use Rattle.std.specs.Prelude.{ℕ, ℤ, pos, negsuc, neg_ℤ, ◌≡◌, ◌+ℤ◌, ◌*ℤ◌, ◌*◌, ◌/◌, ◌<◌, ◌&&◌, ◌⊎◌, Bool, not, cond, IsTrue, List, [], ◌∷◌, nat_eq, nat_lt, unsigned_abs, int_le, int_div}
use Rattle.std.specs.Ordering.{int_cmp, int_eq}
use Rattle.std.specs.declared.cmp.Ordering.{Ordering}
use Rattle.std.specs.Prelude as std
use Rattle.std.specs.Int.{int_signum}
use Rattle.std.specs.Coded.{Coded, code_by, coded×, coded_ℕ, coded_ℤ}
use Rattle.std.proofs.Common.{refl, ap, ◌∙◌, subst, zero-lt-suc, div-one}
use Rattle.std.proofs.lemmas.Bool.{and_from, and_parts, lt-ltb, eq-eqb, eqb-true}
use Rattle.zim_rational.specs.Gcd.{gcd, gcd_lowest, div_gcd-pos, gcd-one}
use mathlib.Core.Bool.{Bool-set}

-- n, or -n where the flag is set
abbrev pub signed : Bool → ℕ → ℤ
signed negative n = cond negative (neg_ℤ (pos n)) (pos n)

-- n/d is in lowest terms: d is at least 1, and only 1 divides both
abbrev pub is_lowest : ℤ → ℕ → Bool
is_lowest n d = nat_lt 0 d && nat_eq (gcd (unsigned_abs n) d) 1

-- a fraction: a numerator with its sign over a denominator, in lowest terms
pub record Rational : Type 0 where
  pub numer : ℤ
  pub denom : ℕ
  pub lowest : IsTrue (is_lowest numer denom)

pub abs_neg : (n : ℕ) → unsigned_abs (neg_ℤ (pos n)) ≡ n
abs_neg std.zero = refl
abs_neg (std.suc n) = refl

pub abs-div : (n : ℤ) (g : ℕ) → unsigned_abs (int_div n (pos g)) ≡ unsigned_abs n / g
abs-div (pos a) g = refl
abs-div (negsuc a) g = abs_neg (std.suc a / g)

pub ratio_lowest : (n : ℤ) (d : ℕ) → 0 < d → IsTrue (is_lowest (int_div n (pos (gcd (unsigned_abs n) d))) (d / gcd (unsigned_abs n) d))
ratio_lowest n d h =
    let g : ℕ = gcd (unsigned_abs n) d in
    and_from
    (nat_lt 0 (d / g))
    (nat_eq (gcd (unsigned_abs (int_div n (pos g))) (d / g)) 1)
    (lt-ltb 0 (d / g) (div_gcd-pos (unsigned_abs n) d h))
    (eq-eqb
    (gcd (unsigned_abs (int_div n (pos g))) (d / g))
    1
    (ap (λ a. gcd a (d / g)) (abs-div n g) ∙ gcd_lowest (unsigned_abs n) d h))

pub whole_lowest : (n : ℤ) → IsTrue (is_lowest n 1)
whole_lowest n = eq-eqb (gcd (unsigned_abs n) 1) 1 (gcd-one (unsigned_abs n))

-- the whole number n
unfoldable pub whole : ℤ → Rational
whole n = record { numer = n; denom = 1; lowest = whole_lowest n }

-- n/d, brought to lowest terms; 0 where d is 0
unfoldable pub ratio : ℤ → ℕ → Rational
ratio n std.zero = whole (pos 0)
ratio n (std.suc d) =
    let g : ℕ = gcd (unsigned_abs n) (std.suc d) in
    record {
      numer = int_div n (pos g);
      denom = std.suc d / g;
      lowest = ratio_lowest n (std.suc d) (zero-lt-suc d);
    }

-- the number 0
unfoldable pub zero : Rational
zero = whole (pos 0)

-- the number 1
unfoldable pub one : Rational
one = whole (pos 1)

-- a + b, over the product of the denominators
unfoldable pub plus : Rational → Rational → Rational
plus a b = ratio (a.numer *ℤ pos b.denom +ℤ b.numer *ℤ pos a.denom) (a.denom * b.denom)

-- -a
unfoldable pub negate : Rational → Rational
negate a = ratio (neg_ℤ a.numer) a.denom

-- a - b, as a + (-b)
unfoldable pub minus : Rational → Rational → Rational
minus a b = plus a (negate b)

-- a b, over the product of the denominators
unfoldable pub times : Rational → Rational → Rational
times a b = ratio (a.numer *ℤ b.numer) (a.denom * b.denom)

-- 1/a, with a's sign; 0 where a is 0
unfoldable pub reciprocal : Rational → Rational
reciprocal a = ratio (int_signum a.numer *ℤ pos a.denom) (unsigned_abs a.numer)

-- a/b; 0 where b is 0
unfoldable pub over : Rational → Rational → Rational
over a b = times a (reciprocal b)

-- a is at most b, by the products across
unfoldable pub at_most : Rational → Rational → Bool
at_most a b = int_le (a.numer *ℤ pos b.denom) (b.numer *ℤ pos a.denom)

-- the same as a fact
abbrev pub IsAtMost : Rational → Rational → Type 0
IsAtMost a b = IsTrue (at_most a b)

-- a is below b
unfoldable pub below : Rational → Rational → Bool
below a b = not (at_most b a)

-- the same as a fact
abbrev pub IsBelow : Rational → Rational → Type 0
IsBelow a b = IsTrue (below a b)

-- how a and b are ordered
unfoldable pub rational_cmp : Rational → Rational → Ordering
rational_cmp a b = int_cmp (a.numer *ℤ pos b.denom) (b.numer *ℤ pos a.denom)

-- a and b are one number: one numerator, one denominator
unfoldable pub same : Rational → Rational → Bool
same a b = int_eq a.numer b.numer && nat_eq a.denom b.denom

-- b is 0 or 1
abbrev pub IsBinary : Rational → Type 0
IsBinary b = (b ≡ zero) ⊎ (b ≡ one)

-- a has the denominator 1
unfoldable pub is_whole : Rational → Bool
is_whole a = nat_eq a.denom 1

-- the sum of a list, 0 of none
unfoldable pub total : List Rational → Rational
total [] = zero
total (a ∷ rest) = plus a (total rest)

-- a and b are one where their numerators and their denominators are
pub same_from_parts : (a b : Rational) → a.numer ≡ b.numer → a.denom ≡ b.denom → a ≡ b
same_from_parts a b e f =
    subst
    (λ (n : ℤ). (h : IsTrue (is_lowest n b.denom)) → a ≡ record { numer = n; denom = b.denom; lowest = h })
    e
    (subst
    (λ (d : ℕ). (h : IsTrue (is_lowest a.numer d)) → a ≡ record { numer = a.numer; denom = d; lowest = h })
    f
    (λ h.
    ap
    (λ (k : IsTrue (is_lowest a.numer a.denom)). record { numer = a.numer; denom = a.denom; lowest = k })
    (Bool-set _ _ a.lowest h)))
    b.lowest

whole-div_one : (n : ℤ) → int_div n (pos 1) ≡ n
whole-div_one (pos a) = ap pos (div-one a)
whole-div_one (negsuc a) = ap (λ m. neg_ℤ (pos m)) (div-one (std.suc a))

-- of a pair in lowest terms the ratio is that pair
pub ratio_of_lowest : (n : ℤ) (d : ℕ) (h : IsTrue (is_lowest n d)) → ratio n d ≡ record { numer = n; denom = d; lowest = h }
unfolding ratio
ratio_of_lowest n std.zero h = cc
ratio_of_lowest n (std.suc d) h =
    let g : gcd (unsigned_abs n) (std.suc d) ≡ 1 = eqb-true _ 1 ((and_parts (nat_lt 0 (std.suc d)) _ h).1) in
    same_from_parts
    (ratio n (std.suc d))
    (record { numer = n; denom = std.suc d; lowest = h })
    (ap (λ k. int_div n (pos k)) g ∙ whole-div_one n)
    (ap (λ k. std.suc d / k) g ∙ div-one (std.suc d))

-- a fraction is the ratio of its numerator and its denominator
pub ratio_parts : (a : Rational) → ratio a.numer a.denom ≡ a
ratio_parts a = ratio_of_lowest a.numer a.denom a.lowest

-- a fraction is stored as its numerator and its denominator
abbrev pub rational_code : Coded Rational
rational_code =
    code_by (ℤ × ℕ) (coded× coded_ℤ coded_ℕ) (λ a. (a.numer, a.denom)) (λ p. ratio p.0 p.1) ratio_parts
