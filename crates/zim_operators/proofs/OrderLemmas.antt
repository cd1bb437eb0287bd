-- The order of two numbers says which one is the larger, and which one the smaller.
use Rattle.std.proofs.Common.{◌≡◌, true, false, sym, subst}
use Rattle.std.specs.declared.cmp.Ordering.{Ordering}
use Rattle.std.specs.declared.cmp.Ordering.TheVariants.{Less, Equal, Greater}
use Rattle.std.specs.Ordering.{MatchOrdering}
use Rattle.std.proofs.lemmas.Bool.{cond-true, cond-false, false_from_ne_true}
use Rattle.zim_rational.specs.Rational.{Rational, IsBelow, at_most, rational_cmp, negate, zero}
use Rattle.zim_rational.specs.Rounding.{larger, smaller, absolute}
use Rattle.zim_rational.proofs.Compare.{rational_cmp-match}
use Rattle.zim_rational.proofs.Order.{below_at_most, at_most_below, at_most_refl, below_different}

matched : (a b : Rational) (o : Ordering) → rational_cmp a b ≡ o → MatchOrdering o (IsBelow a b) (a ≡ b) (IsBelow b a)
matched a b o e = subst (λ (p : Ordering). MatchOrdering p (IsBelow a b) (a ≡ b) (IsBelow b a)) e (rational_cmp-match a b)

pub at_most_less : (a b : Rational) → rational_cmp a b ≡ Less → at_most a b ≡ true
at_most_less a b e = below_at_most a b (matched a b Less e)

pub at_most_equal : (a b : Rational) → rational_cmp a b ≡ Equal → at_most a b ≡ true
at_most_equal a b e = subst (λ (q : Rational). at_most a q ≡ true) (matched a b Equal e) (at_most_refl a)

pub at_most_greater : (a b : Rational) → rational_cmp a b ≡ Greater → at_most a b ≡ false
at_most_greater a b e =
    false_from_ne_true (at_most a b) (λ t. below_different a a (at_most_below a b a t (matched a b Greater e)) (λ i. a))

pub larger_less : (a b : Rational) → rational_cmp a b ≡ Less → b ≡ larger a b
unfolding larger
larger_less a b e = sym (cond-true (at_most a b) b a (at_most_less a b e))

pub larger_equal : (a b : Rational) → rational_cmp a b ≡ Equal → b ≡ larger a b
unfolding larger
larger_equal a b e = sym (cond-true (at_most a b) b a (at_most_equal a b e))

pub larger_greater : (a b : Rational) → rational_cmp a b ≡ Greater → a ≡ larger a b
unfolding larger
larger_greater a b e = sym (cond-false (at_most a b) b a (at_most_greater a b e))

pub smaller_less : (a b : Rational) → rational_cmp a b ≡ Less → a ≡ smaller a b
unfolding smaller
smaller_less a b e = sym (cond-true (at_most a b) a b (at_most_less a b e))

pub smaller_equal : (a b : Rational) → rational_cmp a b ≡ Equal → a ≡ smaller a b
unfolding smaller
smaller_equal a b e = sym (cond-true (at_most a b) a b (at_most_equal a b e))

pub smaller_greater : (a b : Rational) → rational_cmp a b ≡ Greater → b ≡ smaller a b
unfolding smaller
smaller_greater a b e = sym (cond-false (at_most a b) a b (at_most_greater a b e))

pub absolute_less : (a : Rational) → rational_cmp zero a ≡ Less → a ≡ absolute a
unfolding absolute
absolute_less a e = sym (cond-true (at_most zero a) a (negate a) (at_most_less zero a e))

pub absolute_equal : (a : Rational) → rational_cmp zero a ≡ Equal → a ≡ absolute a
unfolding absolute
absolute_equal a e = sym (cond-true (at_most zero a) a (negate a) (at_most_equal zero a e))

pub absolute_greater : (a : Rational) → rational_cmp zero a ≡ Greater → negate a ≡ absolute a
unfolding absolute
absolute_greater a e = sym (cond-false (at_most zero a) a (negate a) (at_most_greater zero a e))
