-- The order of two numbers says which one is the larger.
use Rattle.std.proofs.Common.{◌≡◌, true, sym, ◌∙◌, subst}
use Rattle.std.specs.declared.cmp.Ordering.{Ordering}
use Rattle.std.specs.declared.cmp.Ordering.TheVariants.{Less, Equal, Greater}
use Rattle.std.specs.Ordering.{MatchOrdering}
use Rattle.std.proofs.lemmas.Bool.{cond-true, cond-false, false_from_ne_true}
use Rattle.zim_rational.specs.Rational.{Rational, IsBelow, at_most, rational_cmp}
use Rattle.zim_rational.specs.Rounding as rounding
use Rattle.zim_rational.proofs.Compare.{rational_cmp-match}
use Rattle.zim_rational.proofs.Order.{below_at_most, at_most_below, at_most_refl, below_different}
use Rattle.zim_logic_rows.proofs.sizes.larger.Goals as goal

matched : (a b : Rational) (o : Ordering) → rational_cmp a b ≡ o → MatchOrdering o (IsBelow a b) (a ≡ b) (IsBelow b a)
matched a b o e = subst (λ (p : Ordering). MatchOrdering p (IsBelow a b) (a ≡ b) (IsBelow b a)) e (rational_cmp-match a b)

second : (a b : Rational) → at_most a b ≡ true → b ≡ rounding.larger a b
unfolding rounding.larger
second a b h = sym (cond-true (at_most a b) b a h)

first : (a b : Rational) → IsBelow b a → a ≡ rounding.larger a b
unfolding rounding.larger
first a b h =
    sym (cond-false (at_most a b) b a (false_from_ne_true (at_most a b) (λ t. below_different a a (at_most_below a b a t h) (λ i. a))))

pub returns-in-Less : goal.returns-in-Less
returns-in-Less c =
    second c.args.a c.args.b (below_at_most c.args.a c.args.b (matched c.args.a c.args.b Less (sym c.compare.ensures ∙ c.in-Less.is)))

pub returns-in-Equal : goal.returns-in-Equal
returns-in-Equal c =
    second c.args.a c.args.b (subst (λ (q : Rational). at_most c.args.a q ≡ true) (matched c.args.a c.args.b Equal (sym c.compare.ensures ∙ c.in-Equal.is)) (at_most_refl c.args.a))

pub returns-in-Greater : goal.returns-in-Greater
returns-in-Greater c = first c.args.a c.args.b (matched c.args.a c.args.b Greater (sym c.compare.ensures ∙ c.in-Greater.is))
