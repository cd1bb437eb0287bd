-- The order of two numbers says whether the first is below the second.
use Rattle.std.proofs.Common.{◌≡◌, false, sym, ◌∙◌, subst}
use Rattle.std.specs.declared.cmp.Ordering.{Ordering}
use Rattle.std.specs.declared.cmp.Ordering.TheVariants.{Less, Equal, Greater}
use Rattle.std.specs.Ordering.{MatchOrdering}
use Rattle.std.proofs.lemmas.Bool.{false_from_ne_true}
use Rattle.zim_rational.specs.Rational.{Rational, IsBelow, below, rational_cmp}
use Rattle.zim_rational.proofs.Compare.{rational_cmp-match}
use Rattle.zim_rational.proofs.Order.{below_at_most, at_most_below, below_different}
use Rattle.zim_eval.proofs.gathering.is_below.Goals as goal

matched : (a b : Rational) (o : Ordering) → rational_cmp a b ≡ o → MatchOrdering o (IsBelow a b) (a ≡ b) (IsBelow b a)
matched a b o e = subst (λ (p : Ordering). MatchOrdering p (IsBelow a b) (a ≡ b) (IsBelow b a)) e (rational_cmp-match a b)

not_itself : (a b : Rational) → a ≡ b → below a b ≡ false
not_itself a b e = false_from_ne_true (below a b) (λ t. below_different a b t e)

not_turned : (a b : Rational) → IsBelow b a → below a b ≡ false
not_turned a b h =
    false_from_ne_true (below a b) (λ t. below_different b b (at_most_below b a b (below_at_most b a h) t) (λ i. b))

pub returns-in-Less : goal.returns-in-Less
returns-in-Less c = sym (matched c.args.a c.args.b Less (sym c.compare.ensures ∙ c.in-Less.is))

pub returns-in-Equal : goal.returns-in-Equal
returns-in-Equal c = sym (not_itself c.args.a c.args.b (matched c.args.a c.args.b Equal (sym c.compare.ensures ∙ c.in-Equal.is)))

pub returns-in-Greater : goal.returns-in-Greater
returns-in-Greater c = sym (not_turned c.args.a c.args.b (matched c.args.a c.args.b Greater (sym c.compare.ensures ∙ c.in-Greater.is)))
