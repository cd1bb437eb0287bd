-- The order of two numbers says whether the first isn't above the second.
use Rattle.std.proofs.Common.{◌≡◌, false, sym, ◌∙◌, subst}
use Rattle.std.specs.declared.cmp.Ordering.{Ordering}
use Rattle.std.specs.declared.cmp.Ordering.TheVariants.{Less, Equal, Greater}
use Rattle.std.specs.Ordering.{MatchOrdering}
use Rattle.std.proofs.lemmas.Bool.{false_from_ne_true}
use Rattle.zim_rational.specs.Rational.{Rational, IsAtMost, IsBelow, at_most, rational_cmp}
use Rattle.zim_rational.proofs.Compare.{rational_cmp-match}
use Rattle.zim_rational.proofs.Order.{at_most_refl, at_most_below, below_at_most, below_different}
use Rattle.zim_encoding_table.proofs.columns.is_at_most.Goals as goal

matched : (a b : Rational) (o : Ordering) → rational_cmp a b ≡ o → MatchOrdering o (IsBelow a b) (a ≡ b) (IsBelow b a)
matched a b o e = subst (λ (p : Ordering). MatchOrdering p (IsBelow a b) (a ≡ b) (IsBelow b a)) e (rational_cmp-match a b)

itself : (a b : Rational) → a ≡ b → IsAtMost a b
itself a b e = subst (λ c. IsAtMost a c) e (at_most_refl a)

not_turned : (a b : Rational) → IsBelow b a → at_most a b ≡ false
not_turned a b h = false_from_ne_true (at_most a b) (λ t. below_different a a (at_most_below a b a t h) (λ i. a))

pub returns-in-Less : goal.returns-in-Less
returns-in-Less c = sym (below_at_most c.args.a c.args.b (matched c.args.a c.args.b Less (sym c.compare.ensures ∙ c.in-Less.is)))

pub returns-in-Equal : goal.returns-in-Equal
returns-in-Equal c = sym (itself c.args.a c.args.b (matched c.args.a c.args.b Equal (sym c.compare.ensures ∙ c.in-Equal.is)))

pub returns-in-Greater : goal.returns-in-Greater
returns-in-Greater c = sym (not_turned c.args.a c.args.b (matched c.args.a c.args.b Greater (sym c.compare.ensures ∙ c.in-Greater.is)))
