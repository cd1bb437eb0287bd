use Rattle.std.proofs.Common.{true, false}
use Rattle.zim_fraction.proofs.PartLaws.{wrapped}
use Rattle.zim_linear.specs.Ends.{counted}
use Rattle.zim_linear.specs.declared.sides.End.TheVariants.{Least, Greatest}
use Rattle.zim_linear.proofs.SideLemmas.{turned_is, side_is}
use Rattle.zim_linear.proofs.ends.side.Goals as goal

pub returns-then-turned : goal.returns-then-turned
unfolding counted
returns-then-turned c =
    side_is _ Least _ c.args.t.now _ true c.in-Least.is c.requires.first c.requires.last c.index-sides-t.is (turned_is _ _ _ (wrapped _ _ c.numer-turned.ensures.value c.numer-turned.ensures.bound) c.if-turned.true)

pub returns-else-turned : goal.returns-else-turned
unfolding counted
returns-else-turned c =
    side_is _ Least _ c.args.t.now _ false c.in-Least.is c.requires.first c.requires.last c.index-sides-t.is (turned_is _ _ _ (wrapped _ _ c.numer-turned.ensures.value c.numer-turned.ensures.bound) c.if-turned.false)

pub returns-then-turned-2 : goal.returns-then-turned-2
unfolding counted
returns-then-turned-2 c =
    side_is _ Greatest _ c.args.t.now _ true c.in-Greatest.is c.requires.first c.requires.last c.index-sides-t.is (turned_is _ _ _ (wrapped _ _ c.numer-turned.ensures.value c.numer-turned.ensures.bound) c.if-turned-2.true)

pub returns-else-turned-2 : goal.returns-else-turned-2
unfolding counted
returns-else-turned-2 c =
    side_is _ Greatest _ c.args.t.now _ false c.in-Greatest.is c.requires.first c.requires.last c.index-sides-t.is (turned_is _ _ _ (wrapped _ _ c.numer-turned.ensures.value c.numer-turned.ensures.bound) c.if-turned-2.false)
