use Rattle.std.proofs.Common.{ap₂, Option, ℕ}
use Rattle.zim_rational.specs.Rational.{Rational}
use Rattle.zim_plain.specs.Reader.{item_of}
use Rattle.zim_plain.proofs.ReadLaws.{part_ok, part_from}
use Rattle.zim_plain.proofs.sides.part.Goals as goal

pub returns-in-Ok : goal.returns-in-Ok
returns-in-Ok c =
    part_ok c.args.variables.now.keys c.args.place c.args.negative (item_of c.args.item.now) _ c.requires.suits c.in-Ok.ensures.0
    (ap₂ (λ (o : Option ℕ) (q : Rational). part_from c.args.place o q) c.item_column.ensures c.in-Ok.ensures.1)
