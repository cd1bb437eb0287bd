use Rattle.std.proofs.Common.{◌↔◌, IsTrue, subst, sym}
use Rattle.zim_plain.specs.declared.statement.Item as code
use Rattle.zim_plain.specs.Reader.{item_of}
use Rattle.zim_plain.specs.Sides.{IsDeclared}
use Rattle.zim_plain.proofs.SuitLaws.{place_declared}
use Rattle.zim_plain.proofs.suits.is_declared.Goals as goal

pub returns-in-Multiple : goal.returns-in-Multiple
returns-in-Multiple c =
    subst (λ (i : code.Item). IsTrue c.is_some.result ↔ IsDeclared c.args.variables.now.keys (item_of i)) (sym c.in-Multiple.is)
    (place_declared c.args.variables.now.keys c.in-Multiple.name.now c.place.result c.is_some.result c.place.ensures c.is_some.ensures)
