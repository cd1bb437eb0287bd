-- The new one stands at the end of the list, for which there is room, and its number is in the table.
use Rattle.std.proofs.Common.{sym, ap, ◌∙◌, subst, List, All, ◌<◌, arith}
use Rattle.zim_columns.specs.declared.declared.Declared.{Declared}
use Rattle.zim_columns.specs.Declaring.{declared_as}
use Rattle.zim_columns.specs.Parts.{HasPartsWithin}
use Rattle.zim_columns.specs.Names.{column_declared}
use Rattle.zim_columns.proofs.NumberedLaws.{kept_more, pushed}
use Rattle.zim_columns.proofs.columns.Columns.push.Goals as goal

pub invariant_of-self-2 : goal.invariant_of-self-2
invariant_of-self-2 c =
    kept_more c.self.inside.declared.items c.push.new.self.items c.self.inside.numbers c.insert.new.self (declared_as c.args.column c.args.ask)
    (pushed c.self.inside.declared.items c.reserve.new.self.items c.push.new.self.items (declared_as c.args.column c.args.ask) c.declared_as-declared.result _ (c.push.ensures.succeeds (omega (arith, c.in_ok-reserve.ensures.ok))) c.in_ok-reserve.ensures.items c.declared_as-declared.ensures c.push.ensures.items)
    c.in_ok-insert.ensures.ok
    (ap (λ (ds : List Declared). column_declared ds c.args.ask.name c.args.ask.tuple) c.self.view_is ∙ c.requires.new)
    c.requires.positive
    (subst (λ (ds : List Declared). All (λ d. d.column < c.args.column) ds) (sym c.self.view_is) c.requires.rising)
    (subst HasPartsWithin c.declared_as-declared.ensures c.parts_within.ensures)
    c.self.invariant
