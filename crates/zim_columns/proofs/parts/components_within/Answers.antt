-- One component more, and all of them in the end.
use Rattle.std.proofs.Common.{List, ◌≤◌, All, length, take, get_or, sym, subst, arith}
use Rattle.std.proofs.lemmas.List.{take_all, take_more}
use Rattle.std.proofs.lemmas.List.Elements.{All-push}
use Rattle.zim_tuples.specs.declared.elements.Elem.{Elem}
use Rattle.zim_columns.specs.Parts.{IsComponentWithin}
use Rattle.zim_columns.proofs.parts.components_within.Goals as goal

pub loop-component-preserved : goal.loop-component-preserved
loop-component-preserved c =
    subst (All IsComponentWithin) (sym (take_more c.args.components.now c.loop-component.component-index c.component-item.result c.loop-component-test.true))
    (All-push IsComponentWithin (take c.loop-component.component-index c.args.components.now) (get_or c.args.components.now c.loop-component.component-index c.component-item.result) c.loop-component.invariant
    (subst IsComponentWithin c.component-item.is c.component_within.ensures))

pub returns : goal.returns
returns c =
    let test = c.loop-component-test.false in
    let all : length c.args.components.now ≤ c.loop-component.component-index = omega (arith, test) in
    subst (All IsComponentWithin) (take_all c.loop-component.component-index c.args.components.now all) c.loop-component.invariant
