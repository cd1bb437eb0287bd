-- The parameters in brackets, the body and the functions that it calls.
use Rattle.std.proofs.Common.{◌-◌, ◌+◌, ◌^◌, min, ap, ◌∙◌}
use Rattle.zim_nesting.specs.Depth.{no_nesting, nesting_in_brackets, ◌followed_by◌}
use Rattle.zim_typed.specs.Nesting.{const_depth, const_calls}
use Rattle.zim_static.specs.declared.nested.Nested.{Nested}
use Rattle.zim_static.proofs.NestedLemmas.{together}
use Rattle.zim_static.proofs.nested.definition_nesting.Goals as goal

pub returns : goal.returns
returns c =
    let body = c.args.body.now in
    let calls = const_calls c.args.scope.now body in
    c.saturating_add.ensures
    ∙ ap (λ (whole : Nested). min (whole.deepest + whole.called) (2 ^ 64 - 1)) (c.joined-whole.ensures (nesting_in_brackets no_nesting) (const_depth body) 0 calls (c.inside.ensures no_nesting 0 c.plain.ensures) c.nested_const.ensures)
    ∙ together (nesting_in_brackets no_nesting followed_by const_depth body).deepest calls
