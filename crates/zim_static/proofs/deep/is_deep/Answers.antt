-- By itself, or with what it calls.
use Rattle.std.proofs.Common.{nat_lt, ◌-◌, ap, ◌∙◌}
use Rattle.zim_nesting.specs.Depth.{nesting}
use Rattle.zim_static.specs.Calls.{shape_calls}
use Rattle.zim_static.proofs.DeepLemmas.{deep_alone, deep_together}
use Rattle.zim_static.proofs.deep.is_deep.Goals as goal

pub returns-then-own-gt-DEEPEST : goal.returns-then-own-gt-DEEPEST
returns-then-own-gt-DEEPEST c = deep_alone (nesting c.args.stmt.now) (shape_calls c.args.scope.now c.args.stmt.now.shape) c.nesting-own.ensures c.if-own-gt-DEEPEST.true

pub returns : goal.returns
returns c =
    ap (nat_lt (200 - c.nesting-own.result)) (simp c.get.ensures at c.shape_calls.ensures)
    ∙ deep_together (nesting c.args.stmt.now) (shape_calls c.args.scope.now c.args.stmt.now.shape) c.nesting-own.ensures c.if-own-gt-DEEPEST.false
