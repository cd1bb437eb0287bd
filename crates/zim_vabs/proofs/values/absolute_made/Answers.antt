-- The multiple isn't 0, and the next column stands behind those of the integer form.
use Rattle.zim_vabs.proofs.AbsoluteCallLemmas.{multiple_different, next_behind}
use Rattle.std.proofs.Common.{ap, ◌+◌}
use Rattle.zim_vabs.proofs.values.absolute_made.Goals as goal

pub exact_quotient-requires : goal.exact_quotient-requires
exact_quotient-requires c = multiple_different c.args.form.now _ c.in_ok-multiple.ensures.multiple

pub absolute_step-requires-clause-behind : goal.absolute_step-requires-clause-behind
absolute_step-requires-clause-behind c =
    next_behind c.args.from c.args.form.now c.args.system.now _ _ c.valid.ensures c.requires c.in_ok-multiple.ensures.ranged (ap (λ n. n + 1) c.column_count.ensures.value)
