-- The bare name of a component that is bound, and the position at which it stands first.
use Rattle.std.proofs.Common.{Some, None, rules, sym, ap, ◌∙◌}
use Rattle.zim_static.specs.Around.{names_in}
use Rattle.zim_typed.specs.declared.constant.LoopSlot.{LoopSlot}
use Rattle.zim_typed.specs.declared.constant.LoopSlot.TheVariants as slot
use Rattle.zim_sort.proofs.CodeLemmas.{binds_at}
use Rattle.zim_sort.proofs.names.bound_slot.Goals as goal

pub returns-in-Some-first_use : goal.returns-in-Some-first_use
returns-in-Some-first_use c =
    binds_at c.args.scope.now (names_in c.args.scope.now c.args.around.now) c.args.before.now c.args.item.now c.in-Some.name.now c.first_use.result (Some c.in-Some-first_use.at) c.in-Some.ensures (search rules) c.first_use.ensures c.in-Some-first_use.is

pub returns-in_ok-copy-in-None-first_use : goal.returns-in_ok-copy-in-None-first_use
returns-in_ok-copy-in-None-first_use c =
    ap (λ name. Some (slot.Free name)) c.in_ok-copy-in-None-first_use.ensures
    ∙ binds_at c.args.scope.now (names_in c.args.scope.now c.args.around.now) c.args.before.now c.args.item.now c.in-Some.name.now c.first_use.result None c.in-Some.ensures (search rules) c.first_use.ensures c.in-None-first_use.is
