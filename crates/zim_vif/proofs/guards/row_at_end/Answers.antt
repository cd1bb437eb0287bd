-- The terms with a share of the literal, and the right side without the share's constant.
use Rattle.std.proofs.Common.{◌≡◌, if◌then◌else◌, refl, sym}
use Rattle.zim_vif.proofs.RowCallLemmas.{chosen_first, chosen_second, row_gives}
use Rattle.zim_vif.proofs.guards.row_at_end.Goals as goal
use Rattle.zim_vif.proofs.guards.row_at_end.Goals.{then-l, else-l}

pub returns : goal.returns
returns c =
    let right : c.if-l.right ≡ (if c.args.l.positive then c.args.end else c.args.v) =
    elim c.if-l.branch [
      | then-l w ↦ chosen_first c.args.l.positive c.args.end c.args.v c.if-l.right w.if-l.true w.right-is
      | else-l w ↦ chosen_second c.args.l.positive c.args.end c.args.v c.if-l.right w.if-l.false w.right-is
    ] in
    row_gives c.args.from c.args.c.now c.in_ok-share.share c.in_ok-form.form c.args.l c.args.sense c.args.v c.args.end c.in-Ok.slack c.if-l.right _ c.requires.no_constant (sym c.in-Ok.ensures.answer) c.in-Ok.ensures.ok c.in_ok-share.ensures c.in_ok-form.ensures right refl
