use Rattle.std.proofs.Common.{◌≡◌, arith}
use Rattle.zim_linear.proofs.FormLaws.{none_from_length}
use Rattle.zim_linear.proofs.MergeLemmas.{start, left_step, right_step, both_step, left_end, right_end}
use Rattle.zim_linear.proofs.sum.merge.Goals as goal
use Rattle.zim_linear.proofs.sum.merge.Goals.{in_default, in_default-2}

pub loop-s-init : goal.loop-s-init
loop-s-init c = rw c.new-made.ensures.items (start _ _ c.requires.left_terms c.requires.right_terms)

pub loop-s-preserved-then-s-t : goal.loop-s-preserved-then-s-t
loop-s-preserved-then-s-t c =
    left_step _ _ _ _ _ _ _ _ _ _ c.loop-s.invariant (c.in-Some-Some.ensures.cases.0) (c.in-Some-Some.ensures'.cases.0) c.if-s-t.true c.in_ok-push.ensures.items

pub loop-s-preserved-then-t-s : goal.loop-s-preserved-then-t-s
loop-s-preserved-then-t-s c =
    right_step _ _ _ _ _ _ _ _ _ _ c.loop-s.invariant (c.in-Some-Some.ensures.cases.0) (c.in-Some-Some.ensures'.cases.0) c.if-t-s.true c.in_ok-push-2.ensures.items

pub loop-s-preserved : goal.loop-s-preserved
loop-s-preserved c =
    let same : c.in-Some-Some.s.now.0 ≡ c.in-Some-Some.t.now.0 = omega arith in
    both_step _ _ _ _ _ _ _ _ _ _ c.loop-s.invariant (c.in-Some-Some.ensures.cases.0) (c.in-Some-Some.ensures'.cases.0) same c.in_ok-push_sum.ensures

pub returns : goal.returns
returns c =
    elim c.match-split_first.branch [
      | in_default w ↦ left_end _ _ _ _ _ _ _ c.loop-s.invariant (none_from_length _ w.in_default.ensures'.cases) c.in_ok-extend_from_slice.ensures.items c.in_ok-extend_from_slice-2.ensures.items
      | in_default-2 w ↦ right_end _ _ _ _ _ _ _ c.loop-s.invariant (none_from_length _ w.in_default.ensures.cases) c.in_ok-extend_from_slice.ensures.items c.in_ok-extend_from_slice-2.ensures.items
    ]
