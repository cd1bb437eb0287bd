-- Each part that passes the limit makes the sum past, and where none does the numerators over the common denominator add up.
use Rattle.std.proofs.Common.{ℕ, ◌≤◌, subst, sym}
use Rattle.zim_fraction.specs.Limit.{limit}
use Rattle.zim_fraction.proofs.PartLaws.{wrapped, carried, carried_bound}
use Rattle.zim_fraction.proofs.SumLaws.{denom_past, first_past, second_past, total_past, over_common, sum_is_within, sum_pair}
use Rattle.zim_fraction.proofs.sum.common_sum.Goals as goal

pub returns-in_err-m : goal.returns-in_err-m
returns-in_err-m c =
    rw c.from_residual.ensures (denom_past c.args.a c.args.b _ _ c.parts-x.ensures.denom c.parts-y.ensures.denom c.in_err-m.ensures)

pub returns-in_err-left : goal.returns-in_err-left
returns-in_err-left c =
    rw c.from_residual-in_err-left.ensures (first_past c.args.a c.args.b _ _ _ _ (wrapped _ _ c.parts-x.ensures.numer c.parts-x.ensures.numer_bound) c.parts-x.ensures.denom c.parts-y.ensures.denom c.in_ok-m.ensures.1 c.in_err-left.ensures)

pub returns-in_err-right : goal.returns-in_err-right
returns-in_err-right c =
    rw c.from_residual-in_err-right.ensures (second_past c.args.a c.args.b _ _ _ _ (wrapped _ _ c.parts-y.ensures.numer c.parts-y.ensures.numer_bound) c.parts-x.ensures.denom c.parts-y.ensures.denom c.in_ok-m.ensures.1 c.in_err-right.ensures)

pub returns-in_err-n : goal.returns-in_err-n
returns-in_err-n c =
    rw c.from_residual-in_err-n.ensures (total_past c.args.a c.args.b _ _ _ (over_common c.args.a c.args.b _ _ _ _ _ _ _ (wrapped _ _ c.parts-x.ensures.numer c.parts-x.ensures.numer_bound) (wrapped _ _ c.parts-y.ensures.numer c.parts-y.ensures.numer_bound) c.parts-x.ensures.denom c.parts-y.ensures.denom c.in_ok-m.ensures.1 (carried _ _ c.in_ok-left.ensures.0 c.in_ok-left.ensures.1) (carried _ _ c.in_ok-right.ensures.0 c.in_ok-right.ensures.1)) c.in_err-n.ensures)

pub returns : goal.returns
returns c =
    let parts =
    over_common c.args.a c.args.b _ _ _ _ _ _ _ (wrapped _ _ c.parts-x.ensures.numer c.parts-x.ensures.numer_bound) (wrapped _ _ c.parts-y.ensures.numer c.parts-y.ensures.numer_bound) c.parts-x.ensures.denom c.parts-y.ensures.denom c.in_ok-m.ensures.1 (carried _ _ c.in_ok-left.ensures.0 c.in_ok-left.ensures.1) (carried _ _ c.in_ok-right.ensures.0 c.in_ok-right.ensures.1) in
    let small : c.in_ok-m.m ≤ limit = subst (λ (n : ℕ). n ≤ limit) (sym c.in_ok-m.ensures.1) c.in_ok-m.ensures.0 in (
      sum_is_within
          c.args.a
          c.args.b
          _
          _
          _
          parts
          small
          (carried_bound _ _ c.in_ok-left.ensures.0 c.in_ok-left.ensures.1)
          (carried_bound _ _ c.in_ok-right.ensures.0 c.in_ok-right.ensures.1)
          c.in_ok-n.ensures.0,
      sum_pair c.args.a c.args.b _ _ _ _ parts (carried _ _ c.in_ok-n.ensures.0 c.in_ok-n.ensures.1),
    )
