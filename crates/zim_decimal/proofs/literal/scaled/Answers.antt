-- Each case of the answer.
use Rattle.std.specs.Int.{w128}
use Rattle.std.proofs.lemmas.Int.{to_z-of_z}
use Rattle.zim_decimal.proofs.LiteralLemmas.{scaled_zero, scaled_low, scaled_high, scaled_down, scaled_up, ten_different}
use Rattle.zim_decimal.proofs.literal.scaled.Goals as goal
use Rattle.zim_decimal.proofs.literal.scaled.Goals.{then-e-ltminus38-via-then-e-ltminus38, then-e-ltminus38-via-else-e-ltminus38+then-e-gt38}

pub returns-then-q-eq0 : goal.returns-then-q-eq0
returns-then-q-eq0 c = scaled_zero c.args.q c.args.e c.zero.result c.if-q-eq0.true c.zero.ensures

pub returns-then-e-ltminus38 : goal.returns-then-e-ltminus38
returns-then-e-ltminus38 c =
    elim c.then-e-ltminus38.branch [
      | then-e-ltminus38-via-then-e-ltminus38 w ↦
          scaled_low c.args.q c.args.e _ (to_z-of_z w128 c.args.e c.ranges.e) c.if-q-eq0.false w.if-e-ltminus38.true
      | then-e-ltminus38-via-else-e-ltminus38+then-e-gt38 w ↦
          scaled_high c.args.q c.args.e _ (to_z-of_z w128 c.args.e c.ranges.e) c.if-q-eq0.false w.if-e-gt38.true
    ]

pub quotient-requires : goal.quotient-requires
quotient-requires c = ten_different c.ten_to-ten.result _ c.ten_to-ten.ensures

pub returns-then-e-lt0 : goal.returns-then-e-lt0
returns-then-e-lt0 c =
    scaled_down
    c.args.q
    c.unsigned_abs.result
    c.args.e
    _
    c.whole.result
    c.ten_to-ten.result
    c.quotient.result
    (to_z-of_z w128 c.args.e c.ranges.e)
    c.if-q-eq0.false
    c.requires
    c.if-e-ltminus38.false
    c.if-e-gt38.false
    c.if-e-lt0.true
    c.unsigned_abs.ensures.value
    c.whole.ensures
    c.ten_to-ten.ensures
    c.quotient.ensures

pub returns-else-e-lt0 : goal.returns-else-e-lt0
returns-else-e-lt0 c =
    scaled_up
    c.args.q
    c.unsigned_abs.result
    c.args.e
    _
    c.whole-else-e-lt0.result
    c.ten_to-ten.result
    c.product.result
    (to_z-of_z w128 c.args.e c.ranges.e)
    c.if-q-eq0.false
    c.requires
    c.if-e-ltminus38.false
    c.if-e-gt38.false
    c.if-e-lt0.false
    c.unsigned_abs.ensures.value
    c.whole-else-e-lt0.ensures
    c.ten_to-ten.ensures
    c.product.ensures
