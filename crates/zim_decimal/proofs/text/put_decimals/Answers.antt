-- The decimals that are put and those that are still to come are the number's.
use Rattle.std.proofs.Common.{arith, refl, ◌∙◌}
use Rattle.zim_decimal.proofs.DecimalLemmas.{put_next, put_last, decimals_done, decimals_none}
use Rattle.zim_decimal.proofs.text.put_decimals.Goals as goal

pub returns-then-left-eq0-clause-text : goal.returns-then-left-eq0-clause-text
returns-then-left-eq0-clause-text c =
    put_last _ _ _ (decimals_done _ _ _ c.if-left-eq0.true) c.loop-place.invariant.text

pub loop-place-preserved : goal.loop-place-preserved
loop-place-preserved c = record {
  within = omega arith;
  below = omega arith;
  text =
      put_next c.loop-place.to c.loop-place.end _ _ _ _ _ _ (omega arith) (omega arith) c.if-left-eq0.false refl refl
      ∙ c.loop-place.invariant.text;
}

pub returns-clause-text : goal.returns-clause-text
returns-clause-text c = put_last _ _ _ (decimals_none _ _ _ (omega arith)) c.loop-place.invariant.text
