-- The three texts stand one after the other.
use Rattle.zim_decimal.specs.Short.{decimal_text}
use Rattle.zim_decimal.proofs.DecimalLemmas.{three_puts}
use Rattle.zim_decimal.proofs.text.write_parts.Goals as goal

pub returns-clause-text : goal.returns-clause-text
unfolding decimal_text
returns-clause-text c =
    three_puts _ _ _ _ _ _ c.put_point_and_decimals.ensures.text c.put_whole-at.ensures.text c.put_sign-at.ensures.text
