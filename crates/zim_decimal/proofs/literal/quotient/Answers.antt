-- The divisor isn't 0, so what is refused is past.
use Rattle.zim_decimal.proofs.LiteralLemmas.{quotient_ok, quotient_past}
use Rattle.zim_decimal.proofs.literal.quotient.Goals as goal

pub returns-in-Ok : goal.returns-in-Ok
returns-in-Ok c = quotient_ok c.args.a c.args.b c.in-Ok.q c.requires c.in-Ok.ensures.answer

pub returns-in-Err : goal.returns-in-Err
returns-in-Err c = quotient_past c.args.a c.args.b c.in-Err.field-0 c.requires c.in-Err.ensures.answer
