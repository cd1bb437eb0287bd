-- The divisor isn't 0, so the quotient is past.
use Rattle.std.proofs.Common.{◌∙◌, ap, sym, Some}
use Rattle.zim_plain.specs.Reader.{divisor_of}
use Rattle.zim_plain.proofs.Literals.{divisor_past}
use Rattle.zim_plain.proofs.numbers.quotient.Goals as goal

pub returns-in-Err-div : goal.returns-in-Err-div
returns-in-Err-div c =
    divisor_past c.args.number c.in-Ok.by c.in-Err-div.field-0 (divisor_of c.args.divisor.now) c.in-Ok.ensures.1 c.requires.nonzero c.in-Ok.ensures.0 c.in-Err-div.ensures.answer
    ∙ ap Some (sym c.past_at.ensures)
