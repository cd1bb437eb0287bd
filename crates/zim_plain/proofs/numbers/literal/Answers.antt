-- The literal has no fault, and its number is what was read.
use Rattle.std.proofs.Common.{◌∙◌, ap}
use Rattle.zim_decimal.specs.Literal.{literal_answer}
use Rattle.zim_plain.specs.Reader.{literal_of}
use Rattle.zim_plain.proofs.Literals.{literal_ok, literal_faultless}
use Rattle.zim_plain.proofs.numbers.literal.Goals as goal

pub returns-in-Ok : goal.returns-in-Ok
returns-in-Ok c =
    let is = c.in-Ok.ensures ∙ ap literal_answer c.as_slice.ensures in
    (literal_faultless (literal_of c.args.literal.now) c.in-Ok.number is, (literal_ok (literal_of c.args.literal.now) c.in-Ok.number is).0)
