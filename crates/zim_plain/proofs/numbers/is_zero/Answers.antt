-- A literal is 0 where its number is, and one that is past isn't.
use Rattle.std.proofs.Common.{◌∙◌, ap}
use Rattle.zim_decimal.specs.Literal.{literal_answer}
use Rattle.zim_plain.specs.Reader.{literal_of}
use Rattle.zim_plain.proofs.Literals.{zero_ok, literal_past}
use Rattle.zim_plain.proofs.numbers.is_zero.Goals as goal

pub returns-in-Ok : goal.returns-in-Ok
returns-in-Ok c = zero_ok (literal_of c.args.literal.now) c.in-Ok.number c.zero.result c.same_number.result (c.in-Ok.ensures ∙ ap literal_answer c.as_slice.ensures) c.zero.ensures c.same_number.ensures

pub returns-in-Err : goal.returns-in-Err
returns-in-Err c =
    let past = literal_past (literal_of c.args.literal.now) c.in-Err.field-0 (c.in-Err.ensures ∙ ap literal_answer c.as_slice.ensures) in
    (λ t. cc, λ none. absurd (past none))
