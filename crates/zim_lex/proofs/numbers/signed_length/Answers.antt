-- The sign and the digits after it.
use Rattle.std.proofs.Common.{arith}
use Rattle.zim_lex.proofs.NumberLemmas.{sign_within, signed_found, none_signed}
use Rattle.zim_lex.proofs.numbers.signed_length.Goals as goal

pub after-unsigned-requires : goal.after-unsigned-requires
after-unsigned-requires c = omega (arith, c.sign_bytes-sign.ensures, sign_within c.args.bytes.now)

pub returns-then-digits-eq0 : goal.returns-then-digits-eq0
returns-then-digits-eq0 c = none_signed c.args.bytes.now c.after-unsigned.result.now c.sign_bytes-sign.result c.count_digits-digits.result c.sign_bytes-sign.ensures c.after-unsigned.ensures c.count_digits-digits.ensures c.if-digits-eq0.true

pub overflow_add-result : goal.overflow_add-result
overflow_add-result c =
    let front = signed_found c.args.bytes.now c.after-unsigned.result.now c.sign_bytes-sign.result c.count_digits-digits.result c.sign_bytes-sign.ensures c.after-unsigned.ensures c.count_digits-digits.ensures (omega (arith, c.if-digits-eq0.false)) in
    omega (arith, front.within)

pub returns : goal.returns
returns c = signed_found c.args.bytes.now c.after-unsigned.result.now c.sign_bytes-sign.result c.count_digits-digits.result c.sign_bytes-sign.ensures c.after-unsigned.ensures c.count_digits-digits.ensures (omega (arith, c.if-digits-eq0.false))
