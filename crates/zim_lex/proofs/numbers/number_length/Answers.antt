-- The first digits, and what follows them.
use Rattle.std.proofs.Common.{Some, ◌+◌, sym, ◌∙◌, subst, arith}
use Rattle.std.proofs.lemmas.List.Sums.{prefix_len-le-length}
use Rattle.zim_lex.specs.Classes.{is_digit}
use Rattle.zim_lex.specs.Fronts.{IsFrontThat}
use Rattle.zim_lex.specs.Numbers.{is_fraction}
use Rattle.zim_lex.proofs.NumberLemmas.{number_fraction, number_fraction_found, number_exponent_found}
use Rattle.zim_lex.proofs.NumberTokens.{token_front}
use Rattle.zim_lex.proofs.numbers.number_length.Goals as goal

pub returns-then-digits-eq0 : goal.returns-then-digits-eq0
returns-then-digits-eq0 c =
    token_front c.args.bytes.now c.fraction_length.result
    (number_fraction c.args.bytes.now c.fraction_length.result (sym c.count_digits-digits.ensures ∙ c.if-digits-eq0.true) c.fraction_length.ensures)

pub after-rest-requires : goal.after-rest-requires
after-rest-requires c = omega (arith, c.count_digits-digits.ensures, prefix_len-le-length is_digit c.args.bytes.now)

pub returns-in-Some : goal.returns-in-Some
returns-in-Some c =
    let found = subst (IsFrontThat is_fraction c.after-rest.result.now) c.in-Some.is c.fraction_length-2.ensures in
    token_front c.args.bytes.now (Some (c.count_digits-digits.result + c.in-Some.length))
    (number_fraction_found c.args.bytes.now c.after-rest.result.now c.count_digits-digits.result c.in-Some.length c.count_digits-digits.ensures (omega (arith, c.if-digits-eq0.false)) c.after-rest.ensures found)

pub returns-in-None : goal.returns-in-None
returns-in-None c =
    let found = subst (IsFrontThat is_fraction c.after-rest.result.now) c.in-None.is c.fraction_length-2.ensures in
    token_front c.args.bytes.now (Some (c.count_digits-digits.result + c.exponent_length.result))
    (number_exponent_found c.args.bytes.now c.after-rest.result.now c.count_digits-digits.result c.exponent_length.result c.count_digits-digits.ensures (omega (arith, c.if-digits-eq0.false)) c.after-rest.ensures found c.exponent_length.ensures)
