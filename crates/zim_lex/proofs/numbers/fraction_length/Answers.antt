-- The point, the digits after it and their exponent.
use Rattle.std.proofs.Common.{sym, ap, ◌∙◌, length, length-drop, arith}
use Rattle.std.specs.List.{prefix_len}
use Rattle.std.proofs.lemmas.List.Sums.{prefix_len-le-length}
use Rattle.zim_lex.specs.Classes.{begins_fraction, is_digit}
use Rattle.zim_lex.proofs.NumberLemmas.{first_within, fraction_found, no_fraction, no_fraction_digits}
use Rattle.zim_lex.proofs.numbers.fraction_length.Goals as goal

pub returns-then-not-begins_fraction : goal.returns-then-not-begins_fraction
returns-then-not-begins_fraction c = no_fraction c.args.bytes.now (sym c.begins_fraction.ensures ∙ c.if-not-begins_fraction.true)

pub after-decimals-requires : goal.after-decimals-requires
after-decimals-requires c = first_within begins_fraction c.args.bytes.now (sym c.begins_fraction.ensures ∙ c.if-not-begins_fraction.false)

pub returns-then-digits-eq0 : goal.returns-then-digits-eq0
returns-then-digits-eq0 c =
    no_fraction_digits c.args.bytes.now (sym c.begins_fraction.ensures ∙ c.if-not-begins_fraction.false) (sym (c.count_digits-digits.ensures ∙ ap (prefix_len is_digit) c.after-decimals.ensures) ∙ c.if-digits-eq0.true)

pub after-rest-requires : goal.after-rest-requires
after-rest-requires c = omega (arith, c.count_digits-digits.ensures, prefix_len-le-length is_digit c.after-decimals.result.now)

pub returns : goal.returns
returns c =
    fraction_found c.args.bytes.now c.after-decimals.result.now c.after-rest.result.now c.count_digits-digits.result c.exponent_length.result (sym c.begins_fraction.ensures ∙ c.if-not-begins_fraction.false) c.after-decimals.ensures c.count_digits-digits.ensures
    (omega (arith, c.if-digits-eq0.false)) c.after-rest.ensures c.exponent_length.ensures

pub overflow_add-result : goal.overflow_add-result
overflow_add-result c =
    omega (arith, c.count_digits-digits.ensures, prefix_len-le-length is_digit c.after-decimals.result.now, ap length c.after-decimals.ensures, length-drop 1 c.args.bytes.now, first_within begins_fraction c.args.bytes.now (sym c.begins_fraction.ensures ∙ c.if-not-begins_fraction.false))

pub overflow_add-result-2 : goal.overflow_add-result-2
overflow_add-result-2 c =
    let front = fraction_found c.args.bytes.now c.after-decimals.result.now c.after-rest.result.now c.count_digits-digits.result c.exponent_length.result (sym c.begins_fraction.ensures ∙ c.if-not-begins_fraction.false) c.after-decimals.ensures c.count_digits-digits.ensures
    (omega (arith, c.if-digits-eq0.false)) c.after-rest.ensures c.exponent_length.ensures in
    omega (arith, front.within)
