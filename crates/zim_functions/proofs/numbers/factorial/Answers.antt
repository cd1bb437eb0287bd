-- Which answer there is, by whether the number is whole and from 0 up and whether the product is within the limit.
use Rattle.std.proofs.Common.{sym, ap, ◌∙◌, unsigned_abs}
use Rattle.zim_functions.proofs.FactorialLemmas.{passed, factorial_ok, factorial_past, factorial_none}
use Rattle.zim_functions.proofs.numbers.factorial.Goals as goal

pub returns-then-not-is_natural : goal.returns-then-not-is_natural
returns-then-not-is_natural c = factorial_none c.args.a (sym c.is_natural.ensures ∙ c.if-not-is_natural.true)

pub returns-in-Some : goal.returns-in-Some
returns-in-Some c =
    factorial_ok c.args.a c.in-Some.product c.unsigned_abs.result (sym c.is_natural.ensures ∙ c.if-not-is_natural.false) (c.unsigned_abs.ensures.value ∙ ap unsigned_abs (passed c.numer.result _ c.numer.ensures.value c.numer.ensures.bound)) c.in-Some.ensures.0 c.in-Some.ensures.1

pub returns-in-None : goal.returns-in-None
returns-in-None c =
    factorial_past c.args.a c.unsigned_abs.result (sym c.is_natural.ensures ∙ c.if-not-is_natural.false) (c.unsigned_abs.ensures.value ∙ ap unsigned_abs (passed c.numer.result _ c.numer.ensures.value c.numer.ensures.bound)) c.in-None.ensures
