-- A whole number is at least 0 where its numerator is.
use Rattle.std.proofs.Common.{sym, ◌∙◌}
use Rattle.zim_functions.proofs.FactorialLemmas.{passed, natural_whole, natural_unwhole}
use Rattle.zim_functions.proofs.numbers.is_natural.Goals as goal

pub returns-then-is_integer : goal.returns-then-is_integer
returns-then-is_integer c =
    natural_whole c.args.a.now _ (sym c.is_integer.ensures ∙ c.if-is_integer.true) (passed c.numer.result _ c.numer.ensures.value c.numer.ensures.bound)

pub returns-else-is_integer : goal.returns-else-is_integer
returns-else-is_integer c =
    c.if-is_integer.false ∙ natural_unwhole c.args.a.now (sym c.is_integer.ensures ∙ c.if-is_integer.false)
