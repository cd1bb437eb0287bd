-- Where nothing stops it, the division fits, and gives the quotient that is cut towards zero.
use Rattle.zim_functions.proofs.StopLemmas.{divides, divided, div_stop, div_ok}
use Rattle.zim_functions.proofs.numbers.quotient.Goals as goal

pub nonzero_div-numer : goal.nonzero_div-numer
nonzero_div-numer c =
    divides c.args.a c.args.b c.numer.result c.numer-in-None.result c.in-None.ensures c.numer-in-None.ensures.value c.numer.ensures.bound c.numer-in-None.ensures.bound

pub returns-in-Some : goal.returns-in-Some
returns-in-Some c = div_stop c.args.a c.args.b c.in-Some.stop c.in-Some.ensures

pub returns-in-None : goal.returns-in-None
returns-in-None c =
    div_ok c.args.a c.args.b c.whole.result c.numer.result c.numer-in-None.result _ c.in-None.ensures c.numer.ensures.value c.numer-in-None.ensures.value (divided c.numer.result c.numer-in-None.result c.numer.ensures.bound c.numer-in-None.ensures.bound) c.whole.ensures
