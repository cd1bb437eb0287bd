-- A place is below the number of the variables, which is small.
use Rattle.std.proofs.Common.{arith}
use Rattle.zim_plain.proofs.SuitLaws.{place_below}
use Rattle.zim_plain.proofs.suits.column.Goals as goal

pub overflow_cast-result : goal.overflow_cast-result
overflow_cast-result c = omega (arith, place_below c.args.variables.now.keys c.args.name.now c.in-Some.place c.in-Some.ensures)

pub overflow_add-result : goal.overflow_add-result
overflow_add-result c = omega (arith, place_below c.args.variables.now.keys c.args.name.now c.in-Some.place c.in-Some.ensures)
