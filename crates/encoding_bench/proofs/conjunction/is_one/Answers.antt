-- A column compared with a number.
use Rattle.encoding_bench.proofs.OverLemmas.{compared_over}
use Rattle.encoding_bench.proofs.conjunction.is_one.Goals as goal

pub returns : goal.returns
returns c = compared_over c.args.columns c.args.number c.one.result _ _ c.in_ok-left.left c.in_ok-right.right c.in_ok-left.ensures c.in_ok-right.ensures c.requires.from_one c.requires.in_columns
