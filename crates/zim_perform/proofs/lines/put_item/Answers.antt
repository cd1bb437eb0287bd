-- What an item prints by its parts.
use Rattle.zim_meaning.specs.Value.{value}
use Rattle.zim_perform.specs.Private.{tuple_printed}
use Rattle.zim_perform.proofs.LineLemmas.{value_given, tuple_given}
use Rattle.zim_perform.proofs.lines.put_item.Goals as goal

pub returns-in-Value : goal.returns-in-Value
returns-in-Value c =
    value_given c.args.world.now c.args.env.now c.args.line.now c.args.item.now c.in-Value.tree c.get.result.now _ c.put_answer.result c.in-Value.is c.get.ensures
    (c.put_answer.ensures (value c.args.world.now c.args.env.now c.get.result.now) c.value.ensures)

pub returns-in-Tuple : goal.returns-in-Tuple
returns-in-Tuple c =
    tuple_given c.args.world.now c.args.env.now c.args.line.now c.args.item.now c.in-Tuple.tree c.as_slice.result.now _ c.put_answered_tuple.result c.in-Tuple.is c.as_slice.ensures
    (c.put_answered_tuple.ensures (tuple_printed c.args.world.now c.args.env.now c.as_slice.result.now) c.tuple_of.ensures)
