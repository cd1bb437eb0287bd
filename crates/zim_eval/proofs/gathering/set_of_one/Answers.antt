-- One tuple alone is a set.
use Rattle.zim_sets.proofs.JoinLaws.{one_is_set}
use Rattle.zim_eval.proofs.gathering.set_of_one.Goals as goal

pub of_tuples-requires : goal.of_tuples-requires
of_tuples-requires c = rw (c.in_ok-push.ensures.ok, c.new-tuples.ensures) (one_is_set c.args.tuple)
