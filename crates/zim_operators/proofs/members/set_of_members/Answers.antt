-- The set of the members that were made.
use Rattle.zim_sets.specs.Listing.{set_listed}
use Rattle.zim_operators.proofs.SetLemmas.{members_made}
use Rattle.zim_operators.proofs.members.set_of_members.Goals as goal

pub returns : goal.returns
returns c =
    members_made c.args.values.now c.in_ok-tuples.tuples c.as_slice.result.now c.set_or_stop.result c.in_ok-tuples.ensures c.as_slice.ensures (c.set_or_stop.ensures (set_listed c.as_slice.result.now) c.set_of_list.ensures)
