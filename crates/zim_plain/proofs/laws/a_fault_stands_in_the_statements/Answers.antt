use Rattle.zim_plain.proofs.FaultPlaceLaws.{place_stands}
use Rattle.zim_plain.proofs.laws.a_fault_stands_in_the_statements.Goals as goal

pub returns : goal.returns
returns c = place_stands
