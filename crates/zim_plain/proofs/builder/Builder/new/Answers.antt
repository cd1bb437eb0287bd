use Rattle.zim_plain.proofs.BuildLaws.{stands_none, small_none}
use Rattle.zim_plain.proofs.builder.Builder.new.Goals as goal

pub returns-clause-stands : goal.returns-clause-stands
returns-clause-stands c = rw (c.new.ensures.empty, c.new-2.ensures, c.new-3.ensures.empty, c.new-4.ensures, c.new-5.ensures) stands_none

pub returns-clause-small : goal.returns-clause-small
returns-clause-small c = rw (c.new.ensures.empty, c.new-2.ensures, c.new-3.ensures.empty, c.new-4.ensures, c.new-5.ensures) small_none
