-- The line so far leads on to the whole line.
use Rattle.std.proofs.Common.{◌≡◌, drop}
use Rattle.zim_answer.specs.Answer.{goes}
use Rattle.zim_perform.specs.Private.{with_further_item}
use Rattle.zim_perform.proofs.lines.put_further_items.Given as goal

abbrev pub invariant-loop-item : goal.invariant-loop-item
invariant-loop-item l = goes (with_further_item l.world l.env) l.line (drop l.item-index l.items) ≡ goes (with_further_item l.world l.env) l.fn.line l.items
