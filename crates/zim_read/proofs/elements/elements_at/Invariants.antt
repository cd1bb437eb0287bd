-- The elements so far lead on to the whole answer.
use Rattle.std.proofs.Common.{◌≡◌, drop}
use Rattle.zim_answer.specs.Answer.{goes}
use Rattle.zim_read.specs.Private.{lent}
use Rattle.zim_read.specs.Rows.{with_element, elements_at}
use Rattle.zim_read.proofs.elements.elements_at.Given as goal

abbrev pub invariant-loop-field : goal.invariant-loop-field
invariant-loop-field l = goes (with_element (lent l.line)) l.elements (drop l.field-index l.fields) ≡ elements_at (lent l.line) l.fields
