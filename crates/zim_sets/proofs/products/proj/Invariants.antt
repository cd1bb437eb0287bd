use Rattle.std.proofs.Common.{◌≡◌, [], drop}
use Rattle.zim_answer.specs.Answer.{goes}
use Rattle.zim_sets.specs.Choices.{items_at}
use Rattle.zim_sets.specs.Insertion.{inserted}
use Rattle.zim_sets.proofs.products.proj.Given as goal

abbrev pub invariant-loop-tuple : goal.invariant-loop-tuple
invariant-loop-tuple l =
    goes (λ made tuple. inserted made (items_at tuple l.positions)) l.made (drop l.tuple-index l.tuple-items) ≡ goes (λ made tuple. inserted made (items_at tuple l.positions)) [] l.tuple-items
