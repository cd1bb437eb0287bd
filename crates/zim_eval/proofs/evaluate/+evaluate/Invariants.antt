-- What an evaluation weighs: the bodies of the functions that are known, and the tree. What was made so far leads on to the whole answer.
use Rattle.std.proofs.Common.{◌≡◌, ◌+◌, ◌*◌, drop}
use Rattle.zim_answer.specs.Answer.{goes}
use Rattle.zim_eval.specs.Private.{weight, chain_in, values_in, tuple_in, with_value_in, with_component_in, operated_in, conjunct_in, conjuncts_in, disjunct_in, disjuncts_in, tuples_in, with_tuple_in, slots_in, with_slot_in, among_in, with_choice_in, gathering_step}
use Rattle.zim_typed.specs.declared.constant.Const.{size-Const}
use Rattle.zim_typed.specs.declared.constant.Loop.{size-Loop}
use Rattle.zim_typed.specs.declared.constant.LoopSlot.{size-LoopSlot}
use Rattle.zim_typed.specs.declared.constant.TBody.{size-TBody}
use Rattle.zim_eval.proofs.evaluate.+evaluate.Given as goal

abbrev pub decreases-value_of : goal.decreases-value_of
decreases-value_of l = weight l.world.now l.known + 4 * size-Const l.tree.now

abbrev pub decreases-values_of : goal.decreases-values_of
decreases-values_of l = weight l.world.now l.known + 4 * goal.size-values_of l + 2

abbrev pub decreases-tuple_of : goal.decreases-tuple_of
decreases-tuple_of l = weight l.world.now l.known + 4 * goal.size-tuple_of l + 2

abbrev pub decreases-chain_of : goal.decreases-chain_of
decreases-chain_of l = weight l.world.now l.known + 4 * goal.size-chain_of l + 2

abbrev pub invariant-values_of-loop-tree : goal.invariant-values_of-loop-tree
invariant-values_of-loop-tree l = goes (with_value_in l.world l.known l.env) l.made (drop l.tree-index l.trees) ≡ values_in l.world l.known l.env l.trees

abbrev pub invariant-tuple_of-loop-tree : goal.invariant-tuple_of-loop-tree
invariant-tuple_of-loop-tree l = goes (with_component_in l.world l.known l.env) l.made (drop l.tree-index l.trees) ≡ tuple_in l.world l.known l.env l.trees

abbrev pub invariant-chain_of-loop-place : goal.invariant-chain_of-loop-place
invariant-chain_of-loop-place l = goes (operated_in l.world l.known l.env) l.value (drop l.place-index l.others) ≡ chain_in l.world l.known l.env l.fn.first l.others

abbrev pub decreases-conjunct_of : goal.decreases-conjunct_of
decreases-conjunct_of l = weight l.world.now l.known + 4 * size-Const l.next.now.1 + 1

abbrev pub decreases-disjunct_of : goal.decreases-disjunct_of
decreases-disjunct_of l = weight l.world.now l.known + 4 * size-Const l.next.now.2 + 1

abbrev pub decreases-conjuncts_of : goal.decreases-conjuncts_of
decreases-conjuncts_of l = weight l.world.now l.known + 4 * goal.size-conjuncts_of l + 2

abbrev pub decreases-disjuncts_of : goal.decreases-disjuncts_of
decreases-disjuncts_of l = weight l.world.now l.known + 4 * goal.size-disjuncts_of l + 2

abbrev pub invariant-conjuncts_of-loop-other : goal.invariant-conjuncts_of-loop-other
invariant-conjuncts_of-loop-other l = goes (conjunct_in l.world l.known l.env) l.value (drop l.other-index l.others) ≡ conjuncts_in l.world l.known l.env l.fn.first l.others

abbrev pub invariant-disjuncts_of-loop-other : goal.invariant-disjuncts_of-loop-other
invariant-disjuncts_of-loop-other l = goes (disjunct_in l.world l.known l.env) l.value (drop l.other-index l.others) ≡ disjuncts_in l.world l.known l.env l.fn.first l.others

abbrev pub decreases-body_of : goal.decreases-body_of
decreases-body_of l = weight l.world.now l.known + 4 * size-TBody l.body.now

abbrev pub decreases-tuples_of : goal.decreases-tuples_of
decreases-tuples_of l = weight l.world.now l.known + 4 * goal.size-tuples_of l + 2

abbrev pub decreases-slot_of : goal.decreases-slot_of
decreases-slot_of l = weight l.world.now l.known + 4 * size-LoopSlot l.slot.now

abbrev pub decreases-slots_of : goal.decreases-slots_of
decreases-slots_of l = weight l.world.now l.known + 4 * goal.size-slots_of l + 2

abbrev pub decreases-passes : goal.decreases-passes
decreases-passes l = weight l.world.now l.known + 4 * size-Loop l.index.now

abbrev pub decreases-choice_of : goal.decreases-choice_of
decreases-choice_of l = weight l.world.now l.known + 4 * size-Loop l.index.now + 1

abbrev pub decreases-choices_among : goal.decreases-choices_among
decreases-choices_among l = weight l.world.now l.known + 4 * size-Loop l.index.now + 2

abbrev pub decreases-choices_of : goal.decreases-choices_of
decreases-choices_of l = weight l.world.now l.known + 4 * size-Loop l.index.now + 3

abbrev pub decreases-gathered_of : goal.decreases-gathered_of
decreases-gathered_of l = weight l.world.now l.known + 4 * size-Const l.tree.now + 1

abbrev pub invariant-tuples_of-loop-tree : goal.invariant-tuples_of-loop-tree
invariant-tuples_of-loop-tree l = goes (with_tuple_in l.world l.known l.env) l.made (drop l.tree-index l.trees) ≡ tuples_in l.world l.known l.env l.trees

abbrev pub invariant-slots_of-loop-slot : goal.invariant-slots_of-loop-slot
invariant-slots_of-loop-slot l = goes (with_slot_in l.world l.known l.env) l.made (drop l.slot-index l.slots) ≡ slots_in l.world l.known l.env l.slots

abbrev pub invariant-choices_among-loop-tuple : goal.invariant-choices_among-loop-tuple
invariant-choices_among-loop-tuple l = goes (with_choice_in l.world l.known l.env l.index l.slots) l.chosen (drop l.tuple-index l.tuples) ≡ among_in l.world l.known l.env l.index l.slots l.tuples

abbrev pub invariant-gathered_of-loop-choice : goal.invariant-gathered_of-loop-choice
invariant-gathered_of-loop-choice l = goes (gathering_step l.world l.known l.tree l.place) l.state (drop l.choice-index l.choices) ≡ goes (gathering_step l.world l.known l.tree l.place) l.fn.start l.choices
