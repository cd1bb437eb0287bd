-- Each list is spelled as far as the loop has come.
use Rattle.std.proofs.Common.{map, take}
use Rattle.zim_spelling.specs.Speller.{Spells}
use Rattle.zim_tree.specs.Spelling as spec
use Rattle.zim_spelling.proofs.exprs.+spell.Given as goal

abbrev pub invariant-spell_exprs-loop-tree : goal.invariant-spell_exprs-loop-tree
invariant-spell_exprs-loop-tree l = Spells l.initial.to l.to (spec.after_commas (map spec.spelling (take l.tree-index l.others)))

abbrev pub invariant-spell_body-loop-tuple : goal.invariant-spell_body-loop-tuple
invariant-spell_body-loop-tuple l = Spells l.initial.to l.to (spec.after_commas (map spec.angle_spelling (take l.tuple-index l.others)))

abbrev pub invariant-spell_operations-loop-place : goal.invariant-spell_operations-loop-place
invariant-spell_operations-loop-place l = Spells l.initial.to l.to (spec.operations_of (take l._place-index l.others))

abbrev pub invariant-spell_relations-loop-place : goal.invariant-spell_relations-loop-place
invariant-spell_relations-loop-place l = Spells l.initial.to l.to (spec.relations_of (take l._place-index l.others))

abbrev pub invariant-spell_conjuncts-loop-place : goal.invariant-spell_conjuncts-loop-place
invariant-spell_conjuncts-loop-place l = Spells l.initial.to l.to (spec.conjuncts_of (take l._place-index l.others))

abbrev pub invariant-spell_disjuncts-loop-place : goal.invariant-spell_disjuncts-loop-place
invariant-spell_disjuncts-loop-place l = Spells l.initial.to l.to (spec.disjuncts_of (take l._place-index l.others))
