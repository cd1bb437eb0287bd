-- What a loop has come past.
use Rattle.std.proofs.Common.{◌≡◌, ℕ, Bool, map, max, take}
use Rattle.zim_fault.specs.declared.faults.Place.{Place}
use Rattle.zim_fault.specs.declared.tokens.Token.{Token}
use Rattle.zim_nesting.specs.Depth.{Depth, followed, all}
use Rattle.zim_typed.specs.declared.constant.Const.{Const}
use Rattle.zim_typed.specs.Nesting.{const_depth, const_calls, greatest}
use Rattle.zim_static.specs.Nested.{nested, typed_angle_depth, typed_angle_calls, slot_depth, slot_calls}
use Rattle.zim_static.proofs.nested.+nested.Given as goal

abbrev pub invariant-nested_all-loop-tree : goal.invariant-nested_all-loop-tree
invariant-nested_all-loop-tree l = l.whole ≡ nested (all (map const_depth (take l.tree-index l.trees))) (greatest (map (const_calls l.scope) (take l.tree-index l.trees)))

abbrev pub invariant-nested_tuples-loop-tuple : goal.invariant-nested_tuples-loop-tuple
invariant-nested_tuples-loop-tuple l = l.whole ≡ nested (all (map typed_angle_depth (take l.tuple-index l.tuples))) (greatest (map (typed_angle_calls l.scope) (take l.tuple-index l.tuples)))

abbrev pub invariant-nested_slots-loop-slot : goal.invariant-nested_slots-loop-slot
invariant-nested_slots-loop-slot l = l.whole ≡ nested (all (map slot_depth (take l.slot-index l.slots))) (greatest (map (slot_calls l.scope) (take l.slot-index l.slots)))

abbrev pub invariant-nested_operands-loop-place : goal.invariant-nested_operands-loop-place
invariant-nested_operands-loop-place l =
    (d : Depth) → (k : ℕ) → l.fn.first ≡ nested d k →
    l.whole ≡ nested (followed d (map (λ (x : Place × Token × Const). const_depth x.2) (take l._place-index l.others))) (max k (greatest (map (λ (x : Place × Token × Const). const_calls l.scope x.2) (take l._place-index l.others))))

abbrev pub invariant-nested_conjuncts-loop-place : goal.invariant-nested_conjuncts-loop-place
invariant-nested_conjuncts-loop-place l =
    (d : Depth) → (k : ℕ) → l.fn.first ≡ nested d k →
    l.whole ≡ nested (followed d (map (λ (x : Place × Const). const_depth x.1) (take l._place-index l.others))) (max k (greatest (map (λ (x : Place × Const). const_calls l.scope x.1) (take l._place-index l.others))))

abbrev pub invariant-nested_disjuncts-loop-place : goal.invariant-nested_disjuncts-loop-place
invariant-nested_disjuncts-loop-place l =
    (d : Depth) → (k : ℕ) → l.fn.first ≡ nested d k →
    l.whole ≡ nested (followed d (map (λ (x : Place × Bool × Const). const_depth x.2) (take l._place-index l.others))) (max k (greatest (map (λ (x : Place × Bool × Const). const_calls l.scope x.2) (take l._place-index l.others))))
