-- Of each list the members are made that the loop has come past.
use Rattle.std.proofs.Common.{◌≡◌, ◌++◌, [], map, take, drop}
use Rattle.zim_typed.specs.Pattern.{bare_name}
use Rattle.zim_static.specs.Around.{names_in}
use Rattle.zim_typing.specs.Typing.{typed_consts, typed_operands, typed_conjuncts, typed_disjuncts, typed_tuple, typed_slots}
use Rattle.zim_sort.proofs.constants.+constant.Given as goal

abbrev pub invariant-constants-loop-tree : goal.invariant-constants-loop-tree
invariant-constants-loop-tree l = l.made ≡ typed_consts l.scope (names_in l.scope l.around) (take l.tree-index l.trees)

abbrev pub invariant-operands-loop-place : goal.invariant-operands-loop-place
invariant-operands-loop-place l = l.made ≡ typed_operands l.scope (names_in l.scope l.around) (take l.place-index l.others)

abbrev pub invariant-conjuncts-loop-place : goal.invariant-conjuncts-loop-place
invariant-conjuncts-loop-place l = l.made ≡ typed_conjuncts l.scope (names_in l.scope l.around) (take l.place-index l.others)

abbrev pub invariant-disjuncts-loop-place : goal.invariant-disjuncts-loop-place
invariant-disjuncts-loop-place l = l.made ≡ typed_disjuncts l.scope (names_in l.scope l.around) (take l.place-index l.others)

abbrev pub invariant-body-loop-item : goal.invariant-body-loop-item
invariant-body-loop-item l = l.made ≡ map (typed_tuple l.scope (names_in l.scope l.around)) (take l.item-index l.item-items)

abbrev pub invariant-slots-loop-at : goal.invariant-slots-loop-at
invariant-slots-loop-at l =
    l.made ++ typed_slots l.scope (names_in l.scope l.around) (map bare_name (take l.at l.items)) (drop l.at l.items) ≡ typed_slots l.scope (names_in l.scope l.around) [] l.items
