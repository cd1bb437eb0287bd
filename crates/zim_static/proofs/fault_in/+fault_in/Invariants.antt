-- The first fault so far, or else that of what is left, is the first of all.
use Rattle.std.proofs.Common.{◌≡◌, drop}
use Rattle.std.specs.Option.{option_or}
use Rattle.zim_static.specs.Around.{names_in}
use Rattle.zim_static.specs.Roles.{operand, condition_inside}
use Rattle.zim_static.specs.Faults.{first_of_faults, part_of_body, parts_of, known_operands, known_disjuncts, known_conjuncts, tuples_of, all_faults, tuples_faults, operands_faults, conjuncts_faults, factors_faults, components_faults}
use Rattle.zim_static.proofs.fault_in.+fault_in.Given as goal

abbrev pub invariant-fault_in_items-loop-tree : goal.invariant-fault_in_items-loop-tree
invariant-fault_in_items-loop-tree l =
    option_or l.fault (first_of_faults (all_faults l.role (names_in l.scope l.around) (parts_of l.scope (drop l.tree-index l.trees)))) ≡ first_of_faults (all_faults l.role (names_in l.scope l.around) (parts_of l.scope l.trees))

abbrev pub invariant-fault_in_operands-loop-place : goal.invariant-fault_in_operands-loop-place
invariant-fault_in_operands-loop-place l =
    option_or l.fault (first_of_faults (operands_faults l.role l.inside (names_in l.scope l.around) (known_operands l.scope (drop l.place-index l.others))))
    ≡ first_of_faults (operands_faults l.fn.whole l.inside (names_in l.scope l.around) (known_operands l.scope l.others))

abbrev pub invariant-fault_in_disjuncts-loop-place : goal.invariant-fault_in_disjuncts-loop-place
invariant-fault_in_disjuncts-loop-place l =
    option_or l.fault (first_of_faults (operands_faults l.role (condition_inside l.fn.whole) (names_in l.scope l.around) (known_disjuncts l.scope (drop l.place-index l.others))))
    ≡ first_of_faults (operands_faults l.fn.whole (condition_inside l.fn.whole) (names_in l.scope l.around) (known_disjuncts l.scope l.others))

abbrev pub invariant-fault_in_conjuncts-loop-place : goal.invariant-fault_in_conjuncts-loop-place
invariant-fault_in_conjuncts-loop-place l =
    option_or l.fault (first_of_faults (conjuncts_faults l.role (names_in l.scope l.around) (known_conjuncts l.scope (drop l._place-index l.others))))
    ≡ first_of_faults (conjuncts_faults l.role (names_in l.scope l.around) (known_conjuncts l.scope l.others))

abbrev pub invariant-fault_in_factors-loop-place : goal.invariant-fault_in_factors-loop-place
invariant-fault_in_factors-loop-place l =
    option_or l.fault (first_of_faults (factors_faults l.by_stars l.varying l.role (operand l.by_stars l.fn.whole) (names_in l.scope l.around) (known_operands l.scope (drop l.place-index l.others))))
    ≡ first_of_faults (factors_faults l.by_stars l.before l.fn.whole (operand l.by_stars l.fn.whole) (names_in l.scope l.around) (known_operands l.scope l.others))

abbrev pub invariant-fault_in_components-loop-tree : goal.invariant-fault_in_components-loop-tree
invariant-fault_in_components-loop-tree l =
    option_or l.fault (first_of_faults (components_faults l.scope l.role (names_in l.scope l.around) (parts_of l.scope (drop l.tree-index l.trees))))
    ≡ first_of_faults (components_faults l.scope l.role (names_in l.scope l.around) (parts_of l.scope l.trees))

abbrev pub invariant-fault_in_body-loop-tuple : goal.invariant-fault_in_body-loop-tuple
invariant-fault_in_body-loop-tuple l =
    option_or l.fault (first_of_faults (tuples_faults l.role (names_in l.scope l.around) (tuples_of l.scope (drop l.tuple-index l.tuple-items))))
    ≡ first_of_faults ((part_of_body l.scope l.body).faults l.role (names_in l.scope l.around))
