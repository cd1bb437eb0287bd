-- The operands are known that a loop has come past; of a product they are constants.
use Rattle.std.proofs.Common.{◌≡◌, [], take, drop}
use Rattle.zim_static.specs.Around.{names_in}
use Rattle.zim_sort.specs.Parts.{operand_parts, product_part_behind}
use Rattle.zim_sort.proofs.terms.+terms.Given as goal

abbrev pub invariant-parts_behind-loop-place : goal.invariant-parts_behind-loop-place
invariant-parts_behind-loop-place l = l.made.items ≡ operand_parts l.scope (names_in l.scope l.around) (take l.place-index l.others)

abbrev pub invariant-product_behind-loop-at : goal.invariant-product_behind-loop-at
invariant-product_behind-loop-at l =
    product_part_behind l.scope (names_in l.scope l.around) l.first l.before (drop l.at l.others) ≡ product_part_behind l.scope (names_in l.scope l.around) l.first [] l.others
