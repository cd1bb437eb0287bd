-- The turns of chains over ground conditions.
use Rattle.std.specs.Prelude.{ℕ, Bool, List, map, Result}
use Rattle.zim_answer.specs.Answer.{goes}
use Rattle.zim_fault.specs.declared.faults.Fault.{Fault}
use Rattle.zim_fault.specs.declared.faults.Place.{Place}
use Rattle.zim_fault.specs.declared.tokens.Join.{Join}
use Rattle.zim_formula.specs.declared.ground.GCond.{GCond}
use Rattle.zim_formula.specs.GroundRules.{joined_hold, is_condition_over}
use Rattle.zim_rows.specs.declared.rows.RowFrom.{RowFrom}
use Rattle.zim_cond.specs.Conditions.{Joined, join_turn, makes_condition}

-- One operand more of a chain: what it makes, and the column that joins its literal to the literal so far.
unfoldable pub operand_joined : RowFrom → Joined → Place × Join × GCond → Result Joined Fault
operand_joined source so_far operand = join_turn source.statement so_far (operand.0, operand.1, makes_condition source operand.2)

-- The operands of a chain, one after another.
abbrev pub chain_makes : RowFrom → Joined → List (Place × Join × GCond) → Result Joined Fault
chain_makes source = goes (operand_joined source)

-- Each operand of a chain is over the columns from 1 to n and divides by no 0.
abbrev pub operands_are_over : ℕ → List (Place × Join × GCond) → Bool
operands_are_over n operands = joined_hold (map (λ (c : Place × Join × GCond). (c.0, c.1, is_condition_over n c.2)) operands)
