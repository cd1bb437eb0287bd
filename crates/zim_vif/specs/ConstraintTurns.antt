-- Parts of ground constraints one after another, and the choice of a `vif`, as the calls go over them.
use Rattle.std.specs.Prelude.{ℕ, List, map, Option, option_map}
use Rattle.zim_formula.specs.declared.ground.GCond.{GCond}
use Rattle.zim_formula.specs.declared.ground.GCon.{GCon}
use Rattle.zim_rows.specs.declared.rows.RowFrom.{RowFrom}
use Rattle.zim_rows.specs.Steps.{Encoding, ◌then◌}
use Rattle.zim_cond.specs.Conditions.{makes_condition}
use Rattle.zim_vif.specs.Constraints.{Guard, each_part, under_literal, otherwise_part, makes_constraint}

-- Constraints one after another under one guard.
abbrev pub parts_make : ℕ → Guard → List GCon → Encoding (Unit {0})
parts_make statement guard parts = each_part (map (makes_constraint statement) parts) guard

-- The literal of a condition, the constraint that stands under it, and the one under its negation, where there is one.
abbrev pub vif_makes : RowFrom → Guard → GCond → GCon → Option GCon → Encoding (Unit {0})
vif_makes source guard test first otherwise =
    makes_condition source test then λ b.
    under_literal source guard b (makes_constraint source.statement first) then λ _.
    otherwise_part source guard b (option_map (makes_constraint source.statement) otherwise)
