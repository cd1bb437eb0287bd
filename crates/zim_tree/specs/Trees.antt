-- The structs among the trees, made of their parts.
use Rattle.std.specs.Prelude.{List, Bool, Option}
use Rattle.zim_fault.specs.declared.faults.Place.{Place}
use Rattle.zim_tree.specs.declared.expr.Expr.{Expr}
use Rattle.zim_tree.specs.declared.expr.Angle.{Angle, roll-Angle}
use Rattle.zim_tree.specs.declared.expr.Index.{Index, roll-Index}

-- a tuple, with the place of its `<`
abbrev pub angle_of : Place → List Expr → Angle
angle_of place items = roll-Angle (record { place = place; items = items })

-- an index, with the place of its `in`
abbrev pub index_of : Place → Angle → Expr → Option (Bool × Expr) → Index
index_of place tuple set cond = roll-Index (record { place = place; tuple = tuple; set = set; cond = cond })
