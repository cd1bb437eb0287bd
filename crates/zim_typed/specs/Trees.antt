-- The structs among the typed trees, made of their parts.
use Rattle.std.specs.Prelude.{List, Option}
use Rattle.zim_fault.specs.declared.faults.Place.{Place}
use Rattle.zim_typed.specs.declared.constant.Const.{Const}
use Rattle.zim_typed.specs.declared.constant.TAngle.{TAngle, roll-TAngle}
use Rattle.zim_typed.specs.declared.constant.Loop.{Loop, roll-Loop}
use Rattle.zim_typed.specs.declared.constant.LoopSlot.{LoopSlot}

-- a tuple, with the place of its `<`
abbrev pub typed_angle : Place → List Const → TAngle
typed_angle place items = roll-TAngle (record { place = place; items = items })

-- an index, with the place of its `in`
abbrev pub typed_loop : Place → List LoopSlot → Const → Option Const → Loop
typed_loop place slots set cond = roll-Loop (record { place = place; slots = slots; set = set; cond = cond })
