-- How deep a part of a typed tree nests, and the functions that it calls, as far as the counts fit.
use Rattle.std.specs.Prelude.{ℕ, ◌-◌, ◌^◌, min}
use Rattle.zim_nesting.specs.Depth.{Depth}
use Rattle.zim_typed.specs.declared.constant.TBody.{TBody, fold-TBody}
use Rattle.zim_typed.specs.declared.constant.Loop.{Loop, fold-Loop}
use Rattle.zim_typed.specs.declared.constant.LoopSlot.{LoopSlot, fold-LoopSlot}
use Rattle.zim_typed.specs.declared.constant.TAngle.{TAngle, fold-TAngle}
use Rattle.zim_typed.specs.Scope.{Scope}
use Rattle.zim_typed.specs.Nesting.{depth_step, slot_depth_step, body_depth_step, loop_depth_step, angle_depth_step, calls_step, slot_calls_step, body_calls_step, loop_calls_step, angle_calls_step}
use Rattle.zim_static.specs.declared.nested.Nested.{Nested}

-- each count of a piece is the number, or the last value that fits; beside them the greatest full nesting of the functions that it calls
abbrev pub nested : Depth → ℕ → Nested
nested piece called = record { loops = min (2 ^ 64 - 1) piece.loops; deepest = min (2 ^ 64 - 1) piece.deepest; called = called }

-- ---- how deep the parts of a constant nest by themselves

-- a component of an index's tuple
abbrev pub slot_depth : LoopSlot → Depth
slot_depth = fold-LoopSlot Depth Depth Depth Depth Depth depth_step slot_depth_step body_depth_step loop_depth_step angle_depth_step

-- what stands in braces, without the braces
abbrev pub typed_body_depth : TBody → Depth
typed_body_depth = fold-TBody Depth Depth Depth Depth Depth depth_step slot_depth_step body_depth_step loop_depth_step angle_depth_step

-- an index with its condition
abbrev pub loop_depth : Loop → Depth
loop_depth = fold-Loop Depth Depth Depth Depth Depth depth_step slot_depth_step body_depth_step loop_depth_step angle_depth_step

-- a tuple
abbrev pub typed_angle_depth : TAngle → Depth
typed_angle_depth = fold-TAngle Depth Depth Depth Depth Depth depth_step slot_depth_step body_depth_step loop_depth_step angle_depth_step

-- ---- the greatest full nesting of the functions that they call

-- a component of an index's tuple
abbrev pub slot_calls : Scope → LoopSlot → ℕ
slot_calls scope = fold-LoopSlot ℕ ℕ ℕ ℕ ℕ (calls_step scope) slot_calls_step body_calls_step loop_calls_step angle_calls_step

-- what stands in braces
abbrev pub typed_body_calls : Scope → TBody → ℕ
typed_body_calls scope = fold-TBody ℕ ℕ ℕ ℕ ℕ (calls_step scope) slot_calls_step body_calls_step loop_calls_step angle_calls_step

-- an index with its condition
abbrev pub loop_calls : Scope → Loop → ℕ
loop_calls scope = fold-Loop ℕ ℕ ℕ ℕ ℕ (calls_step scope) slot_calls_step body_calls_step loop_calls_step angle_calls_step

-- a tuple
abbrev pub typed_angle_calls : Scope → TAngle → ℕ
typed_angle_calls scope = fold-TAngle ℕ ℕ ℕ ℕ ℕ (calls_step scope) slot_calls_step body_calls_step loop_calls_step angle_calls_step
