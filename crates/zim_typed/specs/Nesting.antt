-- How deep a constant nests by itself, and how deep the functions nest that it calls: as the expression that it is.
use Rattle.std.specs.Prelude.{ℕ, ◌+◌, max, List, map, fold, Option, Some, None}
use Rattle.zim_nesting.specs.Depth.{Depth, no_nesting, a_loop, nesting_in_brackets, ◌followed_by◌, followed, all, nesting_if_given}
use Rattle.zim_typed.specs.declared.constant.Const.{Const, Const-F, fold-Const}
use Rattle.zim_typed.specs.declared.constant.LoopSlot.{LoopSlot-F}
use Rattle.zim_typed.specs.declared.constant.TBody.{TBody-F}
use Rattle.zim_typed.specs.declared.constant.Loop.{Loop-F}
use Rattle.zim_typed.specs.declared.constant.TAngle.{TAngle-F}
use Rattle.zim_typed.specs.declared.scope.Declared.{Declared}
use Rattle.zim_typed.specs.declared.scope.Declared.TheVariants.{Function}
use Rattle.zim_typed.specs.Scope.{Scope, kind_of_name}

-- ---- by itself

-- a constant whose parts nest so deep
abbrev pub depth_step : Const-F Depth Depth Depth Depth Depth → Depth
depth_step (Const-F.Number place digits) = no_nesting
depth_step (Const-F.Text place text double) = no_nesting
depth_step (Const-F.Truth place truth) = no_nesting
depth_step (Const-F.Infinity place) = no_nesting
depth_step (Const-F.Name place name resolved) = no_nesting
depth_step (Const-F.Item place name index resolved) = nesting_in_brackets (all index)
depth_step (Const-F.Call place name arguments resolved) = nesting_in_brackets (all arguments)
depth_step (Const-F.Func place function arguments) = nesting_in_brackets (all arguments)
depth_step (Const-F.Proj place set positions) = nesting_in_brackets (set followed_by positions)
depth_step (Const-F.Paren place inner) = nesting_in_brackets inner
depth_step (Const-F.Braces place body) = nesting_in_brackets body
depth_step (Const-F.If place test branch otherwise) = nesting_in_brackets (test followed_by branch followed_by otherwise)
depth_step (Const-F.Factorial operand places) = operand
depth_step (Const-F.Power place sign base signed exponent) = base followed_by exponent
depth_step (Const-F.Signed place minus operand) = operand
depth_step (Const-F.Big place loop index with_do operand) = a_loop followed_by index followed_by operand
depth_step (Const-F.Times first others) = followed first (map (λ x. x.2) others)
depth_step (Const-F.Plus first others) = followed first (map (λ x. x.2) others)
depth_step (Const-F.Compare place relation left right) = left followed_by right
depth_step (Const-F.Member place tuple set) = tuple followed_by set
depth_step (Const-F.Not place operand) = operand
depth_step (Const-F.And first others) = followed first (map (λ x. x.1) others)
depth_step (Const-F.Or first others) = followed first (map (λ x. x.2) others)

-- a tuple
abbrev pub angle_depth_step : TAngle-F Depth Depth Depth Depth Depth → Depth
angle_depth_step tuple = all tuple.items

-- a component of an index's tuple: a name is no bracket and no loop
abbrev pub slot_depth_step : LoopSlot-F Depth Depth Depth Depth Depth → Depth
slot_depth_step (LoopSlot-F.Free name) = no_nesting
slot_depth_step (LoopSlot-F.Again position) = no_nesting
slot_depth_step (LoopSlot-F.Fixed value) = value

-- an index with its condition
abbrev pub loop_depth_step : Loop-F Depth Depth Depth Depth Depth → Depth
loop_depth_step index = all index.slots followed_by index.set followed_by nesting_if_given index.cond

-- what stands in braces
abbrev pub body_depth_step : TBody-F Depth Depth Depth Depth Depth → Depth
body_depth_step TBody-F.Empty = no_nesting
body_depth_step (TBody-F.Members members) = all members
body_depth_step (TBody-F.Tuples tuples) = all tuples
body_depth_step (TBody-F.Those index) = index
body_depth_step (TBody-F.Span from with_to to by) = from followed_by to followed_by nesting_if_given by

-- how deep a constant nests by itself
abbrev pub const_depth : Const → Depth
const_depth = fold-Const Depth Depth Depth Depth Depth depth_step slot_depth_step body_depth_step loop_depth_step angle_depth_step

-- ---- with the functions that it calls

-- the greatest of these, 0 of none
abbrev pub greatest : List ℕ → ℕ
greatest = fold max 0

-- that of a part, if there is one
abbrev pub greatest_given : Option ℕ → ℕ
greatest_given None = 0
greatest_given (Some deep) = deep

-- the full nesting of a function, 0 of what is none
abbrev pub function_nesting : Option Declared → ℕ
function_nesting (Some (Function parameters deep)) = deep
function_nesting _ = 0

-- the greatest full nesting of the functions that a constant calls, where it is known of its parts
abbrev pub calls_step : Scope → Const-F ℕ ℕ ℕ ℕ ℕ → ℕ
calls_step scope (Const-F.Number place digits) = 0
calls_step scope (Const-F.Text place text double) = 0
calls_step scope (Const-F.Truth place truth) = 0
calls_step scope (Const-F.Infinity place) = 0
calls_step scope (Const-F.Name place name resolved) = 0
calls_step scope (Const-F.Item place name index resolved) = greatest index
calls_step scope (Const-F.Call place name arguments resolved) = max (function_nesting (kind_of_name scope name)) (greatest arguments)
calls_step scope (Const-F.Func place function arguments) = greatest arguments
calls_step scope (Const-F.Proj place set positions) = max set positions
calls_step scope (Const-F.Paren place inner) = inner
calls_step scope (Const-F.Braces place body) = body
calls_step scope (Const-F.If place test branch otherwise) = max test (max branch otherwise)
calls_step scope (Const-F.Factorial operand places) = operand
calls_step scope (Const-F.Power place sign base signed exponent) = max base exponent
calls_step scope (Const-F.Signed place minus operand) = operand
calls_step scope (Const-F.Big place loop index with_do operand) = max index operand
calls_step scope (Const-F.Times first others) = max first (greatest (map (λ x. x.2) others))
calls_step scope (Const-F.Plus first others) = max first (greatest (map (λ x. x.2) others))
calls_step scope (Const-F.Compare place relation left right) = max left right
calls_step scope (Const-F.Member place tuple set) = max tuple set
calls_step scope (Const-F.Not place operand) = operand
calls_step scope (Const-F.And first others) = max first (greatest (map (λ x. x.1) others))
calls_step scope (Const-F.Or first others) = max first (greatest (map (λ x. x.2) others))

-- a tuple
abbrev pub angle_calls_step : TAngle-F ℕ ℕ ℕ ℕ ℕ → ℕ
angle_calls_step tuple = greatest tuple.items

-- a component of an index's tuple
abbrev pub slot_calls_step : LoopSlot-F ℕ ℕ ℕ ℕ ℕ → ℕ
slot_calls_step (LoopSlot-F.Free name) = 0
slot_calls_step (LoopSlot-F.Again position) = 0
slot_calls_step (LoopSlot-F.Fixed value) = value

-- an index with its condition
abbrev pub loop_calls_step : Loop-F ℕ ℕ ℕ ℕ ℕ → ℕ
loop_calls_step index = max (greatest index.slots) (max index.set (greatest_given index.cond))

-- what stands in braces
abbrev pub body_calls_step : TBody-F ℕ ℕ ℕ ℕ ℕ → ℕ
body_calls_step TBody-F.Empty = 0
body_calls_step (TBody-F.Members members) = greatest members
body_calls_step (TBody-F.Tuples tuples) = greatest tuples
body_calls_step (TBody-F.Those index) = index
body_calls_step (TBody-F.Span from with_to to by) = max from (max to (greatest_given by))

-- the greatest full nesting of the functions that a constant calls, 0 where it calls none
abbrev pub const_calls : Scope → Const → ℕ
const_calls scope = fold-Const ℕ ℕ ℕ ℕ ℕ (calls_step scope) slot_calls_step body_calls_step loop_calls_step angle_calls_step

-- the full nesting of a function with this body: that of its definition, whose parameters stand in parentheses, and the greatest of the functions
-- that it calls
abbrev pub definition_nesting : Scope → Const → ℕ
definition_nesting scope body = (nesting_in_brackets no_nesting followed_by const_depth body).deepest + const_calls scope body
