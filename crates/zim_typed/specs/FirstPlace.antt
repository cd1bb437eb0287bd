-- The place of a constant's first token.
use Rattle.zim_fault.specs.declared.faults.Place.{Place}
use Rattle.zim_typed.specs.declared.constant.Const.{Const, Const-F, fold-Const}
use Rattle.zim_typed.specs.declared.constant.LoopSlot.{LoopSlot-F}
use Rattle.zim_typed.specs.declared.constant.TBody.{TBody-F}
use Rattle.zim_typed.specs.declared.constant.Loop.{Loop-F}
use Rattle.zim_typed.specs.declared.constant.TAngle.{TAngle-F}

-- of a constant, where those of its parts are known
abbrev pub const_step : Const-F Place (Unit {0}) (Unit {0}) (Unit {0}) Place → Place
const_step (Const-F.Number place digits) = place
const_step (Const-F.Text place text double) = place
const_step (Const-F.Truth place truth) = place
const_step (Const-F.Infinity place) = place
const_step (Const-F.Name place name resolved) = place
const_step (Const-F.Item place name index resolved) = place
const_step (Const-F.Call place name given resolved) = place
const_step (Const-F.Func place function given) = place
const_step (Const-F.Proj place set positions) = place
const_step (Const-F.Paren place inner) = place
const_step (Const-F.Braces place body) = place
const_step (Const-F.If place test branch otherwise) = place
const_step (Const-F.Factorial operand places) = operand
const_step (Const-F.Power place sign base signed exponent) = base
const_step (Const-F.Signed place minus operand) = place
const_step (Const-F.Big place loop index with_do operand) = place
const_step (Const-F.Times first others) = first
const_step (Const-F.Plus first others) = first
const_step (Const-F.Compare place relation left right) = left
const_step (Const-F.Member place tuple set) = tuple
const_step (Const-F.Not place operand) = place
const_step (Const-F.And first others) = first
const_step (Const-F.Or first others) = first

-- a tuple begins at its `<`
abbrev pub place_of_angle : TAngle-F Place (Unit {0}) (Unit {0}) (Unit {0}) Place → Place
place_of_angle tuple = tuple.place

-- an index doesn't keep where it begins
abbrev pub loop_step : Loop-F Place (Unit {0}) (Unit {0}) (Unit {0}) Place → Unit {0}
loop_step index = tt

-- nor does a component of its tuple
abbrev pub slot_step : LoopSlot-F Place (Unit {0}) (Unit {0}) (Unit {0}) Place → Unit {0}
slot_step component = tt

-- what stands in braces may have no token
abbrev pub place_of_body : TBody-F Place (Unit {0}) (Unit {0}) (Unit {0}) Place → Unit {0}
place_of_body body = tt

-- the place of a constant's first token
abbrev pub const_first_place : Const → Place
const_first_place = fold-Const Place (Unit {0}) (Unit {0}) (Unit {0}) Place const_step slot_step place_of_body loop_step place_of_angle
