-- Which columns a `var` statement asks for: one for each index of its set in order, with the kind, the bounds, the priority and the start value that
-- the statement gives there.
use Rattle.std.specs.Prelude.{ℕ, Bool, true, false, if◌then◌else◌, List, [], ◌∷◌, ◌++◌, map, Option, Some, None, Ok}
use Rattle.zim_answer.specs.Answer.{Answer, ◌>>=◌, goes}
use Rattle.zim_columns.specs.declared.asks.Ask.{Ask}
use Rattle.zim_columns.specs.declared.asks.Bound.{Bound}
use Rattle.zim_columns.specs.declared.asks.Bound.TheVariants.{Minus, Plus, At}
use Rattle.zim_columns.specs.declared.asks.VarKind.{VarKind}
use Rattle.zim_columns.specs.declared.asks.VarKind.TheVariants as kind
use Rattle.zim_fault.specs.declared.faults.Fault.{Fault}
use Rattle.zim_fault.specs.declared.faults.Place.{Place}
use Rattle.zim_fault.specs.declared.words.Word.{Word}
use Rattle.zim_fault.specs.declared.words.Word.TheVariants.{WInteger, WBinary}
use Rattle.zim_ground.specs.Grounding.{truth_known}
use Rattle.zim_meaning.specs.Operations.{number_of_value}
use Rattle.zim_meaning.specs.Statements.{index_set}
use Rattle.zim_meaning.specs.Value.{value, index_choices}
use Rattle.zim_meaning.specs.World.{World, at_place}
use Rattle.zim_meaning.specs.declared.choices.Choice.{Choice}
use Rattle.zim_rational.specs.Rational.{Rational, zero, one}
use Rattle.zim_tuples.specs.declared.elements.Elem.{Elem}
use Rattle.zim_tuples.specs.declared.environments.Binding.{Binding}
use Rattle.zim_typed.specs.declared.constant.Const.{Const, Const-F, fold-Const, map-Const, roll-Const}
use Rattle.zim_typed.specs.declared.constant.LoopSlot.{LoopSlot, LoopSlot-F, map-LoopSlot, roll-LoopSlot}
use Rattle.zim_typed.specs.declared.constant.TBody.{TBody, TBody-F, map-TBody, roll-TBody}
use Rattle.zim_typed.specs.declared.constant.Loop.{Loop, Loop-F, map-Loop, roll-Loop}
use Rattle.zim_typed.specs.declared.constant.TAngle.{TAngle, TAngle-F, map-TAngle, roll-TAngle}
use Rattle.zim_typed.specs.declared.statement.TBracket.{TBracket}
use Rattle.zim_typed.specs.declared.statement.TBracket.TheVariants as bracket
use Rattle.zim_typed.specs.declared.statement.TLimit.{TLimit}
use Rattle.zim_typed.specs.declared.statement.TShape.{TShape}
use Rattle.zim_typed.specs.declared.statement.TShape.TheVariants as shape
use Rattle.zim_typed.specs.declared.statement.TStmt.{TStmt}

-- ---- bounds

-- what is known of a bound: the constant that it is written as, whether that is the word `infinity`, and which bound it is in an environment, wrong at a
-- place if it is neither a number nor infinite
pub record BoundMeaning : Type 0 where
  pub written : Const
  pub is_infinity : Bool
  pub bound : Place → List Binding → Answer Bound Fault

-- the bound that a number is
abbrev pub number_bound : World → Const → Place → List Binding → Answer Bound Fault
number_bound world c place env = value world env c >>= λ v. at_place place (number_of_value v) >>= λ q. Ok (At q)

-- the constant that a bound is written as, from its parts
abbrev pub written_as : Const-F BoundMeaning LoopSlot TBody Loop TAngle → Const
written_as d = roll-Const (map-Const BoundMeaning LoopSlot TBody Loop TAngle Const LoopSlot TBody Loop TAngle (λ m. m.written) (λ s. s) (λ b. b) (λ l. l) (λ t. t) d)

-- `infinity` by itself or with a sign is a bound, and of an `if` the branch that its condition picks; all others are numbers
abbrev pub bound_step : World → Const-F BoundMeaning LoopSlot TBody Loop TAngle → BoundMeaning
bound_step world (Const-F.Infinity place) = record {
  written = written_as (Const-F.Infinity place);
  is_infinity = true;
  bound = λ limit env. Ok Plus;
}
bound_step world (Const-F.Signed place minus operand) = record {
  written = written_as (Const-F.Signed place minus operand);
  is_infinity = false;
  bound = λ limit env.
      if operand.is_infinity
      then Ok (if minus then Minus else Plus)
      else number_bound world (written_as (Const-F.Signed place minus operand)) limit env;
}
bound_step world (Const-F.If place test branch otherwise) = record {
  written = written_as (Const-F.If place test branch otherwise);
  is_infinity = false;
  bound = λ limit env. truth_known world env place test.written >>= λ b. if b then branch.bound limit env else otherwise.bound limit env;
}
bound_step world d = record {
  written = written_as d;
  is_infinity = false;
  bound = λ limit env. number_bound world (written_as d) limit env;
}

-- a component of an index's tuple, as it is written: what is no constant says nothing of bounds
abbrev pub slot_written : LoopSlot-F BoundMeaning LoopSlot TBody Loop TAngle → LoopSlot
slot_written d = roll-LoopSlot (map-LoopSlot BoundMeaning LoopSlot TBody Loop TAngle Const LoopSlot TBody Loop TAngle (λ m. m.written) (λ s. s) (λ b. b) (λ l. l) (λ t. t) d)

-- what stands in braces, as it is written
abbrev pub body_written : TBody-F BoundMeaning LoopSlot TBody Loop TAngle → TBody
body_written d = roll-TBody (map-TBody BoundMeaning LoopSlot TBody Loop TAngle Const LoopSlot TBody Loop TAngle (λ m. m.written) (λ s. s) (λ b. b) (λ l. l) (λ t. t) d)

-- an index, as it is written
abbrev pub loop_written : Loop-F BoundMeaning LoopSlot TBody Loop TAngle → Loop
loop_written d = roll-Loop (map-Loop BoundMeaning LoopSlot TBody Loop TAngle Const LoopSlot TBody Loop TAngle (λ m. m.written) (λ s. s) (λ b. b) (λ l. l) (λ t. t) d)

-- a tuple, as it is written
abbrev pub angle_written : TAngle-F BoundMeaning LoopSlot TBody Loop TAngle → TAngle
angle_written d = roll-TAngle (map-TAngle BoundMeaning LoopSlot TBody Loop TAngle Const LoopSlot TBody Loop TAngle (λ m. m.written) (λ s. s) (λ b. b) (λ l. l) (λ t. t) d)

-- which bound a constant is at the place of its `>=` or `<=`, in an environment
unfoldable pub bound_of : World → List Binding → Place → Const → Answer Bound Fault
bound_of world env place c =
    (fold-Const BoundMeaning LoopSlot TBody Loop TAngle (bound_step world) slot_written body_written loop_written angle_written c).bound place env

-- ---- one column

-- the kind of a variable; real where the statement names none
abbrev pub column_kind : Option Word → VarKind
column_kind (Some WInteger) = kind.Integer
column_kind (Some WBinary) = kind.Binary
column_kind _ = kind.Real

-- the bounds of a kind where the statement gives none: from 0 up, and for `binary` from 0 to 1
abbrev pub usual_bounds : VarKind → Bound × Bound
usual_bounds kind.Real = (At zero, Plus)
usual_bounds kind.Integer = (At zero, Plus)
usual_bounds kind.Binary = (At zero, At one)

-- the lower and the upper bound so far, and a bound that the statement gives
abbrev pub with_limit : World → List Binding → Bound × Bound → TLimit → Answer (Bound × Bound) Fault
with_limit world env (lower, upper) limit = bound_of world env limit.place limit.side >>= λ b. Ok (if limit.lower then (b, upper) else (lower, b))

-- the number behind `priority` or `startval`, wrong at that word if it is none
abbrev pub number_given : World → List Binding → Option (Place × Const) → Answer (Option Rational) Fault
number_given world env None = Ok None
number_given world env (Some (place, c)) = value world env c >>= λ v. at_place place (number_of_value v) >>= λ q. Ok (Some q)

-- what a `var` statement says behind its brackets
pub record VarParts : Type 0 where
  pub kind : Option Word
  pub limits : List TLimit
  pub priority : Option (Place × Const)
  pub startval : Option (Place × Const)

-- the column for an index, in the environment of the index: its bounds in the order of the text, then its priority, then its start value
unfoldable pub ask_at : World → List ℕ → VarParts → List Elem × List Binding → Answer Ask Fault
ask_at world name parts (tuple, env) = do
  bounds ← goes (with_limit world env) (usual_bounds (column_kind parts.kind)) parts.limits
  priority ← number_given world env parts.priority
  startval ← number_given world env parts.startval
  Ok (record { name = name; tuple = tuple; kind = column_kind parts.kind; lower = bounds.0; upper = bounds.1; priority = priority; startval = startval })

-- ---- the columns of a statement

-- the indices of a variable with the environments in which it is asked what the statement says of them: the empty index without brackets, else the
-- choices of the index, or the tuples of the set, which is wrong at the statement's name if it is none; empty brackets, which no `var` has, give none
abbrev pub asked_indices : World → Place → Option TBracket → Answer (List (List Elem × List Binding)) Fault
asked_indices world at None = Ok (([], []) ∷ [])
asked_indices world at (Some bracket.Empty) = Ok []
asked_indices world at (Some (bracket.Loop index)) = index_choices world [] index >>= λ choices. Ok (map (λ (c : Choice). (c.tuple, c.env)) choices)
asked_indices world at (Some (bracket.Over set)) = index_set world at set >>= λ tuples. Ok (map (λ (t : List Elem). (t, [])) tuples)

-- the columns so far and that for one more index
abbrev pub with_ask : World → List ℕ → VarParts → List Ask → List Elem × List Binding → Answer (List Ask) Fault
with_ask world name parts asks index = ask_at world name parts index >>= λ ask. Ok (asks ++ ask ∷ [])

-- the columns that a shape asks for under a name; only a `var` asks for some
abbrev pub asks_of_shape : World → Place → List ℕ → TShape → Answer (List Ask) Fault
asks_of_shape world at name (shape.Var brackets kind limits priority startval) =
    asked_indices world at brackets >>= goes (with_ask world name (record { kind = kind; limits = limits; priority = priority; startval = startval })) []
asks_of_shape world at name _ = Ok []

-- the columns that a statement asks for, in order, or its first fault
unfoldable pub asks_answer : World → TStmt → Answer (List Ask) Fault
asks_answer world s = asks_of_shape world s.at s.name s.shape
