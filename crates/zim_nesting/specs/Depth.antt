-- How deep each tree nests: what its brackets, its `if` and its loops add, in the order in which they stand in the text.
-- All other tokens add nothing and are left out.
use Rattle.std.specs.Prelude.{ℕ, ◌+◌, max, List, map, fold, Bool, Option, Some, None}
use Rattle.zim_fault.specs.declared.faults.Place.{Place}
use Rattle.zim_fault.specs.declared.tokens.Token.{Token}
use Rattle.zim_fault.specs.declared.tokens.Relation.{Relation}
use Rattle.zim_fault.specs.declared.words.Word.{Word}
use Rattle.zim_tree.specs.declared.expr.Expr.{Expr, Expr-F, fold-Expr}
use Rattle.zim_tree.specs.declared.expr.Angle.{Angle, Angle-F, fold-Angle}
use Rattle.zim_tree.specs.declared.expr.Index.{Index, Index-F, fold-Index}
use Rattle.zim_tree.specs.declared.expr.Body.{Body, Body-F, fold-Body}
use Rattle.zim_tree.specs.declared.stmt.Stmt.{Stmt}
use Rattle.zim_tree.specs.declared.stmt.Shape.{Shape}
use Rattle.zim_tree.specs.declared.stmt.Shape.TheVariants.{Set, Param, Var, Goal, Subto, Define, Do}
use Rattle.zim_tree.specs.declared.stmt.Bracket.{Bracket}
use Rattle.zim_tree.specs.declared.stmt.Bracket.TheVariants.{Empty, Loop, Over}
use Rattle.zim_tree.specs.declared.stmt.SetSide.{SetSide}
use Rattle.zim_tree.specs.declared.stmt.SetSide.TheVariants as set_side
use Rattle.zim_tree.specs.declared.stmt.ParSide.{ParSide}
use Rattle.zim_tree.specs.declared.stmt.ParSide.TheVariants as par_side
use Rattle.zim_tree.specs.declared.stmt.Table.{Table}
use Rattle.zim_tree.specs.declared.stmt.Limit.{Limit}
use Rattle.zim_tree.specs.declared.stmt.Reading.{Reading}
use Rattle.zim_tree.specs.declared.stmt.Doing.{Doing, Doing-F, fold-Doing}
use Rattle.zim_tree.specs.declared.stmt.Printed.{Printed}
use Rattle.zim_tree.specs.declared.stmt.Printed.TheVariants.{Value, Tuple}

-- what a piece of a statement adds to the nesting
pub record Depth : Type 0 where
  -- how many loops begin in it: a loop counts up to the statement's end
  pub loops : ℕ
  -- its greatest nesting, where nothing is open and no loop began before it
  pub deepest : ℕ

-- a piece that opens nothing and begins no loop
abbrev pub no_nesting : Depth
no_nesting = record { loops = 0; deepest = 0 }

-- the word that begins a loop
abbrev pub a_loop : Depth
a_loop = record { loops = 1; deepest = 1 }

-- a piece in brackets, or between `if` and `end`
abbrev pub nesting_in_brackets : Depth → Depth
nesting_in_brackets piece = record { loops = piece.loops; deepest = piece.deepest + 1 }

infixr 20 ◌followed_by◌
-- a piece and another behind it, in which the loops of the first still count
abbrev pub ◌followed_by◌ : Depth → Depth → Depth
x followed_by y = record { loops = x.loops + y.loops; deepest = max x.deepest (x.loops + y.deepest) }

-- a piece, and others one behind the other
abbrev pub followed : Depth → List Depth → Depth
followed = fold (λ before piece. before followed_by piece)

-- pieces one behind the other
abbrev pub all : List Depth → Depth
all = followed no_nesting

-- a piece, if there is one
abbrev pub nesting_if_given : Option Depth → Depth
nesting_if_given None = no_nesting
nesting_if_given (Some piece) = piece

-- a condition, if there is one
abbrev pub condition_nesting : Option (Bool × Depth) → Depth
condition_nesting None = no_nesting
condition_nesting (Some c) = c.1

-- an expression whose parts nest so deep
abbrev pub expr_nesting : Expr-F Depth Depth Depth Depth → Depth
expr_nesting (Expr-F.Number place digits) = no_nesting
expr_nesting (Expr-F.Text place text double) = no_nesting
expr_nesting (Expr-F.Truth place truth) = no_nesting
expr_nesting (Expr-F.Infinity place) = no_nesting
expr_nesting (Expr-F.Name place name) = no_nesting
expr_nesting (Expr-F.Item place name index) = nesting_in_brackets (all index)
expr_nesting (Expr-F.Call place name nesting_if_given) = nesting_in_brackets (all nesting_if_given)
expr_nesting (Expr-F.Func place function nesting_if_given) = nesting_in_brackets (all nesting_if_given)
expr_nesting (Expr-F.Proj place set positions) = nesting_in_brackets (set followed_by positions)
expr_nesting (Expr-F.Paren place inner) = nesting_in_brackets inner
expr_nesting (Expr-F.Braces place body) = nesting_in_brackets body
expr_nesting (Expr-F.If place vif test branch otherwise) = nesting_in_brackets (test followed_by branch followed_by nesting_if_given otherwise)
expr_nesting (Expr-F.Factorial operand places) = operand
expr_nesting (Expr-F.Power place sign base signed exponent) = base followed_by exponent
expr_nesting (Expr-F.Signed place minus operand) = operand
expr_nesting (Expr-F.Big place loop index with_do operand) = a_loop followed_by index followed_by operand
expr_nesting (Expr-F.Times first others) = followed first (map (λ x. x.2) others)
expr_nesting (Expr-F.Plus first others) = followed first (map (λ x. x.2) others)
expr_nesting (Expr-F.Compare first others) = followed first (map (λ x. x.2) others)
expr_nesting (Expr-F.Member place tuple set) = tuple followed_by set
expr_nesting (Expr-F.Not place operand) = operand
expr_nesting (Expr-F.And first others) = followed first (map (λ x. x.1) others)
expr_nesting (Expr-F.Or first others) = followed first (map (λ x. x.2) others)
expr_nesting (Expr-F.Forall place index with_do body) = a_loop followed_by index followed_by body

-- a tuple: `<` and `>` are no brackets here
abbrev pub angle_nesting : Angle-F Depth Depth Depth Depth → Depth
angle_nesting tuple = all tuple.items

-- an index with its condition
abbrev pub index_nesting : Index-F Depth Depth Depth Depth → Depth
index_nesting index = index.tuple followed_by index.set followed_by condition_nesting index.cond

-- what stands in braces
abbrev pub body_nesting : Body-F Depth Depth Depth Depth → Depth
body_nesting Body-F.Empty = no_nesting
body_nesting (Body-F.Members members) = all members
body_nesting (Body-F.Tuples tuples) = all tuples
body_nesting (Body-F.Those index) = index
body_nesting (Body-F.Span from with_to to by) = from followed_by to followed_by nesting_if_given by

-- how deep an expression nests
abbrev pub depth : Expr → Depth
depth = fold-Expr Depth Depth Depth Depth body_nesting expr_nesting angle_nesting index_nesting

-- how deep a tuple nests
abbrev pub angle_depth : Angle → Depth
angle_depth = fold-Angle Depth Depth Depth Depth body_nesting expr_nesting angle_nesting index_nesting

-- how deep an index nests
abbrev pub index_depth : Index → Depth
index_depth = fold-Index Depth Depth Depth Depth body_nesting expr_nesting angle_nesting index_nesting

-- how deep what stands in braces nests, without the braces
abbrev pub body_depth : Body → Depth
body_depth = fold-Body Depth Depth Depth Depth body_nesting expr_nesting angle_nesting index_nesting

-- a piece, and operands behind operators that bind alike
abbrev pub operations_depth : Depth → List (Place × Token × Expr) → Depth
operations_depth first others = followed first (map (λ x. depth x.2) others)

-- a piece, and operands behind relations
abbrev pub relations_depth : Depth → List (Place × Relation × Expr) → Depth
relations_depth first others = followed first (map (λ x. depth x.2) others)

-- a piece, and operands behind `and`
abbrev pub conjuncts_depth : Depth → List (Place × Expr) → Depth
conjuncts_depth first others = followed first (map (λ x. depth x.1) others)

-- a piece, and operands behind `or` and `xor`
abbrev pub disjuncts_depth : Depth → List (Place × Bool × Expr) → Depth
disjuncts_depth first others = followed first (map (λ x. depth x.2) others)

-- the condition of an index, if there is one
abbrev pub condition_depth : Option (Bool × Expr) → Depth
condition_depth None = no_nesting
condition_depth (Some c) = depth c.1

-- what stands in brackets behind a declared name, with the brackets
abbrev pub bracket_depth : Bracket → Depth
bracket_depth Empty = nesting_in_brackets no_nesting
bracket_depth (Loop index) = nesting_in_brackets (index_depth index)
bracket_depth (Over set) = nesting_in_brackets (depth set)

-- the brackets, if there are any
abbrev pub brackets_depth : Option Bracket → Depth
brackets_depth None = no_nesting
brackets_depth (Some bracket) = bracket_depth bracket

-- an option of a `read`: its operand
abbrev pub option_depth : Place × Word × Expr → Depth
option_depth x = depth x.2

-- a `read` with its options
abbrev pub reading_depth : Reading → Depth
reading_depth r = depth r.file followed_by depth r.template followed_by all (map option_depth r.options)

-- an index and what belongs to it
abbrev pub entry_depth : Angle × Expr → Depth
entry_depth entry = angle_depth entry.0 followed_by depth entry.1

-- a row of a table: its items and its values
abbrev pub row_depth : List Expr × List Expr → Depth
row_depth row = all (map depth row.0) followed_by all (map depth row.1)

-- a table: its head and its rows
abbrev pub table_depth : Table → Depth
table_depth table = all (map depth table.head) followed_by all (map row_depth table.rows)

-- a default, a priority or a start value, if there is one
abbrev pub given_depth : Option (Place × Expr) → Depth
given_depth None = no_nesting
given_depth (Some x) = depth x.1

-- the right side of a set: a `read` stands in braces there
abbrev pub set_side_depth : SetSide → Depth
set_side_depth (set_side.Value value) = depth value
set_side_depth (set_side.Read reading) = nesting_in_brackets (reading_depth reading)
set_side_depth (set_side.Entries entries) = all (map entry_depth entries)

-- the right side of a parameter
abbrev pub par_side_depth : ParSide → Depth
par_side_depth (par_side.Value value) = depth value
par_side_depth (par_side.Read reading default) = reading_depth reading followed_by given_depth default
par_side_depth (par_side.Entries entries default) = all (map entry_depth entries) followed_by given_depth default
par_side_depth (par_side.Table table default) = table_depth table followed_by given_depth default
par_side_depth (par_side.Default place default) = depth default

-- a bound of a variable: its side
abbrev pub limit_depth : Limit → Depth
limit_depth limit = depth limit.side

-- what a `print` prints
abbrev pub printed_depth : Printed → Depth
printed_depth (Value value) = depth value
printed_depth (Tuple tuple) = angle_depth tuple

-- what a `do` does, where it is known how deep nests what it does for each choice
abbrev pub doing_nesting : Doing-F Depth → Depth
doing_nesting (Doing-F.Print place items) = all (map printed_depth items)
doing_nesting (Doing-F.Check place test) = depth test
doing_nesting (Doing-F.Forall place index with_do body) = a_loop followed_by index_depth index followed_by body

-- how deep nests what a `do` does
abbrev pub doing_depth : Doing → Depth
doing_depth = fold-Doing Depth doing_nesting

-- a statement of this shape: a function's parameters stand in brackets
abbrev pub shape_depth : Shape → Depth
shape_depth (Set brackets side) = brackets_depth brackets followed_by set_side_depth side
shape_depth (Param brackets side) = brackets_depth brackets followed_by par_side_depth side
shape_depth (Var brackets kind limits priority startval) =
    brackets_depth brackets followed_by all (map limit_depth limits) followed_by given_depth priority followed_by given_depth startval
shape_depth (Goal maximize objective) = depth objective
shape_depth (Subto constraint) = depth constraint
shape_depth (Define result parameters body) = nesting_in_brackets no_nesting followed_by depth body
shape_depth (Do doing) = doing_depth doing

-- how deep a statement nests
abbrev pub nesting : Stmt → ℕ
nesting stmt = (shape_depth stmt.shape).deepest
