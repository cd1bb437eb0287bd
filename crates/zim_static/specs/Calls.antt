-- How deep a statement nests together with the functions that it calls.
use Rattle.std.specs.Prelude.{ℕ, ◌+◌, max, List, map, Bool, Option, Some, None}
use Rattle.zim_fault.specs.declared.faults.Place.{Place}
use Rattle.zim_fault.specs.declared.words.Word.{Word}
use Rattle.zim_tree.specs.declared.expr.Expr.{Expr, Expr-F, fold-Expr}
use Rattle.zim_tree.specs.declared.expr.Angle.{Angle, Angle-F, fold-Angle}
use Rattle.zim_tree.specs.declared.expr.Index.{Index, Index-F, fold-Index}
use Rattle.zim_tree.specs.declared.expr.Body.{Body, Body-F, fold-Body}
use Rattle.zim_tree.specs.declared.stmt.Stmt.{Stmt}
use Rattle.zim_tree.specs.declared.stmt.Shape.{Shape}
use Rattle.zim_tree.specs.declared.stmt.Shape.TheVariants.{Set, Param, Var, Goal, Subto, Define, Do}
use Rattle.zim_tree.specs.declared.stmt.Bracket.{Bracket}
use Rattle.zim_tree.specs.declared.stmt.Bracket.TheVariants.{Empty, Loop, Over}
use Rattle.zim_tree.specs.declared.stmt.SetSide.{SetSide}
use Rattle.zim_tree.specs.declared.stmt.SetSide.TheVariants as set_side
use Rattle.zim_tree.specs.declared.stmt.ParSide.{ParSide}
use Rattle.zim_tree.specs.declared.stmt.ParSide.TheVariants as par_side
use Rattle.zim_tree.specs.declared.stmt.Table.{Table}
use Rattle.zim_tree.specs.declared.stmt.Limit.{Limit}
use Rattle.zim_tree.specs.declared.stmt.Reading.{Reading}
use Rattle.zim_tree.specs.declared.stmt.Doing.{Doing, Doing-F, fold-Doing}
use Rattle.zim_tree.specs.declared.stmt.Printed.{Printed}
use Rattle.zim_tree.specs.declared.stmt.Printed.TheVariants.{Value, Tuple}
use Rattle.zim_nesting.specs.Depth.{nesting}
use Rattle.zim_typed.specs.Scope.{Scope, kind_of_name}
use Rattle.zim_typed.specs.Nesting.{greatest, greatest_given, function_nesting}

-- the full nesting of the functions that a condition calls, if there is one
abbrev pub calls_in_condition : Option (Bool × ℕ) → ℕ
calls_in_condition None = 0
calls_in_condition (Some c) = c.1

-- the greatest full nesting of the functions that an expression calls, where it is known of its parts
abbrev pub calls_in_expr : Scope → Expr-F ℕ ℕ ℕ ℕ → ℕ
calls_in_expr scope (Expr-F.Number place digits) = 0
calls_in_expr scope (Expr-F.Text place text double) = 0
calls_in_expr scope (Expr-F.Truth place truth) = 0
calls_in_expr scope (Expr-F.Infinity place) = 0
calls_in_expr scope (Expr-F.Name place name) = 0
calls_in_expr scope (Expr-F.Item place name index) = greatest index
calls_in_expr scope (Expr-F.Call place name arguments) = max (function_nesting (kind_of_name scope name)) (greatest arguments)
calls_in_expr scope (Expr-F.Func place function arguments) = greatest arguments
calls_in_expr scope (Expr-F.Proj place set positions) = max set positions
calls_in_expr scope (Expr-F.Paren place inner) = inner
calls_in_expr scope (Expr-F.Braces place body) = body
calls_in_expr scope (Expr-F.If place vif test branch otherwise) = max test (max branch (greatest_given otherwise))
calls_in_expr scope (Expr-F.Factorial operand places) = operand
calls_in_expr scope (Expr-F.Power place sign base signed exponent) = max base exponent
calls_in_expr scope (Expr-F.Signed place minus operand) = operand
calls_in_expr scope (Expr-F.Big place loop index with_do operand) = max index operand
calls_in_expr scope (Expr-F.Times first others) = max first (greatest (map (λ x. x.2) others))
calls_in_expr scope (Expr-F.Plus first others) = max first (greatest (map (λ x. x.2) others))
calls_in_expr scope (Expr-F.Compare first others) = max first (greatest (map (λ x. x.2) others))
calls_in_expr scope (Expr-F.Member place tuple set) = max tuple set
calls_in_expr scope (Expr-F.Not place operand) = operand
calls_in_expr scope (Expr-F.And first others) = max first (greatest (map (λ x. x.1) others))
calls_in_expr scope (Expr-F.Or first others) = max first (greatest (map (λ x. x.2) others))
calls_in_expr scope (Expr-F.Forall place index with_do inside) = max index inside

-- a tuple
abbrev pub calls_in_angle : Angle-F ℕ ℕ ℕ ℕ → ℕ
calls_in_angle tuple = greatest tuple.items

-- an index with its condition
abbrev pub calls_in_index : Index-F ℕ ℕ ℕ ℕ → ℕ
calls_in_index index = max index.tuple (max index.set (calls_in_condition index.cond))

-- what stands in braces
abbrev pub calls_in_body : Body-F ℕ ℕ ℕ ℕ → ℕ
calls_in_body Body-F.Empty = 0
calls_in_body (Body-F.Members members) = greatest members
calls_in_body (Body-F.Tuples tuples) = greatest tuples
calls_in_body (Body-F.Those index) = index
calls_in_body (Body-F.Span from with_to to by) = max from (max to (greatest_given by))

-- the greatest full nesting of the functions that an expression calls
abbrev pub calls : Scope → Expr → ℕ
calls scope = fold-Expr ℕ ℕ ℕ ℕ calls_in_body (calls_in_expr scope) calls_in_angle calls_in_index

-- of those that a tuple calls
abbrev pub tuple_calls : Scope → Angle → ℕ
tuple_calls scope = fold-Angle ℕ ℕ ℕ ℕ calls_in_body (calls_in_expr scope) calls_in_angle calls_in_index

-- of those that an index calls
abbrev pub index_calls : Scope → Index → ℕ
index_calls scope = fold-Index ℕ ℕ ℕ ℕ calls_in_body (calls_in_expr scope) calls_in_angle calls_in_index

-- of those that what stands in braces calls
abbrev pub body_calls : Scope → Body → ℕ
body_calls scope = fold-Body ℕ ℕ ℕ ℕ calls_in_body (calls_in_expr scope) calls_in_angle calls_in_index

-- of those that expressions call
abbrev pub all_calls : Scope → List Expr → ℕ
all_calls scope items = greatest (map (calls scope) items)

-- of those that the operand of a word calls, if there is one
abbrev pub given_calls : Scope → Option (Place × Expr) → ℕ
given_calls scope None = 0
given_calls scope (Some x) = calls scope x.1

-- of those that a `read` calls
abbrev pub reading_calls : Scope → Reading → ℕ
reading_calls scope r = max (calls scope r.file) (max (calls scope r.template) (greatest (map (λ (x : Place × Word × Expr). calls scope x.2) r.options)))

-- of those that entries call
abbrev pub entries_calls : Scope → List (Angle × Expr) → ℕ
entries_calls scope entries = greatest (map (λ (entry : Angle × Expr). max (tuple_calls scope entry.0) (calls scope entry.1)) entries)

-- of those that a table calls
abbrev pub table_calls : Scope → Table → ℕ
table_calls scope table = max (all_calls scope table.head) (greatest (map (λ (row : List Expr × List Expr). max (all_calls scope row.0) (all_calls scope row.1)) table.rows))

-- of those that brackets call
abbrev pub brackets_calls : Scope → Option Bracket → ℕ
brackets_calls scope None = 0
brackets_calls scope (Some Empty) = 0
brackets_calls scope (Some (Loop index)) = index_calls scope index
brackets_calls scope (Some (Over set)) = calls scope set

-- of those that the right side of a set calls
abbrev pub set_calls : Scope → SetSide → ℕ
set_calls scope (set_side.Value value) = calls scope value
set_calls scope (set_side.Read reading) = reading_calls scope reading
set_calls scope (set_side.Entries entries) = entries_calls scope entries

-- of those that the right side of a parameter calls
abbrev pub param_calls : Scope → ParSide → ℕ
param_calls scope (par_side.Value value) = calls scope value
param_calls scope (par_side.Read reading default) = max (reading_calls scope reading) (given_calls scope default)
param_calls scope (par_side.Entries entries default) = max (entries_calls scope entries) (given_calls scope default)
param_calls scope (par_side.Table table default) = max (table_calls scope table) (given_calls scope default)
param_calls scope (par_side.Default place default) = calls scope default

-- of those that what is printed calls
abbrev pub printed_calls : Scope → Printed → ℕ
printed_calls scope (Value value) = calls scope value
printed_calls scope (Tuple tuple) = tuple_calls scope tuple

-- of those that a `do` calls, where it is known of what it does for each choice
abbrev pub calls_in_doing : Scope → Doing-F ℕ → ℕ
calls_in_doing scope (Doing-F.Print place items) = greatest (map (printed_calls scope) items)
calls_in_doing scope (Doing-F.Check place test) = calls scope test
calls_in_doing scope (Doing-F.Forall place index with_do inside) = max (index_calls scope index) inside

-- of those that a `do` calls
abbrev pub doing_calls : Scope → Doing → ℕ
doing_calls scope = fold-Doing ℕ (calls_in_doing scope)

-- of those that what stands behind a statement's name calls
abbrev pub shape_calls : Scope → Shape → ℕ
shape_calls scope (Set brackets side) = max (brackets_calls scope brackets) (set_calls scope side)
shape_calls scope (Param brackets side) = max (brackets_calls scope brackets) (param_calls scope side)
shape_calls scope (Var brackets kind limits priority startval) =
    max (brackets_calls scope brackets) (max (greatest (map (λ (l : Limit). calls scope l.side) limits)) (max (given_calls scope priority) (given_calls scope startval)))
shape_calls scope (Goal maximize objective) = calls scope objective
shape_calls scope (Subto constraint) = calls scope constraint
shape_calls scope (Define result parameters body) = calls scope body
shape_calls scope (Do doing) = doing_calls scope doing

-- the full nesting of a statement: its own, and the greatest full nesting of the functions that it calls
abbrev pub full_nesting : Scope → Stmt → ℕ
full_nesting scope stmt = nesting stmt + shape_calls scope stmt.shape
