-- The static fault of a statement: that its nesting passes the limit together with that of the functions that it calls, at its first token; else
-- the first fault in it, in the order of the tokens.
use Rattle.std.specs.Prelude.{nat_lt, List, [], ◌∷◌, ◌++◌, map, flat_map, Bool, false, ◌||◌, Option, Some, None, is_some, if◌then◌else◌}
use Rattle.std.specs.List.{list_any}
use Rattle.zim_fault.specs.declared.faults.Place.{Place}
use Rattle.zim_fault.specs.declared.faults.Fault.{Fault}
use Rattle.zim_fault.specs.declared.kinds.Kind.TheVariants.{Deep, Redeclared}
use Rattle.zim_fault.specs.declared.words.Word.{Word}
use Rattle.zim_tree.specs.declared.expr.Expr.{Expr}
use Rattle.zim_tree.specs.declared.expr.Angle.{Angle}
use Rattle.zim_tree.specs.declared.expr.Index.{Index}
use Rattle.zim_tree.specs.declared.stmt.Stmt.{Stmt}
use Rattle.zim_tree.specs.declared.stmt.Shape.{Shape}
use Rattle.zim_tree.specs.declared.stmt.Shape.TheVariants.{Set, Param, Var, Goal, Subto, Define, Do}
use Rattle.zim_tree.specs.declared.stmt.Bracket.{Bracket}
use Rattle.zim_tree.specs.declared.stmt.Bracket.TheVariants.{Empty, Loop, Over}
use Rattle.zim_tree.specs.declared.stmt.SetSide.{SetSide}
use Rattle.zim_tree.specs.declared.stmt.SetSide.TheVariants as set_side
use Rattle.zim_tree.specs.declared.stmt.ParSide.{ParSide}
use Rattle.zim_tree.specs.declared.stmt.ParSide.TheVariants as par_side
use Rattle.zim_tree.specs.declared.stmt.Table.{Table}
use Rattle.zim_tree.specs.declared.stmt.Limit.{Limit}
use Rattle.zim_tree.specs.declared.stmt.Reading.{Reading}
use Rattle.zim_tree.specs.declared.stmt.Doing.{Doing, Doing-F, fold-Doing}
use Rattle.zim_tree.specs.declared.stmt.Printed.{Printed}
use Rattle.zim_tree.specs.declared.stmt.Printed.TheVariants.{Value, Tuple}
use Rattle.zim_typed.specs.Scope.{Text, Names, Scope, kind_of_name, is_local}
use Rattle.zim_static.specs.declared.role.Role.TheVariants as role
use Rattle.zim_static.specs.declared.role.Role.{Role}
use Rattle.zim_static.specs.Scopes.{is_the_objective}
use Rattle.zim_static.specs.Calls.{full_nesting}
use Rattle.zim_static.specs.Faults.{fault_if, first_of_faults, part_of, parts_of_angle, part_of_index, all_faults}

-- the static faults of an expression in a role, under a scope and the names that are bound around it
abbrev pub faults_in : Scope → Role → Names → Expr → List Fault
faults_in scope role names e = (part_of scope e).faults role names

-- the faults of a value without variables
abbrev pub value_faults : Scope → Names → Expr → List Fault
value_faults scope = faults_in scope role.Value

-- the faults of values
abbrev pub values_faults : Scope → Names → List Expr → List Fault
values_faults scope names items = flat_map (value_faults scope names) items

-- the faults of a tuple
abbrev pub tuple_faults : Scope → Names → Angle → List Fault
tuple_faults scope names tuple = all_faults role.Value names (parts_of_angle scope tuple)

-- the faults of an index
abbrev pub statement_index_faults : Scope → Names → Index → List Fault
statement_index_faults scope names index = (part_of_index scope index).faults role.Value names

-- the names that are bound behind an index
abbrev pub index_names : Scope → Names → Index → Names
index_names scope names index = (part_of_index scope index).names names

-- the faults of the operand of a word, if there is one
abbrev pub operand_faults : Scope → Names → Option (Place × Expr) → List Fault
operand_faults scope names None = []
operand_faults scope names (Some x) = value_faults scope names x.1

-- the faults of the options of a `read`
abbrev pub options_faults : Scope → Names → List (Place × Word × Expr) → List Fault
options_faults scope names options = flat_map (λ (x : Place × Word × Expr). value_faults scope names x.2) options

-- the faults of a `read`
abbrev pub reading_faults : Scope → Names → Reading → List Fault
reading_faults scope names r = value_faults scope names r.file ++ value_faults scope names r.template ++ options_faults scope names r.options

-- the faults of an index and of what is listed behind it
abbrev pub entry_faults : Scope → Names → Angle × Expr → List Fault
entry_faults scope names entry = tuple_faults scope names entry.0 ++ value_faults scope names entry.1

-- the faults of indices and of what is listed behind each
abbrev pub entries_faults : Scope → Names → List (Angle × Expr) → List Fault
entries_faults scope names entries = flat_map (entry_faults scope names) entries

-- the faults of a row of a table
abbrev pub row_faults : Scope → Names → List Expr × List Expr → List Fault
row_faults scope names row = values_faults scope names row.0 ++ values_faults scope names row.1

-- the faults of rows
abbrev pub rows_faults : Scope → Names → List (List Expr × List Expr) → List Fault
rows_faults scope names rows = flat_map (row_faults scope names) rows

-- the faults of a table
abbrev pub table_faults : Scope → Names → Table → List Fault
table_faults scope names table = values_faults scope names table.head ++ rows_faults scope names table.rows

-- the faults of the brackets behind a declared name
abbrev pub brackets_faults : Scope → Option Bracket → List Fault
brackets_faults scope None = []
brackets_faults scope (Some Empty) = []
brackets_faults scope (Some (Loop index)) = statement_index_faults scope [] index
brackets_faults scope (Some (Over set)) = value_faults scope [] set

-- the names that are bound behind them
abbrev pub brackets_names : Scope → Option Bracket → Names
brackets_names scope (Some (Loop index)) = index_names scope [] index
brackets_names scope _ = []

-- the faults of the right side of a set
abbrev pub set_faults : Scope → Names → SetSide → List Fault
set_faults scope names (set_side.Value value) = value_faults scope names value
set_faults scope names (set_side.Read reading) = reading_faults scope names reading
set_faults scope names (set_side.Entries entries) = entries_faults scope names entries

-- the faults of the right side of a parameter
abbrev pub param_faults : Scope → Names → ParSide → List Fault
param_faults scope names (par_side.Value value) = value_faults scope names value
param_faults scope names (par_side.Read reading default) = reading_faults scope names reading ++ operand_faults scope names default
param_faults scope names (par_side.Entries entries default) = entries_faults scope names entries ++ operand_faults scope names default
param_faults scope names (par_side.Table table default) = table_faults scope names table ++ operand_faults scope names default
param_faults scope names (par_side.Default place default) = value_faults scope names default

-- the faults of a bound of a variable
abbrev pub limit_faults : Scope → Names → Limit → List Fault
limit_faults scope names limit = faults_in scope role.Bound names limit.side

-- the faults of the bounds of a variable
abbrev pub limits_faults : Scope → Names → List Limit → List Fault
limits_faults scope names limits = flat_map (limit_faults scope names) limits

-- a parameter of a function that is declared, or stands among those before it
unfoldable pub parameters_faults : Scope → Names → List (Place × Text) → List Fault
parameters_faults scope before [] = []
parameters_faults scope before ((place, name) ∷ others) =
    fault_if (is_some (kind_of_name scope name) || is_local before name) Redeclared place ++ parameters_faults scope (before ++ name ∷ []) others

-- the faults of one thing that is printed
abbrev pub printed_faults : Scope → Names → Printed → List Fault
printed_faults scope names (Value value) = value_faults scope names value
printed_faults scope names (Tuple tuple) = tuple_faults scope names tuple

-- the faults of what is printed, one behind the other
abbrev pub all_printed_faults : Scope → Names → List Printed → List Fault
all_printed_faults scope names items = flat_map (printed_faults scope names) items

-- the faults of what a `do` does, where it is known of what it does for each choice
abbrev pub faults_in_doing : Scope → Doing-F (Names → List Fault) → Names → List Fault
faults_in_doing scope (Doing-F.Print place items) names = all_printed_faults scope names items
faults_in_doing scope (Doing-F.Check place test) names = value_faults scope names test
faults_in_doing scope (Doing-F.Forall place index with_do inside) names = statement_index_faults scope names index ++ inside (index_names scope names index)

-- the faults of what a `do` does
abbrev pub doing_faults : Scope → Doing → Names → List Fault
doing_faults scope = fold-Doing (Names → List Fault) (faults_in_doing scope)

-- a name is declared again, or a second objective is declared
abbrev pub is_declared_again : Scope → Text → Shape → Bool
is_declared_again scope name (Goal maximize objective) = is_some (kind_of_name scope name) || list_any is_the_objective (map (λ entry. entry.1) scope)
is_declared_again scope name (Do doing) = false
is_declared_again scope name _ = is_some (kind_of_name scope name)

-- the faults of what stands behind a statement's name
abbrev pub shape_faults : Scope → Shape → List Fault
shape_faults scope (Set brackets side) = brackets_faults scope brackets ++ set_faults scope (brackets_names scope brackets) side
shape_faults scope (Param brackets side) = brackets_faults scope brackets ++ param_faults scope (brackets_names scope brackets) side
shape_faults scope (Var brackets kind limits priority startval) =
    brackets_faults scope brackets ++ limits_faults scope (brackets_names scope brackets) limits
    ++ operand_faults scope (brackets_names scope brackets) priority ++ operand_faults scope (brackets_names scope brackets) startval
shape_faults scope (Goal maximize objective) = faults_in scope role.Term [] objective
shape_faults scope (Subto constraint) = faults_in scope role.Constraint [] constraint
shape_faults scope (Define result parameters body) = parameters_faults scope [] parameters ++ value_faults scope (map (λ x. x.1) parameters) body
shape_faults scope (Do doing) = doing_faults scope doing []

-- the faults of a statement, in the order of the tokens
abbrev pub statement_faults : Scope → Stmt → List Fault
statement_faults scope stmt = fault_if (is_declared_again scope stmt.name stmt.shape) Redeclared stmt.at ++ shape_faults scope stmt.shape

-- the static fault of a statement under the scope of the statements before it
abbrev pub static_fault : Scope → Stmt → Option Fault
static_fault scope stmt =
    if nat_lt 200 (full_nesting scope stmt) then Some (record { place = stmt.first; kind = Deep }) else first_of_faults (statement_faults scope stmt)
