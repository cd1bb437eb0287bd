-- Which typed statement is made of a statement. It is said of every statement, also of one that has a static fault; it belongs to the statement
-- where there is none.
use Rattle.std.specs.Prelude.{List, [], map, Option, Some, option_map}
use Rattle.zim_fault.specs.declared.faults.Place.{Place}
use Rattle.zim_fault.specs.declared.words.Word.{Word}
use Rattle.zim_tree.specs.declared.expr.Expr.{Expr}
use Rattle.zim_tree.specs.declared.expr.Angle.{Angle}
use Rattle.zim_tree.specs.declared.stmt.Stmt.{Stmt}
use Rattle.zim_tree.specs.declared.stmt.Shape.{Shape}
use Rattle.zim_tree.specs.declared.stmt.Shape.TheVariants as tree_shape
use Rattle.zim_tree.specs.declared.stmt.Bracket.{Bracket}
use Rattle.zim_tree.specs.declared.stmt.Bracket.TheVariants as tree_bracket
use Rattle.zim_tree.specs.declared.stmt.SetSide.{SetSide}
use Rattle.zim_tree.specs.declared.stmt.SetSide.TheVariants as tree_set
use Rattle.zim_tree.specs.declared.stmt.ParSide.{ParSide}
use Rattle.zim_tree.specs.declared.stmt.ParSide.TheVariants as tree_param
use Rattle.zim_tree.specs.declared.stmt.Table.{Table}
use Rattle.zim_tree.specs.declared.stmt.Limit.{Limit}
use Rattle.zim_tree.specs.declared.stmt.Reading.{Reading}
use Rattle.zim_tree.specs.declared.stmt.Doing.{Doing, Doing-F, fold-Doing}
use Rattle.zim_tree.specs.declared.stmt.Printed.{Printed}
use Rattle.zim_tree.specs.declared.stmt.Printed.TheVariants as tree_printed
use Rattle.zim_typed.specs.declared.constant.Const.{Const}
use Rattle.zim_typed.specs.declared.constant.TAngle.{TAngle}
use Rattle.zim_typed.specs.declared.statement.TStmt.{TStmt}
use Rattle.zim_typed.specs.declared.statement.TShape.{TShape}
use Rattle.zim_typed.specs.declared.statement.TShape.TheVariants as shape
use Rattle.zim_typed.specs.declared.statement.TBracket.{TBracket}
use Rattle.zim_typed.specs.declared.statement.TBracket.TheVariants as bracket
use Rattle.zim_typed.specs.declared.statement.TSetSide.{TSetSide}
use Rattle.zim_typed.specs.declared.statement.TSetSide.TheVariants as set_side
use Rattle.zim_typed.specs.declared.statement.TParSide.{TParSide}
use Rattle.zim_typed.specs.declared.statement.TParSide.TheVariants as par_side
use Rattle.zim_typed.specs.declared.statement.TTable.{TTable}
use Rattle.zim_typed.specs.declared.statement.TLimit.{TLimit}
use Rattle.zim_typed.specs.declared.statement.TReading.{TReading}
use Rattle.zim_typed.specs.declared.statement.TDoing.{TDoing}
use Rattle.zim_typed.specs.declared.statement.TDoing.TheVariants as doing
use Rattle.zim_typed.specs.declared.statement.TPrinted.{TPrinted}
use Rattle.zim_typed.specs.declared.statement.TPrinted.TheVariants as printed
use Rattle.zim_typed.specs.Scope.{Text, Names, Scope}
use Rattle.zim_typing.specs.Typing.{typed_const, typed_consts, typed_tuple, typed_index, some_term, typed_con, names_inside}

-- the operand of a word, if there is one
abbrev pub typed_given : Scope → Names → Option (Place × Expr) → Option (Place × Const)
typed_given scope names given = option_map (λ (x : Place × Expr). (x.0, typed_const scope names x.1)) given

-- the options of a `read`
abbrev pub typed_options : Scope → Names → List (Place × Word × Expr) → List (Place × Word × Const)
typed_options scope names options = map (λ (x : Place × Word × Expr). (x.0, x.1, typed_const scope names x.2)) options

-- a `read`
abbrev pub typed_reading : Scope → Names → Reading → TReading
typed_reading scope names r = record { place = r.place; file = typed_const scope names r.file; template = typed_const scope names r.template; options = typed_options scope names r.options }

-- indices with what is listed behind each
abbrev pub typed_entries : Scope → Names → List (Angle × Expr) → List (TAngle × Const)
typed_entries scope names entries = map (λ (x : Angle × Expr). (typed_tuple scope names x.0, typed_const scope names x.1)) entries

-- the rows of a table
abbrev pub typed_rows : Scope → Names → List (List Expr × List Expr) → List (List Const × List Const)
typed_rows scope names rows = map (λ (x : List Expr × List Expr). (typed_consts scope names x.0, typed_consts scope names x.1)) rows

-- a table
abbrev pub typed_table : Scope → Names → Table → TTable
typed_table scope names table = record { head = typed_consts scope names table.head; rows = typed_rows scope names table.rows }

-- the brackets behind a declared name
abbrev pub typed_bracket : Scope → Bracket → TBracket
typed_bracket scope tree_bracket.Empty = bracket.Empty
typed_bracket scope (tree_bracket.Loop index) = bracket.Loop (typed_index scope [] index)
typed_bracket scope (tree_bracket.Over set) = bracket.Over (typed_const scope [] set)

-- the names that are bound behind them, if there are any
abbrev pub names_behind_brackets : Scope → Option Bracket → Names
names_behind_brackets scope (Some (tree_bracket.Loop index)) = names_inside scope [] index
names_behind_brackets scope _ = []

-- the right side of a set
abbrev pub typed_set : Scope → Names → SetSide → TSetSide
typed_set scope names (tree_set.Value value) = set_side.Value (typed_const scope names value)
typed_set scope names (tree_set.Read reading) = set_side.Read (typed_reading scope names reading)
typed_set scope names (tree_set.Entries entries) = set_side.Entries (typed_entries scope names entries)

-- the right side of a parameter
abbrev pub typed_param : Scope → Names → ParSide → TParSide
typed_param scope names (tree_param.Value value) = par_side.Value (typed_const scope names value)
typed_param scope names (tree_param.Read reading default) = par_side.Read (typed_reading scope names reading) (typed_given scope names default)
typed_param scope names (tree_param.Entries entries default) = par_side.Entries (typed_entries scope names entries) (typed_given scope names default)
typed_param scope names (tree_param.Table table default) = par_side.Table (typed_table scope names table) (typed_given scope names default)
typed_param scope names (tree_param.Default place default) = par_side.Default place (typed_const scope names default)

-- a bound of a variable
abbrev pub typed_limit : Scope → Names → Limit → TLimit
typed_limit scope names limit = record { place = limit.place; lower = limit.lower; side = typed_const scope names limit.side }

-- one thing that is printed
abbrev pub typed_printed : Scope → Names → Printed → TPrinted
typed_printed scope names (tree_printed.Value value) = printed.Value (typed_const scope names value)
typed_printed scope names (tree_printed.Tuple tuple) = printed.Tuple (typed_tuple scope names tuple)

-- what a `do` does, where it is known of what it does for each choice
abbrev pub typed_doing_of : Scope → Doing-F (Names → TDoing) → Names → TDoing
typed_doing_of scope (Doing-F.Print place items) names = doing.Print place (map (typed_printed scope names) items)
typed_doing_of scope (Doing-F.Check place test) names = doing.Check place (typed_const scope names test)
typed_doing_of scope (Doing-F.Forall place index with_do inside) names = doing.Forall place (typed_index scope names index) with_do (inside (names_inside scope names index))

-- what a `do` does
unfoldable pub typed_doing : Scope → Names → Doing → TDoing
typed_doing scope names tree = fold-Doing (Names → TDoing) (typed_doing_of scope) tree names

-- what stands behind a statement's name
abbrev pub typed_shape : Scope → Shape → TShape
typed_shape scope (tree_shape.Set brackets side) = shape.Set (option_map (typed_bracket scope) brackets) (typed_set scope (names_behind_brackets scope brackets) side)
typed_shape scope (tree_shape.Param brackets side) = shape.Param (option_map (typed_bracket scope) brackets) (typed_param scope (names_behind_brackets scope brackets) side)
typed_shape scope (tree_shape.Var brackets kind limits priority startval) =
    shape.Var (option_map (typed_bracket scope) brackets) kind (map (typed_limit scope (names_behind_brackets scope brackets)) limits) (typed_given scope (names_behind_brackets scope brackets) priority)
    (typed_given scope (names_behind_brackets scope brackets) startval)
typed_shape scope (tree_shape.Goal maximize objective) = shape.Goal maximize (some_term scope [] objective)
typed_shape scope (tree_shape.Subto constraint) = shape.Subto (typed_con scope [] constraint)
typed_shape scope (tree_shape.Define word parameters inside) = shape.Define word parameters (typed_const scope (map (λ (x : Place × Text). x.1) parameters) inside)
typed_shape scope (tree_shape.Do inside) = shape.Do (typed_doing scope [] inside)

-- the typed statement that is made of a statement under the scope of the statements before it
abbrev pub typed_statement : Scope → Stmt → TStmt
typed_statement scope stmt = record { first = stmt.first; at = stmt.at; name = stmt.name; shape = typed_shape scope stmt.shape }
