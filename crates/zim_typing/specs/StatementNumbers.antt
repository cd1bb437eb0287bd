-- Whether the numbers in a statement are number tokens, as they are in each statement that is read from a text.
use Rattle.std.specs.Prelude.{List, Bool, true, ◌&&◌, Option, Some, None}
use Rattle.std.specs.List.{list_all}
use Rattle.zim_fault.specs.declared.faults.Place.{Place}
use Rattle.zim_fault.specs.declared.words.Word.{Word}
use Rattle.zim_tree.specs.declared.expr.Expr.{Expr}
use Rattle.zim_tree.specs.declared.expr.Angle.{Angle}
use Rattle.zim_tree.specs.declared.stmt.Stmt.{Stmt}
use Rattle.zim_tree.specs.declared.stmt.Shape.{Shape}
use Rattle.zim_tree.specs.declared.stmt.Shape.TheVariants.{Set, Param, Var, Goal, Subto, Define, Do}
use Rattle.zim_tree.specs.declared.stmt.Bracket.{Bracket}
use Rattle.zim_tree.specs.declared.stmt.Bracket.TheVariants.{Empty, Loop, Over}
use Rattle.zim_tree.specs.declared.stmt.SetSide.{SetSide}
use Rattle.zim_tree.specs.declared.stmt.SetSide.TheVariants as set_side
use Rattle.zim_tree.specs.declared.stmt.ParSide.{ParSide}
use Rattle.zim_tree.specs.declared.stmt.ParSide.TheVariants as par_side
use Rattle.zim_tree.specs.declared.stmt.Table.{Table}
use Rattle.zim_tree.specs.declared.stmt.Limit.{Limit}
use Rattle.zim_tree.specs.declared.stmt.Reading.{Reading}
use Rattle.zim_tree.specs.declared.stmt.Doing.{Doing, Doing-F, fold-Doing}
use Rattle.zim_tree.specs.declared.stmt.Printed.{Printed}
use Rattle.zim_tree.specs.declared.stmt.Printed.TheVariants.{Value, Tuple}
use Rattle.zim_typing.specs.Numbers.{numbers_kept, tuple_numbers_kept, index_numbers_kept}

-- those in the operand of a word, if there is one
abbrev pub numbers_in_given : Option (Place × Expr) → Bool
numbers_in_given None = true
numbers_in_given (Some x) = numbers_kept x.1

-- those in the options of a `read`
abbrev pub numbers_in_options : List (Place × Word × Expr) → Bool
numbers_in_options = list_all (λ x. numbers_kept x.2)

-- those in a `read`
abbrev pub numbers_in_reading : Reading → Bool
numbers_in_reading r = numbers_kept r.file && (numbers_kept r.template && numbers_in_options r.options)

-- those in indices and in what is listed behind each
abbrev pub numbers_in_entries : List (Angle × Expr) → Bool
numbers_in_entries = list_all (λ x. tuple_numbers_kept x.0 && numbers_kept x.1)

-- those in rows of a table
abbrev pub numbers_in_rows : List (List Expr × List Expr) → Bool
numbers_in_rows = list_all (λ x. list_all numbers_kept x.0 && list_all numbers_kept x.1)

-- those in a table
abbrev pub numbers_in_table : Table → Bool
numbers_in_table table = list_all numbers_kept table.head && numbers_in_rows table.rows

-- those in the brackets behind a declared name
abbrev pub numbers_in_brackets : Option Bracket → Bool
numbers_in_brackets None = true
numbers_in_brackets (Some Empty) = true
numbers_in_brackets (Some (Loop index)) = index_numbers_kept index
numbers_in_brackets (Some (Over set)) = numbers_kept set

-- those in the right side of a set
abbrev pub numbers_in_set : SetSide → Bool
numbers_in_set (set_side.Value value) = numbers_kept value
numbers_in_set (set_side.Read reading) = numbers_in_reading reading
numbers_in_set (set_side.Entries entries) = numbers_in_entries entries

-- those in the right side of a parameter
abbrev pub numbers_in_param : ParSide → Bool
numbers_in_param (par_side.Value value) = numbers_kept value
numbers_in_param (par_side.Read reading default) = numbers_in_reading reading && numbers_in_given default
numbers_in_param (par_side.Entries entries default) = numbers_in_entries entries && numbers_in_given default
numbers_in_param (par_side.Table table default) = numbers_in_table table && numbers_in_given default
numbers_in_param (par_side.Default place default) = numbers_kept default

-- those in the bounds of a variable
abbrev pub numbers_in_limits : List Limit → Bool
numbers_in_limits = list_all (λ (limit : Limit). numbers_kept limit.side)

-- those in one thing that is printed
abbrev pub numbers_in_printed : Printed → Bool
numbers_in_printed (Value value) = numbers_kept value
numbers_in_printed (Tuple tuple) = tuple_numbers_kept tuple

-- those in what a `do` does, where it is known of what it does for each choice
abbrev pub numbers_in_doing : Doing-F Bool → Bool
numbers_in_doing (Doing-F.Print place items) = list_all numbers_in_printed items
numbers_in_doing (Doing-F.Check place test) = numbers_kept test
numbers_in_doing (Doing-F.Forall place index with_do inside) = index_numbers_kept index && inside

-- those in what a `do` does
unfoldable pub doing_numbers_kept : Doing → Bool
doing_numbers_kept = fold-Doing Bool numbers_in_doing

-- those in what a statement says of its name
abbrev pub numbers_in_shape : Shape → Bool
numbers_in_shape (Set brackets side) = numbers_in_brackets brackets && numbers_in_set side
numbers_in_shape (Param brackets side) = numbers_in_brackets brackets && numbers_in_param side
numbers_in_shape (Var brackets kind limits priority startval) = numbers_in_brackets brackets && (numbers_in_limits limits && (numbers_in_given priority && numbers_in_given startval))
numbers_in_shape (Goal maximize objective) = numbers_kept objective
numbers_in_shape (Subto constraint) = numbers_kept constraint
numbers_in_shape (Define _ parameters inside) = numbers_kept inside
numbers_in_shape (Do inside) = doing_numbers_kept inside

-- whether the numbers in a statement are number tokens
abbrev pub statement_numbers_kept : Stmt → Bool
statement_numbers_kept stmt = numbers_in_shape stmt.shape
