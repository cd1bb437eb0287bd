-- A statement with its places mapped by any function, and a statement without its places. Two statements differ at most
-- in their places where the latter are equal.
use Rattle.std.specs.Prelude.{ℕ, List, map, option_map}
use Rattle.zim_fault.specs.declared.faults.Place.{Place}
use Rattle.zim_fault.specs.declared.words.Word.{Word}
use Rattle.zim_tree.specs.declared.expr.Expr.{Expr}
use Rattle.zim_tree.specs.declared.expr.Angle.{Angle}
use Rattle.zim_tree.specs.declared.stmt.Stmt.{Stmt}
use Rattle.zim_tree.specs.declared.stmt.Shape.{Shape}
use Rattle.zim_tree.specs.declared.stmt.Shape.TheVariants as shape
use Rattle.zim_tree.specs.declared.stmt.Bracket.{Bracket}
use Rattle.zim_tree.specs.declared.stmt.Bracket.TheVariants as bracket
use Rattle.zim_tree.specs.declared.stmt.SetSide.{SetSide}
use Rattle.zim_tree.specs.declared.stmt.SetSide.TheVariants as set_side
use Rattle.zim_tree.specs.declared.stmt.ParSide.{ParSide}
use Rattle.zim_tree.specs.declared.stmt.ParSide.TheVariants as par_side
use Rattle.zim_tree.specs.declared.stmt.Table.{Table}
use Rattle.zim_tree.specs.declared.stmt.Limit.{Limit}
use Rattle.zim_tree.specs.declared.stmt.Reading.{Reading}
use Rattle.zim_tree.specs.declared.stmt.Doing.{Doing, Doing-F, fold-Doing}
use Rattle.zim_tree.specs.declared.stmt.Doing.TheVariants as doing
use Rattle.zim_tree.specs.declared.stmt.Printed.{Printed}
use Rattle.zim_tree.specs.declared.stmt.Printed.TheVariants as printed
use Rattle.zim_tree.specs.Plain.{replaced, replaced_angle, replaced_index, to_nowhere}

-- brackets
abbrev pub replaced_bracket : (Place → Place) → Bracket → Bracket
replaced_bracket put bracket.Empty = bracket.Empty
replaced_bracket put (bracket.Loop index) = bracket.Loop (replaced_index put index)
replaced_bracket put (bracket.Over over) = bracket.Over (replaced put over)

-- an operand behind a word
abbrev pub replaced_given : (Place → Place) → Place × Expr → Place × Expr
replaced_given put x = (put x.0, replaced put x.1)

-- an option of `read`
abbrev pub replaced_option : (Place → Place) → Place × Word × Expr → Place × Word × Expr
replaced_option put x = (put x.0, x.1, replaced put x.2)

-- a `read`
abbrev pub replaced_reading : (Place → Place) → Reading → Reading
replaced_reading put r = record { place = put r.place; file = replaced put r.file; template = replaced put r.template; options = map (replaced_option put) r.options }

-- an entry
abbrev pub replaced_entry : (Place → Place) → Angle × Expr → Angle × Expr
replaced_entry put x = (replaced_angle put x.0, replaced put x.1)

-- a row of a table
abbrev pub replaced_row : (Place → Place) → List Expr × List Expr → List Expr × List Expr
replaced_row put x = (map (replaced put) x.0, map (replaced put) x.1)

-- a table
abbrev pub replaced_table : (Place → Place) → Table → Table
replaced_table put t = record { head = map (replaced put) t.head; rows = map (replaced_row put) t.rows }

-- the right side of a set
abbrev pub replaced_set_side : (Place → Place) → SetSide → SetSide
replaced_set_side put (set_side.Value value) = set_side.Value (replaced put value)
replaced_set_side put (set_side.Read reading) = set_side.Read (replaced_reading put reading)
replaced_set_side put (set_side.Entries entries) = set_side.Entries (map (replaced_entry put) entries)

-- the right side of a parameter
abbrev pub replaced_par_side : (Place → Place) → ParSide → ParSide
replaced_par_side put (par_side.Value value) = par_side.Value (replaced put value)
replaced_par_side put (par_side.Read reading default) = par_side.Read (replaced_reading put reading) (option_map (replaced_given put) default)
replaced_par_side put (par_side.Entries entries default) = par_side.Entries (map (replaced_entry put) entries) (option_map (replaced_given put) default)
replaced_par_side put (par_side.Table table default) = par_side.Table (replaced_table put table) (option_map (replaced_given put) default)
replaced_par_side put (par_side.Default place value) = par_side.Default (put place) (replaced put value)

-- a bound
abbrev pub replaced_limit : (Place → Place) → Limit → Limit
replaced_limit put l = record { place = put l.place; lower = l.lower; side = replaced put l.side }

-- something that is printed
abbrev pub replaced_printed : (Place → Place) → Printed → Printed
replaced_printed put (printed.Value value) = printed.Value (replaced put value)
replaced_printed put (printed.Tuple tuple) = printed.Tuple (replaced_angle put tuple)

-- what a `do` does, where the places of what it does for each choice are mapped already
abbrev pub with_doing_places : (Place → Place) → Doing-F Doing → Doing
with_doing_places put (Doing-F.Print place items) = doing.Print (put place) (map (replaced_printed put) items)
with_doing_places put (Doing-F.Check place test) = doing.Check (put place) (replaced put test)
with_doing_places put (Doing-F.Forall place index with_do inside) = doing.Forall (put place) (replaced_index put index) with_do inside

-- what a `do` does
abbrev pub replaced_doing : (Place → Place) → Doing → Doing
replaced_doing put = fold-Doing Doing (with_doing_places put)

-- a parameter of a function
abbrev pub replaced_parameter : (Place → Place) → Place × List ℕ → Place × List ℕ
replaced_parameter put x = (put x.0, x.1)

-- what a statement says of its name
abbrev pub replaced_shape : (Place → Place) → Shape → Shape
replaced_shape put (shape.Set brackets side) = shape.Set (option_map (replaced_bracket put) brackets) (replaced_set_side put side)
replaced_shape put (shape.Param brackets side) = shape.Param (option_map (replaced_bracket put) brackets) (replaced_par_side put side)
replaced_shape put (shape.Var brackets kind limits priority startval) =
    shape.Var (option_map (replaced_bracket put) brackets) kind (map (replaced_limit put) limits) (option_map (replaced_given put) priority) (option_map (replaced_given put) startval)
replaced_shape put (shape.Goal maximize objective) = shape.Goal maximize (replaced put objective)
replaced_shape put (shape.Subto constraint) = shape.Subto (replaced put constraint)
replaced_shape put (shape.Define before parameters inside) = shape.Define before (map (replaced_parameter put) parameters) (replaced put inside)
replaced_shape put (shape.Do inside) = shape.Do (replaced_doing put inside)

-- a statement
abbrev pub replaced_statement : (Place → Place) → Stmt → Stmt
replaced_statement put s = record { first = put s.first; at = put s.at; name = s.name; shape = replaced_shape put s.shape }

-- a statement without its places
abbrev pub plain_statement : Stmt → Stmt
plain_statement = replaced_statement to_nowhere
