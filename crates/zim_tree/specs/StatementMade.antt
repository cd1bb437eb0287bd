-- A statement that is made of its parts: each part has what its rule names, and each expression in it is made of its parts in turn.
-- Unlike a derivation this does not name the tokens that are read, so a property of all tight statements is shown by recursion on it.
use Rattle.std.specs.Prelude.{ℕ, ◌≡◌, List, [], ◌∷◌, length, Bool, true, Option, Some, None}
use Rattle.zim_fault.specs.declared.faults.Place.{Place}
use Rattle.zim_fault.specs.declared.words.Word.{Word}
use Rattle.zim_tree.specs.declared.expr.Expr.{Expr}
use Rattle.zim_tree.specs.declared.expr.Expr.TheVariants as tree
use Rattle.zim_tree.specs.declared.expr.Angle.{Angle}
use Rattle.zim_tree.specs.declared.expr.Index.{Index}
use Rattle.zim_tree.specs.declared.stmt.Stmt.{Stmt}
use Rattle.zim_tree.specs.declared.stmt.Shape.{Shape}
use Rattle.zim_tree.specs.declared.stmt.Shape.TheVariants as shape
use Rattle.zim_tree.specs.declared.stmt.Bracket.{Bracket}
use Rattle.zim_tree.specs.declared.stmt.Bracket.TheVariants as bracket
use Rattle.zim_tree.specs.declared.stmt.SetSide.{SetSide}
use Rattle.zim_tree.specs.declared.stmt.SetSide.TheVariants as set_side
use Rattle.zim_tree.specs.declared.stmt.ParSide.{ParSide}
use Rattle.zim_tree.specs.declared.stmt.ParSide.TheVariants as par_side
use Rattle.zim_tree.specs.declared.stmt.Table.{Table}
use Rattle.zim_tree.specs.declared.stmt.Limit.{Limit}
use Rattle.zim_tree.specs.declared.stmt.Reading.{Reading}
use Rattle.zim_tree.specs.declared.stmt.Doing.{Doing}
use Rattle.zim_tree.specs.declared.stmt.Doing.TheVariants as doing
use Rattle.zim_tree.specs.declared.stmt.Printed.{Printed}
use Rattle.zim_tree.specs.declared.stmt.Printed.TheVariants as printed
use Rattle.zim_tree.specs.declared.classes.Class.TheVariants as class
use Rattle.zim_tree.specs.Classes.{word_class}
use Rattle.zim_tree.specs.StatementGrammar.{is_option, AtMostOnce, is_kind, LimitsKept, is_definition}
use Rattle.zim_tree.specs.Made.{Made, MadeAll, MadeTuple, MadeIndex}

-- each of these words is an option of `read`, and its operand is made of its parts
pub data MadeOptions : List (Place × Word × Expr) → Type 0 where
  made_no_option : MadeOptions []
  made_one_option : (p : Place) (word : Word) {operand : Expr} {others : List (Place × Word × Expr)} → is_option word ≡ true →
      Made operand → MadeOptions others → MadeOptions ((p, word, operand) ∷ others)

-- a `read` that is made of its parts, each option at most once
pub data MadeReading : Reading → Type 0 where
  made_reading : (p : Place) {file template : Expr} {options : List (Place × Word × Expr)} → AtMostOnce options →
      Made file → Made template → MadeOptions options → MadeReading (record { place = p; file = file; template = template; options = options })

-- each of these tuples, and the expression behind it, is made of its parts
pub data MadeEntries : List (Angle × Expr) → Type 0 where
  made_no_entry : MadeEntries []
  made_one_entry : {tuple : Angle} {given : Expr} {others : List (Angle × Expr)} → MadeTuple tuple → Made given → MadeEntries others →
      MadeEntries ((tuple, given) ∷ others)

-- each of these rows has an item at least and a value for each of so many columns, all made of their parts
pub data MadeRows : ℕ → List (List Expr × List Expr) → Type 0 where
  made_no_row : {columns : ℕ} → MadeRows columns []
  made_one_row : {columns : ℕ} {first : Expr} {others values : List Expr} {rows : List (List Expr × List Expr)} → length values ≡ columns →
      MadeAll (first ∷ others) → MadeAll values → MadeRows columns rows → MadeRows columns ((first ∷ others, values) ∷ rows)

-- a table that has a column and a row at least, and is made of its parts
pub data MadeTable : Table → Type 0 where
  made_table : {first : Expr} {others : List Expr} {row : List Expr × List Expr} {rows : List (List Expr × List Expr)} → MadeAll (first ∷ others) →
      MadeRows (length (first ∷ others)) (row ∷ rows) → MadeTable (record { head = first ∷ others; rows = row ∷ rows })

-- nothing, or the operand of a word, made of its parts
pub data MadeGiven : Option (Place × Expr) → Type 0 where
  made_not_given : MadeGiven None
  made_given : (p : Place) {operand : Expr} → Made operand → MadeGiven (Some (p, operand))

-- nothing, or an index or a set in brackets, made of its parts: so the brackets aren't empty
pub data MadeBrackets : Option Bracket → Type 0 where
  made_no_brackets : MadeBrackets None
  made_loop_brackets : {index : Index} → MadeIndex index → MadeBrackets (Some (bracket.Loop index))
  made_over_brackets : {over : Expr} → Made over → MadeBrackets (Some (bracket.Over over))

-- what a set with these brackets is declared to be, made of its parts: behind empty brackets a call of a family, behind an index a value
-- for each of its choices, and behind a set one listed value at least
pub data MadeSet : Option Bracket → SetSide → Type 0 where
  made_set_value : {value : Expr} → Made value → MadeSet None (set_side.Value value)
  made_set_read : {reading : Reading} → MadeReading reading → MadeSet None (set_side.Read reading)
  made_family : (p : Place) (word : Word) {first : Expr} {others : List Expr} → word_class word ≡ class.Family → MadeAll (first ∷ others) →
      MadeSet (Some bracket.Empty) (set_side.Value (tree.Func p word (first ∷ others)))
  made_set_for_each : {index : Index} {value : Expr} → MadeIndex index → Made value → MadeSet (Some (bracket.Loop index)) (set_side.Value value)
  made_sets_listed : {over : Expr} {entry : Angle × Expr} {entries : List (Angle × Expr)} → Made over → MadeEntries (entry ∷ entries) →
      MadeSet (Some (bracket.Over over)) (set_side.Entries (entry ∷ entries))

-- what a parameter with these brackets is declared to be, made of its parts: brackets aren't empty, and a default stands behind a set alone
pub data MadeParam : Option Bracket → ParSide → Type 0 where
  made_value : {value : Expr} → Made value → MadeParam None (par_side.Value value)
  made_value_read : {reading : Reading} → MadeReading reading → MadeParam None (par_side.Read reading None)
  made_value_for_each : {index : Index} {value : Expr} → MadeIndex index → Made value → MadeParam (Some (bracket.Loop index)) (par_side.Value value)
  made_values_listed : {over : Expr} {entry : Angle × Expr} {entries : List (Angle × Expr)} {default : Option (Place × Expr)} →
      Made over → MadeEntries (entry ∷ entries) → MadeGiven default → MadeParam (Some (bracket.Over over)) (par_side.Entries (entry ∷ entries) default)
  made_values_in_table : {over : Expr} {table : Table} {default : Option (Place × Expr)} → Made over → MadeTable table → MadeGiven default →
      MadeParam (Some (bracket.Over over)) (par_side.Table table default)
  made_values_read : {over : Expr} {reading : Reading} {default : Option (Place × Expr)} → Made over → MadeReading reading → MadeGiven default →
      MadeParam (Some (bracket.Over over)) (par_side.Read reading default)
  made_default : (p : Place) {over value : Expr} → Made over → Made value → MadeParam (Some (bracket.Over over)) (par_side.Default p value)

-- nothing, or the kind of a variable
pub data MadeKind : Option Word → Type 0 where
  made_no_kind : MadeKind None
  made_kind : (word : Word) → is_kind word ≡ true → MadeKind (Some word)

-- the side of each of these bounds is made of its parts
pub data MadeLimits : List Limit → Type 0 where
  made_no_limit : MadeLimits []
  made_one_limit : (p : Place) (lower : Bool) {side : Expr} {others : List Limit} → Made side → MadeLimits others →
      MadeLimits (record { place = p; lower = lower; side = side } ∷ others)

-- each of these things that are printed is made of its parts
pub data MadePrinted : List Printed → Type 0 where
  made_none_printed : MadePrinted []
  made_value_printed : {value : Expr} {others : List Printed} → Made value → MadePrinted others → MadePrinted (printed.Value value ∷ others)
  made_tuple_printed : {tuple : Angle} {others : List Printed} → MadeTuple tuple → MadePrinted others → MadePrinted (printed.Tuple tuple ∷ others)

-- what a `do` does, made of its parts: a `print` prints one thing at least
pub data MadeDoing : Doing → Type 0 where
  made_print : (p : Place) {first : Printed} {others : List Printed} → MadePrinted (first ∷ others) → MadeDoing (doing.Print p (first ∷ others))
  made_check : (p : Place) {test : Expr} → Made test → MadeDoing (doing.Check p test)
  made_for_each : (p : Place) (with_do : Bool) {index : Index} {inside : Doing} → MadeIndex index → MadeDoing inside →
      MadeDoing (doing.Forall p index with_do inside)

-- what a statement declares its name to be, made of its parts: a variable has at most one bound each way, and none where it is binary
pub data MadeDeclaration : Shape → Type 0 where
  made_set : {brackets : Option Bracket} {side : SetSide} → MadeSet brackets side → MadeDeclaration (shape.Set brackets side)
  made_param : {brackets : Option Bracket} {side : ParSide} → MadeParam brackets side → MadeDeclaration (shape.Param brackets side)
  made_var : {brackets : Option Bracket} {kind : Option Word} {limits : List Limit} {priority startval : Option (Place × Expr)} → LimitsKept kind limits →
      MadeBrackets brackets → MadeKind kind → MadeLimits limits → MadeGiven priority → MadeGiven startval →
      MadeDeclaration (shape.Var brackets kind limits priority startval)
  made_goal : (maximize : Bool) {objective : Expr} → Made objective → MadeDeclaration (shape.Goal maximize objective)
  made_subto : {constraint : Expr} → Made constraint → MadeDeclaration (shape.Subto constraint)
  made_definition : (word : Word) (parameters : List (Place × List ℕ)) {inside : Expr} → is_definition word ≡ true →
      Made inside → MadeDeclaration (shape.Define word parameters inside)

-- a statement that is made of its parts: a `do` has the empty name, which stands at its first token
pub data MadeStatement : Stmt → Type 0 where
  made_declaration : (p q : Place) (name : List ℕ) {what : Shape} → MadeDeclaration what →
      MadeStatement (record { first = p; at = q; name = name; shape = what })
  made_do : (p : Place) {inside : Doing} → MadeDoing inside → MadeStatement (record { first = p; at = p; name = []; shape = shape.Do inside })
