-- How each statement is spelled.
use Rattle.std.specs.Prelude.{ℕ, List, [], ◌∷◌, ◌++◌, map, Option, Some, None, if◌then◌else◌}
use Rattle.std.specs.List.{flat_map}
use Rattle.zim_fault.specs.declared.faults.Place.{Place}
use Rattle.zim_fault.specs.declared.tokens.Token.TheVariants.{Name as name_token, Word as word_token, Sign as sign_token}
use Rattle.zim_fault.specs.declared.signs.Sign.TheVariants.{SSemicolon, SColon, SLeftParen, SRightParen, SLeftBracket, SRightBracket, SLeftBrace, SRightBrace, SLessEqual, SGreaterEqual, SAssign, SBar}
use Rattle.zim_fault.specs.declared.words.Word.{Word}
use Rattle.zim_fault.specs.declared.words.Word.TheVariants.{WSet, WParam, WVar, WMinimize, WMaximize, WSubto, WDo, WPrint, WCheck, WForall, WRead, WAs, WDefault, WPriority, WStartval}
use Rattle.zim_tree.specs.declared.expr.Expr.{Expr}
use Rattle.zim_tree.specs.declared.expr.Angle.{Angle}
use Rattle.zim_tree.specs.declared.stmt.Stmt.{Stmt}
use Rattle.zim_tree.specs.declared.stmt.Shape.{Shape}
use Rattle.zim_tree.specs.declared.stmt.Shape.TheVariants.{Set, Param, Var, Goal, Subto, Define, Do}
use Rattle.zim_tree.specs.declared.stmt.Bracket.{Bracket}
use Rattle.zim_tree.specs.declared.stmt.Bracket.TheVariants.{Empty, Loop, Over}
use Rattle.zim_tree.specs.declared.stmt.SetSide.{SetSide}
use Rattle.zim_tree.specs.declared.stmt.SetSide.TheVariants as set_side
use Rattle.zim_tree.specs.declared.stmt.ParSide.{ParSide}
use Rattle.zim_tree.specs.declared.stmt.ParSide.TheVariants as par_side
use Rattle.zim_tree.specs.declared.stmt.Table.{Table}
use Rattle.zim_tree.specs.declared.stmt.Limit.{Limit}
use Rattle.zim_tree.specs.declared.stmt.Reading.{Reading}
use Rattle.zim_tree.specs.declared.stmt.Doing.{Doing, Doing-F, fold-Doing}
use Rattle.zim_tree.specs.declared.stmt.Printed.{Printed}
use Rattle.zim_tree.specs.declared.stmt.Printed.TheVariants.{Value, Tuple}
use Rattle.zim_tree.specs.Spelling.{Tokens, a_word, a_sign, with_commas, separator, spelling, angle_spelling, index_spelling}

-- what stands in brackets, with the brackets
abbrev pub bracket_spelling : Bracket → Tokens
bracket_spelling Empty = a_sign SLeftBracket ++ a_sign SRightBracket
bracket_spelling (Loop index) = a_sign SLeftBracket ++ (index_spelling index ++ a_sign SRightBracket)
bracket_spelling (Over set) = a_sign SLeftBracket ++ (spelling set ++ a_sign SRightBracket)

-- the brackets, if there are any
abbrev pub brackets_spelling : Option Bracket → Tokens
brackets_spelling None = []
brackets_spelling (Some bracket) = bracket_spelling bracket

-- an option of a `read`, and its operand
abbrev pub option_spelling : Place × Word × Expr → Tokens
option_spelling x = word_token x.1 ∷ spelling x.2

-- a `read` with its options
abbrev pub reading_spelling : Reading → Tokens
reading_spelling r = a_word WRead ++ (spelling r.file ++ (a_word WAs ++ (spelling r.template ++ flat_map option_spelling r.options)))

-- an index and what belongs to it
abbrev pub entry_spelling : Angle × Expr → Tokens
entry_spelling entry = angle_spelling entry.0 ++ spelling entry.1

-- entries with commas between them
abbrev pub entries_spelling : List (Angle × Expr) → Tokens
entries_spelling entries = with_commas (map entry_spelling entries)

-- expressions between two bars
abbrev pub barred : List Expr → Tokens
barred items = a_sign SBar ++ (with_commas (map spelling items) ++ a_sign SBar)

-- a row of a table: its items between bars, its values and a last bar
abbrev pub row_spelling : List Expr × List Expr → Tokens
row_spelling row = barred row.0 ++ (with_commas (map spelling row.1) ++ a_sign SBar)

-- a table: its head between bars, and its rows
abbrev pub table_spelling : Table → Tokens
table_spelling table = barred table.head ++ flat_map row_spelling table.rows

-- a word and an operand, if there is one
abbrev pub given_spelling : Word → Option (Place × Expr) → Tokens
given_spelling before None = []
given_spelling before (Some x) = word_token before ∷ spelling x.1

-- the right side of a set
abbrev pub set_side_spelling : SetSide → Tokens
set_side_spelling (set_side.Value value) = spelling value
set_side_spelling (set_side.Read reading) = a_sign SLeftBrace ++ (reading_spelling reading ++ a_sign SRightBrace)
set_side_spelling (set_side.Entries entries) = entries_spelling entries

-- the right side of a parameter
abbrev pub par_side_spelling : ParSide → Tokens
par_side_spelling (par_side.Value value) = spelling value
par_side_spelling (par_side.Read reading default) = reading_spelling reading ++ given_spelling WDefault default
par_side_spelling (par_side.Entries entries default) = entries_spelling entries ++ given_spelling WDefault default
par_side_spelling (par_side.Table table default) = table_spelling table ++ given_spelling WDefault default
par_side_spelling (par_side.Default place default) = word_token WDefault ∷ spelling default

-- a bound of a variable
abbrev pub limit_spelling : Limit → Tokens
limit_spelling limit = sign_token (if limit.lower then SGreaterEqual else SLessEqual) ∷ spelling limit.side

-- the kind of a variable, if it is written
abbrev pub kind_spelling : Option Word → Tokens
kind_spelling None = []
kind_spelling (Some word) = a_word word

-- what a `print` prints
abbrev pub printed_spelling : Printed → Tokens
printed_spelling (Value value) = spelling value
printed_spelling (Tuple tuple) = angle_spelling tuple

-- what a `do` does, where what it does for each choice is spelled already
abbrev pub doing_spelled : Doing-F Tokens → Tokens
doing_spelled (Doing-F.Print place items) = a_word WPrint ++ with_commas (map printed_spelling items)
doing_spelled (Doing-F.Check place test) = a_word WCheck ++ spelling test
doing_spelled (Doing-F.Forall place index with_do body) = a_word WForall ++ (index_spelling index ++ (separator with_do ++ body))

-- what a `do` does
abbrev pub doing_spelling : Doing → Tokens
doing_spelling = fold-Doing Tokens doing_spelled

-- one name
abbrev pub a_name : List ℕ → Tokens
a_name name = name_token name ∷ []

-- a parameter of a function
abbrev pub parameter_spelling : Place × List ℕ → Tokens
parameter_spelling x = a_name x.1

-- a statement of this name and shape, without its `;`
abbrev pub shape_spelling : List ℕ → Shape → Tokens
shape_spelling name (Set brackets side) =
    a_word WSet ++ (a_name name ++ (brackets_spelling brackets ++ (a_sign SAssign ++ set_side_spelling side)))
shape_spelling name (Param brackets side) =
    a_word WParam ++ (a_name name ++ (brackets_spelling brackets ++ (a_sign SAssign ++ par_side_spelling side)))
shape_spelling name (Var brackets kind limits priority startval) =
    a_word WVar ++ (a_name name ++ (brackets_spelling brackets ++ (kind_spelling kind
    ++ (flat_map limit_spelling limits ++ (given_spelling WPriority priority ++ given_spelling WStartval startval)))))
shape_spelling name (Goal maximize objective) =
    a_word (if maximize then WMaximize else WMinimize) ++ (a_name name ++ (a_sign SColon ++ spelling objective))
shape_spelling name (Subto constraint) = a_word WSubto ++ (a_name name ++ (a_sign SColon ++ spelling constraint))
shape_spelling name (Define word parameters body) =
    a_word word ++ (a_name name ++ (a_sign SLeftParen
    ++ (with_commas (map parameter_spelling parameters) ++ (a_sign SRightParen ++ (a_sign SAssign ++ spelling body)))))
shape_spelling name (Do doing) = a_word WDo ++ doing_spelling doing

-- how a statement is spelled
abbrev pub spelled_of : Stmt → Tokens
spelled_of stmt = shape_spelling stmt.name stmt.shape ++ a_sign SSemicolon
