-- The parts of the rules of statements that have a function of their own.
use Rattle.std.specs.Prelude.{ℕ, suc, List, [], ◌∷◌, length, count_by, Bool, false, not, ◌&&◌, Option, Some, None, nat_le, nat_eq, if◌then◌else◌}
use Rattle.zim_fault.specs.declared.faults.Place.{Place}
use Rattle.zim_fault.specs.declared.words.Word.{Word}
use Rattle.zim_fault.specs.declared.words.Word.TheVariants as word
use Rattle.zim_tree.specs.declared.expr.Expr.{Expr}
use Rattle.zim_tree.specs.declared.stmt.Stmt.{Stmt}
use Rattle.zim_tree.specs.declared.stmt.Limit.{Limit}
use Rattle.zim_tree.specs.declared.stmt.Doing.{Doing}
use Rattle.zim_tree.specs.declared.stmt.Reading.{Reading}
use Rattle.zim_tree.specs.declared.stmt.Table.{Table}
use Rattle.zim_tree.specs.StatementGrammar.{is_skip, is_use, is_comment}
use Rattle.zim_tree.specs.declared.stmt.Shape.{Shape}
use Rattle.zim_tree.specs.declared.stmt.Shape.TheVariants as shape
use Rattle.zim_tree.specs.declared.stmt.ParSide.{ParSide}
use Rattle.zim_tree.specs.declared.stmt.SetSide.{SetSide}
use Rattle.zim_tree.specs.declared.stmt.SetSide.TheVariants as set_side
use Rattle.zim_tree.specs.declared.stmt.Printed.{Printed}
use Rattle.zim_tree.specs.declared.stmt.Printed.TheVariants as printed
use Rattle.zim_tree.specs.Levels.{unary, sum, disjunction, whole}
use Rattle.zim_tree.specs.declared.stmt.Bracket.{Bracket}
use Rattle.zim_tree.specs.declared.stmt.Bracket.TheVariants as bracket
use Rattle.zim_parse_expression.specs.Next.{is_in, start_of}
use Rattle.zim_parse_expression.specs.Outcome.{is_less_start}
use Rattle.zim_parse_expression.specs.Parser.{Parser, Inner, and_then, expect, items_of, tuple_of, index_from}
use Rattle.zim_parse_expression.specs.StatementTokens.{expect_token, is_priority, is_startval, is_assign, is_colon, is_bar, is_read, is_default, sees, begins_read}
use Rattle.zim_parse.specs.StatementParser.{options_of, each_once, table_rows, given_of, limits_kept, set_read, set_value, entry_of, set_side_of, par_value, par_read_alone, par_side_of, par_default, par_table, par_read, par_entries, brackets_of, set_brackets_of, name_of, declared_of, doing_of, doing_at, printed_tuple}

-- what a parameter over a set is declared to be
unfoldable pub par_listed : Inner → Parser ParSide
par_listed inner ts = if sees is_default ts then par_default inner ts else
    (if sees is_bar ts then par_table inner ts else (if sees is_read ts then par_read inner ts else par_entries inner ts))

-- a `read` behind its template
unfoldable pub reading_end : Inner → Place → Expr → Expr → Parser Reading
reading_end inner p file template ts = and_then (options_of inner (length ts) ts) (λ options left.
    if each_once options then Some (record { place = p; file = file; template = template; options = options }, left) else None)

-- the values of a row behind its items and a bar
unfoldable pub row_end : Inner → ℕ → List Expr → Parser (List Expr × List Expr)
row_end inner columns items ts = and_then (items_of (inner unary) ts) (λ values r1. and_then (expect_token is_bar r1) (λ q left.
    if nat_eq (length values) columns then Some ((items, values), left) else None))

-- the rows of a table behind its head
unfoldable pub table_end : Inner → List Expr → Parser Table
table_end inner head ts = and_then (table_rows inner (length head) (suc (length ts)) ts) (λ rows left. Some (record { head = head; rows = rows }, left))

-- the options of a variable behind its bounds
unfoldable pub var_end : Inner → Option Bracket → Option Word → List Limit → Parser Shape
var_end inner brackets kind limits ts = and_then (given_of inner is_priority ts) (λ priority r1. and_then (given_of inner is_startval r1) (λ startval left.
    if limits_kept kind limits then Some (shape.Var brackets kind limits priority startval, left) else None))

-- a value that is printed
unfoldable pub printed_value : Inner → Parser Printed
printed_value inner ts = and_then (inner disjunction ts) (λ value left. Some (printed.Value value, left))

-- a constraint behind its name
unfoldable pub constraint_of : Inner → Parser Shape
constraint_of inner ts = and_then (expect_token is_colon ts) (λ r r1. and_then (inner whole r1) (λ constraint left. Some (shape.Subto constraint, left)))

-- what a set without brackets is declared to be
unfoldable pub set_alone : Inner → Parser SetSide
set_alone inner ts = if begins_read ts then set_read inner ts else set_value inner ts

-- the sets of a family, each behind its index
unfoldable pub set_entries : Inner → Parser SetSide
set_entries inner ts = and_then (items_of (entry_of inner) ts) (λ entries left. Some (set_side.Entries entries, left))

-- what a parameter without brackets is declared to be
unfoldable pub par_alone : Inner → Parser ParSide
par_alone inner ts = if sees is_read ts then par_read_alone inner ts else par_value inner ts

-- a set behind its `:=`
unfoldable pub set_end : Inner → Option Bracket → Parser Shape
set_end inner brackets ts = and_then (set_side_of inner brackets ts) (λ side left. Some (shape.Set brackets side, left))

-- a parameter behind its `:=`
unfoldable pub param_end : Inner → Option Bracket → Parser Shape
param_end inner brackets ts = and_then (par_side_of inner brackets ts) (λ side left. Some (shape.Param brackets side, left))

-- a set behind its name
unfoldable pub set_of : Inner → Parser Shape
set_of inner ts = and_then (set_brackets_of inner ts) (λ brackets r1. and_then (expect_token is_assign r1) (λ r r2. set_end inner brackets r2))

-- a parameter behind its name
unfoldable pub param_of : Inner → Parser Shape
param_of inner ts = and_then (brackets_of inner ts) (λ brackets r1. and_then (expect_token is_assign r1) (λ r r2. param_end inner brackets r2))

-- what a `do` does, where what stands behind a `forall` is read by another parser
unfoldable pub doing_by : Inner → Parser Doing → Parser Doing
doing_by inner more [] = None
doing_by inner more (t ∷ rest) = doing_at inner more t.place t.token rest

-- a `do` behind its word
unfoldable pub performed_of : Inner → Place → Parser Stmt
performed_of inner p ts = and_then (doing_of inner (length ts) ts) (λ inside left. Some (record { first = p; at = p; name = []; shape = shape.Do inside }, left))

-- a declaration behind its word
unfoldable pub declaration_of : Inner → Place → Word → Parser Stmt
declaration_of inner p w ts = and_then (name_of ts) (λ named r1. and_then (declared_of inner w r1) (λ what left. Some (record { first = p; at = named.0; name = named.1; shape = what }, left)))

-- what stands in brackets: an index where it begins with `<`, else a set
unfoldable pub bracket_inside : Inner → Parser Bracket
bracket_inside inner ts = if is_less_start (start_of ts)
    then and_then (index_from inner ts) (λ index left. Some (bracket.Loop index, left))
    else and_then (inner sum ts) (λ over left. Some (bracket.Over over, left))

-- something that begins with `<` and is printed
unfoldable pub printed_less : Inner → Parser Printed
printed_less inner ts = and_then (tuple_of inner ts) (λ tuple rest. printed_tuple inner ts tuple rest (expect is_in rest))

-- the test for an option of `read`
abbrev pub option_test : Word → Word → Bool
option_test word.WSkip = is_skip
option_test word.WUse = is_use
option_test word.WComment = is_comment
option_test _ = λ _. false

-- how many options have this word
abbrev pub count_options : Word → List (Place × Word × Expr) → ℕ
count_options wanted options = count_by (λ (x : Place × Word × Expr). option_test wanted x.1) options

-- whether there is at most one bound from below and one from above
abbrev pub one_of_each : List Limit → Bool
one_of_each limits = nat_le (count_by (λ (l : Limit). l.lower) limits) 1 && nat_le (count_by (λ (l : Limit). not l.lower) limits) 1
