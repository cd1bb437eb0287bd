-- The parser of statements as a function: from tokens to a statement and the tokens that are left.
use Rattle.std.specs.Prelude.{ℕ, zero, suc, List, [], ◌∷◌, length, count_by, Bool, true, false, not, ◌&&◌, Option, Some, None, nat_eq, nat_le, if◌then◌else◌}
use Rattle.zim_fault.specs.declared.faults.Place.{Place}
use Rattle.zim_fault.specs.declared.tokens.Token.{Token}
use Rattle.zim_fault.specs.declared.tokens.Token.TheVariants.{Name as name_token, Word as word_token}
use Rattle.zim_fault.specs.declared.tokens.Placed.{Placed}
use Rattle.zim_fault.specs.declared.words.Word.{Word}
use Rattle.zim_fault.specs.declared.words.Word.TheVariants.{WSet, WParam, WVar, WMinimize, WMaximize, WSubto, WDefnumb, WDefstrg, WDefbool, WDefset, WDo, WPrint, WCheck, WForall, WBinary}
use Rattle.zim_tree.specs.declared.expr.Expr.{Expr}
use Rattle.zim_tree.specs.declared.expr.Expr.TheVariants as tree
use Rattle.zim_tree.specs.declared.expr.Angle.{Angle}
use Rattle.zim_tree.specs.declared.stmt.Stmt.{Stmt}
use Rattle.zim_tree.specs.declared.stmt.Shape.{Shape}
use Rattle.zim_tree.specs.declared.stmt.Shape.TheVariants as shape
use Rattle.zim_tree.specs.declared.stmt.Bracket.{Bracket}
use Rattle.zim_tree.specs.declared.stmt.Bracket.TheVariants as bracket
use Rattle.zim_tree.specs.declared.stmt.SetSide.{SetSide}
use Rattle.zim_tree.specs.declared.stmt.SetSide.TheVariants as set_side
use Rattle.zim_tree.specs.declared.stmt.ParSide.{ParSide}
use Rattle.zim_tree.specs.declared.stmt.ParSide.TheVariants as par_side
use Rattle.zim_tree.specs.declared.stmt.Table.{Table}
use Rattle.zim_tree.specs.declared.stmt.Limit.{Limit}
use Rattle.zim_tree.specs.declared.stmt.Reading.{Reading}
use Rattle.zim_tree.specs.declared.stmt.Doing.{Doing}
use Rattle.zim_tree.specs.declared.stmt.Doing.TheVariants as doing
use Rattle.zim_tree.specs.declared.stmt.Printed.{Printed}
use Rattle.zim_tree.specs.declared.stmt.Printed.TheVariants as printed
use Rattle.zim_tree.specs.declared.classes.Class.{Class}
use Rattle.zim_tree.specs.declared.classes.Class.TheVariants as class
use Rattle.zim_tree.specs.Classes.{word_class}
use Rattle.zim_tree.specs.Levels.{unary, sum, disjunction, whole}
use Rattle.zim_tree.specs.StatementGrammar.{is_skip, is_use, is_comment}
use Rattle.zim_scan.specs.Nesting.{is_left_paren}
use Rattle.zim_parse_expression.specs.Next.{is_right_paren, is_right_bracket, is_right_brace, is_in, Start, a_less, start_of}
use Rattle.zim_parse_expression.specs.Parser.{Parsed, Parser, Inner, and_then, expect, flag_of, separator_in, items_of, tuple_of, index_from, arguments}
use Rattle.zim_parse_expression.specs.StatementTokens.{expect_token, is_semicolon, is_assign, is_colon, is_left_bracket, is_left_brace, is_bar, is_read, is_as, is_default, is_priority, is_startval, option_in, sees, begins_read, kind_of, limit_in}

-- a name with its place
abbrev pub name_at : Placed → List Placed → Token → Parsed (Place × List ℕ)
name_at t rest (name_token name) = Some ((t.place, name), rest)
name_at t rest _ = None

-- a name that comes next, with its place
unfoldable pub name_of : Parser (Place × List ℕ)
name_of [] = None
name_of (t ∷ rest) = name_at t rest t.token

-- `read`

-- an option and those behind it, or none
abbrev pub option_or : Inner → (List Placed → Parsed (List (Place × Word × Expr))) → Placed → List Placed → Option Word → Parsed (List (Place × Word × Expr))
option_or inner more t rest None = Some ([], t ∷ rest)
option_or inner more t rest (Some w) = and_then (inner sum rest) (λ operand behind. and_then (more behind) (λ others left. Some ((t.place, w, operand) ∷ others, left)))

-- the options that come next, at most so many
unfoldable pub options_of : Inner → ℕ → Parser (List (Place × Word × Expr))
options_of inner zero ts = Some ([], ts)
options_of inner (suc turns) [] = Some ([], [])
options_of inner (suc turns) (t ∷ rest) = option_or inner (options_of inner turns) t rest (option_in t.token)

-- whether each option stands at most once
abbrev pub each_once : List (Place × Word × Expr) → Bool
each_once options = nat_le (count_by (λ (x : Place × Word × Expr). is_skip x.1) options) 1
    && nat_le (count_by (λ (x : Place × Word × Expr). is_use x.1) options) 1
    && nat_le (count_by (λ (x : Place × Word × Expr). is_comment x.1) options) 1

-- a `read` with its options
unfoldable pub reading_of : Inner → Parser Reading
reading_of inner ts = and_then (expect_token is_read ts) (λ p r1. and_then (inner sum r1) (λ file r2. and_then (expect_token is_as r2) (λ q r3.
    and_then (inner sum r3) (λ template r4. and_then (options_of inner (length r4) r4) (λ options left.
    if each_once options then Some (record { place = q; file = file; template = template; options = options }, left) else None)))))

-- lists, tables and defaults

-- a tuple and what belongs to it
unfoldable pub entry_of : Inner → Parser (Angle × Expr)
entry_of inner ts = and_then (tuple_of inner ts) (λ tuple rest. and_then (inner sum rest) (λ given left. Some ((tuple, given), left)))

-- an operand behind its word, if that comes next
abbrev pub given_at : Inner → Parsed Place → List Placed → Parsed (Option (Place × Expr))
given_at inner None ts = Some (None, ts)
given_at inner (Some x) ts = and_then (inner sum x.1) (λ operand left. Some (Some (x.0, operand), left))

-- an operand behind this word, or none
abbrev pub given_of : Inner → (Token → Bool) → Parser (Option (Place × Expr))
given_of inner test ts = given_at inner (expect_token test ts) ts

-- a row of a table behind its first bar, with this many values
unfoldable pub table_row : Inner → ℕ → Parser (List Expr × List Expr)
table_row inner columns ts = and_then (items_of (inner unary) ts) (λ items r1. and_then (expect_token is_bar r1) (λ p r2.
    and_then (items_of (inner unary) r2) (λ values r3. and_then (expect_token is_bar r3) (λ q left.
    if nat_eq (length values) columns then Some ((items, values), left) else None))))

-- a row and the rows behind it, each behind its first bar
abbrev pub rows_at : Inner → ℕ → (List Placed → Parsed (List (List Expr × List Expr))) → List Expr × List Expr → Parsed Place → List Placed → Parsed (List (List Expr × List Expr))
rows_at inner columns more row None rest = Some (row ∷ [], rest)
rows_at inner columns more row (Some x) rest = and_then (more x.1) (λ rows left. Some (row ∷ rows, left))

-- one or more rows behind the first bar, at most so many
unfoldable pub table_rows : Inner → ℕ → ℕ → Parser (List (List Expr × List Expr))
table_rows inner columns zero ts = None
table_rows inner columns (suc turns) ts = and_then (table_row inner columns ts) (λ row rest. rows_at inner columns (table_rows inner columns turns) row (expect_token is_bar rest) rest)

-- a table behind its first bar
unfoldable pub table_behind : Inner → Parser Table
table_behind inner ts = and_then (items_of (inner unary) ts) (λ head r1. and_then (expect_token is_bar r1) (λ p r2. and_then (expect_token is_bar r2) (λ q r3.
    and_then (table_rows inner (length head) (suc (length r3)) r3) (λ rows left. Some (record { head = head; rows = rows }, left)))))

-- the right sides

-- a set that is read, in its braces
abbrev pub set_read : Inner → Parser SetSide
set_read inner ts = and_then (expect_token is_left_brace ts) (λ p r1. and_then (reading_of inner r1) (λ reading r2. and_then (expect is_right_brace r2) (λ q left. Some (set_side.Read reading, left))))

-- a set by its value
abbrev pub set_value : Inner → Parser SetSide
set_value inner ts = and_then (inner sum ts) (λ value left. Some (set_side.Value value, left))

-- `powerset` and `subsets`
abbrev pub is_family : Class → Bool
is_family class.Family = true
is_family _ = false

-- a family of subsets behind its word
abbrev pub family_word : Inner → Placed → List Placed → Token → Parsed SetSide
family_word inner t rest (word_token w) = if is_family (word_class w)
    then and_then (expect is_left_paren rest) (λ q r1. and_then (arguments inner r1) (λ given left. Some (set_side.Value (tree.Func t.place w given), left)))
    else None
family_word inner t rest _ = None

-- a call of `powerset` or `subsets`
abbrev pub family_call : Inner → Parser SetSide
family_call inner [] = None
family_call inner (t ∷ rest) = family_word inner t rest t.token

-- what a set with these brackets is declared to be
unfoldable pub set_side_of : Inner → Option Bracket → Parser SetSide
set_side_of inner None ts = if begins_read ts then set_read inner ts else set_value inner ts
set_side_of inner (Some bracket.Empty) ts = family_call inner ts
set_side_of inner (Some (bracket.Loop index)) ts = set_value inner ts
set_side_of inner (Some (bracket.Over over)) ts = and_then (items_of (entry_of inner) ts) (λ entries left. Some (set_side.Entries entries, left))

-- a parameter by its value
abbrev pub par_value : Inner → Parser ParSide
par_value inner ts = and_then (inner disjunction ts) (λ value left. Some (par_side.Value value, left))

-- a parameter that is read, with a default
abbrev pub par_read : Inner → Parser ParSide
par_read inner ts = and_then (reading_of inner ts) (λ reading r1. and_then (given_of inner is_default r1) (λ default left. Some (par_side.Read reading default, left)))

-- a parameter in a table, with a default
abbrev pub par_table : Inner → Parser ParSide
par_table inner ts = and_then (expect_token is_bar ts) (λ p r1. and_then (table_behind inner r1) (λ table r2. and_then (given_of inner is_default r2) (λ default left. Some (par_side.Table table default, left))))

-- a parameter by its entries, with a default
abbrev pub par_entries : Inner → Parser ParSide
par_entries inner ts = and_then (items_of (entry_of inner) ts) (λ entries r1. and_then (given_of inner is_default r1) (λ default left. Some (par_side.Entries entries default, left)))

-- a parameter by its default alone
abbrev pub par_default : Inner → Parser ParSide
par_default inner ts = and_then (expect_token is_default ts) (λ p r1. and_then (inner sum r1) (λ value left. Some (par_side.Default p value, left)))

-- a parameter without index that is read
abbrev pub par_read_alone : Inner → Parser ParSide
par_read_alone inner ts = and_then (reading_of inner ts) (λ reading left. Some (par_side.Read reading None, left))

-- what a parameter with these brackets is declared to be
unfoldable pub par_side_of : Inner → Option Bracket → Parser ParSide
par_side_of inner None ts = if sees is_read ts then par_read_alone inner ts else par_value inner ts
par_side_of inner (Some bracket.Empty) ts = None
par_side_of inner (Some (bracket.Loop index)) ts = par_value inner ts
par_side_of inner (Some (bracket.Over over)) ts = if sees is_default ts then par_default inner ts else
    (if sees is_bar ts then par_table inner ts else (if sees is_read ts then par_read inner ts else par_entries inner ts))

-- brackets behind a name

-- an index or a set behind `[`, and `]`
abbrev pub bracket_at : Inner → Start → Parser Bracket
bracket_at inner a_less ts = and_then (index_from inner ts) (λ index r1. and_then (expect is_right_bracket r1) (λ q left. Some (bracket.Loop index, left)))
bracket_at inner _ ts = and_then (inner sum ts) (λ over r1. and_then (expect is_right_bracket r1) (λ q left. Some (bracket.Over over, left)))

-- what stands behind `[`, and `]`
unfoldable pub bracket_of : Inner → Parser Bracket
bracket_of inner ts = bracket_at inner (start_of ts) ts

-- brackets that aren't empty, or none
abbrev pub brackets_at : Inner → Parsed Place → List Placed → Parsed (Option Bracket)
brackets_at inner None ts = Some (None, ts)
brackets_at inner (Some x) ts = and_then (bracket_of inner x.1) (λ inside left. Some (Some inside, left))

-- brackets that aren't empty, or none
unfoldable pub brackets_of : Inner → Parser (Option Bracket)
brackets_of inner ts = brackets_at inner (expect_token is_left_bracket ts) ts

-- brackets that may be empty, or none
abbrev pub empty_or : Inner → Parsed Place → List Placed → Parsed (Option Bracket)
empty_or inner None rest = and_then (bracket_of inner rest) (λ inside left. Some (Some inside, left))
empty_or inner (Some x) rest = Some (Some bracket.Empty, x.1)

-- brackets that may be empty behind their `[`, or none
abbrev pub set_brackets_at : Inner → Parsed Place → List Placed → Parsed (Option Bracket)
set_brackets_at inner None ts = Some (None, ts)
set_brackets_at inner (Some x) ts = empty_or inner (expect is_right_bracket x.1) x.1

-- brackets that may be empty, or none
unfoldable pub set_brackets_of : Inner → Parser (Option Bracket)
set_brackets_of inner ts = set_brackets_at inner (expect_token is_left_bracket ts) ts

-- variables

-- a bound and those behind it, or none
abbrev pub limit_or : Inner → (List Placed → Parsed (List Limit)) → Placed → List Placed → Option Bool → Parsed (List Limit)
limit_or inner more t rest None = Some ([], t ∷ rest)
limit_or inner more t rest (Some lower) = and_then (inner sum rest) (λ side behind. and_then (more behind) (λ others left. Some (record { place = t.place; lower = lower; side = side } ∷ others, left)))

-- the bounds that come next, at most so many
unfoldable pub limits_of : Inner → ℕ → Parser (List Limit)
limits_of inner zero ts = Some ([], ts)
limits_of inner (suc turns) [] = Some ([], [])
limits_of inner (suc turns) (t ∷ rest) = limit_or inner (limits_of inner turns) t rest (limit_in t.token)

-- whether the kind is `binary`
abbrev pub is_binary : Option Word → Bool
is_binary (Some WBinary) = true
is_binary _ = false

-- whether there are no bounds
abbrev pub has_no_limits : List Limit → Bool
has_no_limits [] = true
has_no_limits _ = false

-- whether the bounds are those that a variable of this kind may have
abbrev pub limits_kept : Option Word → List Limit → Bool
limits_kept kind limits = nat_le (count_by (λ (l : Limit). l.lower) limits) 1 && nat_le (count_by (λ (l : Limit). not l.lower) limits) 1
    && (if is_binary kind then has_no_limits limits else true)

-- a variable behind its name
unfoldable pub var_of : Inner → Parser Shape
var_of inner ts = and_then (brackets_of inner ts) (λ brackets r1. and_then (limits_of inner (length (kind_of r1).1) (kind_of r1).1) (λ limits r2.
    and_then (given_of inner is_priority r2) (λ priority r3. and_then (given_of inner is_startval r3) (λ startval left.
    if limits_kept (kind_of r1).0 limits then Some (shape.Var brackets (kind_of r1).0 limits priority startval, left) else None))))

-- `do`

-- something that is printed, by how it begins: a tuple, unless `in` follows it
abbrev pub printed_tuple : Inner → List Placed → Angle → List Placed → Parsed Place → Parsed Printed
printed_tuple inner ts tuple rest None = Some (printed.Tuple tuple, rest)
printed_tuple inner ts tuple rest (Some x) = and_then (inner disjunction ts) (λ value left. Some (printed.Value value, left))

-- something that is printed, by how it begins
abbrev pub printed_at : Inner → Start → Parser Printed
printed_at inner a_less ts = and_then (tuple_of inner ts) (λ tuple rest. printed_tuple inner ts tuple rest (expect is_in rest))
printed_at inner _ ts = and_then (inner disjunction ts) (λ value left. Some (printed.Value value, left))

-- something that is printed
unfoldable pub printed_of : Inner → Parser Printed
printed_of inner ts = printed_at inner (start_of ts) ts

-- what a `do` does, by its first token
abbrev pub doing_at : Inner → (List Placed → Parsed Doing) → Place → Token → Parser Doing
doing_at inner more p (word_token WPrint) rest = and_then (items_of (printed_of inner) rest) (λ items left. Some (doing.Print p items, left))
doing_at inner more p (word_token WCheck) rest = and_then (inner disjunction rest) (λ test left. Some (doing.Check p test, left))
doing_at inner more p (word_token WForall) rest = and_then (index_from inner rest) (λ index r1. and_then (flag_of separator_in r1) (λ with_do r2.
    and_then (more r2) (λ inside left. Some (doing.Forall p index with_do inside, left))))
doing_at inner more p _ rest = None

-- what a `do` does, at most so many loops deep
unfoldable pub doing_of : Inner → ℕ → Parser Doing
doing_of inner zero ts = None
doing_of inner (suc depth) [] = None
doing_of inner (suc depth) (t ∷ rest) = doing_at inner (doing_of inner depth) t.place t.token rest

-- statements

-- the parameters of a function behind `(`, and `)`
abbrev pub parameters_at : Parsed Place → List Placed → Parsed (List (Place × List ℕ))
parameters_at None ts = and_then (items_of name_of ts) (λ names r1. and_then (expect is_right_paren r1) (λ q left. Some (names, left)))
parameters_at (Some x) ts = Some ([], x.1)

-- parameters behind `(`, and `)`
abbrev pub parameters_of : Parser (List (Place × List ℕ))
parameters_of ts = parameters_at (expect is_right_paren ts) ts

-- an objective behind its name
abbrev pub goal_of : Inner → Bool → Parser Shape
goal_of inner maximize ts = and_then (expect_token is_colon ts) (λ r r1. and_then (inner sum r1) (λ objective left. Some (shape.Goal maximize objective, left)))

-- a function behind its name
abbrev pub definition_of : Inner → Word → Parser Shape
definition_of inner w ts = and_then (expect is_left_paren ts) (λ r r1. and_then (parameters_of r1) (λ parameters r2. and_then (expect_token is_assign r2) (λ t r3.
    and_then (inner disjunction r3) (λ inside left. Some (shape.Define w parameters inside, left)))))

-- what a statement that begins with this word says of its name
abbrev pub declared_of : Inner → Word → Parser Shape
declared_of inner WSet ts = and_then (set_brackets_of inner ts) (λ brackets r1. and_then (expect_token is_assign r1) (λ r r2. and_then (set_side_of inner brackets r2) (λ side left. Some (shape.Set brackets side, left))))
declared_of inner WParam ts = and_then (brackets_of inner ts) (λ brackets r1. and_then (expect_token is_assign r1) (λ r r2. and_then (par_side_of inner brackets r2) (λ side left. Some (shape.Param brackets side, left))))
declared_of inner WVar ts = var_of inner ts
declared_of inner WMinimize ts = goal_of inner false ts
declared_of inner WMaximize ts = goal_of inner true ts
declared_of inner WSubto ts = and_then (expect_token is_colon ts) (λ r r1. and_then (inner whole r1) (λ constraint left. Some (shape.Subto constraint, left)))
declared_of inner WDefnumb ts = definition_of inner WDefnumb ts
declared_of inner WDefstrg ts = definition_of inner WDefstrg ts
declared_of inner WDefbool ts = definition_of inner WDefbool ts
declared_of inner WDefset ts = definition_of inner WDefset ts
declared_of inner _ ts = None

-- a statement without its `;`, behind its first token
abbrev pub behind_word : Inner → Place → Word → Parser Stmt
behind_word inner p WDo rest = and_then (doing_of inner (length rest) rest) (λ inside left. Some (record { first = p; at = p; name = []; shape = shape.Do inside }, left))
behind_word inner p w rest = and_then (name_of rest) (λ named r1. and_then (declared_of inner w r1) (λ what left. Some (record { first = p; at = named.0; name = named.1; shape = what }, left)))

-- a statement without its `;`, behind its first token
abbrev pub behind_first : Inner → Place → Token → Parser Stmt
behind_first inner p (word_token w) rest = behind_word inner p w rest
behind_first inner p _ rest = None

-- a statement with its `;`
unfoldable pub whole_statement : Inner → Parser Stmt
whole_statement inner [] = None
whole_statement inner (t ∷ rest) = and_then (behind_first inner t.place t.token rest) (λ stmt r1. and_then (expect_token is_semicolon r1) (λ q left. Some (stmt, left)))
